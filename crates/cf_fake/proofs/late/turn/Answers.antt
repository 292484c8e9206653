use Rattle.std.proofs.Common.{◌≡◌, true, get_or, rules}
use Rattle.std.proofs.lemmas.Option.{slice_get-get_or}
use Rattle.cf_fake.specs.declared.waiting.Waiting.{Waiting}
use Rattle.cf_fake.specs.Late.{is_due}
use Rattle.cf_fake.proofs.Acting.{acts_late}
use Rattle.cf_fake.proofs.late.turn.Goals as goal

pub returns-in_ok-act-clause-late : goal.returns-in_ok-act-clause-late
returns-in_ok-act-clause-late c =
    let d : Waiting = c.index.result.now in
    let due : is_due c.args.number c.args.fence c.args.store.now.settled.items (get_or c.args.waiting.now.items c.args.at d) ≡ true = search rules in
    acts_late c.args.store.now.schema c.args.store.now.name c.args.number c.args.fence c.args.at c.args.store.now.settled.items c.act.new.store.settled.items c.args.waiting.now.items c.act.new.waiting.items (get_or c.args.waiting.now.items c.args.at d)
    (slice_get-get_or c.args.waiting.now.items c.args.at d c.requires) due (c.act.ensures.may d) (c.in_ok-act.ensures.ok d).0 (c.in_ok-act.ensures.ok d).1
