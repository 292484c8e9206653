use Rattle.std.proofs.Common.{ap, set, ◌∙◌}
use Rattle.std.proofs.lemmas.List.{set-get_or}
use Rattle.cf_stacks.specs.Room.{StackStanding}
use Rattle.cf_stacks.specs.Standing.{NamedStanding}
use Rattle.cf_stacks.proofs.ready.look_at.Goals as goal

pub returns-in-Some : goal.returns-in-Some
returns-in-Some c =
    let x : NamedStanding = c.index_mut.result.now in
    ap (λ (s : StackStanding). set c.args.pairs.now.items c.in-Some.at (x.0, s)) c.look.ensures
    ∙ ap (set c.args.pairs.now.items c.in-Some.at) c.index_mut.ensures.value ∙ set-get_or c.args.pairs.now.items c.in-Some.at x
