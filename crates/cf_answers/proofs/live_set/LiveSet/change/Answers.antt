use Rattle.std.proofs.Common.{◌≡◌, true, rules}
use Rattle.cf_answers.specs.Live.{lives}
use Rattle.cf_answers.specs.Table.{is_apart}
use Rattle.cf_answers.proofs.Differ.{differ_after}
use Rattle.cf_answers.proofs.live_set.LiveSet.change.Goals as goal

pub invariant_of-self : goal.invariant_of-self
invariant_of-self c =
    let apart : is_apart c.args.request.now c.args.settlement.now (lives c.args.self.now.live.items) ≡ true = search rules in
    record {
      apart = differ_after c.args.request.now c.args.settlement.now c.args.self.now.live.items c.apply.new.live.items c.apply.result apart c.args.self.now.apart c.apply.ensures.ok c.apply.ensures.err;
    }
