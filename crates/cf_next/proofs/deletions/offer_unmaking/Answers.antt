use Rattle.std.proofs.Common.{ℕ, List, subst}
use Rattle.cf_next.specs.Repeats.{AreRepeatsBut}
use Rattle.cf_next.proofs.Removing.{told_offer}
use Rattle.cf_next.proofs.deletions.offer_unmaking.Goals as goal

pub returns : goal.returns
returns c =
    let repeats = subst (λ (names : List (List ℕ)). AreRepeatsBut names c.args.out.now c.args.stack.now.stack c.in_ok-repeats.repeats) c.as_slice.ensures c.in_ok-repeats.ensures in
    told_offer c.args.stage c.args.out.now c.args.stack.now.stack c.in_ok-retained.retained c.in_ok-removals.removals c.in_ok-repeats.repeats c.offer_of.result
    c.requires c.in_ok-retained.ensures c.in_ok-removals.ensures repeats c.offer_of.ensures
