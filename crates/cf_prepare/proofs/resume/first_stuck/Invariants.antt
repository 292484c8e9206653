use Rattle.std.proofs.Common.{◌≡◌, None, drop}
use Rattle.std.specs.Prelude.{filter, fold}
use Rattle.std.specs.Option.{option_copied}
use Rattle.cf_tree.specs.Lists.{least_by}
use Rattle.cf_prepare.specs.Resuming.{is_stuck}
use Rattle.cf_prepare.proofs.resume.first_stuck.Given as goal

abbrev pub invariant-loop-one : goal.invariant-loop-one
invariant-loop-one l =
    fold (least_by (λ w. w.path)) None (filter (is_stuck l.kinds l.done) l.wanted) ≡ fold (least_by (λ w. w.path)) (option_copied l.first) (filter (is_stuck l.kinds l.done) (drop l.one-index l.wanted))
