use Rattle.std.proofs.Common.{◌≡◌, None, drop}
use Rattle.std.specs.Prelude.{filter, fold}
use Rattle.std.specs.Option.{option_copied}
use Rattle.cf_tree.specs.Lists.{least_by}
use Rattle.cf_prepare.specs.Refusals.{is_unknown_type}
use Rattle.cf_prepare.proofs.planned.first_unknown.Given as goal

abbrev pub invariant-loop-one : goal.invariant-loop-one
invariant-loop-one l =
    fold (least_by (λ w. w.path)) None (filter (is_unknown_type l.kinds) l.wanted) ≡ fold (least_by (λ w. w.path)) (option_copied l.first) (filter (is_unknown_type l.kinds) (drop l.one-index l.wanted))
