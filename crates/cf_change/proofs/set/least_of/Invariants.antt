use Rattle.std.proofs.Common.{◌≡◌, drop, fold}
use Rattle.std.specs.Option.{option_copied}
use Rattle.cf_tree.specs.Lists.{least_by}
use Rattle.cf_change.specs.Changes.{least_of}
use Rattle.cf_change.proofs.set.least_of.Given as goal

abbrev pub invariant-loop-path : goal.invariant-loop-path
invariant-loop-path l = least_of l.paths ≡ fold (least_by (λ path. path)) (option_copied l.least) (drop l.path-index l.path-items)
