use Rattle.std.proofs.Common.{◌≡◌, drop, fold}
use Rattle.std.specs.Option.{option_copied}
use Rattle.cf_tree.specs.Lists.{least_by}
use Rattle.cf_change.specs.Changes.{least_of}
use Rattle.cf_prepare.proofs.planned.least_of.Given as goal

abbrev pub invariant-loop-text : goal.invariant-loop-text
invariant-loop-text l = least_of l.texts ≡ fold (least_by (λ text. text)) (option_copied l.least) (drop l.text-index l.texts)
