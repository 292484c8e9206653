use Rattle.std.proofs.Common.{◌≡◌, Some, map, drop, false}
use Rattle.cf_tree.specs.Value.{data_of}
use Rattle.cf_eval.specs.Outcome.{each}
use Rattle.cf_eval.specs.Texts.{wanted_text}
use Rattle.cf_eval.proofs.Each.{each_after}
use Rattle.cf_eval.proofs.functions.texts_of.Given as goal

abbrev pub invariant-loop-member : goal.invariant-loop-member
invariant-loop-member l = each (map (λ m. wanted_text l.at (Some m)) l.members) ≡ each_after false l.texts.items (map (λ m. wanted_text l.at (Some m)) (data_of (drop l.member-index l.member-items)))
