use Rattle.std.proofs.Common.{◌≡◌, ◌∙◌, ℕ, List, Option, length, take, map, ap, sym, arith}
use Rattle.std.proofs.Math.Seq.{take-length}
use Rattle.cf_desired.specs.Whole.{right_export}
use Rattle.cf_desired.proofs.All.{all_found}
use Rattle.cf_desired.proofs.whole_plan.right_exports.Goals as goal

pub returns : goal.returns
returns c =
    let xs = c.args.exports.now in
    let all : c.loop-export.export-index ≡ length xs = omega arith in
    let taken : take c.loop-export.export-index xs ≡ xs = ap (λ (k : ℕ). take k xs) all ∙ take-length xs in
    sym (all_found right_export xs c.loop-export.rights (ap (λ (ys : List (List ℕ × Option (List ℕ))). map right_export ys) (sym taken) ∙ c.loop-export.invariant))
