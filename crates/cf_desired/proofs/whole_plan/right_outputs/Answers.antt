use Rattle.std.proofs.Common.{◌≡◌, ◌∙◌, ℕ, List, length, take, map, ap, sym, arith}
use Rattle.std.proofs.Math.Seq.{take-length}
use Rattle.cf_desired.specs.declared.wanted.WantedOutput.{WantedOutput}
use Rattle.cf_desired.specs.Whole.{right_output}
use Rattle.cf_desired.proofs.All.{all_found}
use Rattle.cf_desired.proofs.whole_plan.right_outputs.Goals as goal

pub returns : goal.returns
returns c =
    let xs = c.args.outputs.now in
    let all : c.loop-output.output-index ≡ length xs = omega arith in
    let taken : take c.loop-output.output-index xs ≡ xs = ap (λ (k : ℕ). take k xs) all ∙ take-length xs in
    sym (all_found right_output xs c.loop-output.rights (ap (λ (ys : List WantedOutput). map right_output ys) (sym taken) ∙ c.loop-output.invariant))
