use Rattle.std.proofs.Common.{◌≡◌, ◌∙◌, ℕ, List, length, take, map, ap, sym, arith}
use Rattle.std.proofs.Math.Seq.{take-length}
use Rattle.cf_desired.specs.declared.wanted.Wanted.{Wanted}
use Rattle.cf_desired.specs.Whole.{right_of}
use Rattle.cf_desired.proofs.All.{all_found}
use Rattle.cf_desired.proofs.whole_plan.rights.Goals as goal

pub returns : goal.returns
returns c =
    let xs = c.args.wanted.now in
    let all : c.loop-one.one-index ≡ length xs = omega arith in
    let taken : take c.loop-one.one-index xs ≡ xs = ap (λ (k : ℕ). take k xs) all ∙ take-length xs in
    sym (all_found right_of xs c.loop-one.rights (ap (λ (ys : List Wanted). map right_of ys) (sym taken) ∙ c.loop-one.invariant))
