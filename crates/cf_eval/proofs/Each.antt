-- The parts of a list in the order in which the code takes them: what is there so far, and whether a part was Later.
use Rattle.std.proofs.Common.{◌≡◌, List, [], ◌∷◌, ◌++◌, Bool, true, false, cond, refl, ap, sym, ◌∙◌, append_assoc, append-nil}
use Rattle.cf_eval.specs.Outcome.{Outcome, got, later, bad, on_got, after_later, each}

abbrev pub each_after : {A : Type 0} → Bool → List A → List (Outcome A) → Outcome (List A)
each_after late so_far [] = cond late later (got so_far)
each_after late so_far (got a ∷ xs) = each_after late (so_far ++ a ∷ []) xs
each_after late so_far (later ∷ xs) = each_after true so_far xs
each_after late so_far (bad s ∷ xs) = bad s

-- the outcome of all, with what comes before it
resumed : {A : Type 0} → Bool → List A → Outcome (List A) → Outcome (List A)
resumed late so_far (got as') = cond late later (got (so_far ++ as'))
resumed late so_far later = later
resumed late so_far (bad s) = bad s

one_more : {A : Type 0} (late : Bool) (so_far : List A) (a : A) (x : Outcome (List A)) → resumed late so_far (on_got x (λ rest. got (a ∷ rest))) ≡ resumed late (so_far ++ a ∷ []) x
unfolding resumed
one_more late so_far a (got xs) = ap (λ ys. cond late later (got ys)) (sym (append_assoc so_far (a ∷ []) xs))
one_more late so_far a later = refl
one_more late so_far a (bad s) = refl

is_late : {A : Type 0} (late : Bool) (so_far : List A) (x : Outcome (List A)) → resumed late so_far (after_later x) ≡ resumed true so_far x
unfolding resumed
is_late late so_far (got xs) = refl
is_late late so_far later = refl
is_late late so_far (bad s) = refl

resumed_is : {A : Type 0} (late : Bool) (so_far : List A) (xs : List (Outcome A)) → resumed late so_far (each xs) ≡ each_after late so_far xs
unfolding resumed
resumed_is late so_far [] = ap (λ ys. cond late later (got ys)) (append-nil so_far)
resumed_is late so_far (got a ∷ xs) = one_more late so_far a (each xs) ∙ resumed_is late (so_far ++ a ∷ []) xs
resumed_is late so_far (later ∷ xs) = is_late late so_far (each xs) ∙ resumed_is true so_far xs
resumed_is late so_far (bad s ∷ xs) = refl

from_start : {A : Type 0} (x : Outcome (List A)) → x ≡ resumed false [] x
unfolding resumed
from_start (got xs) = refl
from_start later = refl
from_start (bad s) = refl

pub each_is : {A : Type 0} (xs : List (Outcome A)) → each xs ≡ each_after false [] xs
each_is xs = from_start (each xs) ∙ resumed_is false [] xs
