-- Conditions in the order in which the code takes them: whether one was Later, and whether all so far, or one so far, holds.
use Rattle.std.proofs.Common.{◌≡◌, ℕ, List, [], ◌∷◌, ◌++◌, Bool, true, false, ◌&&◌, ◌||◌, cond, refl, ap, sym, ◌∙◌}
use Rattle.std.specs.List.{list_all, list_any}
use Rattle.cf_eval.specs.Outcome.{Outcome, Stop, got, later, bad, on_got, both, each}
use Rattle.cf_eval.specs.Texts.{Found}
use Rattle.cf_eval.specs.Conditions.{all_found, any_found, equals_found}
use Rattle.cf_eval.specs.Gives.{got_found, Stops}
use Rattle.cf_eval.specs.declared.fault.Stop as broken
use Rattle.cf_eval.specs.declared.fault.Stop.TheVariants as stop
use Rattle.cf_eval.specs.declared.got.Got.{Got}
use Rattle.cf_eval.proofs.Each.{each_after, each_is}
use Rattle.cf_eval.proofs.Gots.{both_stops}

abbrev pub all_after : Bool → Bool → List (Outcome Bool) → Outcome Bool
all_after late all [] = cond late later (got all)
all_after late all (got true ∷ xs) = all_after late all xs
all_after late all (got false ∷ xs) = all_after late false xs
all_after late all (later ∷ xs) = all_after true all xs
all_after late all (bad w ∷ xs) = bad w

abbrev pub any_after : Bool → Bool → List (Outcome Bool) → Outcome Bool
any_after late any [] = cond late later (got any)
any_after late any (got true ∷ xs) = any_after late true xs
any_after late any (got false ∷ xs) = any_after late any xs
any_after late any (later ∷ xs) = any_after true any xs
any_after late any (bad w ∷ xs) = bad w

all_true : (bs : List Bool) → list_all (λ b. b) (bs ++ true ∷ []) ≡ list_all (λ b. b) bs
all_true [] = refl
all_true (true ∷ bs) = all_true bs
all_true (false ∷ bs) = refl

all_false : (bs : List Bool) → list_all (λ b. b) (bs ++ false ∷ []) ≡ false
all_false [] = refl
all_false (true ∷ bs) = all_false bs
all_false (false ∷ bs) = refl

any_true : (bs : List Bool) → list_any (λ b. b) (bs ++ true ∷ []) ≡ true
any_true [] = refl
any_true (true ∷ bs) = refl
any_true (false ∷ bs) = any_true bs

any_false : (bs : List Bool) → list_any (λ b. b) (bs ++ false ∷ []) ≡ list_any (λ b. b) bs
any_false [] = refl
any_false (true ∷ bs) = refl
any_false (false ∷ bs) = any_false bs

late_all : (late : Bool) (bs : List Bool) → on_got (cond late later (got bs)) (λ cs. got (list_all (λ b. b) cs)) ≡ cond late later (got (list_all (λ b. b) bs))
late_all true bs = refl
late_all false bs = refl

late_any : (late : Bool) (bs : List Bool) → on_got (cond late later (got bs)) (λ cs. got (list_any (λ b. b) cs)) ≡ cond late later (got (list_any (λ b. b) bs))
late_any true bs = refl
late_any false bs = refl

all_from : (late : Bool) (bs : List Bool) (xs : List (Outcome Bool)) → on_got (each_after late bs xs) (λ cs. got (list_all (λ b. b) cs)) ≡ all_after late (list_all (λ b. b) bs) xs
all_from late bs [] = late_all late bs
all_from late bs (got true ∷ xs) = all_from late (bs ++ true ∷ []) xs ∙ ap (λ b. all_after late b xs) (all_true bs)
all_from late bs (got false ∷ xs) = all_from late (bs ++ false ∷ []) xs ∙ ap (λ b. all_after late b xs) (all_false bs)
all_from late bs (later ∷ xs) = all_from true bs xs
all_from late bs (bad w ∷ xs) = refl

any_from : (late : Bool) (bs : List Bool) (xs : List (Outcome Bool)) → on_got (each_after late bs xs) (λ cs. got (list_any (λ b. b) cs)) ≡ any_after late (list_any (λ b. b) bs) xs
any_from late bs [] = late_any late bs
any_from late bs (got true ∷ xs) = any_from late (bs ++ true ∷ []) xs ∙ ap (λ b. any_after late b xs) (any_true bs)
any_from late bs (got false ∷ xs) = any_from late (bs ++ false ∷ []) xs ∙ ap (λ b. any_after late b xs) (any_false bs)
any_from late bs (later ∷ xs) = any_from true bs xs
any_from late bs (bad w ∷ xs) = refl

pub all_is : (xs : List (Outcome Bool)) → all_found xs ≡ all_after false true xs
all_is xs = ap (λ x. on_got x (λ bs. got (list_all (λ b. b) bs))) (each_is xs) ∙ all_from false [] xs

pub any_is : (xs : List (Outcome Bool)) → any_found xs ≡ any_after false false xs
any_is xs = ap (λ x. on_got x (λ bs. got (list_any (λ b. b) bs))) (each_is xs) ∙ any_from false [] xs

pub equals_stop : (at : List ℕ) (g : Got) (y : Found) (s : broken.Stop) → Stops y s → Stops (equals_found at (got_found g) y) s
equals_stop at g y (stop.Bad why place) h = rw h (both_stops g _ _)
equals_stop at g y (stop.Below why stack place) h = rw h (both_stops g _ _)
equals_stop at g y (stop.Undecided name place) h = rw h (both_stops g _ _)
equals_stop at g y stop.NoMemory h = tt
