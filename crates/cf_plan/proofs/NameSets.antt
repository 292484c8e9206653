-- Names in a set, put one after another.
use Rattle.std.proofs.Common.{◌≡◌, ℕ, Bool, true, false, ◌||◌, Some, List, [], ◌∷◌, ◌++◌, refl, sym, ap, ◌∙◌}
use Rattle.std.specs.Prelude.{cond, is_some}
use Rattle.std.specs.Str.{bytes_eq}
use Rattle.cf_tree.specs.Keys.{put, value_at}
use Rattle.cf_tree.specs.Lists.{is_among}
use Rattle.cf_desired.proofs.Puts.{value_put}
use Rattle.cf_plan.specs.Index.{IsSetOf}
use Rattle.cf_plan.proofs.Listed.{among_more}

-- a name joins those of a set
set_put : (names : List (List ℕ)) (set : List (List ℕ × Bool)) (q : List ℕ) → IsSetOf names set → IsSetOf (names ++ q ∷ []) (put q true set)
set_put names set q h p = ap is_some (value_put p q true set) ∙ either (bytes_eq p q) ∙ ap (λ b. b || bytes_eq p q) (h p) ∙ sym (among_more names q p) where
  either : (c : Bool) → is_some (cond c (Some true) (value_at p set)) ≡ (is_some (value_at p set) || c)
  either true = sym (or_true (is_some (value_at p set))) where
    or_true : (b : Bool) → (b || true) ≡ true
    or_true true = refl
    or_true false = refl
  either false = sym (or_false (is_some (value_at p set))) where
    or_false : (b : Bool) → (b || false) ≡ b
    or_false true = refl
    or_false false = refl

pub set_joined : (names more : List (List ℕ)) (set new : List (List ℕ × Bool)) (q : List ℕ) → IsSetOf names set → more ≡ names ++ q ∷ [] → new ≡ put q true set → IsSetOf more new
set_joined names more set new q h m n p = ap (λ s. is_some (value_at p s)) n ∙ set_put names set q h p ∙ ap (is_among p) (sym m)
