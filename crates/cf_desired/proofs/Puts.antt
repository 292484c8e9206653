-- What stands under a name once a pair is put among others, and what is kept of what stands.
use Rattle.std.proofs.Common.{◌≡◌, ℕ, List, [], ◌∷◌, Bool, true, false, ◌||◌, Option, Some, None, refl, sym, ap, ◌∙◌, true≢false}
use Rattle.std.specs.Prelude.{cond}
use Rattle.std.specs.List.{list_all}
use Rattle.std.specs.Cmp.{first_so, second_so}
use Rattle.std.specs.Str.{bytes_eq}
use Rattle.std.proofs.lemmas.Slice.Eq.{bytes_eq-Decides}
use Rattle.cf_tree.specs.Keys.{value_at, put}
use Rattle.cf_tree.specs.Lists.{is_among}
pub use Rattle.cf_eval.proofs.Looking.{value_put}
use Rattle.cf_eval.specs.Knows.{StaysKnown}
use Rattle.cf_desired.specs.Seeing.{by_names}

pub kept_self : {A : Type 0} (o : Option A) → StaysKnown o o
kept_self None = tt
kept_self (Some a) = refl

-- of pairs of one name the first counts
pub value_names : {X : Type 0} (q : List ℕ) (ps : List (List ℕ × X)) → value_at q (by_names ps) ≡ value_at q ps
value_names q [] = refl
value_names q (p ∷ ps) = value_put q p.0 p.1 (by_names ps) ∙ ap (cond (bytes_eq q p.0) (Some p.1)) (value_names q ps)

-- what all of a list pass, those among it pass
pub among_pass : (test : List ℕ → Bool) (qs : List (List ℕ)) (q : List ℕ) → list_all test qs ≡ true → is_among q qs ≡ true → test q ≡ true
among_pass test [] q h g = absurd (true≢false (sym g))
among_pass test (k ∷ qs) q h g = by_name (bytes_eq q k) refl g (among_pass test qs q (second_so (test k) _ h)) where
  by_name : (b : Bool) → bytes_eq q k ≡ b → (b || is_among q qs) ≡ true → (is_among q qs ≡ true → test q ≡ true) → test q ≡ true
  by_name true e i ih = ap test ((bytes_eq-Decides q k).0 e) ∙ first_so (test k) _ h
  by_name false e i ih = ih i
