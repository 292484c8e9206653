-- A path is found among resources, or among those behind them; and what is no Some is None.
use Rattle.std.proofs.Common.{◌≡◌, ℕ, List, [], ◌∷◌, ◌++◌, Bool, true, false, Option, Some, None, refl, ap, option_map}
use Rattle.std.specs.Prelude.{cond}
use Rattle.std.specs.Str.{bytes_eq}
use Rattle.cf_desired.specs.declared.wanted.Evaluated.{Evaluated}
use Rattle.cf_desired.specs.Plan.{at_path}
use Rattle.cf_desired.specs.Work.{Member}

pub found_later : (path : List ℕ) (xs ys : List (Member × Evaluated)) → option_map (λ r. r.1) (at_path path xs) ≡ None → at_path path (xs ++ ys) ≡ at_path path ys
found_later path [] ys h = refl
found_later path (x ∷ xs) ys h = either (found_later path xs ys) (bytes_eq path x.0.path) h where
  either : (option_map (λ r. r.1) (at_path path xs) ≡ None → at_path path (xs ++ ys) ≡ at_path path ys) → (b : Bool) → option_map (λ r. r.1) (cond b (Some x) (at_path path xs)) ≡ None → cond b (Some x) (at_path path (xs ++ ys)) ≡ at_path path ys
  either ih true h = let no : ⊥ = cc in absurd no
  either ih false h = ih h

pub found_first : (path : List ℕ) (xs ys : List (Member × Evaluated)) (v : Evaluated) → option_map (λ r. r.1) (at_path path xs) ≡ Some v
    → option_map (λ r. r.1) (at_path path (xs ++ ys)) ≡ Some v
found_first path [] ys v h = let no : ⊥ = cc in absurd no
found_first path (x ∷ xs) ys v h = either (found_first path xs ys v) (bytes_eq path x.0.path) h where
  either : (option_map (λ r. r.1) (at_path path xs) ≡ Some v → option_map (λ r. r.1) (at_path path (xs ++ ys)) ≡ Some v) → (b : Bool) → option_map (λ r. r.1) (cond b (Some x) (at_path path xs)) ≡ Some v → option_map (λ r. r.1) (cond b (Some x) (at_path path (xs ++ ys))) ≡ Some v
  either ih true h = h
  either ih false h = ih h

pub not_some : {A : Type 0} (o : Option A) → ((a : A) → o ≡ Some a → ⊥) → o ≡ None
not_some None h = refl
not_some (Some a) h = absurd (h a refl)

pub found_here : (path : List ℕ) (m : Member) (v : Evaluated) → bytes_eq path m.path ≡ true → option_map (λ r. r.1) (at_path path ((m, v) ∷ [])) ≡ Some v
found_here path m v h = ap (λ (b : Bool). option_map (λ (r : Member × Evaluated). r.1) (cond b (Some (m, v)) None)) h
