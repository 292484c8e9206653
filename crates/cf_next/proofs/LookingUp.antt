-- What a look-up finds in a map that a walk over a list made: the first of the list under the name.
use Rattle.std.proofs.Common.{◌≡◌, ℕ, Bool, true, false, ◌||◌, List, [], ◌∷◌, Option, Some, None, Result, Ok, Err, cond, fold, find, option_map, is_some, refl, ap, sym, ◌∙◌}
use Rattle.std.specs.Prelude.{IfOk}
use Rattle.std.specs.List.{list_any}
use Rattle.std.specs.Option.{option_map_or, option_or}
use Rattle.std.specs.Str.{bytes_eq}
use Rattle.cf_tree.specs.Keys.{put, value_at}
use Rattle.cf_tree.specs.Lists.{is_among}
use Rattle.cf_tree.proofs.Lookups.{put_else, put_here}
use Rattle.cf_plan.proofs.Listed.{bytes_same}
use Rattle.cf_next.specs.Lookups.{has_key, with_first, with_named}

module _ {V : Type 0} (k : List ℕ) where
  -- under the name itself
  first_here : (v : V) (map : List (List ℕ × V)) (o : Option V) → value_at k map ≡ o
      → value_at k (cond (is_some o) map (put k v map)) ≡ option_or o (Some v)
  first_here v map (Some u) e = e
  first_here v map None e = put_here k v map

  first_else : (name : List ℕ) (v : V) (map : List (List ℕ × V)) → bytes_eq k name ≡ false → (b : Bool)
      → value_at k (cond b map (put name v map)) ≡ value_at k map
  first_else name v map e true = refl
  first_else name v map e false = put_else k name v map e

  or_none : (o : Option V) → o ≡ option_or o None
  or_none None = refl
  or_none (Some v) = refl

  one_under : (name : List ℕ) (v : V) (map : List (List ℕ × V)) (b : Bool) → bytes_eq k name ≡ b
      → value_at k (with_first name v map) ≡ option_or (value_at k map) (cond b (Some v) None)
  one_under name v map true e =
      ap (λ (n : List ℕ). value_at k (with_first n v map)) (sym (bytes_same k name e)) ∙ first_here v map (value_at k map) refl
  one_under name v map false e = first_else name v map e (has_key name map) ∙ or_none (value_at k map)

  or_later : (a b c : Option V) → option_or (option_or a b) c ≡ option_or a (option_or b c)
  or_later None b c = refl
  or_later (Some v) b c = refl

module _ {A V : Type 0} (name : A → Option (List ℕ)) (value : A → V) (k : List ℕ) where
  -- the member has this name
  abbrev pub is_named : A → Bool
  is_named a = option_map_or (bytes_eq k) (name a) false

  abbrev pub step : List (List ℕ × V) → A → List (List ℕ × V)
  step map a = with_named (name a) (value a) map

  one_named : (o : Option (List ℕ)) (v : V) (map : List (List ℕ × V))
      → value_at k (with_named o v map) ≡ option_or (value_at k map) (cond (option_map_or (bytes_eq k) o false) (Some v) None)
  one_named None v map = or_none k (value_at k map)
  one_named (Some n) v map = one_under k n v map (bytes_eq k n) refl

  found_at : (a : A) (xs : List A) (b : Bool)
      → option_or (cond b (Some (value a)) None) (option_map value (find is_named xs))
      ≡ option_map value (cond b (Some a) (find is_named xs))
  found_at a xs true = refl
  found_at a xs false = refl

  pub looked_up : (xs : List A) (map : List (List ℕ × V))
      → value_at k (fold step map xs) ≡ option_or (value_at k map) (option_map value (find is_named xs))
  looked_up [] map = or_none k (value_at k map)
  looked_up (a ∷ xs) map =
      looked_up xs (step map a)
      ∙ (ap (λ (o : Option V). option_or o (option_map value (find is_named xs))) (one_named (name a) (value a) map)
      ∙ (or_later k (value_at k map) (cond (is_named a) (Some (value a)) None) (option_map value (find is_named xs))
      ∙ ap (option_or (value_at k map)) (found_at a xs (is_named a))))

  some_mapped : (o : Option A) → is_some (option_map value o) ≡ is_some o
  some_mapped None = refl
  some_mapped (Some a) = refl

  some_found : (test : A → Bool) (xs : List A) → is_some (find test xs) ≡ list_any test xs
  some_found test [] = refl
  some_found test (x ∷ xs) = by (test x) (some_found test xs)
    where
      by : (b : Bool) → is_some (find test xs) ≡ list_any test xs → is_some (cond b (Some x) (find test xs)) ≡ (b || list_any test xs)
      by true e = refl
      by false e = e

  -- whether there is one
  pub named_there : (xs : List A) → has_key k (fold step [] xs) ≡ list_any is_named xs
  named_there xs = ap is_some (looked_up xs []) ∙ (some_mapped (find is_named xs) ∙ some_found is_named xs)

-- tests that agree find the same
pub found_same : {A : Type 0} (f g : A → Bool) (xs : List A) → ((a : A) → f a ≡ g a) → find f xs ≡ find g xs
found_same f g [] h = refl
found_same f g (x ∷ xs) h = ap (λ (b : Bool). cond b (Some x) (find f xs)) (h x) ∙ ap (cond (g x) (Some x)) (found_same f g xs h)

-- A set of names.
pub told_set : {E : Type 0} (names : List (List ℕ)) (made : Result (List (List ℕ × Unit {0})) E)
    → IfOk made (λ set. set ≡ fold (λ all name. with_first name tt all) [] names)
    → IfOk made (λ set. (name : List ℕ) → has_key name set ≡ is_among name names)
told_set names (Ok set) e = λ name. ap (has_key name) e ∙ named_there (λ (n : List ℕ). Some n) (λ (n : List ℕ). tt) name names
told_set names (Err fault) e = e
