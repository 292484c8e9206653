-- Walks along the needs, and from which resources they lead back.
use Rattle.std.proofs.Common.{◌≡◌, ◌≤◌, ◌+◌, arith, length, take, ℕ, zero, suc, Bool, true, false, ◌&&◌, ◌||◌, cond, List, [], ◌∷◌, ◌++◌, map, flat_map, Option, None, is_some, refl, ap, sym, ◌∙◌, subst}
use Rattle.std.specs.List.{list_any}
use Rattle.std.specs.Option.{unwrap_or}
use Rattle.std.specs.Str.{bytes_eq}
use Rattle.cf_tree.specs.Keys.{value_at}
use Rattle.cf_tree.specs.Lists.{is_among, first_in}
use Rattle.cf_graph.specs.Needs.{needs_listed, walks}
use Rattle.std.specs.BTreeSet.{BTreeSet}
use Rattle.std.proofs.lemmas.List.{take_all}
use Rattle.cf_graph.specs.Cycles.{leads_back, is_on_level, IsLevel, StandAlike}
use Rattle.cf_graph.proofs.Alike.{any_named}

abbrev Rows : Type 0
Rows = List (List ℕ × List (List ℕ))

-- whether a list has a first member, put together
some_appended : {A : Type 0} (xs ys : List A) → is_some (first_in (xs ++ ys)) ≡ (is_some (first_in xs) || is_some (first_in ys))
some_appended [] ys = refl
some_appended (x ∷ xs) ys = refl

some_mapped : {A B : Type 0} (f : A → B) (xs : List A) → is_some (first_in (map f xs)) ≡ is_some (first_in xs)
some_mapped f [] = refl
some_mapped f (x ∷ xs) = refl

module _ (all : Rows) (start : List ℕ) where
  abbrev pub longer : ℕ → List ℕ → List ℕ → List (List (List ℕ))
  longer n name q = map (λ w. name ∷ w) (walks all start (suc n) q)

  leads_from : (n : ℕ) (name : List ℕ) (qs : List (List ℕ)) → is_some (first_in (flat_map (longer n name) qs)) ≡ list_any (leads_back all start (suc n)) qs
  leads_from n name [] = refl
  leads_from n name (q ∷ qs) =
      some_appended (longer n name q) (flat_map (longer n name) qs)
      ∙ ap (λ (b : Bool). b || is_some (first_in (flat_map (longer n name) qs))) (some_mapped (λ w. name ∷ w) (walks all start (suc n) q))
      ∙ ap (λ (b : Bool). leads_back all start (suc n) q || b) (leads_from n name qs)

  pub leads_further : (n : ℕ) (name : List ℕ) → leads_back all start (suc (suc n)) name ≡ list_any (leads_back all start (suc n)) (needs_listed all name)
  leads_further n name = leads_from n name (needs_listed all name)

  first_of : (name : List ℕ) (b : Bool) → is_some (first_in (cond b ((name ∷ []) ∷ []) [])) ≡ b
  first_of name true = refl
  first_of name false = refl

  pub leads_at_once : (name : List ℕ) → leads_back all start 1 name ≡ is_among start (needs_listed all name)
  leads_at_once name = first_of name (is_among start (needs_listed all name))

  -- a name that stands under none leads nowhere
  pub unknown_leads : (n : ℕ) (name : List ℕ) → value_at name all ≡ None → leads_back all start (suc n) name ≡ false
  unknown_leads zero name e = leads_at_once name ∙ ap (λ (o : Option (List (List ℕ))). is_among start (unwrap_or o [])) e
  unknown_leads (suc n) name e = leads_further n name ∙ ap (λ (o : Option (List (List ℕ))). list_any (leads_back all start (suc n)) (unwrap_or o [])) e

same_any : {A : Type 0} (f g : A → Bool) → ((a : A) → f a ≡ g a) → (xs : List A) → list_any f xs ≡ list_any g xs
same_any f g h [] = refl
same_any f g h (x ∷ xs) = λ i. h x i || same_any f g h xs i

module _ (all rows : Rows) (start : List ℕ) (h : StandAlike rows all) (level : BTreeSet (List ℕ)) (n : ℕ) (l : length all ≤ n) where
  needs_alike : (q : List ℕ) → needs_listed rows q ≡ needs_listed all q
  needs_alike q = ap (λ (o : Option (List (List ℕ))). unwrap_or o []) (h q)

  noted_all : (f : List ℕ → Bool) → ((q : List ℕ) → is_on_level level q ≡ list_any (λ r. bytes_eq q r.0 && f r.0) (take n all)) → ((q : List ℕ) → value_at q all ≡ None → f q ≡ false)
      → (q : List ℕ) → is_on_level level q ≡ f q
  noted_all f k z q = k q ∙ ap (list_any (λ r. bytes_eq q r.0 && f r.0)) (take_all n all l) ∙ any_named f all z q

  -- the names noted of those that need the start, and of those that need one of a level
  pub first_made : ((q : List ℕ) → is_on_level level q ≡ list_any (λ r. bytes_eq q r.0 && is_among start (needs_listed rows r.0)) (take n all)) → IsLevel all start 1 level
  first_made k q =
      noted_all (λ q. is_among start (needs_listed rows q)) k (λ q e. ap (λ (o : Option (List (List ℕ))). is_among start (unwrap_or o [])) (h q ∙ e)) q
      ∙ ap (is_among start) (needs_alike q) ∙ sym (leads_at_once all start q)

  pub next_made : (below : BTreeSet (List ℕ)) (m : ℕ)
      → ((q : List ℕ) → is_on_level level q ≡ list_any (λ r. bytes_eq q r.0 && list_any (is_on_level below) (needs_listed rows r.0)) (take n all)) → IsLevel all start (suc m) below
      → IsLevel all start (suc (suc m)) level
  next_made below m k b q =
      noted_all (λ q. list_any (is_on_level below) (needs_listed rows q)) k (λ q e. ap (λ (o : Option (List (List ℕ))). list_any (is_on_level below) (unwrap_or o [])) (h q ∙ e)) q
      ∙ ap (list_any (is_on_level below)) (needs_alike q) ∙ same_any (is_on_level below) (leads_back all start (suc m)) b (needs_listed all q) ∙ sym (leads_further all start m q)

  pub next_from : (below : BTreeSet (List ℕ)) (m : ℕ) → 1 ≤ m
      → ((q : List ℕ) → is_on_level level q ≡ list_any (λ r. bytes_eq q r.0 && list_any (is_on_level below) (needs_listed rows r.0)) (take n all)) → IsLevel all start m below
      → IsLevel all start (m + 1) level
  next_from below zero o k b = absurd (omega (arith, o))
  next_from below (suc m) o k b = subst (λ (j : ℕ). IsLevel all start j level) {x = suc (suc m)} {y = suc m + 1} (omega arith) (next_made below m k b)
