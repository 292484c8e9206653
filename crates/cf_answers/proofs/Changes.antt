-- How the list of live resources changes by an update: the one resource of the id gets the values.
use Rattle.std.proofs.Common.{◌≡◌, ℕ, zero, suc, ◌<◌, Bool, true, false, cond, ◌||◌, List, [], ◌∷◌, length, refl, ap, sym, ◌∙◌, true≢false, map, filter, set, get_or, arith}
use Rattle.std.specs.Prelude.{not, IsTrue}
use Rattle.std.specs.List.{list_any}
use Rattle.std.specs.Str.{bytes_eq}
use Rattle.std.specs.Cmp.{first_so, second_so}
use Rattle.std.proofs.lemmas.Slice.Eq.{bytes_eq-Decides}
use Rattle.cf_tree.specs.Datum.{Data}
use Rattle.cf_handler.specs.Lane.{Live, updated}
use Rattle.cf_answers.specs.declared.live.LiveResource.{LiveResource}
use Rattle.cf_answers.specs.Live.{live_as, lives, has_this_id, has_other, differ, with_values}

-- a resource that is none of the id stays
elsewhere : (id : List ℕ) (p a : List (List ℕ × Data)) (r : LiveResource) → has_this_id id r ≡ false → updated id p a (live_as r) ≡ live_as r
elsewhere id p a r h = rw h refl

-- one that is of the id gets the values
there : (id : List ℕ) (p a : List (List ℕ × Data)) (r : LiveResource) → has_this_id id r ≡ true → updated id p a (live_as r) ≡ live_as (with_values p a r)
there id p a r h = rw h refl

left_false : (a b : Bool) → (a || b) ≡ false → a ≡ false
left_false true b h = h
left_false false b h = refl

right_false : (a b : Bool) → (a || b) ≡ false → b ≡ false
right_false true b h = absurd (true≢false h)
right_false false b h = h

-- where the id is nowhere, an update changes nothing
pub updated_nowhere : (id : List ℕ) (p a : List (List ℕ × Data)) (rs : List LiveResource) → list_any (has_this_id id) rs ≡ false → map (updated id p a) (lives rs) ≡ lives rs
updated_nowhere id p a [] h = refl
updated_nowhere id p a (r ∷ rs) h = λ i. elsewhere id p a r (left_false (has_this_id id r) _ h) i ∷ updated_nowhere id p a rs (right_false (has_this_id id r) _ h) i

not_true : (b : Bool) → not b ≡ true → b ≡ false
not_true true h = absurd (true≢false (sym h))
not_true false h = refl

-- no other is of the id of a resource
none_other : (id : List ℕ) (rs : List LiveResource) → has_other id (lives rs) ≡ false → list_any (has_this_id id) rs ≡ false
none_other id [] h = refl
none_other id (r ∷ rs) h = both_false (has_this_id id r) _ (left_false (has_this_id id r) _ h) (none_other id rs (right_false (has_this_id id r) _ h))
  where
    both_false : (a b : Bool) → a ≡ false → b ≡ false → (a || b) ≡ false
    both_false true b h g = h
    both_false false b h g = g

same_id : (id : List ℕ) (r : LiveResource) → has_this_id id r ≡ true → id ≡ r.id
same_id id r h = (bytes_eq-Decides id r.id).0 h

-- what stands at a place is among the list
at_place : (id : List ℕ) (rs : List LiveResource) (at : ℕ) (d : LiveResource) → at < length rs → has_this_id id (get_or rs at d) ≡ true → has_other id (lives rs) ≡ true
at_place id [] at d l h = absurd (omega (arith, l))
at_place id (r ∷ rs) zero d l h = or_left (has_this_id id r) _ h
  where
    or_left : (a b : Bool) → a ≡ true → (a || b) ≡ true
    or_left true b h = refl
    or_left false b h = absurd (true≢false (sym h))
at_place id (r ∷ rs) (suc at) d l h = or_right (has_this_id id r) _ (at_place id rs at d (omega (arith, l)) h)
  where
    or_right : (a b : Bool) → b ≡ true → (a || b) ≡ true
    or_right true b h = refl
    or_right false b h = h

-- where ids differ and the resource at a place is of the id, it alone gets the values
pub updated_there : (id : List ℕ) (p a : List (List ℕ × Data)) (rs : List LiveResource) (at : ℕ) (d : LiveResource) → IsTrue (differ (lives rs)) → at < length rs → has_this_id id (get_or rs at d) ≡ true → map (updated id p a) (lives rs) ≡ lives (set rs at (with_values p a (get_or rs at d)))
updated_there id p a [] at d u l h = absurd (omega (arith, l))
updated_there id p a (r ∷ rs) zero d u l h =
    let rest : list_any (has_this_id id) rs ≡ false = rw (same_id id r h) (none_other r.id rs (not_true _ (first_so _ _ u))) in
    λ i. there id p a r h i ∷ updated_nowhere id p a rs rest i
updated_there id p a (r ∷ rs) (suc at) d u l h =
    let deeper = updated_there id p a rs at d (second_so (not (has_other r.id (lives rs))) _ u) (omega (arith, l)) h in
    λ i. elsewhere id p a r (not_here (has_this_id id r) refl) i ∷ deeper i
  where
    not_here : (b : Bool) → has_this_id id r ≡ b → has_this_id id r ≡ false
    not_here true e = absurd (true≢false (sym (at_place id rs at d (omega (arith, l)) h) ∙ ap (λ x. has_other x (lives rs)) (same_id id r e) ∙ not_true _ (first_so _ _ u)))
    not_here false e = e

kept-by : (b : Bool) (r : LiveResource) (xs : List LiveResource) (ys : List Live) → lives xs ≡ ys → lives (cond b (r ∷ xs) xs) ≡ cond b (live_as r ∷ ys) ys
kept-by true r xs ys h = λ i. live_as r ∷ h i
kept-by false r xs ys h = h

-- a deletion takes the resources of the id away
pub filtered : (id : List ℕ) (rs : List LiveResource) → lives (filter (λ r. not (has_this_id id r)) rs) ≡ filter (λ r. not (bytes_eq id r.id)) (lives rs)
filtered id [] = refl
filtered id (r ∷ rs) = kept-by (not (has_this_id id r)) r (filter (λ x. not (has_this_id id x)) rs) (filter (λ x. not (bytes_eq id x.id)) (lives rs)) (filtered id rs)
