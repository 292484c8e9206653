-- Names in order are the same where the same names stand among them; so what a resource needs can be had from the order of work.
use Rattle.std.proofs.Common.{◌≡◌, ℕ, List, [], ◌∷◌, ◌++◌, Bool, true, false, ◌&&◌, ◌||◌, ◌⊎◌, inl, inr, Option, Some, None, refl, sym, ap, subst, ◌∙◌, true≢false, filter, fold, map}
use Rattle.std.specs.Prelude.{cond, is_some, unwrap_or}
use Rattle.std.specs.Cmp.{second_so}
use Rattle.std.specs.Ordering.{nat_cmp, is_lt, ordering_reverse}
use Rattle.std.specs.declared.cmp.Ordering.{Ordering}
use Rattle.std.specs.declared.cmp.Ordering.TheVariants.{Less, Equal, Greater}
use Rattle.std.specs.Cmp.Lexicographic.{slice_cmp, nat_list_cmp_total, texts_ties}
use Rattle.std.specs.Str.{bytes_eq}
use Rattle.std.proofs.lemmas.Slice.Eq.{bytes_eq-Decides}
use Rattle.cf_tree.specs.Keys.{ascends, ascends_from, bytes_lt, value_at}
use Rattle.cf_tree.specs.declared.template.Res.{Res}
use Rattle.cf_tree.proofs.Lookups.{value_below}
use Rattle.cf_tree.proofs.Order.{ascends_put}
use Rattle.cf_desired.specs.Shape.{put_name, in_order, StandsFor, stood_for}
use Rattle.cf_graph.specs.Needs.{is_made, referred_to, needs_in}
use Rattle.cf_tree.specs.Lists.{is_among}
use Rattle.cf_desired.proofs.OrderNeeds.{is_needed, among_order, among_first, among_second, either_so}
use Rattle.cf_desired.specs.ComeFirst.{OrderTellsNeeds}
use Rattle.cf_desired.specs.Stack.{Verdicts}
use Rattle.cf_desired.proofs.ComeFirst.{among_split, order_in, in_none}
use Rattle.cf_desired.proofs.Covers.{In, stood}

abbrev Names : Type 0
Names = List (List ℕ × Bool)

abbrev keys : Names → List (List ℕ)
keys ps = map (λ p. p.0) ps

here : (k : List ℕ) (v : Bool) (o : Option Bool) → is_some (cond (bytes_eq k k) (Some v) o) ≡ true
here k v o = ap (λ b. is_some (cond b (Some v) o)) ((bytes_eq-Decides k k).1 refl)

less_first : (p : List ℕ × Bool) (ps qs : Names) (q : List ℕ × Bool) → slice_cmp nat_cmp p.0 q.0 ≡ Less → ascends (q ∷ qs) ≡ true → is_some (value_at p.0 (p ∷ ps)) ≡ is_some (value_at p.0 (q ∷ qs)) → ⊥
less_first p ps qs q e h same =
    true≢false (sym (here p.0 p.1 (value_at p.0 ps)) ∙ same ∙ ap is_some (value_below p.0 (q ∷ qs) (ap (λ o. is_lt o && ascends_from q.0 qs) e ∙ h)))

behind_first : (k : List ℕ) (v w : Bool) (ps qs : Names) (j : List ℕ) → ascends_from k ps ≡ true → ascends_from k qs ≡ true
    → is_some (value_at j ((k, v) ∷ ps)) ≡ is_some (value_at j ((k, w) ∷ qs)) → is_some (value_at j ps) ≡ is_some (value_at j qs)
behind_first k v w ps qs j g h same = either (bytes_eq j k) refl same where
  either : (b : Bool) → bytes_eq j k ≡ b → is_some (cond b (Some v) (value_at j ps)) ≡ is_some (cond b (Some w) (value_at j qs)) → is_some (value_at j ps) ≡ is_some (value_at j qs)
  either true e s =
      let same_key : j ≡ k = (bytes_eq-Decides j k).0 e in
      ap is_some (ap (λ i. value_at i ps) same_key ∙ value_below k ps g) ∙ sym (ap is_some (ap (λ i. value_at i qs) same_key ∙ value_below k qs h))
  either false e s = s

behind_ascends : (p : List ℕ × Bool) (ps : Names) → ascends (p ∷ ps) ≡ true → ascends ps ≡ true
behind_ascends p [] h = refl
behind_ascends p (q ∷ ps) h = second_so (bytes_lt p.0 q.0) _ h

keys_same : (ps qs : Names) → ascends ps ≡ true → ascends qs ≡ true → ((k : List ℕ) → is_some (value_at k ps) ≡ is_some (value_at k qs)) → keys ps ≡ keys qs
keys_same [] [] g h same = refl
keys_same [] (q ∷ qs) g h same = absurd (true≢false (sym (same q.0 ∙ here q.0 q.1 (value_at q.0 qs))))
keys_same (p ∷ ps) [] g h same = absurd (true≢false (sym (here p.0 p.1 (value_at p.0 ps)) ∙ same p.0))
keys_same (p ∷ ps) (q ∷ qs) g h same = either (slice_cmp nat_cmp p.0 q.0) refl (keys_same ps qs (behind_ascends p ps g) (behind_ascends q qs h)) where
  either : (o : Ordering) → slice_cmp nat_cmp p.0 q.0 ≡ o → (((k : List ℕ) → is_some (value_at k ps) ≡ is_some (value_at k qs)) → keys ps ≡ keys qs)
      → p.0 ∷ keys ps ≡ q.0 ∷ keys qs
  either Less e ih = absurd (less_first p ps qs q e h (same p.0))
  either Greater e ih = absurd (less_first q qs ps p (nat_list_cmp_total.antisymm q.0 p.0 ∙ ap ordering_reverse e) g (sym (same q.0)))
  either Equal e ih =
      let key : p.0 ≡ q.0 = (bytes_eq-Decides p.0 q.0).0 (texts_ties p.0 q.0 ∙ rw e refl) in
      ap (λ k. k ∷ keys ps) key
      ∙ ap (λ l. q.0 ∷ l) (ih (λ j. behind_first q.0 p.1 q.1 ps qs j (subst (λ k. ascends_from k ps ≡ true) key g) h (subst (λ k. is_some (value_at j ((k, p.1) ∷ ps)) ≡ is_some (value_at j (q ∷ qs))) key (same j))))

fold_ascends : (names : List (List ℕ)) (ps : Names) → ascends ps ≡ true → ascends (fold put_name ps names) ≡ true
fold_ascends [] ps h = h
fold_ascends (k ∷ names) ps h = fold_ascends names (put_name ps k) (ascends_put k true ps h)

keys_among : (q : List ℕ) (ps : Names) → is_some (value_at q ps) ≡ is_among q (keys ps)
keys_among q [] = refl
keys_among q (p ∷ ps) = by_name (bytes_eq q p.0) (keys_among q ps) where
  by_name : (b : Bool) → is_some (value_at q ps) ≡ is_among q (keys ps) → is_some (cond b (Some p.1) (value_at q ps)) ≡ (b || is_among q (keys ps))
  by_name true ih = refl
  by_name false ih = ih

both_ways : (a b : Bool) → (a ≡ true → b ≡ true) → (b ≡ true → a ≡ true) → a ≡ b
both_ways true b g h = sym (g refl)
both_ways false true g h = absurd (true≢false (sym (h refl)))
both_ways false false g h = refl

-- names in order are those among them
pub order_same : (xs ys : List (List ℕ)) → In xs ys → In ys xs → in_order xs ≡ in_order ys
order_same xs ys g h =
    keys_same (fold put_name [] xs) (fold put_name [] ys) (fold_ascends xs [] refl) (fold_ascends ys [] refl)
    (λ k. keys_among k (fold put_name [] xs)
    ∙ both_ways (is_among k (in_order xs)) (is_among k (in_order ys)) (λ a. among_order k ys (h k (order_in xs xs (λ q i. i) k a))) (λ a. among_order k xs (g k (order_in ys ys (λ q i. i) k a)))
    ∙ sym (keys_among k (fold put_name [] ys)))

-- what a resource needs among those that are made is referred to
needed_referred : (conds : Verdicts) (names : List (List ℕ)) (rs : List Res) (id : List ℕ) → is_among id (map (λ m. m.name) (filter (λ m. is_made conds m && is_among m.name names) rs)) ≡ true → is_among id names ≡ true
needed_referred conds names [] id h = absurd (true≢false (sym h))
needed_referred conds names (r ∷ rs) id h = either (is_made conds r) (is_among r.name names) refl h (needed_referred conds names rs id) where
  by_name : (b : Bool) → bytes_eq id r.name ≡ b → is_among r.name names ≡ true → (b || is_among id (map (λ m. m.name) (filter (λ m. is_made conds m && is_among m.name names) rs))) ≡ true
      → (is_among id (map (λ m. m.name) (filter (λ m. is_made conds m && is_among m.name names) rs)) ≡ true → is_among id names ≡ true) → is_among id names ≡ true
  by_name true e n k ih = ap (λ i. is_among i names) ((bytes_eq-Decides id r.name).0 e) ∙ n
  by_name false e n k ih = ih k

  either : (m n : Bool) → is_among r.name names ≡ n
      → is_among id (map (λ x. x.name) (cond (m && n) (r ∷ filter (λ x. is_made conds x && is_among x.name names) rs) (filter (λ x. is_made conds x && is_among x.name names) rs))) ≡ true
      → (is_among id (map (λ x. x.name) (filter (λ x. is_made conds x && is_among x.name names) rs)) ≡ true → is_among id names ≡ true) → is_among id names ≡ true
  either true true e k ih = by_name (bytes_eq id r.name) refl e k ih
  either true false e k ih = ih k
  either false n e k ih = ih k

all_stood : (all : List (List ℕ)) (stands : StandsFor) (ids : List (List ℕ)) → ((id : List ℕ) → is_among id ids ≡ true → In all (unwrap_or (value_at id stands) [])) → In all (stood_for stands ids)
all_stood all stands [] h q g = absurd (true≢false (sym g))
all_stood all stands (k ∷ ids) h q g = either (among_split q (unwrap_or (value_at k stands) []) (stood_for stands ids) g) (all_stood all stands ids (λ id m. h id (either_so (bytes_eq id k) _ m)) q) where
  either : (is_among q (unwrap_or (value_at k stands) []) ≡ true) ⊎ (is_among q (stood_for stands ids) ≡ true) → (is_among q (stood_for stands ids) ≡ true → is_among q all ≡ true) → is_among q all ≡ true
  either (inl e) ih = h k (ap (λ b. b || is_among k ids) ((bytes_eq-Decides k k).1 refl)) q e
  either (inr e) ih = ih e

with_around : (xs ys zs : List (List ℕ)) → In xs ys → In (xs ++ zs) (ys ++ zs)
with_around xs ys zs h q g = either (among_split q ys zs g) where
  either : (is_among q ys ≡ true) ⊎ (is_among q zs ≡ true) → is_among q (xs ++ zs) ≡ true
  either (inl e) = among_first q xs zs (h q e)
  either (inr e) = among_second q xs zs e

-- what a resource needs is what those stand for that the order of work names
pub needs_by_order : OrderTellsNeeds
needs_by_order e conds stands r made =
    order_same (stood_for stands (referred_to e.stack.template conds r) ++ e.needs) (stood_for stands (needs_in e.stack.template conds r) ++ e.needs)
    (with_around (stood_for stands (referred_to e.stack.template conds r)) (stood_for stands (needs_in e.stack.template conds r)) e.needs
    (all_stood _ stands (needs_in e.stack.template conds r) (λ id m. stood stands id (referred_to e.stack.template conds r) (needed_referred conds (referred_to e.stack.template conds r) e.stack.template.resources id m))))
    (with_around (stood_for stands (needs_in e.stack.template conds r)) (stood_for stands (referred_to e.stack.template conds r)) e.needs
    (all_stood _ stands (referred_to e.stack.template conds r) (λ id m. either id m (made id)))) where
      either : (id : List ℕ) → is_among id (referred_to e.stack.template conds r) ≡ true → (value_at id stands ≡ None) ⊎ (is_among id (map (λ x. x.name) (filter (is_made conds) e.stack.template.resources)) ≡ true)
          → In (stood_for stands (needs_in e.stack.template conds r)) (unwrap_or (value_at id stands) [])
      either id m (inl none) = subst (λ o. In (stood_for stands (needs_in e.stack.template conds r)) (unwrap_or o [])) (sym none) (in_none (stood_for stands (needs_in e.stack.template conds r)))
      either id m (inr among) = stood stands id (needs_in e.stack.template conds r) (is_needed e.stack.template conds id r m among)
