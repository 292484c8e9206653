-- What stands under a name, by its place.
use Rattle.std.proofs.Common.{◌≡◌, ℕ, ◌<◌, List, [], ◌∷◌, length, map, get_or, Bool, true, false, ◌&&◌, Option, Some, None, Result, Ok, Err, refl, ap, sym, ◌∙◌, subst, arith, true≢false, cond}
use Rattle.std.specs.Ordering.{nat_cmp, is_lt, match_ordering}
use Rattle.std.specs.Str.{bytes_eq}
use Rattle.std.specs.Cmp.{first_so, second_so}
use Rattle.std.specs.declared.cmp.Ordering.{Ordering}
use Rattle.std.specs.declared.cmp.Ordering.TheVariants.{Less, Equal, Greater}
use Rattle.std.specs.Cmp.Lexicographic.{slice_cmp, nat_list_cmp_total, texts_ties}
use Rattle.std.proofs.lemmas.List.{map-id}
use Rattle.std.proofs.lemmas.Slice.Eq.{bytes_eq-Decides}
use Rattle.cf_tree.specs.Keys.{ascends, ascends_from, bytes_lt, place, put, next, value_at}
use Rattle.cf_tree.specs.Value.{datum_of, pair_of, pairs_of}
use Rattle.cf_tree.specs.declared.value.Pair.{Pair}

both : (a b : Bool) → a ≡ true → b ≡ true → (a && b) ≡ true
both true b h g = g
both false b h g = h

same_if_equal : (k l : List ℕ) → slice_cmp nat_cmp k l ≡ Equal → bytes_eq k l ≡ true
same_if_equal k l e = texts_ties k l ∙ rw e refl

other_if_less : (k l : List ℕ) → slice_cmp nat_cmp k l ≡ Less → bytes_eq k l ≡ false
other_if_less k l e = texts_ties k l ∙ rw e refl

other_if_greater : (k l : List ℕ) → slice_cmp nat_cmp k l ≡ Greater → bytes_eq k l ≡ false
other_if_greater k l e = texts_ties k l ∙ rw e refl

same_itself : (k : List ℕ) → bytes_eq k k ≡ true
same_itself k = (bytes_eq-Decides k k).1 refl

less_from : (o : Ordering) → is_lt o ≡ true → o ≡ Less
less_from Less h = refl
less_from Equal h = absurd (true≢false (sym h))
less_from Greater h = absurd (true≢false (sym h))

module _ {X : Type 0} where
  -- what ascends from a name ascends from each lower one
  from_lower : (j k : List ℕ) (ps : List (List ℕ × X)) → bytes_lt j k ≡ true → ascends_from k ps ≡ true → ascends_from j ps ≡ true
  from_lower j k [] h g = refl
  from_lower j k (p ∷ ps) h g =
      both _ _ (ap is_lt (nat_list_cmp_total.trans j k p.0 (less_from _ h) (less_from _ (first_so _ _ g)))) (second_so (bytes_lt k p.0) _ g)

  -- nothing stands under a name that all others are above
  pub value_below : (k : List ℕ) (ps : List (List ℕ × X)) → ascends_from k ps ≡ true → value_at k ps ≡ None
  value_below k [] h = refl
  value_below k (p ∷ ps) h =
      rw (other_if_less k p.0 (less_from _ (first_so _ _ h))) (value_below k ps (from_lower k p.0 ps (first_so _ _ h) (second_so (bytes_lt k p.0) _ h)))

-- what stands under a name after one was put in
module _ {X : Type 0} where
  put_here_by : (k : List ℕ) (v : X) (p : List ℕ × X) (ps : List (List ℕ × X)) (o : Ordering) → slice_cmp nat_cmp k p.0 ≡ o → value_at k (put k v ps) ≡ Some v
      → value_at k (match_ordering o ((k, v) ∷ p ∷ ps) ((p.0, v) ∷ ps) (p ∷ put k v ps)) ≡ Some v
  put_here_by k v p ps Less e h = rw (same_itself k) refl
  put_here_by k v p ps Equal e h = rw (same_if_equal k p.0 e) refl
  put_here_by k v p ps Greater e h = rw (other_if_greater k p.0 e) h

  pub put_here : (k : List ℕ) (v : X) (ps : List (List ℕ × X)) → value_at k (put k v ps) ≡ Some v
  put_here k v [] = rw (same_itself k) refl
  put_here k v (p ∷ ps) = put_here_by k v p ps (slice_cmp nat_cmp k p.0) refl (put_here k v ps)

  put_else_by : (m k : List ℕ) (v : X) (p : List ℕ × X) (ps : List (List ℕ × X)) (o : Ordering) → slice_cmp nat_cmp k p.0 ≡ o → bytes_eq m k ≡ false → value_at m (put k v ps) ≡ value_at m ps
      → value_at m (match_ordering o ((k, v) ∷ p ∷ ps) ((p.0, v) ∷ ps) (p ∷ put k v ps)) ≡ value_at m (p ∷ ps)
  put_else_by m k v p ps Less e n h = rw n refl
  put_else_by m k v p ps Equal e n h =
      let same : k ≡ p.0 = (bytes_eq-Decides k p.0).0 (same_if_equal k p.0 e) in
      let other : bytes_eq m p.0 ≡ false = subst (λ l. bytes_eq m l ≡ false) same n in
      rw other refl
  put_else_by m k v p ps Greater e n h = ap (λ o. cond (bytes_eq m p.0) (Some p.1) o) h

  pub put_else : (m k : List ℕ) (v : X) (ps : List (List ℕ × X)) → bytes_eq m k ≡ false → value_at m (put k v ps) ≡ value_at m ps
  put_else m k v [] n = rw n refl
  put_else m k v (p ∷ ps) n = put_else_by m k v p ps (slice_cmp nat_cmp k p.0) refl n (put_else m k v ps n)

module _ {P : Type 0} {X : Type 0} (f : P → List ℕ × X) where
  -- what the place of a name says of what stands under it
  abbrev pub HasAt : List P → Option X → Result ℕ ℕ → Type 0
  HasAt ps v (Ok i) = (i < length ps) × ((d : P) → v ≡ Some (f (get_or ps i d)).1)
  HasAt ps v (Err i) = v ≡ None

  further : (p : P) (ps : List P) (v : Option X) (r : Result ℕ ℕ) → HasAt ps v r → HasAt (p ∷ ps) v (next r)
  further p ps v (Ok i) h = (omega (arith, h.0), h.1)
  further p ps v (Err i) h = h

  others : (k : List ℕ) (ps : List P) → ascends_from k (map f ps) ≡ true → ascends (map f ps) ≡ true
  others k [] h = refl
  others k (p ∷ ps) h = second_so (bytes_lt k (f p).0) _ h

  here : (k : List ℕ) (p : P) (ps : List P) (o : Ordering) → slice_cmp nat_cmp k (f p).0 ≡ o → ascends_from (f p).0 (map f ps) ≡ true → HasAt ps (value_at k (map f ps)) (place k (map f ps)) → HasAt (p ∷ ps) (value_at k (map f (p ∷ ps))) (match_ordering o (Err 0) (Ok 0) (next (place k (map f ps))))
  here k p ps Less e g h = value_below k (map f (p ∷ ps)) (both _ _ (ap is_lt e) g)
  here k p ps Equal e g h = (omega arith, λ d. rw (same_if_equal k (f p).0 e) refl)
  here k p ps Greater e g h = rw (other_if_greater k (f p).0 e) (further p ps _ _ h)

  pub looked_up : (k : List ℕ) (ps : List P) → ascends (map f ps) ≡ true → HasAt ps (value_at k (map f ps)) (place k (map f ps))
  looked_up k [] g = refl
  looked_up k (p ∷ ps) g = here k p ps (slice_cmp nat_cmp k (f p).0) refl g (looked_up k ps (others (f p).0 ps g))

  at : (k : List ℕ) (ps : List P) {r : Result ℕ ℕ} → ascends (map f ps) ≡ true → place k (map f ps) ≡ r → HasAt ps (value_at k (map f ps)) r
  at k ps g e = subst (HasAt ps (value_at k (map f ps))) e (looked_up k ps g)

  pub in_range : (k : List ℕ) (ps : List P) (i : ℕ) → ascends (map f ps) ≡ true → place k (map f ps) ≡ Ok i → i < length ps
  in_range k ps i g e = (at k ps g e).0

  pub value_found : (k : List ℕ) (ps : List P) (i : ℕ) (d : P) → ascends (map f ps) ≡ true → place k (map f ps) ≡ Ok i → value_at k (map f ps) ≡ Some (f (get_or ps i d)).1
  value_found k ps i d g e = (at k ps g e).1 d

  pub value_missed : (k : List ℕ) (ps : List P) (i : ℕ) → ascends (map f ps) ≡ true → place k (map f ps) ≡ Err i → value_at k (map f ps) ≡ None
  value_missed k ps i g e = at k ps g e

pub pair_in : (k : List ℕ) (ps : List Pair) (i : ℕ) → ascends (pairs_of ps) ≡ true → place k (pairs_of ps) ≡ Ok i → i < length ps
pair_in = in_range pair_of

pub pair_found : (k : List ℕ) (ps : List Pair) (i : ℕ) (d : Pair) → ascends (pairs_of ps) ≡ true → place k (pairs_of ps) ≡ Ok i → value_at k (pairs_of ps) ≡ Some (datum_of (get_or ps i d).value)
pair_found = value_found pair_of

pub pair_missed : (k : List ℕ) (ps : List Pair) (i : ℕ) → ascends (pairs_of ps) ≡ true → place k (pairs_of ps) ≡ Err i → value_at k (pairs_of ps) ≡ None
pair_missed = value_missed pair_of

-- the same of a list of pairs as it is
module _ {X : Type 0} (k : List ℕ) (ps : List (List ℕ × X)) (i : ℕ) (g : ascends ps ≡ true) where
  pub entry_in : place k ps ≡ Ok i → i < length ps
  entry_in e = in_range (λ (p : List ℕ × X). p) k ps i (ap ascends (map-id ps) ∙ g) (ap (place k) (map-id ps) ∙ e)

  pub entry_found : (d : List ℕ × X) → place k ps ≡ Ok i → value_at k ps ≡ Some (get_or ps i d).1
  entry_found d e = sym (ap (value_at k) (map-id ps)) ∙ value_found (λ (p : List ℕ × X). p) k ps i d (ap ascends (map-id ps) ∙ g) (ap (place k) (map-id ps) ∙ e)

  pub entry_missed : place k ps ≡ Err i → value_at k ps ≡ None
  entry_missed e = sym (ap (value_at k) (map-id ps)) ∙ value_missed (λ (p : List ℕ × X). p) k ps i (ap ascends (map-id ps) ∙ g) (ap (place k) (map-id ps) ∙ e)
