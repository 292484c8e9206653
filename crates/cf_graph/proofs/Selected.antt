-- Places that ascend, and are just those whose members pass a test, lead to the members that pass it, in their order.
use Rattle.std.proofs.Common.{◌≡◌, ℕ, suc, ◌+◌, ◌<◌, ◌≤◌, List, [], ◌∷◌, length, map, filter, get_or, Bool, true, false, cond, ◌&&◌, nat_lt, nat_eq, refl, ap, sym, ◌∙◌, subst, ⊎_elim, arith, true≢false}
use Rattle.std.specs.Ordering.{nat_cmp}
use Rattle.std.specs.declared.cmp.Ordering.TheVariants.{Less}
use Rattle.std.specs.List.{list_any, AllByRecursion}
use Rattle.std.specs.List.Sorted.{IsStrictlySortedBy}
use Rattle.std.proofs.lemmas.Bool.{cases_eq, eq-eqb, eqb-true, or_cases, or_left, or_right, and_from, and_parts, lt-ltb, ltb-true}
use Rattle.std.proofs.lemmas.Map.Keys.{sorted_head, sorted_tail}
use Rattle.std.proofs.lemmas.Grind.{common_steps}
use Rattle.std.specs.BTreeSet.{BTreeSet, contains}
use Rattle.cf_graph.proofs.Sets.{is_eq_place}

module _ {X : Type 0} (test : X → Bool) (at : ℕ → X) where
  pub record Picks (base : ℕ) (count : ℕ) (ks : List ℕ) : Type 0 where
    pub sorted : IsStrictlySortedBy nat_cmp ks
    pub sound : (k : ℕ) → list_any (nat_eq k) ks ≡ true → (base ≤ k) × (k < base + count) × (test (at k) ≡ true)
    pub complete : (k : ℕ) → base ≤ k → k < base + count → test (at k) ≡ true → list_any (nat_eq k) ks ≡ true

less : (a b : ℕ) → nat_cmp a b ≡ Less → a < b
less a b h = grind (arith, common_steps)

above : (a : ℕ) (ks : List ℕ) → AllByRecursion (λ y. nat_cmp a y ≡ Less) ks → (k : ℕ) → list_any (nat_eq k) ks ≡ true → a < k
above a [] h k e = absurd (true≢false (sym e))
above a (x ∷ ks) h k e = ⊎_elim
    (λ (s : nat_eq k x ≡ true). subst (λ n. a < n) (sym (eqb-true k x s)) (less a x h.0))
    (λ s. above a ks h.1 k s)
    (or_cases (nat_eq k x) (list_any (nat_eq k) ks) e)

module _ {X : Type 0} (test : X → Bool) (at : ℕ → X) (d : X) where
  skipped : (base count : ℕ) (ks : List ℕ) → test (at base) ≡ false → Picks test at base (suc count) ks → Picks test at (suc base) count ks
  skipped base count ks f h = record {
    sorted = h.sorted;
    sound = λ k i. let s = h.sound k i in ⊎_elim
        (λ (e : k ≡ base). absurd (true≢false (sym s.2 ∙ ap (λ n. test (at n)) e ∙ f)))
        (λ (ne : k ≡ base → ⊥). (omega (arith, s.0, ne), omega (arith, s.1), s.2))
        (cases_eq k base);
    complete = λ k l m t. h.complete k (omega (arith, l)) (omega (arith, m)) t;
  }

  taken : (base count k : ℕ) (ks : List ℕ) → k ≡ base → Picks test at base (suc count) (k ∷ ks) → Picks test at (suc base) count ks
  taken base count k ks e h = record {
    sorted = sorted_tail nat_cmp k ks h.sorted;
    sound = λ j i.
        let s = h.sound j (or_right (nat_eq j k) (list_any (nat_eq j) ks) i) in
        let up = above k ks (sorted_head nat_cmp k ks h.sorted) j i in
        (omega (arith, up, e), omega (arith, s.1), s.2);
    complete = λ j l m t. ⊎_elim
        (λ (s : nat_eq j k ≡ true). absurd (omega (arith, l, eqb-true j k s, e)))
        (λ s. s)
        (or_cases (nat_eq j k) (list_any (nat_eq j) ks) (h.complete j (omega (arith, l)) (omega (arith, m)) t));
  }

  first : (base count k : ℕ) (ks : List ℕ) → test (at base) ≡ true → Picks test at base (suc count) (k ∷ ks) → k ≡ base
  first base count k ks t h =
      let low = h.sound k (or_left (nat_eq k k) (list_any (nat_eq k) ks) (eq-eqb k k refl)) in
      ⊎_elim
      (λ (s : nat_eq base k ≡ true). sym (eqb-true base k s))
      (λ s. absurd (omega (arith, above k ks (sorted_head nat_cmp k ks h.sorted) base s, low.0)))
      (or_cases (nat_eq base k) (list_any (nat_eq base) ks) (h.complete base (omega arith) (omega arith) t))

  moved : (base : ℕ) (x : X) (xs : List X) → ((j : ℕ) → j < length (x ∷ xs) → at (base + j) ≡ get_or (x ∷ xs) j d) → (j : ℕ) → j < length xs → at (suc base + j) ≡ get_or xs j d
  moved base x xs e j l = let same : suc base + j ≡ base + suc j = omega arith in ap at same ∙ e (suc j) (omega (arith, l))

  here : (base : ℕ) (x : X) (xs : List X) → ((j : ℕ) → j < length (x ∷ xs) → at (base + j) ≡ get_or (x ∷ xs) j d) → at base ≡ x
  here base x xs e = let same : base ≡ base + 0 = omega arith in ap at same ∙ e 0 (omega arith)

  by_test : (x : X) (xs : List X) (base : ℕ) (ks : List ℕ) (b : Bool) → test x ≡ b → ((j : ℕ) → j < length (x ∷ xs) → at (base + j) ≡ get_or (x ∷ xs) j d) → Picks test at base (suc (length xs)) ks → ((js : List ℕ) → Picks test at (suc base) (length xs) js → map at js ≡ filter test xs) → map at ks ≡ cond b (x ∷ filter test xs) (filter test xs)
  by_test x xs base [] true t e h rest = absurd (true≢false (sym (h.complete base (omega arith) (omega arith) (ap test (here base x xs e) ∙ t))))
  by_test x xs base (k ∷ ks) true t e h rest =
      let now = ap test (here base x xs e) ∙ t in
      let same = first base (length xs) k ks now h in
      let head = ap at same ∙ here base x xs e in
      let tail = rest ks (taken base (length xs) k ks same h) in
      λ i. head i ∷ tail i
  by_test x xs base ks false t e h rest = rest ks (skipped base (length xs) ks (ap test (here base x xs e) ∙ t) h)

  pub selected : (made : List X) (base : ℕ) (ks : List ℕ) → ((j : ℕ) → j < length made → at (base + j) ≡ get_or made j d) → Picks test at base (length made) ks → map at ks ≡ filter test made
  selected [] base [] e h = refl
  selected [] base (k ∷ ks) e h = let s = h.sound k (or_left (nat_eq k k) (list_any (nat_eq k) ks) (eq-eqb k k refl)) in absurd (omega (arith, s.0, s.1))
  selected (x ∷ xs) base ks e h = by_test x xs base ks (test x) refl e h (λ js g. selected xs (suc base) js (moved base x xs e) g)

-- what a set of places leads to, in a list of which it has just the places whose members pass
pub selected_by_set : {X : Type 0} (test : X → Bool) (made : List X) (d : X) (s : BTreeSet ℕ) → IsStrictlySortedBy nat_cmp s.keys → ((p : ℕ) → contains nat_cmp s p ≡ (nat_lt p (length made) && test (get_or made p d))) → map (λ p. get_or made p d) s.keys ≡ filter test made
selected_by_set test made d s sorted h =
    let same : (p : ℕ) → contains nat_cmp s p ≡ list_any (nat_eq p) s.keys = λ p i. list_any (λ k. is_eq_place p k i) s.keys in
    selected test (λ p. get_or made p d) d made 0 s.keys
    (λ j l. let e : 0 + j ≡ j = omega arith in ap (λ k. get_or made k d) e)
    (record {
      sorted = sorted;
      sound = λ k i. let both = and_parts (nat_lt k (length made)) (test (get_or made k d)) (sym (h k) ∙ same k ∙ i) in (omega arith, omega (arith, ltb-true k (length made) both.0), both.1);
      complete = λ k l m t. sym (same k) ∙ h k ∙ and_from (nat_lt k (length made)) (test (get_or made k d)) (lt-ltb k (length made) (omega (arith, m))) t;
    })
