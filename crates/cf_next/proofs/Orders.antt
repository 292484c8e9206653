-- Paths with physical ids are in order, and so are the places of steps.
use Rattle.std.proofs.Common.{◌≡◌, ◌⊎◌, inl, inr, ℕ, ◌<◌, ◌==◌, Bool, true, false, ◌&&◌, ◌||◌, nat_lt, List, arith, refl, ap, sym, ◌∙◌, subst}
use Rattle.std.specs.Cmp.{first_so, second_so}
use Rattle.std.specs.Ordering.{is_lt, nat_cmp, ordering_reverse}
use Rattle.std.specs.declared.cmp.Ordering.{Ordering}
use Rattle.std.specs.declared.cmp.Ordering.TheVariants.{Less, Equal, Greater}
use Rattle.std.specs.Cmp.Lexicographic.{nat_list_cmp_total, slice_cmp}
use Rattle.std.specs.Str.{bytes_eq}
use Rattle.std.proofs.lemmas.Map.Lookups.{exact_bytes}
use Rattle.std.proofs.lemmas.Bool.{ltb-true, lt-ltb, eqb-true, eq-eqb, or_cases, and_from}
use Rattle.std.proofs.lemmas.Slice.Eq.{bytes_eq-Decides}
use Rattle.cf_tree.specs.Keys.{bytes_lt}
use Rattle.cf_plan.proofs.Listed.{bytes_same, or_left, or_right}
use Rattle.cf_plan.proofs.Members.{false_from, not_both}
use Rattle.cf_plan.proofs.Orders.{lower, not_below_itself}
use Rattle.cf_next.specs.Chosen.{Place, is_placed_before, precedes}

-- nothing is before itself, and what is before something is before all after it
pub record IsOrder {A : Type 0} (before : A → A → Bool) : Type 0 where
  pub not_itself : (a : A) → before a a ≡ false
  pub goes_on : (a b c : A) → before a b ≡ true → before b c ≡ true → before a c ≡ true

precedes_not_itself : (k l : List ℕ) → precedes (k, l) (k, l) ≡ false
precedes_not_itself k l = rw (not_below_itself k) (by (bytes_eq k k))
  where
    by : (b : Bool) → (b && bytes_lt l l) ≡ false
    by true = not_below_itself l
    by false = refl

-- below, or the same and below in the second
abbrev Precedes : List ℕ × List ℕ → List ℕ × List ℕ → Type 0
Precedes a b = (bytes_lt a.0 b.0 ≡ true) ⊎ ((a.0 ≡ b.0) × (bytes_lt a.1 b.1 ≡ true))

is_so : (a b : List ℕ × List ℕ) → precedes a b ≡ true → Precedes a b
is_so a b e = by (or_cases (bytes_lt a.0 b.0) (bytes_eq a.0 b.0 && bytes_lt a.1 b.1) e)
  where
    by : (bytes_lt a.0 b.0 ≡ true) ⊎ ((bytes_eq a.0 b.0 && bytes_lt a.1 b.1) ≡ true) → Precedes a b
    by (inl l) = inl l
    by (inr w) = inr (bytes_same a.0 b.0 (first_so (bytes_eq a.0 b.0) (bytes_lt a.1 b.1) w), second_so (bytes_eq a.0 b.0) (bytes_lt a.1 b.1) w)

to_so : (a b : List ℕ × List ℕ) → Precedes a b → precedes a b ≡ true
to_so a b (inl l) = or_left (bytes_lt a.0 b.0) (bytes_eq a.0 b.0 && bytes_lt a.1 b.1) l
to_so a b (inr w) =
    or_right (bytes_lt a.0 b.0) (bytes_eq a.0 b.0 && bytes_lt a.1 b.1)
    (and_from (bytes_eq a.0 b.0) (bytes_lt a.1 b.1) ((bytes_eq-Decides a.0 b.0).1 w.0) w.1)

precedes_on : (a b c : List ℕ × List ℕ) → Precedes a b → Precedes b c → Precedes a c
precedes_on a b c (inl l) (inl m) = inl (lower a.0 b.0 c.0 l m)
precedes_on a b c (inl l) (inr m) = inl (subst (λ (k : List ℕ). bytes_lt a.0 k ≡ true) m.0 l)
precedes_on a b c (inr l) (inl m) = inl (subst (λ (k : List ℕ). bytes_lt k c.0 ≡ true) (sym l.0) m)
precedes_on a b c (inr l) (inr m) = inr (l.0 ∙ m.0, lower a.1 b.1 c.1 l.1 m.1)

pub precedes_in_order : IsOrder precedes
precedes_in_order = record {
  not_itself = λ a. precedes_not_itself a.0 a.1;
  goes_on = λ a b c l m. to_so a c (precedes_on a b c (is_so a b l) (is_so b c m));
}

-- of two places one precedes the other, or they are the same
names_compared : (k l : List ℕ) → (bytes_lt k l ≡ true) ⊎ ((k ≡ l) ⊎ (bytes_lt l k ≡ true))
names_compared k l = by (slice_cmp nat_cmp k l) refl
  where
    by : (o : Ordering) → slice_cmp nat_cmp k l ≡ o → (bytes_lt k l ≡ true) ⊎ ((k ≡ l) ⊎ (bytes_lt l k ≡ true))
    by Less e = inl (ap is_lt e)
    by Equal e = inr (inl (exact_bytes k l e))
    by Greater e = inr (inr (ap is_lt (nat_list_cmp_total.antisymm l k ∙ ap ordering_reverse e)))

pub compared : (a b : List ℕ × List ℕ) → (precedes a b ≡ true) ⊎ ((a ≡ b) ⊎ (precedes b a ≡ true))
compared a b = elim (names_compared a.0 b.0) [
  | inl l ↦ inl (to_so a b (inl l))
  | inr w ↦ elim w [
    | inl same ↦ elim (names_compared a.1 b.1) [
      | inl l ↦ inl (to_so a b (inr (same, l)))
      | inr v ↦ elim v [
        | inl alike ↦ inr (inl (λ i. (same i, alike i)))
        | inr l ↦ inr (inr (to_so b a (inr (sym same, l))))
      ]
    ]
    | inr l ↦ inr (inr (to_so b a (inl l)))
  ]
]

-- by a number, and where that is the same by what comes next
abbrev by_number : ℕ → ℕ → Bool → Bool
by_number n m q = nat_lt n m || (n == m && q)

abbrev Below : ℕ → ℕ → Bool → Type 0
Below n m q = (n < m) ⊎ ((n ≡ m) × (q ≡ true))

below_is : (n m : ℕ) (q : Bool) → by_number n m q ≡ true → Below n m q
below_is n m q e = by (or_cases (nat_lt n m) (n == m && q) e)
  where
    by : (nat_lt n m ≡ true) ⊎ ((n == m && q) ≡ true) → Below n m q
    by (inl l) = inl (ltb-true n m l)
    by (inr w) = inr (eqb-true n m (first_so (n == m) q w), second_so (n == m) q w)

is_below : (n m : ℕ) (q : Bool) → Below n m q → by_number n m q ≡ true
is_below n m q (inl l) = rw (lt-ltb n m l) refl
is_below n m q (inr w) = by (nat_lt n m)
  where
    by : (b : Bool) → (b || (n == m && q)) ≡ true
    by true = refl
    by false = and_from (n == m) q (eq-eqb n m w.0) w.1

below_on : (n m k : ℕ) (p q r : Bool) → (p ≡ true → q ≡ true → r ≡ true) → by_number n m p ≡ true → by_number m k q ≡ true → by_number n k r ≡ true
below_on n m k p q r on e f = is_below n k r (by (below_is n m p e) (below_is m k q f))
  where
    by : Below n m p → Below m k q → Below n k r
    by (inl l) (inl g) = inl (omega (arith, l, g))
    by (inl l) (inr w) = inl (subst (λ (j : ℕ). n < j) w.0 l)
    by (inr v) (inl g) = inl (subst (λ (j : ℕ). j < k) (sym v.0) g)
    by (inr v) (inr w) = inr (v.0 ∙ w.0, on v.1 w.1)

not_below : (n : ℕ) (q : Bool) → q ≡ false → by_number n n q ≡ false
not_below n q none = false_from (by_number n n q) (λ t. by (below_is n n q t))
  where
    by : Below n n q → ⊥
    by (inl l) = omega (arith, l)
    by (inr w) = not_both q w.1 none

abbrev spot : Place → List ℕ × List ℕ
spot p = (p.path, p.physical)

pub places_in_order : IsOrder is_placed_before
places_in_order = record {
  not_itself = λ a.
      not_below a.rank (by_number a.token a.token (precedes (spot a) (spot a)))
      (not_below a.token (precedes (spot a) (spot a)) (precedes_in_order.not_itself (spot a)));
  goes_on = λ a b c.
      below_on a.rank b.rank c.rank (by_number a.token b.token (precedes (spot a) (spot b))) (by_number b.token c.token (precedes (spot b) (spot c)))
      (by_number a.token c.token (precedes (spot a) (spot c)))
      (below_on a.token b.token c.token (precedes (spot a) (spot b)) (precedes (spot b) (spot c)) (precedes (spot a) (spot c))
      (precedes_in_order.goes_on (spot a) (spot b) (spot c)));
}
