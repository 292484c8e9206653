-- Of a list with at most so many members of each key there are at most so many for each of some keys, if it has no others.
use Rattle.std.proofs.Common.{◌≡◌, inl, inr, ℕ, ◌+◌, ◌*◌, ◌≤◌, Bool, true, false, not, cond, List, [], ◌∷◌, length, refl, sym, ◌∙◌, ap, true≢false, arith}
use Rattle.std.specs.Prelude.{filter}
use Rattle.std.proofs.lemmas.List.Filters.{length-filter_both}
use Rattle.cf_tree.specs.Lists.{In}
use Rattle.cf_tree.specs.Lists.In.{here}
use Rattle.cf_plan.proofs.CreatedRight.{in_filter}
use Rattle.cf_plan.proofs.Listed.{in_cons}

-- fewer are left of fewer
pub filtered_less : {A : Type 0} (p q : A → Bool) (xs : List A) → length (filter q (filter p xs)) ≤ length (filter q xs)
filtered_less p q [] = omega arith
filtered_less {A} p q (x ∷ xs) = by (p x) (filtered_less p q xs) where
  both : (b : Bool) (us vs : List A) → length us ≤ length vs → length (cond b (x ∷ us) us) ≤ length (cond b (x ∷ vs) vs)
  both true us vs less = omega (arith, less)
  both false us vs less = less

  more : (b : Bool) (us vs : List A) → length us ≤ length vs → length us ≤ length (cond b (x ∷ vs) vs)
  more true us vs less = omega (arith, less)
  more false us vs less = less

  by : (a : Bool) → length (filter q (filter p xs)) ≤ length (filter q xs)
      → length (filter q (cond a (x ∷ filter p xs) (filter p xs))) ≤ length (cond (q x) (x ∷ filter q xs) (filter q xs))
  by true less = both (q x) (filter q (filter p xs)) (filter q xs) less
  by false less = more (q x) (filter q (filter p xs)) (filter q xs) less

-- so many for each
abbrev pub so_many : {K : Type 0} → ℕ → List K → ℕ
so_many most [] = 0
so_many most (k ∷ ks) = most + so_many most ks

pub nine_each : {K : Type 0} (ks : List K) → so_many 9 ks ≡ 9 * length ks
nine_each [] = omega arith
nine_each (k ∷ ks) = let rest = nine_each ks in omega (arith, rest)

pub all_each : {K : Type 0} (ks : List K) → so_many 54 ks ≡ 54 * length ks
all_each [] = omega arith
all_each (k ∷ ks) = let rest = all_each ks in omega (arith, rest)

module _ {A K : Type 0} (same : K → K → Bool) (itself : (k : K) → same k k ≡ true) (key : A → K) (most : ℕ) where
  abbrev of_key : K → A → Bool
  of_key k x = same k (key x)

  abbrev of_others : K → A → Bool
  of_others k x = not (same k (key x))

  among_rest : (k : K) (ks : List K) (x : A) → In (key x) (k ∷ ks) → of_others k x ≡ true → In (key x) ks
  among_rest k ks x i other = elim (in_cons i) [
    | inl e ↦ absurd (true≢false (sym other ∙ ap not (ap (same k) (sym e) ∙ itself k)))
    | inr j ↦ j
  ]

  pub grouped : (ks : List K) (xs : List A) → ((x : A) → In x xs → In (key x) ks) → ((k : K) → length (filter (of_key k) xs) ≤ most)
      → length xs ≤ so_many most ks
  grouped [] [] among few = omega arith
  grouped [] (x ∷ xs) among few = elim (among x here) [ ]
  grouped (k ∷ ks) xs among few =
      let rest : List A = filter (of_others k) xs in
      let less : length rest ≤ so_many most ks =
      grouped ks rest (λ x i. let f = in_filter (of_others k) xs x i in among_rest k ks x (among x f.0) f.1)
      (λ j. let fewer = filtered_less (of_others k) (of_key j) xs in let all = few j in omega (arith, fewer, all)) in
      let both = length-filter_both (of_key k) (of_others k) (λ x. refl) xs in
      let of_it = few k in
      omega (arith, less, both, of_it)
