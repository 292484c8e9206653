-- Ranks are written one after another.
use Rattle.std.proofs.Common.{◌≡◌, ℕ, zero, suc, ◌+◌, ◌<◌, ◌≤◌, ◌⊎◌, inl, inr, List, [], ◌∷◌, Option, Some, None, length, map, get_or, replicate, refl, sym, ◌∙◌, ap, arith, subst}
use Rattle.std.proofs.Math.ListN.{set}
use Rattle.std.specs.List.{slice_get}
use Rattle.std.proofs.lemmas.List.{length-set}
use Rattle.std.proofs.lemmas.Option.{none-some, same_Some, slice_get_within}
use Rattle.cf_ready.specs.Ready.{AreAll, AreRanks}

pub record AreRanked (n : ℕ) (order : List ℕ) (so_far : ℕ) (ranks : List ℕ) : Type 0 where
  pub count : length ranks ≡ n
  pub ranked : AreAll n order → (at rank : ℕ) → rank < so_far → slice_get order rank ≡ Some at → slice_get ranks at ≡ Some rank

-- what is read where one is set
pub read_there : {A : Type 0} (xs : List A) (i : ℕ) (x : A) → i < length xs → slice_get (set xs i x) i ≡ Some x
read_there [] i x l = absurd (omega (arith, l))
read_there (y ∷ xs) zero x l = refl
read_there (y ∷ xs) (suc i) x l = read_there xs i x (omega (arith, l))

pub read_else : {A : Type 0} (xs : List A) (i j : ℕ) (x : A) → (j ≡ i → ⊥) → slice_get (set xs i x) j ≡ slice_get xs j
read_else [] i j x n = refl
read_else (y ∷ xs) zero zero x n = absurd (n refl)
read_else (y ∷ xs) zero (suc j) x n = refl
read_else (y ∷ xs) (suc i) zero x n = refl
read_else (y ∷ xs) (suc i) (suc j) x n = read_else xs i j x (λ e. n (ap suc e))

pub same_or_not : (i j : ℕ) → (i ≡ j) ⊎ (i ≡ j → ⊥)
same_or_not zero zero = inl refl
same_or_not zero (suc j) = inr (λ e. omega (arith, e))
same_or_not (suc i) zero = inr (λ e. omega (arith, e))
same_or_not (suc i) (suc j) = elim (same_or_not i j) [ inl e ↦ inl (ap suc e) | inr n ↦ inr (λ e. n (omega (arith, e))) ]

pub none_ranked : (count : ℕ) (order ranks : List ℕ) → length ranks ≡ count → AreRanked count order 0 ranks
none_ranked count order ranks l = record { count = l; ranked = λ all at rank less h. absurd (omega (arith, less)) }

one_ranked : (count : ℕ) (order : List ℕ) (i at : ℕ) (old : List ℕ) → slice_get order i ≡ Some at → AreRanked count order i old → AreRanked count order (i + 1) (set old at i)
one_ranked count order i at old is a = record {
  count = length-set old at i ∙ a.count;
  ranked = λ all k rank less h. elim (same_or_not rank i) [
    | inl e ↦
        let same : k ≡ at = same_Some k at (sym h ∙ ap (slice_get order) e ∙ is) in
        let within = all.within i at is in
        subst (λ n. slice_get (set old at i) n ≡ Some rank) (sym same) (subst (λ n. slice_get (set old at i) at ≡ Some n) (sym e) (read_there old at i (omega (arith, within, a.count))))
    | inr n ↦
        let before : rank < i = lower rank i less n in
        read_else old at k i (λ e. n (all.once rank i at (subst (λ m. slice_get order rank ≡ Some m) e h) is)) ∙ a.ranked all k rank before h
  ];
} where
  lower : (rank i : ℕ) → rank < i + 1 → (rank ≡ i → ⊥) → rank < i
  lower rank i less n = elim (cases rank i less) [ inl e ↦ absurd (n e) | inr l ↦ l ] where
    cases : (rank i : ℕ) → rank < i + 1 → (rank ≡ i) ⊎ (rank < i)
    cases zero zero l = inl refl
    cases zero (suc i) l = inr (omega arith)
    cases (suc rank) zero l = absurd (omega (arith, l))
    cases (suc rank) (suc i) l = elim (cases rank i (omega (arith, l))) [ inl e ↦ inl (ap suc e) | inr k ↦ inr (omega (arith, k)) ]

named_at : {K : Type 0} (names : List (K × ℕ)) (i : ℕ) (p : K × ℕ) → i < length names → p ≡ get_or names i p → slice_get (map (λ q. q.1) names) i ≡ Some p.1
named_at [] i p l e = absurd (omega (arith, l))
named_at {K = K} (q ∷ names) zero p l e = ap (λ (r : K × ℕ). Some r.1) (sym e)
named_at (q ∷ names) (suc i) p l e = named_at names i p (omega (arith, l)) e

pub more_ranked : {K : Type 0} (count : ℕ) (names : List (K × ℕ)) (i : ℕ) (p : K × ℕ) (old new : List ℕ) → i < length names → p ≡ get_or names i p
    → new ≡ set old p.1 i → AreRanked count (map (λ q. q.1) names) i old → AreRanked count (map (λ q. q.1) names) (i + 1) new
more_ranked count names i p old new l e is a =
    subst (AreRanked count (map (λ q. q.1) names) (i + 1)) (sym is) (one_ranked count (map (λ q. q.1) names) i p.1 old (named_at names i p l e) a)

pub all_ranked : (count : ℕ) (order ranks : List ℕ) (n : ℕ) → length order ≤ n → AreRanked count order n ranks → AreAll count order → AreRanks order ranks
all_ranked count order ranks n l a all = record {
  by_place = λ at rank h. let within = slice_get_within order rank at h in a.ranked all at rank (omega (arith, within, l)) h;
  by_rank = λ at rank h.
      let under = slice_get_within ranks at rank h in
      let it = all.every at (omega (arith, under, a.count)) in
      let before = slice_get_within order it.0 at it.1 in
      let same : it.0 ≡ rank = same_Some it.0 rank (sym (a.ranked all at it.0 (omega (arith, before, l)) it.1) ∙ h) in
      subst (λ k. slice_get order k ≡ Some at) same it.1;
}
