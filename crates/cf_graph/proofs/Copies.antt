-- How often a name or a place stands in a list.
use Rattle.std.proofs.Common.{◌≡◌, ℕ, zero, suc, ◌+◌, ◌<◌, ◌≤◌, List, [], ◌∷◌, cond, nat_eq, length, get_or, take, refl, ap, sym, ◌∙◌, ⊎_elim, arith, add-one}
use Rattle.std.proofs.lemmas.Bool.{eq-eqb, ne_eqb, cases_eq}
use Rattle.std.proofs.lemmas.List.Sums.{count_by_more_yes, sum_by-take-le}
use Rattle.cf_graph.specs.Waiting.{times, copies, row_needs}

-- a place stands once more in a list than before its own turn
pub copies_below : (xs : List ℕ) (i : ℕ) → i < length xs → copies (get_or xs i 0) (take i xs) + 1 ≤ copies (get_or xs i 0) xs
copies_below xs i h =
    let x = get_or xs i 0 in
    omega (arith, count_by_more_yes (λ p. nat_eq x p) xs i 0 h (eq-eqb x x refl), sum_by-take-le (λ p. cond (nat_eq x p) 1 0) xs (i + 1))

pub in_range : (xs : List ℕ) (p : ℕ) → 0 < get_or xs p 0 → p < length xs
in_range [] p h = absurd (omega arith)
in_range (x ∷ xs) zero h = omega arith
in_range (x ∷ xs) (suc p) h = omega (arith, in_range xs p h)

eqb_suc : (i p : ℕ) → nat_eq (suc i) (suc p) ≡ nat_eq i p
eqb_suc i p = ⊎_elim
    (λ e. eq-eqb (suc i) (suc p) (ap suc e) ∙ sym (eq-eqb i p e))
    (λ ne. ne_eqb (suc i) (suc p) (λ e. ne (omega (arith, e))) ∙ sym (ne_eqb i p ne))
    (cases_eq i p)

-- of the first resources and one more
times_suc : (q : List ℕ) (all : List (List ℕ × List (List ℕ))) (i p : ℕ) → i < length all → times q (row_needs (take (suc i) all) p) ≡ times q (row_needs (take i all) p) + cond (nat_eq i p) (times q (row_needs all i)) 0
times_suc q [] i p h = absurd (omega arith)
times_suc q (r ∷ all) zero zero h = omega arith
times_suc q (r ∷ all) zero (suc p) h = rw (ne_eqb 0 (suc p) (λ e. omega arith)) (omega arith)
times_suc q (r ∷ all) (suc i) zero h = rw (ne_eqb (suc i) 0 (λ e. omega arith)) (omega arith)
times_suc q (r ∷ all) (suc i) (suc p) h = rw (eqb_suc i p) (times_suc q all i p (omega arith))

pub times_more : (q : List ℕ) (all : List (List ℕ × List (List ℕ))) (i p : ℕ) → i < length all → times q (row_needs (take (i + 1) all) p) ≡ times q (row_needs (take i all) p) + cond (nat_eq i p) (times q (row_needs all i)) 0
times_more q all i p h = rw add-one (times_suc q all i p h)
