-- What a set has after one more was put in.
use Rattle.std.proofs.Common.{◌≡◌, ℕ, List, Bool, true, false, cond, ◌||◌, nat_eq, refl, ap, sym, ◌∙◌, ⊎_elim, arith, ◌+◌, ◌<◌, length, get_or, take}
use Rattle.std.specs.Ordering.{nat_cmp, is_eq}
use Rattle.std.specs.Str.{bytes_eq}
use Rattle.std.specs.List.{list_any}
use Rattle.std.proofs.lemmas.List.Folds.{list_any_more}
use Rattle.std.specs.Cmp.Lexicographic.{slice_cmp}
use Rattle.std.specs.BTreeSet.{BTreeSet, contains, Updates}
use Rattle.std.proofs.lemmas.Bool.{cases_eq}
use Rattle.std.proofs.lemmas.Grind.{common_steps}
use Rattle.std.proofs.lemmas.Map.Text.{is_eq-slice_cmp}
use Rattle.cf_graph.proofs.Placing.{flip}

pub is_eq_nat : (x q : ℕ) → is_eq (nat_cmp x q) ≡ nat_eq q x
is_eq_nat x q = ⊎_elim
    (λ (e : x ≡ q). grind (arith, common_steps))
    (λ (ne : x ≡ q → ⊥). grind (arith, common_steps))
    (cases_eq x q)

pub is_eq_place : (p k : ℕ) → is_eq (nat_cmp p k) ≡ nat_eq p k
is_eq_place p k = ⊎_elim
    (λ (e : p ≡ k). grind (arith, common_steps))
    (λ (ne : p ≡ k → ⊥). grind (arith, common_steps))
    (cases_eq p k)

put_in : (b a : Bool) → cond b true a ≡ (a || b)
put_in true true = refl
put_in true false = refl
put_in false true = refl
put_in false false = refl

pub has_place : (s n : BTreeSet ℕ) (x : ℕ) → Updates nat_cmp s n x true → (q : ℕ) → contains nat_cmp n q ≡ (contains nat_cmp s q || nat_eq q x)
has_place s n x h q = h.0 q ∙ put_in (is_eq (nat_cmp x q)) (contains nat_cmp s q) ∙ ap (λ b. contains nat_cmp s q || b) (is_eq_nat x q)

pub has_text : (s n : BTreeSet (List ℕ)) (x : List ℕ) → Updates (slice_cmp nat_cmp) s n x true → (q : List ℕ) → contains (slice_cmp nat_cmp) n q ≡ (contains (slice_cmp nat_cmp) s q || bytes_eq q x)
has_text s n x h q =
    h.0 q ∙ put_in (is_eq (slice_cmp nat_cmp x q)) (contains (slice_cmp nat_cmp) s q) ∙ ap (λ b. contains (slice_cmp nat_cmp) s q || b) (is_eq-slice_cmp x q ∙ flip x q)

or_assoc : (a b c : Bool) → ((a || b) || c) ≡ (a || (b || c))
or_assoc true b c = refl
or_assoc false b c = refl

-- a set that has what it had and the first places of a list, after one more
pub has_more : (init s n : BTreeSet ℕ) (places : List ℕ) (i : ℕ) → i < length places → Updates nat_cmp s n (get_or places i 0) true → ((q : ℕ) → contains nat_cmp s q ≡ (contains nat_cmp init q || list_any (nat_eq q) (take i places))) → (q : ℕ) → contains nat_cmp n q ≡ (contains nat_cmp init q || list_any (nat_eq q) (take (i + 1) places))
has_more init s n places i l h so_far q =
    has_place s n (get_or places i 0) h q ∙ ap (λ b. b || nat_eq q (get_or places i 0)) (so_far q)
    ∙ or_assoc (contains nat_cmp init q) (list_any (nat_eq q) (take i places)) (nat_eq q (get_or places i 0))
    ∙ ap (λ b. contains nat_cmp init q || b) (sym (list_any_more (nat_eq q) places i 0 l))
