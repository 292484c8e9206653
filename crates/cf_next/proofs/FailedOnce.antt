-- The failed paths of an operation that ends are one list.
use Rattle.std.proofs.Common.{◌≡◌, ◌⊎◌, ◌↔◌, inl, inr, ℕ, Bool, true, false, List, [], ◌∷◌, refl, ap, sym, ◌∙◌, subst}
use Rattle.std.specs.Prelude.{IsTrue, MatchBool}
use Rattle.std.specs.Cmp.{first_so, second_so}
use Rattle.cf_tree.specs.Keys.{bytes_lt}
use Rattle.cf_entry.specs.Entry.{texts_ascend, texts_ascend_from}
use Rattle.cf_entry.specs.declared.status.Status.{Status}
use Rattle.cf_effect.specs.World.{StackState}
use Rattle.cf_tree.specs.Lists.{there}
use Rattle.cf_tree.specs.Lists.{here}
use Rattle.cf_tree.specs.Lists.{In}
use Rattle.cf_plan.specs.Follow.{AreFailed, is_failed_path, is_failed_status}
use Rattle.cf_plan.proofs.Members.{in_first, in_none, not_both}
use Rattle.cf_plan.proofs.Listed.{in_cons}
use Rattle.cf_plan.proofs.Orders.{lower, not_below_itself}

-- Two lists of names that ascend and have the same names are the same.
above : (k : List ℕ) (ts : List (List ℕ)) → texts_ascend_from k ts ≡ true → (p : List ℕ) → In p ts → bytes_lt k p ≡ true
above k [] e p i = absurd (in_none i)
above k (t ∷ ts) e p i =
    in_first (λ q. bytes_lt k q ≡ true) t ts (first_so (bytes_lt k t) (texts_ascend_from t ts) e)
    (λ q j. lower k t q (first_so (bytes_lt k t) (texts_ascend_from t ts) e) (above t ts (second_so (bytes_lt k t) (texts_ascend_from t ts) e) q j))
    p i

apart : (k : List ℕ) (ts : List (List ℕ)) → texts_ascend_from k ts ≡ true → texts_ascend ts ≡ true
apart k [] e = refl
apart k (t ∷ ts) e = second_so (bytes_lt k t) (texts_ascend_from t ts) e

abbrev Within : List (List ℕ) → List (List ℕ) → Type 0
Within ts us = (p : List ℕ) → In p ts → In p us

-- the first names are the same
firsts : (t u : List ℕ) (ts us : List (List ℕ)) → texts_ascend_from t ts ≡ true → texts_ascend_from u us ≡ true
    → Within (t ∷ ts) (u ∷ us) → Within (u ∷ us) (t ∷ ts) → t ≡ u
firsts t u ts us e f g h = by (at t u us (g t here)) (at u t ts (h u here))
  where
    at : (p q : List ℕ) (rs : List (List ℕ)) → In p (q ∷ rs) → (p ≡ q) ⊎ In p rs
    at p q rs i = elim (in_cons i) [ inl s ↦ inl (sym s) | inr j ↦ inr j ]

    by : (t ≡ u) ⊎ In t us → (u ≡ t) ⊎ In u ts → t ≡ u
    by (inl s) w = s
    by (inr i) (inl s) = sym s
    by (inr i) (inr j) = absurd (not_both (bytes_lt t t) (lower t u t (above t ts e u j) (above u us f t i)) (not_below_itself t))

-- and so are the others
behind : (t : List ℕ) (ts us : List (List ℕ)) → texts_ascend_from t ts ≡ true → Within (t ∷ ts) (t ∷ us) → Within ts us
behind t ts us e g p i = by (above t ts e p i) (g p (there i))
  where
    by : bytes_lt t p ≡ true → In p (t ∷ us) → In p us
    by l j = in_first (λ q. bytes_lt t q ≡ true → In q us) t us (λ m. absurd (not_both (bytes_lt t t) m (not_below_itself t))) (λ q k m. k) p j l

same_names : (ts us : List (List ℕ)) → texts_ascend ts ≡ true → texts_ascend us ≡ true → Within ts us → Within us ts → ts ≡ us
same_names [] [] e f g h = refl
same_names [] (u ∷ us) e f g h = absurd (in_none (h u here))
same_names (t ∷ ts) [] e f g h = absurd (in_none (g t here))
same_names (t ∷ ts) (u ∷ us) e f g h =
    let same = firsts t u ts us e f g h in
    let f' = subst (λ (k : List ℕ). texts_ascend_from k us ≡ true) (sym same) f in
    let g' = subst (λ (k : List ℕ). Within (t ∷ ts) (k ∷ us)) (sym same) g in
    let h' = subst (λ (k : List ℕ). Within (k ∷ us) (t ∷ ts)) (sym same) h in
    ap (λ (k : List ℕ). k ∷ ts) same
    ∙ ap (λ (ks : List (List ℕ)). u ∷ ks) (same_names ts us (apart t ts e) (apart t us f') (behind t ts us e g') (behind t us ts f' h'))

-- the failed paths of a stack at its end are one list
pub one_failed : (s : StackState) (state : Status) (ts us : List (List ℕ)) → AreFailed s state ts → AreFailed s state us → ts ≡ us
one_failed s state ts us a b = by (is_failed_status state) a b
  where
    Failed : Bool → List (List ℕ) → Type 0
    Failed c ns = MatchBool c (IsTrue (texts_ascend ns) × ((p : List ℕ) → In p ns ↔ IsTrue (is_failed_path s p))) (ns ≡ [])

    by : (c : Bool) → Failed c ts → Failed c us → ts ≡ us
    by true v w = same_names ts us v.0 w.0 (λ p i. (w.1 p).1 ((v.1 p).0 i)) (λ p i. (v.1 p).1 ((w.1 p).0 i))
    by false v w = v ∙ sym w
