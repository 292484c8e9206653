-- What is ready, and the first of it.
use Rattle.std.proofs.Common.{◌≡◌, ℕ, ◌⊎◌, inl, inr, ⊎_elim, List, true, false, None, ap, sym, ◌∙◌, arith, subst}
use Rattle.std.specs.Ordering.{nat_cmp}
use Rattle.std.specs.BTreeSet.{BTreeSet, contains, IsLowerBound, Updates}
use Rattle.std.proofs.lemmas.Bool.{cases_eq, true≢false}
use Rattle.std.proofs.lemmas.Map.Keys.{le_from_not_gt}
use Rattle.std.proofs.lemmas.Grind.{common_steps}
use Rattle.cf_tree.specs.Keys.{value_at}
use Rattle.cf_graph.specs.Waiting.{IsNextPlace, has_come, row_name}

module _ (before after : BTreeSet ℕ) (p : ℕ) (h : Updates nat_cmp before after p false) where
  pub was_there : (q : ℕ) → contains nat_cmp after q ≡ true → contains nat_cmp before q ≡ true
  was_there q a = ⊎_elim
      (λ (e : p ≡ q). absurd (true≢false (sym a ∙ ap (contains nat_cmp after) (sym e) ∙ h.1)))
      (λ (ne : p ≡ q → ⊥). sym (h.2 q (grind (arith, common_steps))) ∙ a)
      (cases_eq p q)

  pub is_there : (q : ℕ) → contains nat_cmp before q ≡ true → (q ≡ p) ⊎ (contains nat_cmp after q ≡ true)
  is_there q b = ⊎_elim
      (λ (e : p ≡ q). inl (sym e))
      (λ (ne : p ≡ q → ⊥). inr (h.2 q (grind (arith, common_steps)) ∙ b))
      (cases_eq p q)

module _ (all placed : List (List ℕ × List (List ℕ))) (init before after : BTreeSet ℕ)
    (fewer : (q : ℕ) → contains nat_cmp before q ≡ true → contains nat_cmp init q ≡ true)
    (others : (q : ℕ) → contains nat_cmp init q ≡ true → (has_come all placed q ≡ true) ⊎ (contains nat_cmp before q ≡ true))
    (p : ℕ) (h : Updates nat_cmp before after p false) where
  pub next_place : contains nat_cmp before p ≡ true → IsLowerBound nat_cmp before p → value_at (row_name all p) placed ≡ None → IsNextPlace all placed init after p
  next_place there least none = record {
    ready = fewer p there;
    open_still = none;
    first = λ q l i. ⊎_elim (λ e. e) (λ b. absurd (omega (arith, l, le_from_not_gt p q (least q b)))) (others q i);
    fewer = λ q a. fewer q (was_there before after p h q a);
    others = λ q i. ⊎_elim (λ e. inr (inl e)) (λ b. ⊎_elim (λ e. inl e) (λ a. inr (inr a)) (is_there before after p h q b)) (others q i);
  }

  pub still_fewer : (q : ℕ) → contains nat_cmp after q ≡ true → contains nat_cmp init q ≡ true
  still_fewer q a = fewer q (was_there before after p h q a)

  pub still_others : has_come all placed p ≡ true → (q : ℕ) → contains nat_cmp init q ≡ true → (has_come all placed q ≡ true) ⊎ (contains nat_cmp after q ≡ true)
  still_others come q i = ⊎_elim (λ e. inl e) (λ b. ⊎_elim (λ e. inl (subst (λ r. has_come all placed r ≡ true) (sym e) come)) (λ a. inr a) (is_there before after p h q b)) (others q i)
