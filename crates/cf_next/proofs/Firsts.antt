-- What a walk for the first of a list in an order finds: none that passes comes before it.
use Rattle.std.proofs.Common.{◌≡◌, ◌⊎◌, inl, inr, ℕ, nat_lt, arith, Bool, true, false, ◌&&◌, List, [], ◌∷◌, Option, Some, None, cond, fold, refl, ap, sym, ◌∙◌, subst}
use Rattle.std.specs.Cmp.{first_so, second_so}
use Rattle.std.proofs.lemmas.Bool.{lt-ltb, ltb-true, and_from}
use Rattle.cf_effect.specs.declared.held.Pending.{Pending}
use Rattle.cf_tree.specs.Lists.{there}
use Rattle.cf_tree.specs.Lists.{here}
use Rattle.cf_tree.specs.Lists.{In}
use Rattle.cf_plan.specs.Start.{Start}
use Rattle.cf_plan.proofs.Listed.{in_cons, in_none}
use Rattle.cf_plan.proofs.Members.{false_from, not_both}
use Rattle.cf_next.specs.declared.offer.Keeping.{Keeping}
use Rattle.cf_next.specs.First.{better, first_by, is_keeping_before, is_opened_before, is_start_before, keeping_place, start_place}
use Rattle.cf_next.proofs.Orders.{IsOrder, precedes_in_order}

-- by what stands for each
placed : {A B : Type 0} (place : A → B) (before : B → B → Bool) → IsOrder before → IsOrder (λ a b. before (place a) (place b))
placed place before order = record {
  not_itself = λ a. order.not_itself (place a);
  goes_on = λ a b c. order.goes_on (place a) (place b) (place c);
}

numbers : IsOrder nat_lt
numbers = record {
  not_itself = λ n. false_from (nat_lt n n) (λ t. let l = ltb-true n n t in omega (arith, l));
  goes_on = λ n m k t u. let l = ltb-true n m t in let g = ltb-true m k u in lt-ltb n k (omega (arith, l, g));
}

pub opened_in_order : IsOrder is_opened_before
opened_in_order = placed (λ (p : Pending). p.token) nat_lt numbers

pub starts_in_order : IsOrder is_start_before
starts_in_order = placed start_place _ precedes_in_order

pub keepings_in_order : IsOrder is_keeping_before
keepings_in_order = placed keeping_place _ precedes_in_order

module _ {A : Type 0} (before : A → A → Bool) (order : IsOrder before) (test : A → Bool) where
  -- of those of a kind
  abbrev pub IsFirst : (A → Type 0) → Option A → Type 0
  IsFirst M None = (b : A) → M b → test b ≡ false
  IsFirst M (Some a) = M a × (test a ≡ true) × ((b : A) → M b → test b ≡ true → before b a ≡ false)

  alike : (M N : A → Type 0) → ((b : A) → M b → N b) → ((b : A) → N b → M b) → (o : Option A) → IsFirst M o → IsFirst N o
  alike M N to from None f = λ b n. f b (from b n)
  alike M N to from (Some a) (m, t, least) = (to a m, t, λ b n u. least b (from b n) u)

  module _ (M : A → Type 0) (x : A) where
    abbrev More : A → Type 0
    More b = M b ⊎ (b ≡ x)

    leads : ((b : A) → M b → test b ≡ true → before b x ≡ false) → test x ≡ true → IsFirst More (Some x)
    leads least t = (inr refl, t, λ b m u. elim m [ inl k ↦ least b k u | inr s ↦ subst (λ (y : A). before y x ≡ false) (sym s) (order.not_itself x) ])

    one : (o : Option A) → IsFirst M o → IsFirst More (better before test o x)
    one None f = by (test x) refl
      where
        by : (t : Bool) → test x ≡ t → IsFirst More (cond t (Some x) None)
        by true e = leads (λ b k u. absurd (not_both (test b) u (f b k))) e
        by false e = λ b m. elim m [ inl k ↦ f b k | inr s ↦ ap test s ∙ e ]
    one (Some a) (i, t, least) = by (before x a && test x) refl
      where
        by : (c : Bool) → (before x a && test x) ≡ c → IsFirst More (cond c (Some x) (Some a))
        by true e =
            leads (λ b k u. false_from (before b x) (λ w. not_both (before b a) (order.goes_on b x a w (first_so (before x a) (test x) e)) (least b k u)))
            (second_so (before x a) (test x) e)
        by false e = (
          inl i,
          t,
          λ b m u. elim m [
            | inl k ↦ least b k u
            | inr s ↦
                subst (λ (y : A). before y a ≡ false) (sym s)
                (false_from (before x a) (λ w. not_both (before x a && test x) (and_from (before x a) (test x) w (sym (ap test s) ∙ u)) e))
          ],
        )

  all : (xs : List A) (M : A → Type 0) (o : Option A) → IsFirst M o → IsFirst (λ b. M b ⊎ In b xs) (fold (better before test) o xs)
  all [] M o f = alike M (λ b. M b ⊎ In b []) (λ b m. inl m) (λ b n. elim n [ inl m ↦ m | inr i ↦ absurd (in_none i) ]) o f
  all (x ∷ xs) M o f =
      alike (λ b. More M x b ⊎ In b xs) (λ b. M b ⊎ In b (x ∷ xs))
      (λ b n. elim n [
        | inl m ↦ elim m [ inl k ↦ inl k | inr s ↦ inr (subst (λ (y : A). In y (x ∷ xs)) (sym s) here) ]
        | inr i ↦ inr (there i)
      ])
      (λ b n. elim n [
        | inl k ↦ inl (inl k)
        | inr i ↦ elim (in_cons i) [ inl s ↦ inl (inr (sym s)) | inr j ↦ inr j ]
      ])
      (fold (better before test) (better before test o x) xs)
      (all xs (More M x) (better before test o x) (one M x o f))

  pub first_is : (xs : List A) → IsFirst (λ b. In b xs) (first_by before test xs)
  first_is xs =
      alike (λ b. ⊥ ⊎ In b xs) (λ b. In b xs) (λ b n. elim n [ inl w ↦ absurd w | inr i ↦ i ]) (λ b i. inr i) (first_by before test xs)
      (all xs (λ b. ⊥) None (λ b w. absurd w))
