-- The first of a list in byte order, by the text that each goes by.
use Rattle.std.proofs.Common.{◌≡◌, ◌⊎◌, inl, inr, ℕ, suc, ◌+◌, ◌<◌, Bool, true, false, List, [], ◌∷◌, Option, Some, None, option_map, length, take, get_or, refl, ap, sym, ◌∙◌, subst, arith, if◌then◌else◌, true≢false}
use Rattle.std.specs.Prelude.{filter_map, fold}
use Rattle.std.specs.Option.{option_to_list}
use Rattle.std.proofs.lemmas.List.Sums.{fold-append}
use Rattle.std.proofs.lemmas.Option.{none-some, same_Some}
use Rattle.std.specs.Ordering.{nat_cmp, is_lt, ordering_reverse}
use Rattle.std.specs.declared.cmp.Ordering.{Ordering}
use Rattle.std.specs.declared.cmp.Ordering.TheVariants.{Less, Equal, Greater}
use Rattle.std.specs.Cmp.Lexicographic.{slice_cmp, nat_list_cmp_total, texts_ties}
use Rattle.std.proofs.lemmas.Bool.{false_from_ne_true}
use Rattle.cf_tree.specs.Keys.{bytes_lt}
use Rattle.cf_tree.specs.Lists.{In, here, least_by, there}
use Rattle.cf_desired.specs.declared.flaw.Flaw.{Flaw}
use Rattle.cf_desired.specs.declared.wanted.Plan.{Plan}
use Rattle.cf_desired.specs.declared.wanted.Wanted.{Wanted}
use Rattle.cf_plan.specs.Done.{are_met}
use Rattle.cf_plan.specs.Failed.{flaw_planned, flaw_found}
use Rattle.cf_plan.proofs.Listed.{bytes_same, in_cons, in_none, mapped_more}

less_from : (o : Ordering) → is_lt o ≡ true → o ≡ Less
less_from Less h = refl
less_from Equal h = absurd (true≢false (sym h))
less_from Greater h = absurd (true≢false (sym h))

lt_trans : (a b c : List ℕ) → bytes_lt a b ≡ true → bytes_lt b c ≡ true → bytes_lt a c ≡ true
lt_trans a b c h g = ap is_lt (nat_list_cmp_total.trans a b c (less_from _ h) (less_from _ g))

not_itself : (a : List ℕ) → bytes_lt a a ≡ false
not_itself a = by_order (slice_cmp nat_cmp a a) (nat_list_cmp_total.antisymm a a)
  where
    by_order : (o : Ordering) → o ≡ ordering_reverse o → is_lt o ≡ false
    by_order Less h = absurd (true≢false (ap is_lt h))
    by_order Equal h = refl
    by_order Greater h = refl

-- where one is not below another, it comes behind it, or is the same
behind : (c a : List ℕ) → bytes_lt c a ≡ false → (bytes_lt a c ≡ true) ⊎ (c ≡ a)
behind c a h = by_order (slice_cmp nat_cmp c a) refl
  where
    by_order : (o : Ordering) → slice_cmp nat_cmp c a ≡ o → (bytes_lt a c ≡ true) ⊎ (c ≡ a)
    by_order Less e = absurd (true≢false (sym (ap is_lt e) ∙ h))
    by_order Equal e = inr (bytes_same c a (texts_ties c a ∙ rw e refl))
    by_order Greater e = inl (ap is_lt (nat_list_cmp_total.antisymm a c ∙ ap ordering_reverse e))

below : (x c a : List ℕ) → bytes_lt x c ≡ false → bytes_lt c a ≡ false → bytes_lt x a ≡ false
below x c a h g = false_from_ne_true (bytes_lt x a) (λ t. elim (behind c a g) [
  | inl k ↦ true≢false (sym (lt_trans x a c t k) ∙ h)
  | inr k ↦ true≢false (sym (subst (λ z. bytes_lt x z ≡ true) (sym k) t) ∙ h)
])

module _ {A : Type 0} (text : A → List ℕ) where
  abbrev lesser : Option A → A → Option A
  lesser = least_by text

  -- one more is folded in
  pub folded_more :
      {X : Type 0} (f : X → Option A) (xs : List X) (i : ℕ) (d : X) (a mid o new : Option A) → i < length xs → d ≡ get_or xs i d
      → mid ≡ fold lesser a (filter_map f (take i xs)) → o ≡ f d → new ≡ fold lesser mid (option_to_list o)
      → new ≡ fold lesser a (filter_map f (take (i + 1) xs))
  folded_more f xs i d a mid o new l at was is now =
      let next : suc i ≡ i + 1 = omega arith in
      now ∙ ap (λ m. fold lesser m (option_to_list o)) was
      ∙ ap (λ x. fold lesser (fold lesser a (filter_map f (take i xs))) (option_to_list x)) (is ∙ ap f at)
      ∙ sym (fold-append lesser a (filter_map f (take i xs)) (option_to_list (f (get_or xs i d))))
      ∙ ap (fold lesser a) (sym (mapped_more f xs i d l)) ∙ ap (λ k. fold lesser a (filter_map f (take k xs))) next

  fold_by : (c x : A) (xs : List A) (a : A) (b : Bool) → bytes_lt (text x) (text c) ≡ b → (lesser (Some c) x ≡ Some a) ⊎ In a xs → (Some c ≡ Some a) ⊎ In a (x ∷ xs)
  fold_by c x xs a b k (inr i) = inr (there i)
  fold_by c x xs a true k (inl f) = let one : lesser (Some c) x ≡ Some x = rw k refl in inr (subst (λ z. In a (z ∷ xs)) (sym (same_Some x a (sym one ∙ f))) here)
  fold_by c x xs a false k (inl f) = let one : lesser (Some c) x ≡ Some c = rw k refl in inl (sym one ∙ f)

  -- what the fold gives is where it began, or one of the list
  from_fold : (o : Option A) (xs : List A) (a : A) → fold lesser o xs ≡ Some a → (o ≡ Some a) ⊎ In a xs
  from_fold o [] a e = inl e
  from_fold None (x ∷ xs) a e = elim (from_fold (Some x) xs a e) [ inl k ↦ inr (subst (λ c. In a (c ∷ xs)) (sym (same_Some x a k)) here) | inr k ↦ inr (there k) ]
  from_fold (Some c) (x ∷ xs) a e = fold_by c x xs a (bytes_lt (text x) (text c)) refl (from_fold (lesser (Some c) x) xs a e)

  two_low : (c x a : A) (b : Bool) → bytes_lt (text x) (text c) ≡ b → ((d : A) → (if b then Some x else Some c) ≡ Some d → bytes_lt (text d) (text a) ≡ false)
      → (bytes_lt (text c) (text a) ≡ false) × (bytes_lt (text x) (text a) ≡ false)
  two_low c x a true k h =
      let xa = h x refl in (false_from_ne_true (bytes_lt (text c) (text a)) (λ t. true≢false (sym (lt_trans (text x) (text c) (text a) k t) ∙ xa)), xa)
  two_low c x a false k h = let ca = h c refl in (ca, below (text x) (text c) (text a) k ca)

  low : (xs : List A) (o : Option A) (a : A) → fold lesser o xs ≡ Some a
      → ((c : A) → o ≡ Some c → bytes_lt (text c) (text a) ≡ false) × ((b : A) → In b xs → bytes_lt (text b) (text a) ≡ false)
  low [] o a e = (λ c f. subst (λ (z : A). bytes_lt (text z) (text a) ≡ false) (sym (same_Some c a (sym f ∙ e))) (not_itself (text a)), λ b i. absurd (in_none i))
  low (x ∷ xs) None a e =
      let h = low xs (Some x) a e in
      (λ c f. absurd (none-some c f), λ b i. elim (in_cons i) [ inl k ↦ subst (λ (z : A). bytes_lt (text z) (text a) ≡ false) k (h.0 x refl) | inr j ↦ h.1 b j ])
  low (x ∷ xs) (Some c) a e =
      let h = low xs (lesser (Some c) x) a e in
      let p = two_low c x a (bytes_lt (text x) (text c)) refl h.0 in (
        λ d f. subst (λ (z : A). bytes_lt (text z) (text a) ≡ false) (same_Some c d f) p.0,
        λ b i. elim (in_cons i) [ inl k ↦ subst (λ (z : A). bytes_lt (text z) (text a) ≡ false) k p.1 | inr j ↦ h.1 b j ],
      )

  pub lesser_some : (o : Option A) (a : A) → lesser o a ≡ None → ⊥
  lesser_some None a e = none-some a (sym e)
  lesser_some (Some c) a e = by (bytes_lt (text a) (text c)) e where
    by : (b : Bool) → (if b then Some a else Some c) ≡ None → ⊥
    by true k = none-some a (sym k)
    by false k = none-some c (sym k)

  keep_by : (x c : A) (xs : List A) (b : Bool) → bytes_lt (text x) (text c) ≡ b → ((d : A) → fold lesser (Some d) xs ≡ None → ⊥) → fold lesser (Some c) (x ∷ xs) ≡ None → ⊥
  keep_by x c xs true k h e = let one : lesser (Some c) x ≡ Some x = rw k refl in h x (ap (λ o. fold lesser o xs) (sym one) ∙ e)
  keep_by x c xs false k h e = let one : lesser (Some c) x ≡ Some c = rw k refl in h c (ap (λ o. fold lesser o xs) (sym one) ∙ e)

  keeps : (xs : List A) (c : A) → fold lesser (Some c) xs ≡ None → ⊥
  keeps [] c e = none-some c (sym e)
  keeps (x ∷ xs) c e = keep_by x c xs (bytes_lt (text x) (text c)) refl (keeps xs) e

  -- the least is one of them, and none is below it; where there is no least, there is none
  pub least_in : (xs : List A) (a : A) → fold lesser None xs ≡ Some a → In a xs
  least_in xs a e = elim (from_fold None xs a e) [ inl k ↦ absurd (none-some a k) | inr i ↦ i ]

  pub least_low : (xs : List A) (a : A) → fold lesser None xs ≡ Some a → (b : A) → In b xs → bytes_lt (text b) (text a) ≡ false
  least_low xs a e = (low xs None a e).1

  pub none_least : (xs : List A) → fold lesser None xs ≡ None → xs ≡ []
  none_least [] e = refl
  none_least (x ∷ xs) e = absurd (keeps xs x e)

  pub least_none : (xs : List A) → fold lesser None xs ≡ None → (b : A) → In b xs → ⊥
  least_none xs e b i = absurd (in_none (subst (In b) (none_least xs e) i))

-- of a path without a flaw none is found, whatever it needs
pub none_found : (before now : Plan) (done : List (List ℕ)) (w : Wanted) → flaw_planned w.path now ≡ None → flaw_found before now done w ≡ None
none_found before now done w h =
    ap (λ o. if are_met w.path before done then option_map (λ f. (w.path, f)) o else None) h ∙ either (are_met w.path before done)
  where
    nothing : Option (List ℕ × Flaw)
    nothing = None

    either : (b : Bool) → (if b then nothing else nothing) ≡ nothing
    either true = refl
    either false = refl
