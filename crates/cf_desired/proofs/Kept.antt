-- Pairs of which some are left out keep their order, and what stands under a name is found as before.
use Rattle.std.proofs.Common.{◌≡◌, ℕ, List, [], ◌∷◌, Bool, true, false, ◌&&◌, Option, Some, None, option_map, option_and_then, filter_map, refl, ap, sym, ◌∙◌, subst, true≢false}
use Rattle.std.specs.List.{cons_option}
use Rattle.std.specs.Ordering.{is_lt}
use Rattle.std.specs.declared.cmp.Ordering.{Ordering}
use Rattle.std.specs.declared.cmp.Ordering.TheVariants.{Less, Equal, Greater}
use Rattle.std.specs.Cmp.{first_so, second_so}
use Rattle.std.specs.Cmp.Lexicographic.{nat_list_cmp_total}
use Rattle.std.specs.Str.{bytes_eq}
use Rattle.std.proofs.lemmas.Slice.Eq.{bytes_eq-Decides}
use Rattle.cf_tree.specs.Keys.{bytes_lt, ascends_from, ascends, value_at}
use Rattle.cf_tree.proofs.Lookups.{value_below}

is_less : (o : Ordering) → is_lt o ≡ true → o ≡ Less
is_less Less h = refl
is_less Equal h = absurd (true≢false (sym h))
is_less Greater h = absurd (true≢false (sym h))

lower : (j k l : List ℕ) → bytes_lt j k ≡ true → bytes_lt k l ≡ true → bytes_lt j l ≡ true
lower j k l g h = ap is_lt (nat_list_cmp_total.trans j k l (is_less _ g) (is_less _ h))

pub both : (a b : Bool) → a ≡ true → b ≡ true → (a && b) ≡ true
both a b g h = rw (g, h) refl

pub past : {X : Type 0} (j k : List ℕ) (ps : List (List ℕ × X)) → bytes_lt j k ≡ true → ascends_from k ps ≡ true → ascends_from j ps ≡ true
past j k [] g h = refl
past j k (p ∷ ps) g h =
    both _ _ (lower j k p.0 g (first_so (bytes_lt k p.0) (ascends_from p.0 ps) h)) (second_so (bytes_lt k p.0) (ascends_from p.0 ps) h)

module _ {A B : Type 0} (f : A → Option B) where
  -- what f gives of a value, under its name
  abbrev pub under : List ℕ × A → Option (List ℕ × B)
  under p = option_map (λ b. (p.0, b)) (f p.1)

  one_from : (j k : List ℕ) (o : Option B) (qs : List (List ℕ × B)) → bytes_lt j k ≡ true → ascends_from k qs ≡ true → ascends_from j (cons_option (option_map (λ b. (k, b)) o) qs) ≡ true
  one_from j k None qs g h = past j k qs g h
  one_from j k (Some b) qs g h = both _ _ g h

  kept_from : (k : List ℕ) (ps : List (List ℕ × A)) → ascends_from k ps ≡ true → ascends_from k (filter_map under ps) ≡ true
  kept_from k [] h = refl
  kept_from k (p ∷ ps) h =
      one_from k p.0 (f p.1) (filter_map under ps) (first_so (bytes_lt k p.0) (ascends_from p.0 ps) h) (kept_from p.0 ps (second_so (bytes_lt k p.0) (ascends_from p.0 ps) h))

  first_kept : (k : List ℕ) (o : Option B) (qs : List (List ℕ × B)) → ascends_from k qs ≡ true → ascends (cons_option (option_map (λ b. (k, b)) o) qs) ≡ true
  first_kept k None [] h = refl
  first_kept k None (q ∷ qs) h = second_so (bytes_lt k q.0) (ascends_from q.0 qs) h
  first_kept k (Some b) qs h = h

  pub kept_ascend : (ps : List (List ℕ × A)) → ascends ps ≡ true → ascends (filter_map under ps) ≡ true
  kept_ascend [] h = refl
  kept_ascend (p ∷ ps) h = first_kept p.0 (f p.1) (filter_map under ps) (kept_from p.0 ps h)

  here : (name : List ℕ) (p : List ℕ × A) (o : Option B) (qs : List (List ℕ × B)) → bytes_eq name p.0 ≡ true → ascends_from p.0 qs ≡ true → value_at name (cons_option (option_map (λ b. (p.0, b)) o) qs) ≡ o
  here name p None qs e h = subst (λ (k : List ℕ). value_at k qs ≡ None) (sym ((bytes_eq-Decides name p.0).0 e)) (value_below p.0 qs h)
  here name p (Some b) qs e h = rw e refl

  beyond : (name k : List ℕ) (o : Option B) (qs : List (List ℕ × B)) → bytes_eq name k ≡ false → value_at name (cons_option (option_map (λ b. (k, b)) o) qs) ≡ value_at name qs
  beyond name k None qs e = refl
  beyond name k (Some b) qs e = rw e refl

  looked : (name : List ℕ) (p : List ℕ × A) (ps : List (List ℕ × A)) (same : Bool) → bytes_eq name p.0 ≡ same → ascends_from p.0 ps ≡ true
      → value_at name (filter_map under ps) ≡ option_and_then f (value_at name ps) → value_at name (filter_map under (p ∷ ps)) ≡ option_and_then f (value_at name (p ∷ ps))
  looked name p ps true e h rest = here name p (f p.1) (filter_map under ps) e (kept_from p.0 ps h) ∙ rw e refl
  looked name p ps false e h rest = beyond name p.0 (f p.1) (filter_map under ps) e ∙ rest ∙ rw e refl

  pub rest_ascends : (k : List ℕ) (ps : List (List ℕ × A)) → ascends_from k ps ≡ true → ascends ps ≡ true
  rest_ascends k [] h = refl
  rest_ascends k (p ∷ ps) h = second_so (bytes_lt k p.0) (ascends_from p.0 ps) h

  pub value_kept : (name : List ℕ) (ps : List (List ℕ × A)) → ascends ps ≡ true → value_at name (filter_map under ps) ≡ option_and_then f (value_at name ps)
  value_kept name [] h = refl
  value_kept name (p ∷ ps) h = looked name p ps (bytes_eq name p.0) refl h (value_kept name ps (rest_ascends p.0 ps h))
