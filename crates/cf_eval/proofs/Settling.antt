-- The conditions of a template, one after another.
use Rattle.std.proofs.Common.{◌≡◌, ℕ, zero, suc, ◌<◌, ◌≤◌, List, [], ◌∷◌, ◌++◌, length, get_or, drop, map, Bool, true, false, ◌&&◌, Option, Some, None, refl, sym, ap, subst, ◌∙◌, true≢false, arith, append-nil}
use Rattle.std.specs.Prelude.{cond}
use Rattle.std.specs.Ordering.{nat_cmp, is_lt}
use Rattle.std.specs.Cmp.{first_so, second_so}
use Rattle.std.specs.Cmp.Lexicographic.{slice_cmp, nat_list_cmp_total, texts_ties}
use Rattle.std.specs.Str.{bytes_eq}
use Rattle.std.specs.declared.cmp.Ordering.{Ordering}
use Rattle.std.specs.declared.cmp.Ordering.TheVariants.{Less, Equal, Greater}
use Rattle.std.proofs.lemmas.Slice.Eq.{bytes_eq-Decides}
use Rattle.cf_tree.specs.Keys.{ascends, ascends_from, bytes_lt, value_at}
use Rattle.cf_tree.specs.Tests.{Test, place_of_test}
use Rattle.cf_tree.specs.declared.bound.Verdict.{Verdict}
use Rattle.cf_tree.specs.declared.bound.Verdict.TheVariants as verdict
use Rattle.cf_eval.specs.declared.fault.Stop as broken
use Rattle.cf_eval.specs.declared.fault.Stop.TheVariants as stop
use Rattle.cf_eval.specs.Outcome.{Outcome, got, later, bad, each}
use Rattle.cf_eval.proofs.Each.{each_after, each_is}
use Rattle.cf_eval.specs.Scope.{Scope}
use Rattle.cf_eval.specs.Scope.{verdict_of}
use Rattle.cf_eval.specs.Conditions.{condition_found, conditions_found, verdict_found, noted_verdict}
use Rattle.cf_eval.specs.Deciding.{Apart, AreNotedRight, left_of, noted_of}
use Rattle.cf_eval.specs.Gives.{part_of, Stops}
use Rattle.cf_eval.proofs.Noting.{all_left, right_nothing}

-- each condition stands under its name
less_from : (o : Ordering) → is_lt o ≡ true → o ≡ Less
less_from Less h = refl
less_from Equal h = absurd (true≢false (sym h))
less_from Greater h = absurd (true≢false (sym h))

apart_by : (k l : List ℕ) (b : Bool) → bytes_eq l k ≡ b → slice_cmp nat_cmp k l ≡ Less → b ≡ false
apart_by k l true e h =
    let same : l ≡ k = (bytes_eq-Decides l k).0 e in
    let less : slice_cmp nat_cmp k k ≡ Less = subst (λ m. slice_cmp nat_cmp k m ≡ Less) same h in
    absurd (true≢false (sym ((bytes_eq-Decides k k).1 refl) ∙ texts_ties k k ∙ rw less refl))
apart_by k l false e h = refl

module _ {X : Type 0} where
  above_first : (k : List ℕ) (ps : List (List ℕ × X)) → ascends_from k ps ≡ true → (i : ℕ) (d : List ℕ × X) → i < length ps → slice_cmp nat_cmp k (get_or ps i d).0 ≡ Less
  above_first k [] h i d l = absurd (omega arith)
  above_first k (p ∷ ps) h zero d l = less_from _ (first_so _ _ h)
  above_first k (p ∷ ps) h (suc i) d l = nat_list_cmp_total.trans k p.0 _ (less_from _ (first_so _ _ h)) (above_first p.0 ps (second_so (bytes_lt k p.0) _ h) i d (omega arith))

  others : (k : List ℕ) (ps : List (List ℕ × X)) → ascends_from k ps ≡ true → ascends ps ≡ true
  others k [] h = refl
  others k (p ∷ ps) h = second_so (bytes_lt k p.0) _ h

  pub stands_under : (ps : List (List ℕ × X)) → ascends ps ≡ true → (i : ℕ) (d : List ℕ × X) → i < length ps → value_at (get_or ps i d).0 ps ≡ Some (get_or ps i d).1
  stands_under [] h i d l = absurd (omega arith)
  stands_under (p ∷ ps) h zero d l = rw ((bytes_eq-Decides p.0 p.0).1 refl) refl
  stands_under (p ∷ ps) h (suc i) d l =
      rw (apart_by p.0 (get_or ps i d).0 (bytes_eq (get_or ps i d).0 p.0) refl (above_first p.0 ps h i d (omega arith))) (stands_under ps (others p.0 ps h) i d (omega arith))

module _ {X Y : Type 0} where
  from_names : (k : List ℕ) (ps : List (List ℕ × X)) (qs : List (List ℕ × Y)) → map (λ p. p.0) ps ≡ map (λ q. q.0) qs → ascends_from k ps ≡ ascends_from k qs
  from_names k [] [] e = refl
  from_names k [] (q ∷ qs) e = let no : ⊥ = cc in absurd no
  from_names k (p ∷ ps) [] e = let no : ⊥ = cc in absurd no
  from_names k (p ∷ ps) (q ∷ qs) e =
      let first : p.0 ≡ q.0 = cc in
      let rest : map (λ p. p.0) ps ≡ map (λ q. q.0) qs = cc in
      ap (λ n. bytes_lt k n && ascends_from n ps) first ∙ ap (λ b. bytes_lt k q.0 && b) (from_names q.0 ps qs rest)

  pub ascends_by_names : (ps : List (List ℕ × X)) (qs : List (List ℕ × Y)) → map (λ p. p.0) ps ≡ map (λ q. q.0) qs → ascends ps ≡ ascends qs
  ascends_by_names [] [] e = refl
  ascends_by_names [] (q ∷ qs) e = let no : ⊥ = cc in absurd no
  ascends_by_names (p ∷ ps) [] e = let no : ⊥ = cc in absurd no
  ascends_by_names (p ∷ ps) (q ∷ qs) e =
      let first : p.0 ≡ q.0 = cc in
      let rest : map (λ p. p.0) ps ≡ map (λ q. q.0) qs = cc in
      ap (λ n. ascends_from n ps) first ∙ from_names q.0 ps qs rest

-- a verdict with its name, and a fault
noted_part : (v : Verdict) → noted_verdict (part_of (verdict_of v)) ≡ got (verdict_of v)
noted_part verdict.True = refl
noted_part verdict.False = refl
noted_part verdict.Later = refl

pub verdict_known : (s : Scope) (conds : List (List ℕ × Test)) (c : List ℕ × Test) (v : Verdict) → ((at : List ℕ) → condition_found (length conds) s conds [] at c.0 ≡ part_of (verdict_of v)) → verdict_found s conds c ≡ got (c.0, verdict_of v)
verdict_known s conds c v h = rw (h (place_of_test c.1), noted_part v) refl

pub verdict_stops : (s : Scope) (conds : List (List ℕ × Test)) (c : List ℕ × Test) (w : broken.Stop) → ((at : List ℕ) → Stops (condition_found (length conds) s conds [] at c.0) w) → Stops (verdict_found s conds c) w
verdict_stops s conds c (stop.Bad why at) h = rw (h (place_of_test c.1)) refl
verdict_stops s conds c (stop.Below why stack at) h = rw (h (place_of_test c.1)) refl
verdict_stops s conds c (stop.Undecided name at) h = rw (h (place_of_test c.1)) refl
verdict_stops s conds c stop.NoMemory h = tt

-- nothing is under way
pub apart_none : (done : List (List ℕ × Verdict)) → Apart [] done
apart_none done m h = absurd (true≢false (sym h))

pub right_now : (s : Scope) (conds : List (List ℕ × Test)) (done : List (List ℕ × Verdict)) (name : List ℕ) (v : Verdict) → AreNotedRight s conds done → value_at name done ≡ Some v
    → (at : List ℕ) → condition_found (length conds) s conds [] at name ≡ part_of (verdict_of v)
right_now s conds done name v right h at = right name v h (length conds) [] at (apart_none done) (omega (arith, all_left conds))

-- what the loop over the conditions keeps
pub record IsSettling (s : Scope) (conds : List (List ℕ × Test)) (done verdicts : List (List ℕ × Verdict)) (rest : List (List ℕ × Test)) : Type 0 where
  pub right : AreNotedRight s conds done
  pub so_far : each (map (verdict_found s conds) conds) ≡ each_after false (map noted_of verdicts) (map (verdict_found s conds) rest)
  pub names : map (λ c. c.0) verdicts ++ map (λ c. c.0) rest ≡ map (λ c. c.0) conds

pub settling_first : (s : Scope) (conds items : List (List ℕ × Test)) (done verdicts : List (List ℕ × Verdict)) → items ≡ conds → done ≡ [] → verdicts ≡ [] → IsSettling s conds done verdicts items
settling_first s conds items done verdicts same none empty =
    subst (λ i. IsSettling s conds done verdicts i) (sym same)
    (subst (λ d. IsSettling s conds d verdicts conds) (sym none)
    (subst (λ v. IsSettling s conds [] v conds) (sym empty) (record { right = right_nothing s conds; so_far = each_is (map (verdict_found s conds) conds); names = refl })))

pub settling_stops : (s : Scope) (conds rest left : List (List ℕ × Test)) (done verdicts : List (List ℕ × Verdict)) (c : List ℕ × Test) (w : broken.Stop) → IsSettling s conds done verdicts rest → rest ≡ c ∷ left
    → ((at : List ℕ) → Stops (condition_found (length conds) s conds [] at c.0) w) → Stops (conditions_found s conds) w
settling_stops s conds rest left done verdicts c (stop.Bad why at) k e h =
    k.so_far ∙ ap (λ r. each_after false (map noted_of verdicts) (map (verdict_found s conds) r)) e
    ∙ ap (λ x. each_after false (map noted_of verdicts) (x ∷ map (verdict_found s conds) left)) (verdict_stops s conds c (stop.Bad why at) h)
settling_stops s conds rest left done verdicts c (stop.Below why stack at) k e h =
    k.so_far ∙ ap (λ r. each_after false (map noted_of verdicts) (map (verdict_found s conds) r)) e
    ∙ ap (λ x. each_after false (map noted_of verdicts) (x ∷ map (verdict_found s conds) left)) (verdict_stops s conds c (stop.Below why stack at) h)
settling_stops s conds rest left done verdicts c (stop.Undecided name at) k e h =
    k.so_far ∙ ap (λ r. each_after false (map noted_of verdicts) (map (verdict_found s conds) r)) e
    ∙ ap (λ x. each_after false (map noted_of verdicts) (x ∷ map (verdict_found s conds) left)) (verdict_stops s conds c (stop.Undecided name at) h)
settling_stops s conds rest left done verdicts c stop.NoMemory k e h = tt

pub settling_ascends : (s : Scope) (conds rest : List (List ℕ × Test)) (done verdicts : List (List ℕ × Verdict)) → IsSettling s conds done verdicts rest → rest ≡ [] → ascends conds ≡ true → ascends verdicts ≡ true
settling_ascends s conds rest done verdicts k e h =
    ascends_by_names verdicts conds (sym (append-nil (map (λ c. c.0) verdicts)) ∙ ap (λ r. map (λ c. c.0) verdicts ++ map (λ c. c.0) r) (sym e) ∙ k.names) ∙ h

pub item_stands : (conds items : List (List ℕ × Test)) (i : ℕ) (c : List ℕ × Test) → items ≡ conds → ascends items ≡ true → i < length items → c ≡ get_or items i c → value_at c.0 conds ≡ Some c.1
item_stands conds items i c same order inside is =
    subst (λ x. value_at x.0 conds ≡ Some x.1) (sym is) (subst (λ cs. value_at (get_or items i c).0 cs ≡ Some (get_or items i c).1) same (stands_under items order i c inside))
