-- One step of the order of work: which comes next, and what is counted and ready then.
use Rattle.std.proofs.Common.{◌≡◌, ℕ, zero, suc, ◌+◌, ◌-◌, ◌<◌, ◌≤◌, ◌⊎◌, inl, inr, ⊎_elim, List, [], ◌∷◌, ◌++◌, length, map, get_or, Bool, true, false, not, cond, ◌&&◌, ◌||◌, nat_eq, nat_lt, Option, Some, None, is_some, refl, ap, sym, ◌∙◌, subst, arith, true≢false, find}
use Rattle.std.specs.Ordering.{nat_cmp}
use Rattle.std.specs.BTreeSet.{BTreeSet, contains}
use Rattle.std.specs.List.{list_all}
use Rattle.std.proofs.lemmas.Bool.{cases_eq, cases_lt, eqb-true, eq-eqb, ne_eqb, lt-ltb, ltb-true, and_right, and_parts, or_cases, or_left, or_right, and_from}
use Rattle.std.proofs.lemmas.List.{get_or_past, get_or-map, length-map}
use Rattle.std.proofs.lemmas.List.Sums.{sum_by-cons}
use Rattle.cf_tree.specs.Keys.{value_at}
use Rattle.cf_graph.specs.Needs.{is_next, ordered}
use Rattle.cf_graph.specs.Waiting.{times, copies, unmet, row_name, row_needs, has_come, needs_nothing, with_next, IsNextPlace, IsNoPlace}
use Rattle.cf_graph.specs.UnderWay.{MissingAreCounted}
use Rattle.cf_graph.proofs.Copies.{in_range}
use Rattle.cf_graph.proofs.Finding.{find_here, find_none}
use Rattle.cf_graph.proofs.Placing.{all_met, unmet_less, come_stays, came_now, next_if, not_next_if_come}

-- at first nothing has come
unmet_first : (ns : List (List ℕ)) → unmet [] ns ≡ length ns
unmet_first [] = refl
unmet_first (n ∷ ns) = omega (arith, sum_by-cons (λ m. cond (not (is_some (value_at {X = List (List ℕ)} m []))) 1 0) n ns, unmet_first ns)

pub counted_first : (all : List (List ℕ × List (List ℕ))) (missing : List ℕ) (ready : BTreeSet ℕ) → missing ≡ map (λ r. length r.1) all → ((p : ℕ) → contains nat_cmp ready p ≡ needs_nothing all p) → MissingAreCounted all [] missing ready
counted_first all missing ready e f =
    let here : (p : ℕ) → p < length all → get_or missing p 0 ≡ length (row_needs all p) =
    λ p l. ap (λ (ms : List ℕ). get_or ms p 0) e ∙ get_or-map (λ (r : List ℕ × List (List ℕ)). length r.1) all p ([], []) 0 l in
    record {
      long = ap (λ (ms : List ℕ). length ms) e ∙ length-map all (λ (r : List ℕ × List (List ℕ)). length r.1);
      counted = λ p l. here p l ∙ sym (unmet_first (row_needs all p));
      listed = λ p l z. inr (f p ∙ and_from _ _ (lt-ltb p (length all) l) (eq-eqb (length (row_needs all p)) 0 (sym (here p l) ∙ z)));
      free = λ p c. let both = and_parts (nat_lt p (length all)) (nat_eq (length (row_needs all p)) 0) (sym (f p) ∙ c) in
          let l = ltb-true p (length all) both.0 in (l, here p l ∙ eqb-true (length (row_needs all p)) 0 both.1);
    }

module _ (all placed : List (List ℕ × List (List ℕ))) (missing : List ℕ) (ready : BTreeSet ℕ) (under : MissingAreCounted all placed missing ready) where
  not_next : (p : ℕ) → p < length all → (contains nat_cmp ready p ≡ true → has_come all placed p ≡ true) → is_next placed (get_or all p ([], [])) ≡ false
  not_next p l came = ⊎_elim
      (λ (z : get_or missing p 0 ≡ 0). not_next_if_come placed all p (⊎_elim (λ h. h) came (under.listed p l z)))
      (λ (nz : get_or missing p 0 ≡ 0 → ⊥). and_right (not (has_come all placed p)) (list_all (λ n. is_some (value_at n placed)) (row_needs all p))
      (all_met placed (row_needs all p) ∙ ne_eqb (unmet placed (row_needs all p)) 0 (λ z. nz (under.counted p l ∙ z))))
      (cases_eq (get_or missing p 0) 0)

  pub none_next : (after : BTreeSet ℕ) → IsNoPlace all placed ready after → find (is_next placed) all ≡ None
  none_next after none = find_none (is_next placed) all ([], []) (λ j l. not_next j l (none.all_came j))

  pub counted_still : (after : BTreeSet ℕ) → IsNoPlace all placed ready after → MissingAreCounted all placed missing after
  counted_still after none = record {
    long = under.long;
    counted = under.counted;
    listed = λ p l z. inl (⊎_elim (λ h. h) (none.all_came p) (under.listed p l z));
    free = λ p c. under.free p (none.fewer p c);
  }

  module _ (kept : BTreeSet ℕ) (at : ℕ) (next : IsNextPlace all placed ready kept at) where
    pub at_within : at < length all
    at_within = (under.free at next.ready).0

    pub found_next : find (is_next placed) all ≡ Some (get_or all at ([], []))
    found_next =
        find_here (is_next placed) all at ([], []) at_within
        (next_if placed all at next.open_still (sym (under.counted at at_within) ∙ (under.free at next.ready).1))
        (λ j l. not_next j (omega (arith, l, at_within)) (next.first j l))

    module _ (behind : List ℕ) (waits : (p : ℕ) → copies p behind ≡ times (row_name all at) (row_needs all p)) where
      -- what comes was missing to each that needs it
      pub enough : (p : ℕ) → copies p behind ≤ get_or missing p 0
      enough p = ⊎_elim
          (λ (l : p < length all). omega (arith, waits p, under.counted p l, unmet_less placed (row_name all at) [] next.open_still (row_needs all p)))
          (λ (g : length all ≤ p). omega (arith, waits p ∙ ap (λ (r : List ℕ × List (List ℕ)). times (row_name all at) r.1) (get_or_past all p ([], []) g)))
          (cases_lt p (length all))

      module _ (v : List (List ℕ)) (fewer : List ℕ) (after : BTreeSet ℕ) (long : length fewer ≡ length missing)
          (counted : (p : ℕ) → get_or fewer p 0 + copies p behind ≡ get_or missing p 0)
          (listed : (p : ℕ) → contains nat_cmp after p ≡ (contains nat_cmp kept p || (nat_eq (get_or fewer p 0) 0 && nat_lt 0 (copies p behind)))) where
        listed_now : (p : ℕ) → p < length all → get_or fewer p 0 ≡ 0 → (has_come all (placed ++ (row_name all at, v) ∷ []) p ≡ true) ⊎ (contains nat_cmp after p ≡ true)
        listed_now p l z = ⊎_elim
            (λ (c : copies p behind ≡ 0). ⊎_elim
            (λ h. inl (come_stays placed (row_name all at) v next.open_still (row_name all p) h))
            (λ r. ⊎_elim
            (λ (e : p ≡ at). inl (subst (λ q. has_come all (placed ++ (row_name all at, v) ∷ []) q ≡ true) (sym e) (came_now placed (row_name all at) v)))
            (λ o. ⊎_elim (λ h. inl (come_stays placed (row_name all at) v next.open_still (row_name all p) h)) (λ k. inr (listed p ∙ or_left (contains nat_cmp kept p) _ k)) o)
            (next.others p r))
            (under.listed p l (omega (arith, counted p))))
            (λ (c : copies p behind ≡ 0 → ⊥). inr (listed p ∙ or_right (contains nat_cmp kept p) _ (and_from _ _ (eq-eqb (get_or fewer p 0) 0 z) (lt-ltb 0 (copies p behind) (omega (arith, c))))))
            (cases_eq (copies p behind) 0)

        free_now : (p : ℕ) → contains nat_cmp after p ≡ true → (p < length all) × (get_or fewer p 0 ≡ 0)
        free_now p c = ⊎_elim
            (λ (k : contains nat_cmp kept p ≡ true). let f = under.free p (next.fewer p k) in (f.0, omega (arith, f.1, counted p)))
            (λ k. let both = and_parts (nat_eq (get_or fewer p 0) 0) (nat_lt 0 (copies p behind)) k in
            let some = ltb-true 0 (copies p behind) both.1 in
            let there : p < length missing = in_range missing p (omega (arith, some, counted p)) in
            (omega (arith, there, under.long), eqb-true (get_or fewer p 0) 0 both.0))
            (or_cases (contains nat_cmp kept p) _ (sym (listed p) ∙ c))

        pub counted_now : MissingAreCounted all (placed ++ (row_name all at, v) ∷ []) fewer after
        counted_now = record {
          long = long ∙ under.long;
          counted = λ p l. omega (arith, counted p, under.counted p l, waits p, unmet_less placed (row_name all at) v next.open_still (row_needs all p));
          listed = listed_now;
          free = free_now;
        }

-- the order goes on with what comes next
pub ordered_next : (n : ℕ) (all placed : List (List ℕ × List (List ℕ))) (o : Option (List ℕ × List (List ℕ))) → find (is_next placed) all ≡ o → is_some o ≡ true → ordered (suc n) all placed ≡ ordered n all (with_next placed o)
ordered_next n all placed None e s = absurd (true≢false (sym s))
ordered_next n all placed (Some r) e s = rw e refl

-- and ends where nothing does
pub ordered_done : (n : ℕ) (all placed : List (List ℕ × List (List ℕ))) → find (is_next placed) all ≡ None → ordered n all placed ≡ placed
ordered_done zero all placed e = refl
ordered_done (suc n) all placed e = rw e refl

none_from : {X : Type 0} (o : Option X) → is_some o ≡ false → o ≡ None
none_from None e = refl
none_from (Some x) e = absurd (true≢false e)

-- what the loop of the order knows: the order of the whole is that of what is left, behind what has come
module _ (all placed whole : List (List ℕ × List (List ℕ))) (i : ℕ) where
  pub goes_on : (now : List (List ℕ × List (List ℕ))) (more : Bool) → i < length all → whole ≡ ordered (length all - i) all placed → more ≡ is_some (find (is_next placed) all) → more ≡ true → now ≡ with_next placed (find (is_next placed) all) → whole ≡ ordered (length all - (i + 1)) all now
  goes_on now more l e m t n =
      let one : length all - i ≡ suc (length all - (i + 1)) = omega arith in
      e ∙ ap (λ k. ordered k all placed) one ∙ ordered_next (length all - (i + 1)) all placed (find (is_next placed) all) refl (sym m ∙ t) ∙ ap (ordered (length all - (i + 1)) all) (sym n)

  pub stops : (now : List (List ℕ × List (List ℕ))) (more : Bool) → whole ≡ ordered (length all - i) all placed → more ≡ is_some (find (is_next placed) all) → more ≡ false → now ≡ with_next placed (find (is_next placed) all) → now ≡ whole
  stops now more e m f n =
      let none = none_from (find (is_next placed) all) (sym m ∙ f) in
      n ∙ ap (with_next placed) none ∙ sym (e ∙ ordered_done (length all - i) all placed none)

  pub is_whole : length all ≤ i → whole ≡ ordered (length all - i) all placed → placed ≡ whole
  is_whole l e =
      let none : length all - i ≡ 0 = omega arith in
      sym (e ∙ ap (λ k. ordered k all placed) none)
