-- What a placement changes of what has come, and of the needs that have not.
use Rattle.std.proofs.Common.{◌≡◌, ℕ, ◌+◌, List, [], ◌∷◌, ◌++◌, get_or, Bool, true, false, not, cond, nat_eq, Option, Some, None, is_some, refl, ap, sym, ◌∙◌, arith, true≢false, eqb}
use Rattle.std.specs.Option.{option_or}
use Rattle.std.specs.List.{list_all}
use Rattle.std.specs.Str.{bytes_eq}
use Rattle.std.proofs.lemmas.Slice.Eq.{bytes_eq-Decides}
use Rattle.std.proofs.lemmas.List.Sums.{sum_by-cons}
use Rattle.std.proofs.lemmas.List.Folds.{sum_by-zero}
use Rattle.cf_tree.specs.Keys.{value_at}
use Rattle.cf_graph.specs.Needs.{is_next}
use Rattle.cf_graph.specs.Waiting.{times, unmet, row_name, row_needs, has_come}

-- the test of two texts is the same both ways round
pub flip : (k l : List ℕ) → bytes_eq k l ≡ bytes_eq l k
flip k l = by (bytes_eq k l) (bytes_eq l k) refl refl
  where
    by : (a b : Bool) → bytes_eq k l ≡ a → bytes_eq l k ≡ b → a ≡ b
    by true true e f = refl
    by true false e f = sym ((bytes_eq-Decides l k).1 (sym ((bytes_eq-Decides k l).0 e))) ∙ f
    by false true e f = sym e ∙ (bytes_eq-Decides k l).1 (sym ((bytes_eq-Decides l k).0 f))
    by false false e f = refl

pub value_at_push : {X : Type 0} (n : List ℕ) (ps : List (List ℕ × X)) (k : List ℕ) (v : X) → value_at n (ps ++ (k, v) ∷ []) ≡ option_or (value_at n ps) (cond (bytes_eq n k) (Some v) None)
value_at_push n [] k v = refl
value_at_push n (p ∷ ps) k v = by (bytes_eq n p.0) (value_at_push n ps k v)
  where
    by : (b : Bool) → value_at n (ps ++ (k, v) ∷ []) ≡ option_or (value_at n ps) (cond (bytes_eq n k) (Some v) None) → cond b (Some p.1) (value_at n (ps ++ (k, v) ∷ [])) ≡ option_or (cond b (Some p.1) (value_at n ps)) (cond (bytes_eq n k) (Some v) None)
    by true h = refl
    by false h = h

module _ (placed : List (List ℕ × List (List ℕ))) where
  left : List ℕ → ℕ
  left n = cond (not (is_some (value_at n placed))) 1 0

  -- nothing of a list is unmet exactly if all of it has come
  pub all_met : (ns : List (List ℕ)) → list_all (λ n. is_some (value_at n placed)) ns ≡ nat_eq (unmet placed ns) 0
  all_met ns =
      let here : (b : Bool) → eqb (cond (not b) 1 0) 0 ≡ b = λ b. elim b as (λ v. eqb (cond (not v) 1 0) 0 ≡ v) [ true ↦ refl | false ↦ refl ] in
      sym (sum_by-zero (λ n. cond (not (is_some (value_at n placed))) 1 0) ns ∙ (λ i. list_all (λ n. here (is_some (value_at n placed)) i) ns))

  module _ (k : List ℕ) (v : List (List ℕ)) (open_still : value_at k placed ≡ None) where
    one : (n : List ℕ) → cond (not (is_some (value_at n (placed ++ (k, v) ∷ [])))) 1 0 + cond (bytes_eq k n) 1 0 ≡ cond (not (is_some (value_at n placed))) 1 0
    one n = rw (value_at_push n placed k v) (by (value_at n placed) refl)
      where
        none_here : (b : Bool) → bytes_eq k n ≡ b → bytes_eq n k ≡ b → cond (not (is_some (cond (bytes_eq n k) (Some v) None))) 1 0 + cond (bytes_eq k n) 1 0 ≡ 1
        none_here true e f = rw (e, f) (omega arith)
        none_here false e f = rw (e, f) (omega arith)

        some_here : (w : List (List ℕ)) (b : Bool) → value_at n placed ≡ Some w → bytes_eq k n ≡ b → 0 + cond b 1 0 ≡ 0
        some_here w true e f = absurd (true≢false (sym (ap is_some (ap (λ (m : List ℕ). value_at m placed) ((bytes_eq-Decides k n).0 f) ∙ e)) ∙ ap is_some open_still))
        some_here w false e f = omega arith

        by : (o : Option (List (List ℕ))) → value_at n placed ≡ o → cond (not (is_some (option_or o (cond (bytes_eq n k) (Some v) None)))) 1 0 + cond (bytes_eq k n) 1 0 ≡ cond (not (is_some o)) 1 0
        by None e = none_here (bytes_eq k n) refl (flip n k)
        by (Some w) e = some_here w (bytes_eq k n) e refl

    -- what comes meets each need of its name
    pub unmet_less : (ns : List (List ℕ)) → unmet (placed ++ (k, v) ∷ []) ns + times k ns ≡ unmet placed ns
    unmet_less [] = omega arith
    unmet_less (n ∷ ns) =
        let a = sum_by-cons (λ m. cond (not (is_some (value_at m (placed ++ (k, v) ∷ [])))) 1 0) n ns in
        let b = sum_by-cons (λ m. cond (bytes_eq k m) 1 0) n ns in
        let e = sum_by-cons (λ m. cond (not (is_some (value_at m placed))) 1 0) n ns in
        omega (arith, a, b, e, one n, unmet_less ns)

    -- what came stays
    pub come_stays : (n : List ℕ) → is_some (value_at n placed) ≡ true → is_some (value_at n (placed ++ (k, v) ∷ [])) ≡ true
    come_stays n h = ap is_some (value_at_push n placed k v) ∙ by (value_at n placed) h
      where
        by : (o : Option (List (List ℕ))) → is_some o ≡ true → is_some (option_or o (cond (bytes_eq n k) (Some v) None)) ≡ true
        by None h = absurd (true≢false (sym h))
        by (Some w) h = refl

  pub came_now : (k : List ℕ) (v : List (List ℕ)) → is_some (value_at k (placed ++ (k, v) ∷ [])) ≡ true
  came_now k v = ap is_some (value_at_push k placed k v) ∙ by (value_at k placed)
    where
      by : (o : Option (List (List ℕ))) → is_some (option_or o (cond (bytes_eq k k) (Some v) None)) ≡ true
      by None = rw ((bytes_eq-Decides k k).1 refl) refl
      by (Some w) = refl

  -- a place is next exactly if its resource has not come and none of its needs is unmet
  pub next_if : (all : List (List ℕ × List (List ℕ))) (p : ℕ) → value_at (row_name all p) placed ≡ None → unmet placed (row_needs all p) ≡ 0 → is_next placed (get_or all p ([], [])) ≡ true
  next_if all p none met = rw (none, all_met (row_needs all p), met) refl

  pub not_next_if_come : (all : List (List ℕ × List (List ℕ))) (p : ℕ) → has_come all placed p ≡ true → is_next placed (get_or all p ([], [])) ≡ false
  not_next_if_come all p h = rw h refl
