-- Where each name has a rank, and what is needed a lower one, no walk along the needs leads back to where it began.
use Rattle.std.proofs.Common.{◌≡◌, ℕ, zero, suc, ◌<◌, ◌≤◌, ⊎_elim, List, [], ◌∷◌, length, map, flat_map, filter_map, Bool, true, false, cond, Option, Some, None, refl, ap, sym, subst, arith, true≢false}
use Rattle.std.specs.List.{list_all}
use Rattle.std.specs.Option.{unwrap_or}
use Rattle.std.specs.Str.{bytes_eq}
use Rattle.std.proofs.lemmas.Bool.{and_parts, or_cases, or_left, or_right, ltb-true}
use Rattle.std.proofs.lemmas.Slice.Eq.{bytes_eq-Decides}
use Rattle.cf_tree.specs.Keys.{value_at}
use Rattle.cf_tree.specs.Lists.{first_in, is_among}
use Rattle.cf_graph.specs.Needs.{cycle_of, needs_listed, shortest_walk, walks}
use Rattle.cf_graph.specs.Before.{comes_before, is_earlier, needs_first, row_place}

no_members : {X : Type 0} (f : List ℕ → List X) (ns : List (List ℕ)) → ((n : List ℕ) → is_among n ns ≡ true → f n ≡ []) → flat_map f ns ≡ []
no_members f [] h = refl
no_members f (n ∷ ns) h = rw (h n (or_left (bytes_eq n n) (is_among n ns) ((bytes_eq-Decides n n).1 refl))) (no_members f ns (λ m e. h m (or_right (bytes_eq m n) (is_among m ns) e)))

none_at_all : {X Y : Type 0} (f : X → Option Y) (xs : List X) → ((x : X) → f x ≡ None) → filter_map f xs ≡ []
none_at_all f [] h = refl
none_at_all f (x ∷ xs) h = rw (h x) (none_at_all f xs h)

module _ (all : List (List ℕ × List (List ℕ))) (rank : List ℕ → ℕ) (falls : (name n : List ℕ) → is_among n (needs_listed all name) ≡ true → rank n < rank name) where
  no_walk : (k : ℕ) (start name : List ℕ) → rank name ≤ rank start → walks all start k name ≡ []
  no_walk zero start name l = refl
  no_walk (suc zero) start name l = by (is_among start (needs_listed all name)) refl
    where
      by : (b : Bool) → is_among start (needs_listed all name) ≡ b → cond b ((name ∷ []) ∷ []) [] ≡ []
      by true e = absurd (omega (arith, l, falls name start e))
      by false e = refl
  no_walk (suc (suc k)) start name l =
      no_members (λ q. map (λ w. name ∷ w) (walks all start (suc k) q)) (needs_listed all name)
      (λ q e. ap (λ (ws : List (List (List ℕ))). map (λ w. name ∷ w) ws) (no_walk (suc k) start q (omega (arith, l, falls name q e))))

  none_shortest : (n : ℕ) (start : List ℕ) → shortest_walk all start n ≡ None
  none_shortest zero start = refl
  none_shortest (suc n) start = rw (none_shortest n start, no_walk (suc n) start start (omega arith)) refl

  pub no_cycle : cycle_of all ≡ None
  no_cycle = ap first_in (none_at_all (λ r. shortest_walk all r.0 (length all)) all (λ r. none_shortest (length all) r.0))

member : (f : List ℕ → Bool) (xs : List (List ℕ)) (n : List ℕ) → list_all f xs ≡ true → is_among n xs ≡ true → f n ≡ true
member f [] n a m = absurd (true≢false (sym m))
member f (x ∷ xs) n a m = ⊎_elim
    (λ e. subst (λ k. f k ≡ true) (sym ((bytes_eq-Decides n x).0 e)) (and_parts (f x) (list_all f xs) a).0)
    (λ r. member f xs n (and_parts (f x) (list_all f xs) a).1 r)
    (or_cases (bytes_eq n x) (is_among n xs) m)

-- what holds of each need of each row holds of what each name needs
of_each : (before : List ℕ → List ℕ → Bool) (all : List (List ℕ × List (List ℕ))) → list_all (λ r. list_all (λ n. before n r.0) r.1) all ≡ true → (name n : List ℕ) → is_among n (needs_listed all name) ≡ true → before n name ≡ true
of_each before [] h name n m = absurd (true≢false (sym m))
of_each before (r ∷ rs) h name n m =
    let parts = and_parts (list_all (λ k. before k r.0) r.1) (list_all (λ s. list_all (λ k. before k s.0) s.1) rs) h in
    by (bytes_eq name r.0) refl parts.0 (of_each before rs parts.1 name n) m
  where
    by : (b : Bool) → bytes_eq name r.0 ≡ b → list_all (λ k. before k r.0) r.1 ≡ true → (is_among n (needs_listed rs name) ≡ true → before n name ≡ true) → is_among n (unwrap_or (cond b (Some r.1) (value_at name rs)) []) ≡ true → before n name ≡ true
    by true e here rest m = subst (λ k. before n k ≡ true) (sym ((bytes_eq-Decides name r.0).0 e)) (member (λ k. before k r.0) r.1 n here m)
    by false e here rest m = rest m

smaller : (i j : Option ℕ) → is_earlier i j ≡ true → unwrap_or i 0 < unwrap_or j 0
smaller (Some i) (Some j) h = ltb-true i j h
smaller (Some i) None h = absurd (true≢false (sym h))
smaller None j h = absurd (true≢false (sym h))

-- where all stand behind what they need, there is no cycle
pub acyclic : (placed all : List (List ℕ × List (List ℕ))) → needs_first placed all ≡ true → cycle_of all ≡ None
acyclic placed all h =
    no_cycle all (λ name. unwrap_or (row_place placed name) 0)
    (λ name n m. smaller (row_place placed n) (row_place placed name) (of_each (comes_before placed) all h name n m))
