-- The stacks of a world by name, with and without what they have room for.
use Rattle.std.proofs.Common.{◌≡◌, ℕ, ◌+◌, Bool, true, false, ◌&&◌, List, [], ◌∷◌, Option, Some, None, find, map, option_map, length, refl, sym, ap, ◌∙◌, subst, cond, arith}
use Rattle.std.specs.Option.{option_map_or, unwrap_or}
use Rattle.std.specs.Ordering.{nat_cmp, is_lt, ordering_reverse, match_ordering}
use Rattle.std.specs.declared.cmp.Ordering.{Ordering}
use Rattle.std.specs.declared.cmp.Ordering.TheVariants.{Less, Equal, Greater}
use Rattle.std.specs.Cmp.{first_so, second_so}
use Rattle.std.specs.Cmp.Lexicographic.{slice_cmp, nat_list_cmp_total, texts_ties}
use Rattle.std.specs.Str.{bytes_eq}
use Rattle.std.proofs.lemmas.Slice.Eq.{bytes_eq-Decides}
use Rattle.cf_tree.specs.Keys.{ascends, ascends_from, bytes_lt, place, put, value_at}
use Rattle.cf_tree.proofs.Lookups.{value_below}
use Rattle.cf_tree.proofs.Order.{ascends_map, ascends_put}
use Rattle.cf_entry.specs.declared.entry.Begun.TheVariants as begin
use Rattle.cf_entry.specs.declared.entry.Entry.{Entry}
use Rattle.cf_entry.specs.declared.entry.Entry.TheVariants as entry
use Rattle.cf_stacks.specs.Room.{StackStanding, calls_after}
use Rattle.cf_effect.specs.Fold.{is_intent}
use Rattle.cf_stacks.specs.Standing.{NamedStanding, calls_total, opened_as}

turned_round : (o : Ordering) → o ≡ ordering_reverse o → o ≡ Equal
turned_round Less e = absurd (cc)
turned_round Equal e = refl
turned_round Greater e = absurd (cc)

pub own : (k : List ℕ) → slice_cmp nat_cmp k k ≡ Equal
own k = turned_round _ (nat_list_cmp_total.antisymm k k)

not_below : (k : List ℕ) → bytes_lt k k ≡ false
not_below k = ap is_lt (own k)

same_itself : (k : List ℕ) → bytes_eq k k ≡ true
same_itself k = (bytes_eq-Decides k k).1 refl

pub less_from : (o : Ordering) → is_lt o ≡ true → o ≡ Less
less_from Less h = refl
less_from Equal h = absurd cc
less_from Greater h = absurd cc

-- a name above another one is not that
above_is_other : (k l : List ℕ) → bytes_lt k l ≡ true → bytes_eq l k ≡ false
above_is_other k l h = by (bytes_eq l k) refl
  where
    by : (b : Bool) → bytes_eq l k ≡ b → bytes_eq l k ≡ false
    by true e =
        let same : l ≡ k = (bytes_eq-Decides l k).0 e in
        let below : bytes_lt k k ≡ true = subst (λ (m : List ℕ). bytes_lt k m ≡ true) same h in
        let never : bytes_lt k k ≡ false = not_below k in
        absurd (cc)
    by false e = e

module _ {X : Type 0} where
  pub tail_ascends : (k : List ℕ) (ps : List (List ℕ × X)) → ascends_from k ps ≡ true → ascends ps ≡ true
  tail_ascends k [] h = refl
  tail_ascends k (p ∷ ps) h = second_so (bytes_lt k p.0) (ascends_from p.0 ps) h

  module _ (test : List ℕ × X → Bool) where
    -- what is found among names that ascend from one is above it
    found_above : (k : List ℕ) (ps : List (List ℕ × X)) (p : List ℕ × X) → ascends_from k ps ≡ true → find test ps ≡ Some p → bytes_lt k p.0 ≡ true
    found_above k [] p h e = absurd cc
    found_above k (q ∷ ps) p h e = by (test q) (λ f. found_above q.0 ps p (second_so (bytes_lt k q.0) (ascends_from q.0 ps) h) f) e
      where
        by : (b : Bool) → (find test ps ≡ Some p → bytes_lt q.0 p.0 ≡ true) → cond b (Some q) (find test ps) ≡ Some p → bytes_lt k p.0 ≡ true
        by true g e = let same : q ≡ p = cc in subst (λ (r : List ℕ × X). bytes_lt k r.0 ≡ true) same (first_so (bytes_lt k q.0) (ascends_from q.0 ps) h)
        by false g e =
            let first : bytes_lt k q.0 ≡ true = first_so (bytes_lt k q.0) (ascends_from q.0 ps) h in
            ap is_lt (nat_list_cmp_total.trans k q.0 p.0 (less_from (slice_cmp nat_cmp k q.0) first) (less_from (slice_cmp nat_cmp q.0 p.0) (g e)))

    -- what is found stands under its name
    pub found_stands : (ps : List (List ℕ × X)) (p : List ℕ × X) → ascends ps ≡ true → find test ps ≡ Some p → value_at p.0 ps ≡ Some p.1
    found_stands [] p h e = absurd cc
    found_stands (q ∷ ps) p h e = by (test q) (λ f. found_stands ps p (tail_ascends q.0 ps h) f) e
      where
        by : (b : Bool) → (find test ps ≡ Some p → value_at p.0 ps ≡ Some p.1) → cond b (Some q) (find test ps) ≡ Some p → value_at p.0 (q ∷ ps) ≡ Some p.1
        by true g e = let same : q ≡ p = cc in subst (λ (r : List ℕ × X). value_at r.0 (q ∷ ps) ≡ Some r.1) same (rw (same_itself q.0) refl)
        by false g e = rw (above_is_other q.0 p.0 (found_above q.0 ps p h e)) (g e)

-- what is done to the values under their names
module _ {X Y : Type 0} (f : X → Y) where
  abbrev pub under : List ℕ × X → List ℕ × Y
  under p = (p.0, f p.1)

  pub value_under : (k : List ℕ) (ps : List (List ℕ × X)) → value_at k (map under ps) ≡ option_map f (value_at k ps)
  value_under k [] = refl
  value_under k (p ∷ ps) = by (bytes_eq k p.0) (value_under k ps)
    where
      by : (b : Bool) → value_at k (map under ps) ≡ option_map f (value_at k ps) → cond b (Some (f p.1)) (value_at k (map under ps)) ≡ option_map f (cond b (Some p.1) (value_at k ps))
      by true h = refl
      by false h = h

  pub put_under : (k : List ℕ) (v : X) (ps : List (List ℕ × X)) → map under (put k v ps) ≡ put k (f v) (map under ps)
  put_under k v [] = refl
  put_under k v (p ∷ ps) = by (slice_cmp nat_cmp k p.0) (put_under k v ps)
    where
      by : (o : Ordering) → map under (put k v ps) ≡ put k (f v) (map under ps)
          → map under (match_ordering o ((k, v) ∷ p ∷ ps) ((p.0, v) ∷ ps) (p ∷ put k v ps)) ≡ match_ordering o ((k, f v) ∷ under p ∷ map under ps) ((p.0, f v) ∷ map under ps) (under p ∷ put k (f v) (map under ps))
      by Less h = refl
      by Equal h = refl
      by Greater h = ap (λ l. under p ∷ l) h

  pub find_under : (test : Y → Bool) (ps : List (List ℕ × X)) → find (λ p. test p.1) (map under ps) ≡ option_map under (find (λ p. test (f p.1)) ps)
  find_under test [] = refl
  find_under test (p ∷ ps) = by (test (f p.1)) (find_under test ps)
    where
      by : (b : Bool) → find (λ p. test p.1) (map under ps) ≡ option_map under (find (λ p. test (f p.1)) ps)
          → cond b (Some (under p)) (find (λ p. test p.1) (map under ps)) ≡ option_map under (cond b (Some p) (find (λ p. test (f p.1)) ps))
      by true h = refl
      by false h = h

-- an entry that is no intent leaves no call awaited on a new stack
pub none_after : (e : Entry) → is_intent e ≡ false → calls_after e [] ≡ []
none_after (entry.Opened epoch lanes) h = refl
none_after (entry.Begin number name (begin.Create source)) h = refl
none_after (entry.Begin number name (begin.Update source)) h = refl
none_after (entry.Begin number name (begin.Delete paths)) h = refl
none_after (entry.Begin number name (begin.Continue paths)) h = refl
none_after (entry.Kept number path physical w) h = refl
none_after (entry.Intent number token lane path r) h = absurd cc
none_after (entry.Outcome number token answer before after) h = refl
none_after (entry.Phase number p cause) h = refl
none_after (entry.Done number state failed) h = refl
none_after (entry.ChangeSet number name source rows outputs) h = refl

pub opened_ascend : (place : ℕ) (e : Entry) (ps : List NamedStanding) → ascends ps ≡ true → ascends (map (λ s. (s.0, opened_as place e s.1)) ps) ≡ true
opened_ascend place e ps h = ascends_map {X = StackStanding} {Y = StackStanding} (λ s. (s.0, opened_as place e s.1)) (λ p. refl) ps ∙ h

same_if_equal : (k l : List ℕ) → slice_cmp nat_cmp k l ≡ Equal → bytes_eq k l ≡ true
same_if_equal k l e = texts_ties k l ∙ rw e refl

other_if_greater : (k l : List ℕ) → slice_cmp nat_cmp k l ≡ Greater → bytes_eq k l ≡ false
other_if_greater k l e = texts_ties k l ∙ rw e refl

both : (a b : Bool) → a ≡ true → b ≡ true → (a && b) ≡ true
both true b h g = g
both false b h g = h

module _ {X : Type 0} (k : List ℕ) (p : List ℕ × X) (ps : List (List ℕ × X)) where
  hit : slice_cmp nat_cmp k p.0 ≡ Equal → value_at k (p ∷ ps) ≡ Some p.1
  hit e = rw (same_if_equal k p.0 e) refl

  past : slice_cmp nat_cmp k p.0 ≡ Greater → value_at k (p ∷ ps) ≡ value_at k ps
  past e = rw (other_if_greater k p.0 e) refl

  missed : slice_cmp nat_cmp k p.0 ≡ Less → ascends (p ∷ ps) ≡ true → value_at k (p ∷ ps) ≡ None
  missed e h = value_below k (p ∷ ps) (both (bytes_lt k p.0) (ascends_from p.0 ps) (ap is_lt e) h)

-- how many calls are awaited, once a stack is put in its place
module _ (k : List ℕ) (v : StackStanding) where
  pub total_put : (ps : List NamedStanding) → ascends ps ≡ true → calls_total (put k v ps) + option_map_or (λ s. length s.awaited) (value_at k ps) 0 ≡ calls_total ps + length v.awaited
  total_put [] h = omega arith
  total_put (p ∷ ps) h = by (slice_cmp nat_cmp k p.0) refl (total_put ps (tail_ascends p.0 ps h))
    where
      by : (o : Ordering) → slice_cmp nat_cmp k p.0 ≡ o → calls_total (put k v ps) + option_map_or (λ s. length s.awaited) (value_at k ps) 0 ≡ calls_total ps + length v.awaited
          → calls_total (match_ordering o ((k, v) ∷ p ∷ ps) ((p.0, v) ∷ ps) (p ∷ put k v ps)) + option_map_or (λ s. length s.awaited) (value_at k (p ∷ ps)) 0 ≡ calls_total (p ∷ ps) + length v.awaited
      by Less e g = rw (missed k p ps e h) (omega arith)
      by Equal e g = rw (hit k p ps e) (omega arith)
      by Greater e g = rw (past k p ps e) (omega (arith, g))

-- where a call goes out the names stay in their order
pub called_ascend : (k : List ℕ) (change : StackStanding → StackStanding) (o : Option StackStanding) (ps : List NamedStanding) → ascends ps ≡ true → ascends (option_map_or (λ (s : StackStanding). put k (change s) ps) o ps) ≡ true
called_ascend k change None ps h = h
called_ascend k change (Some s) ps h = ascends_put k (change s) ps h

pub answered_ascend : (change : StackStanding → StackStanding) (o : Option NamedStanding) (ps : List NamedStanding) → ascends ps ≡ true → ascends (option_map_or (λ (s : NamedStanding). put s.0 (change s.1) ps) o ps) ≡ true
answered_ascend change None ps h = h
answered_ascend change (Some s) ps h = ascends_put s.0 (change s.1) ps h

pub none_called : (k : List ℕ) (change : StackStanding → StackStanding) (o : Option StackStanding) (ps : List NamedStanding) → o ≡ None → ps ≡ option_map_or (λ (s : StackStanding). put k (change s) ps) o ps
none_called k change o ps h = sym (ap (λ (p : Option StackStanding). option_map_or (λ (s : StackStanding). put k (change s) ps) p ps) h)
