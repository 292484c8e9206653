-- A member of a list that is changed where it stands.
use Rattle.std.proofs.Common.{◌≡◌, ℕ, zero, suc, ◌+◌, ◌<◌, ◌≤◌, Bool, true, false, List, [], ◌∷◌, ◌++◌, Option, Some, None, Result, Ok, Err, OnOk, OnErr, drop, find, get_or, length, map, position, set, take, refl, sym, ap, ◌∙◌, subst, arith}
use Rattle.std.specs.List.{AllByRecursion}
use Rattle.std.specs.Option.{option_map_or}
use Rattle.std.specs.Ordering.{nat_cmp, is_lt, ordering_reverse, match_ordering}
use Rattle.std.specs.declared.cmp.Ordering.{Ordering}
use Rattle.std.specs.declared.cmp.Ordering.TheVariants.{Less, Equal, Greater}
use Rattle.std.specs.Cmp.{first_so, second_so}
use Rattle.std.specs.Cmp.Lexicographic.{slice_cmp, nat_list_cmp_total}
use Rattle.std.proofs.lemmas.List.Quantifiers.{position-Some}
use Rattle.cf_tree.specs.Keys.{ascends, ascends_from, bytes_lt, place, put, value_at}
use Rattle.cf_tree.proofs.Lookups.{entry_found, entry_missed}
use Rattle.cf_tree.proofs.Placed.{entry_kept}
use Rattle.cf_entry.specs.declared.entry.Entry.{Entry}
use Rattle.cf_effect.specs.declared.state.State.{State}
use Rattle.cf_stacks.specs.Room.{StackStanding, with_awaited}
use Rattle.cf_stacks.specs.Standing.{LeftFits, NamedStanding, awaits_on, calls_in, has_open}
use Rattle.cf_effect.specs.World.{no_stack}
use Rattle.cf_effect.proofs.Closed.{first_closed, none_closed}
use Rattle.cf_stacks.proofs.Worlds.{less_from, own, put_under, tail_ascends}

module _ {A B : Type 0} (f : A → B) where
  pub same_at : (xs : List A) (i : ℕ) (d y : A) → i < length xs → f y ≡ f (get_or xs i d) → map f (set xs i y) ≡ map f xs
  same_at [] i d y l e = absurd (omega (arith, l))
  same_at (x ∷ xs) zero d y l e = ap (λ b. b ∷ map f xs) e
  same_at (x ∷ xs) (suc i) d y l e = ap (λ bs. f x ∷ bs) (same_at xs i d y (omega (arith, l)) e)

module _ {A : Type 0} (p : A → Bool) where
  found_from : (xs : List A) (i : ℕ) (d y : A) → i < length xs → p y ≡ true → ((k : ℕ) → k < i → p (get_or xs k d) ≡ false) → find p (set xs i y) ≡ Some y
  found_from [] i d y l e b = absurd (omega (arith, l))
  found_from (x ∷ xs) zero d y l e b = rw e refl
  found_from (x ∷ xs) (suc i) d y l e b = rw (b 0 (omega arith)) (found_from xs i d y (omega (arith, l)) e (λ k m. b (suc k) (omega (arith, m))))

  -- where the first that passes is changed and still passes, it is found
  pub found_set : (xs : List A) (i : ℕ) (x y : A) → position p xs ≡ Some i → x ≡ get_or xs i x → p y ≡ true → find p (set xs i y) ≡ Some y
  found_set xs i x y at e h = let there = position-Some p xs i x at in found_from xs i x y there.0 h there.2

  pub passes_at : (xs : List A) (i : ℕ) (x : A) → position p xs ≡ Some i → x ≡ get_or xs i x → p x ≡ true
  passes_at xs i x at e = let there = position-Some p xs i x at in ap p e ∙ there.1

  pub within : (xs : List A) (i : ℕ) (x : A) → position p xs ≡ Some i → i < length xs
  within xs i x at = (position-Some p xs i x at).0

greater : (k l : List ℕ) → bytes_lt k l ≡ true → slice_cmp nat_cmp l k ≡ Greater
greater k l h = nat_list_cmp_total.antisymm l k ∙ ap ordering_reverse (less_from (slice_cmp nat_cmp k l) h)

module _ {X : Type 0} where
  above_at : (k : List ℕ) (ps : List (List ℕ × X)) (i : ℕ) (d : List ℕ × X) → ascends_from k ps ≡ true → i < length ps → bytes_lt k (get_or ps i d).0 ≡ true
  above_at k [] i d h l = absurd (omega (arith, l))
  above_at k (p ∷ ps) zero d h l = first_so (bytes_lt k p.0) (ascends_from p.0 ps) h
  above_at k (p ∷ ps) (suc i) d h l =
      ap is_lt (nat_list_cmp_total.trans k p.0 (get_or ps i d).0 (less_from (slice_cmp nat_cmp k p.0) (first_so (bytes_lt k p.0) (ascends_from p.0 ps) h))
      (less_from (slice_cmp nat_cmp p.0 (get_or ps i d).0) (above_at p.0 ps i d (second_so (bytes_lt k p.0) (ascends_from p.0 ps) h) (omega (arith, l)))))

  -- to put a value under a name that is there is to set it where it stands
  pub put_at : (ps : List (List ℕ × X)) (i : ℕ) (d : List ℕ × X) (v : X) → ascends ps ≡ true → i < length ps → set ps i ((get_or ps i d).0, v) ≡ put (get_or ps i d).0 v ps
  put_at [] i d v h l = absurd (omega (arith, l))
  put_at (p ∷ ps) zero d v h l = rw (own p.0) refl
  put_at (p ∷ ps) (suc i) d v h l =
      rw (greater p.0 (get_or ps i d).0 (above_at p.0 ps i d h (omega (arith, l)))) (ap (λ qs. p ∷ qs) (put_at ps i d v (tail_ascends p.0 ps h) (omega (arith, l))))

-- the calls that are awaited once one more is, where its stack stands
pub awaits_at : (token : ℕ) (ss : List NamedStanding) (i : ℕ) (s : NamedStanding) (v : StackStanding) → ascends ss ≡ true → position (has_open token) ss ≡ Some i → s ≡ get_or ss i s → v.awaited ≡ with_awaited token s.1.awaited
    → map calls_in (set ss i (s.0, v)) ≡ awaits_on token ss
awaits_at token ss i s v order at is h =
    let l = within (has_open token) ss i s at in
    ap (λ (t : NamedStanding). map calls_in (set ss i (t.0, v))) is
    ∙ ap (map calls_in) (put_at ss i s v order l)
    ∙ put_under (λ (t : StackStanding). t.awaited) (get_or ss i s).0 v ss
    ∙ ap (λ (t : NamedStanding). put t.0 v.awaited (map calls_in ss)) (sym is)
    ∙ ap (λ (ts : List ℕ). put s.0 ts (map calls_in ss)) h
    ∙ ap (λ (o : Option NamedStanding). option_map_or (λ (t : NamedStanding). put t.0 (with_awaited token t.1.awaited) (map calls_in ss)) o (map calls_in ss)) (first_closed (has_open token) ss i s at is)

pub awaits_none : (token : ℕ) (ss : List NamedStanding) → position (has_open token) ss ≡ None → map calls_in ss ≡ awaits_on token ss
awaits_none token ss at =
    ap (λ (o : Option NamedStanding). option_map_or (λ (t : NamedStanding). put t.0 (with_awaited token t.1.awaited) (map calls_in ss)) o (map calls_in ss)) (none_closed (has_open token) ss at)

module _ {A : Type 0} (P : A → Type 0) where
  pub all_last : (xs : List A) (y : A) → AllByRecursion P (xs ++ y ∷ []) → P y × AllByRecursion P xs
  all_last [] y h = (h.0, tt)
  all_last (x ∷ xs) y h = let k = all_last xs y h.1 in (k.0, (h.0, k.1))

  -- what holds of all from a place on holds behind it, whatever is set there
  pub all_behind : (xs : List A) (i : ℕ) (y : A) → i < length xs → AllByRecursion P (drop i xs) → AllByRecursion P (drop (suc i) (set xs i y))
  all_behind [] i y l h = absurd (omega (arith, l))
  all_behind (x ∷ xs) zero y l h = h.1
  all_behind (x ∷ xs) (suc i) y l h = all_behind xs i y (omega (arith, l)) h

  -- what holds of all before a place, and of what is set there
  pub all_before : (xs : List A) (i : ℕ) (y : A) → i < length xs → P y → AllByRecursion P (take i xs) → AllByRecursion P (take (suc i) (set xs i y))
  all_before [] i y l p h = absurd (omega (arith, l))
  all_before (x ∷ xs) zero y l p h = (p, tt)
  all_before (x ∷ xs) (suc i) y l p h = (h.0, all_before xs i y (omega (arith, l)) p h.1)

-- some stack under some name
abbrev pub some_named : NamedStanding
some_named = ([], record { stack = no_stack; awaited = []; spare = 0 })

-- the stack that is found is changed where it stands
module _ (change : StackStanding → StackStanding) (p : NamedStanding → Bool) (ss : List NamedStanding) where
  pub answers_at : (i : ℕ) (s : NamedStanding) (v : StackStanding) → ascends ss ≡ true → position p ss ≡ Some i → s ≡ get_or ss i s → v ≡ change s.1
      → set ss i (s.0, v) ≡ option_map_or (λ (t : NamedStanding). put t.0 (change t.1) ss) (find p ss) ss
  answers_at i s v order at is so =
      ap (λ (t : NamedStanding). set ss i (t.0, v)) is
      ∙ put_at ss i s v order (within p ss i s at)
      ∙ ap (λ (t : NamedStanding). put t.0 v ss) (sym is)
      ∙ ap (λ (w : StackStanding). put s.0 w ss) so
      ∙ ap (λ (o : Option NamedStanding). option_map_or (λ (t : NamedStanding). put t.0 (change t.1) ss) o ss) (first_closed p ss i s at is)

  pub answers_none : position p ss ≡ None → ss ≡ option_map_or (λ (t : NamedStanding). put t.0 (change t.1) ss) (find p ss) ss
  answers_none at = ap (λ (o : Option NamedStanding). option_map_or (λ (t : NamedStanding). put t.0 (change t.1) ss) o ss) (none_closed p ss at)

-- the stack of a name
module _ (name : List ℕ) (ss : List NamedStanding) (order : ascends ss ≡ true) where
  pub found_there : (i : ℕ) (s : NamedStanding) → place name ss ≡ Ok i → s ≡ get_or ss i s → value_at name ss ≡ Some s.1
  found_there i s at is = entry_found name ss i order s at ∙ ap (λ (t : NamedStanding). Some t.1) (sym is)

  pub puts_at : (i : ℕ) (s : NamedStanding) (v : StackStanding) → place name ss ≡ Ok i → s ≡ get_or ss i s → set ss i (s.0, v) ≡ put name v ss
  puts_at i s v at is = ap (λ (t : NamedStanding). set ss i (t.0, v)) is ∙ entry_kept name v ss i s at

  pub calls_place : (change : StackStanding → StackStanding) (i : ℕ) (s : NamedStanding) (v : StackStanding) → place name ss ≡ Ok i → s ≡ get_or ss i s → v ≡ change s.1
      → set ss i (s.0, v) ≡ option_map_or (λ (t : StackStanding). put name (change t) ss) (value_at name ss) ss
  calls_place change i s v at is so =
      puts_at i s v at is ∙ ap (λ (w : StackStanding). put name w ss) so
      ∙ ap (λ (o : Option StackStanding). option_map_or (λ (t : StackStanding). put name (change t) ss) o ss) (sym (found_there i s at is))

  some_there : (i : ℕ) → place name ss ≡ Ok i → value_at name ss ≡ Some (get_or ss i some_named).1
  some_there i at = entry_found name ss i order some_named at

  -- for a stack that is there no longer map is needed
  pub fits_there : (e : Entry) (state : State) (room count i : ℕ) → place name ss ≡ Ok i → LeftFits e state room count (value_at name ss) → LeftFits e state 0 0 (value_at name ss)
  fits_there e state room count i at h =
      subst (λ (o : Option StackStanding). LeftFits e state 0 0 o) (sym (some_there i at)) (subst (λ (o : Option StackStanding). LeftFits e state room count o) (some_there i at) h)

  pub fits_new : (e : Entry) (state : State) (room count i : ℕ) → place name ss ≡ Err i → LeftFits e state room count (value_at name ss) → count + 1 ≤ room
  fits_new e state room count i at h =
      let k : LeftFits e state room count None = subst (λ (o : Option StackStanding). LeftFits e state room count o) (entry_missed name ss i order at) h in k.2

-- what follows from what a result says
pub on_ok : {A E : Type 0} {B C : Type 0} (r : Result A E) → OnOk r B → (B → C) → OnOk r C
on_ok (Ok x) h f = f h
on_ok (Err e) h f = tt

pub on_err : {A E : Type 0} {B C : Type 0} (r : Result A E) → OnErr r B → (B → C) → OnErr r C
on_err (Ok x) h f = tt
on_err (Err e) h f = f h

pub either_way : {A E : Type 0} {B C D : Type 0} (r : Result A E) → OnOk r B → OnErr r C → (B → D) → (C → D) → D
either_way (Ok x) h k f g = f h
either_way (Err e) h k f g = g k

pub err_so : {A E : Type 0} {B : Type 0} (r : Result A E) → B → OnErr r B
err_so (Ok x) h = tt
err_so (Err e) h = h

-- what is written back to a list is all of it
pub written : {A : Type 0} (n : ℕ) (ys zs : List A) → length ys ≡ n → take n (ys ++ zs) ≡ ys
written zero [] zs h = refl
written zero (y ∷ ys) zs h = absurd (omega (arith, h))
written (suc n) [] zs h = absurd (omega (arith, h))
written (suc n) (y ∷ ys) zs h = ap (λ l. y ∷ l) (written n ys zs (omega (arith, h)))
