-- The stack that an entry is of, found by its name among the fields of a world.
use Rattle.std.proofs.Common.{◌≡◌, ℕ, Bool, true, false, List, [], ◌∷◌, Option, Some, None, find, map, option_map, is_some, refl, sym, ap, ◌∙◌, subst, cond}
use Rattle.std.specs.Option.{option_map_or, unwrap_or}
use Rattle.cf_tree.specs.Keys.{ascends, value_at}
use Rattle.cf_tree.proofs.Order.{ascends_map}
use Rattle.cf_entry.specs.declared.entry.Begun.{Begun}
use Rattle.cf_entry.specs.declared.entry.Begun.TheVariants as begin
use Rattle.cf_entry.specs.declared.entry.Entry.{Entry}
use Rattle.cf_entry.specs.declared.entry.Entry.TheVariants as entry
use Rattle.cf_stacks.specs.declared.standing.Fields.{Fields}
use Rattle.cf_effect.specs.Fold.{stack_for}
use Rattle.cf_stacks.specs.Ready.{IsOfStack}
use Rattle.cf_stacks.specs.Room.{StackStanding, has_call, is_awaited}
use Rattle.cf_stacks.specs.Standing.{NamedStanding, awaited_in, calls_in, stack_in, stack_known, standing_in, world_in}
use Rattle.cf_effect.specs.World.{StackState, is_going, no_stack, stack_at, stack_of_operation}
use Rattle.cf_stacks.proofs.Worlds.{find_under, found_stands, value_under}

abbrev named : List ℕ → StackState → Option (List ℕ × StackState)
named name t = Some (name, t)

abbrev under_name : List ℕ → Option StackState → Option (List ℕ × StackState)
under_name name o = option_map (λ s. (name, s)) o

known_by : (o : Option StackStanding) (p : Option StackState) → p ≡ option_map (λ (t : StackStanding). t.stack) o → unwrap_or p no_stack ≡ stack_known o
known_by None p h = rw h refl
known_by (Some t) p h = rw h refl

some_by : (o : Option StackStanding) (p : Option StackState) (s : StackState) → p ≡ option_map (λ (t : StackStanding). t.stack) o → p ≡ Some s → s ≡ stack_known o
some_by None p s h e = absurd cc
some_by (Some t) p s h e = cc

name_so : (o : Option (List ℕ × StackState)) (name : List ℕ) → option_map (λ (s : List ℕ × StackState). s.0) o ≡ Some name → (t : StackState) × (o ≡ named name t)
name_so None name h = absurd cc
name_so (Some s) name h = (s.1, let e : s.0 ≡ name = cc in ap (λ (k : List ℕ). named k s.1) e)

none_so : (o : Option (List ℕ × StackState)) → option_map (λ (s : List ℕ × StackState). s.0) o ≡ None → o ≡ None
none_so None h = refl
none_so (Some s) h = absurd cc

module _ (x : Fields) (order : ascends x.stacks ≡ true) where
  in_order : ascends (map stack_in x.stacks) ≡ true
  in_order = ascends_map {X = StackStanding} {Y = StackState} stack_in (λ p. refl) x.stacks ∙ order

  -- what is found by its operation stands under its name
  going_for : (number : ℕ) (name : List ℕ) (t : StackState) → stack_of_operation number (world_in x) ≡ named name t → t ≡ stack_known (value_at name x.stacks)
  going_for number name t e =
      some_by (value_at name x.stacks) (value_at name (map stack_in x.stacks)) t (value_under (λ (s : StackStanding). s.stack) name x.stacks)
      (found_stands (λ (s : List ℕ × StackState). is_going number s.1) (map stack_in x.stacks) (name, t) in_order e)

  by_number : (number : ℕ) (name : List ℕ) (o : Option (List ℕ × StackState)) → o ≡ stack_of_operation number (world_in x) → option_map (λ (s : List ℕ × StackState). s.0) o ≡ Some name → o ≡ named name (stack_known (value_at name x.stacks))
  by_number number name o is_o h =
      let found = name_so o name h in
      found.1 ∙ ap (named name) (going_for number name found.0 (sym is_o ∙ found.1))

  known_name : (other name : List ℕ) → other ≡ name → named other (unwrap_or (value_at other (map stack_in x.stacks)) no_stack) ≡ named name (stack_known (value_at name x.stacks))
  known_name other name e =
      ap (λ (k : List ℕ). named k (unwrap_or (value_at k (map stack_in x.stacks)) no_stack)) e
      ∙ ap (named name) (known_by (value_at name x.stacks) (value_at name (map stack_in x.stacks)) (value_under (λ (s : StackStanding). s.stack) name x.stacks))

  by_name : (other name : List ℕ) (o : Option StackState) → o ≡ value_at other (map stack_in x.stacks) → option_map (λ (s : List ℕ × StackState). s.0) (under_name other o) ≡ Some name
      → under_name other o ≡ named name (stack_known (value_at name x.stacks))
  by_name other name None is_o h = absurd cc
  by_name other name (Some s) is_o h =
      let same : other ≡ name = cc in
      let there : value_at name (map stack_in x.stacks) ≡ Some s = subst (λ (k : List ℕ). value_at k (map stack_in x.stacks) ≡ Some s) same (sym is_o) in
      ap (λ (k : List ℕ). named k s) same
      ∙ ap (named name) (some_by (value_at name x.stacks) (value_at name (map stack_in x.stacks)) s (value_under (λ (t : StackStanding). t.stack) name x.stacks) there)

  some_name : (other name : List ℕ) (t : StackState) → option_map (λ (s : List ℕ × StackState). s.0) (named other t) ≡ Some name → other ≡ name
  some_name other name t h = cc

  -- an entry that is of a stack of this name is of the one that stands there
  pub is_for : (e : Entry) (name : List ℕ) → option_map (λ (s : List ℕ × StackState). s.0) (stack_for e (world_in x)) ≡ Some name → IsOfStack name e x
  is_for (entry.Opened epoch lanes) name h = absurd cc
  is_for (entry.Begin number other (begin.Create source)) name h = known_name other name (some_name other name (unwrap_or (value_at other (map stack_in x.stacks)) no_stack) h)
  is_for (entry.Begin number other (begin.Update source)) name h = by_name other name (value_at other (map stack_in x.stacks)) refl h
  is_for (entry.Begin number other (begin.Delete paths)) name h = by_name other name (value_at other (map stack_in x.stacks)) refl h
  is_for (entry.Begin number other (begin.Continue paths)) name h = by_name other name (value_at other (map stack_in x.stacks)) refl h
  is_for (entry.Kept number path physical w) name h = by_number number name (stack_of_operation number (world_in x)) refl h
  is_for (entry.Intent number token lane path r) name h = by_number number name (stack_of_operation number (world_in x)) refl h
  is_for (entry.Outcome number token answer before after) name h = by_number number name (stack_of_operation number (world_in x)) refl h
  is_for (entry.Phase number p cause) name h = by_number number name (stack_of_operation number (world_in x)) refl h
  is_for (entry.Done number state failed) name h = by_number number name (stack_of_operation number (world_in x)) refl h
  is_for (entry.ChangeSet number other source rows outputs) name h = known_name other name (some_name other name (unwrap_or (value_at other (map stack_in x.stacks)) no_stack) h)

  -- whether the outcome of a call is awaited, by the stack of the operation as it stands
  awaited_by : (token : ℕ) (o : Option NamedStanding) → ((s : NamedStanding) → o ≡ Some s → value_at s.0 x.stacks ≡ Some s.1)
      → option_map_or (λ (s : List ℕ × StackState). has_call token (unwrap_or (value_at s.0 (awaited_in x)) [])) (option_map stack_in o) false ≡ option_map_or (λ (s : NamedStanding). has_call token s.1.awaited) o false
  awaited_by token None f = refl
  awaited_by token (Some s) f =
      ap (λ (o : Option (List ℕ)). has_call token (unwrap_or o [])) (value_under (λ (t : StackStanding). t.awaited) s.0 x.stacks ∙ ap (λ (o : Option StackStanding). option_map (λ (t : StackStanding). t.awaited) o) (f s refl))

  pub awaited_so : (number token : ℕ) → is_awaited number token (standing_in x) ≡ option_map_or (λ (s : NamedStanding). has_call token s.1.awaited) (find (λ s. is_going number s.1.stack) x.stacks) false
  awaited_so number token =
      ap (λ (o : Option (List ℕ × StackState)). option_map_or (λ (s : List ℕ × StackState). has_call token (unwrap_or (value_at s.0 (awaited_in x)) [])) o false) (find_under (λ (s : StackStanding). s.stack) (is_going number) x.stacks)
      ∙ awaited_by token (find (λ s. is_going number s.1.stack) x.stacks) (λ s e. found_stands (λ (s : NamedStanding). is_going number s.1.stack) x.stacks s order e)

  -- an entry that has no name is of no stack
  pub is_for_none : (e : Entry) → option_map (λ (s : List ℕ × StackState). s.0) (stack_for e (world_in x)) ≡ None → stack_for e (world_in x) ≡ None
  is_for_none e h = none_so (stack_for e (world_in x)) h

names_of : (o : Option NamedStanding) → option_map (λ (s : List ℕ × StackState). s.0) (option_map stack_in o) ≡ option_map (λ (s : NamedStanding). s.0) o
names_of None = refl
names_of (Some s) = refl

-- the name of the stack on which an operation is in progress
pub name_going : (x : Fields) (number : ℕ) → option_map (λ (s : List ℕ × StackState). s.0) (stack_of_operation number (world_in x)) ≡ option_map (λ (s : NamedStanding). s.0) (find (λ s. is_going number s.1.stack) x.stacks)
name_going x number = ap (λ (o : Option (List ℕ × StackState)). option_map (λ (s : List ℕ × StackState). s.0) o) (find_under (λ (s : StackStanding). s.stack) (is_going number) x.stacks) ∙ names_of (find (λ s. is_going number s.1.stack) x.stacks)

name_by : (name : List ℕ) (o : Option StackStanding) (p : Option StackState) → p ≡ option_map (λ (t : StackStanding). t.stack) o → option_map (λ (s : List ℕ × StackState). s.0) (under_name name p) ≡ option_map (λ (t : StackStanding). name) o
name_by name None p h = rw h refl
name_by name (Some t) p h = rw h refl

-- a name, where its stack is there
pub name_there : (x : Fields) (name : List ℕ) → option_map (λ (s : List ℕ × StackState). s.0) (option_map (λ (s : StackState). (name, s)) (stack_at name (world_in x))) ≡ option_map (λ (t : StackStanding). name) (value_at name x.stacks)
name_there x name = name_by name (value_at name x.stacks) (value_at name (map stack_in x.stacks)) (value_under (λ (t : StackStanding). t.stack) name x.stacks)
