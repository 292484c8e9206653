-- One operation is of one stack: the numbers of operations tell stacks apart, as long as each operation begins with a
-- number above the last one (this project's own).
use Rattle.std.specs.Prelude.{◌≡◌, ⊤, ℕ, ◌<◌, ◌≤◌, Some, IsTrue, List}
use Rattle.cf_tree.specs.Keys.{ascends}
use Rattle.cf_entry.specs.declared.entry.Entry.{Entry}
use Rattle.cf_entry.specs.declared.entry.Entry.TheVariants as entry
use Rattle.cf_effect.specs.World.{StackState, World, stack_at}
use Rattle.cf_effect.specs.Fold.{world_after}

-- names ascend, no operation is above the last one, and no two stacks have the same, but for those on which none ever began
pub record AreApart (x : World) : Type 0 where
  pub names : IsTrue (ascends x.stacks)
  pub last : (name : List ℕ) (s : StackState) → stack_at name x ≡ Some s → s.operation ≤ x.operation
  pub apart : (a b : List ℕ) (s t : StackState) → stack_at a x ≡ Some s → stack_at b x ≡ Some t → s.operation ≡ t.operation → 0
      < s.operation → a ≡ b

abbrev pub HasNextNumber : Entry → World → Type 0
HasNextNumber (entry.Begin number name k) x = x.operation < number
HasNextNumber e x = ⊤

abbrev pub StayApart : Type 0
StayApart = (x : World) (e : Entry) → AreApart x → HasNextNumber e x → AreApart (world_after x e)
