-- At each moment of an engine's life, in every status, no operation has called a path under more than five tokens of its own (this
-- project's own).
use Rattle.std.specs.Prelude.{◌≡◌, ◌≤◌, ℕ, Bool, List, Some, filter, length}
use Rattle.std.specs.Str.{bytes_eq}
use Rattle.cf_schema.specs.declared.described.Schema.{Schema}
use Rattle.cf_entry.specs.declared.entry.Entry.{Entry}
use Rattle.cf_effect.specs.declared.call.Call.{Call}
use Rattle.cf_effect.specs.declared.held.Pending.{Pending}
use Rattle.cf_effect.specs.World.{StackState, World, stack_at}
use Rattle.cf_plan.specs.Life.{Life, world_of}
use Rattle.cf_core.specs.Fits.{Fits, IsWritten}
use Rattle.cf_core.specs.OnCourse.{IsOnWay}
use Rattle.cf_core.specs.Theorem.{HoldsAlways}
use Rattle.cf_core.specs.Tokens.{HasFewCalls, changes_at, number_of}

-- each entry that is written leaves a stack on its course so
abbrev pub LeavesSo : (StackState → Type 0) → Type 0
LeavesSo P =
    (schemas : List Schema) (x : World) (out : List ℕ) (e : Entry) (name : List ℕ) (s t : StackState) → IsWritten schemas x out e name s t
    → IsOnWay schemas name x s → P t

abbrev pub FewStay : Type 0
FewStay = LeavesSo HasFewCalls

-- but for deletions an operation calls a path under two tokens at most: it updates the path, and then makes it anew or gives it back
abbrev pub FewChanges : Type 0
FewChanges = (s : StackState) → HasFewCalls s → (path : List ℕ) → number_of (changes_at path) s ≤ 2

-- the call is at this path; the open call is
abbrev pub is_call_at : List ℕ → Call → Bool
is_call_at path c = bytes_eq path c.path

abbrev pub is_open_at : List ℕ → Pending → Bool
is_open_at path p = bytes_eq path p.path

-- So in every status the last operation of a stack has called no path under more than five tokens of its own;
abbrev pub TokensAreFew : Type 0
TokensAreFew =
    (schemas : List Schema) (life : Life) (name : List ℕ) (s : StackState) → HoldsAlways schemas life
    → stack_at name (world_of life) ≡ Some s → (path : List ℕ) → number_of (is_call_at path) s ≤ 5

-- and no more than one call of a path is open, of whichever operation.
abbrev pub OneIsOpen : Type 0
OneIsOpen = (x : World) (s : StackState) → Fits x s → (path : List ℕ) → length (filter (is_open_at path) s.tokens) ≤ 1
