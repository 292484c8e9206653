-- How much memory is laid by for the outcome of a call (this project's own).
use Rattle.std.specs.Prelude.{◌≡◌, ⊤, ℕ, ◌+◌, ◌≤◌, ◌==◌, Bool, true, false, List, [], ◌∷◌, Option, Some, find, length, string_bytes, string_capacity, vec_len, vec_capacity}
use Rattle.std.specs.List.{AllByRecursion}
use Rattle.cf_tree.specs.declared.request.Request.{Request}
use Rattle.cf_entry.specs.declared.entry.Begun.TheVariants as begin
use Rattle.cf_entry.specs.declared.entry.Entry.{Entry}
use Rattle.cf_entry.specs.declared.entry.Entry.TheVariants as entry
use Rattle.cf_effect.specs.declared.held.Pending.{Pending}
use Rattle.cf_effect.specs.declared.terms.Terms.{Terms}
use Rattle.cf_stacks.specs.declared.room.CallRoom.{CallRoom}
use Rattle.cf_effect.specs.declared.state.State.{State}
use Rattle.cf_effect.specs.Reserve.{TermsFit}
use Rattle.cf_effect.specs.World.{StackState}
use Rattle.cf_effect.specs.Words.{has_token, is_create, is_created, pending_of}
use Rattle.cf_effect.specs.Reply.{terms_at}

-- the line of its outcome fits
abbrev pub LineFits : ℕ → ℕ → StackState → Type 0
LineFits token capacity s = (p : Pending) → pending_of token s ≡ Some p → length p.path + 100 ≤ capacity

-- The room for the next outcome of a call. The longest outcome is of 525,350 bytes: an id of 1,024, attributes of 524,288, and
-- 38 for the rest.
pub record IsRoomFor (s : StackState) (r : CallRoom) : Type 0 where
  pub terms : TermsFit r.token r.terms s
  pub line : LineFits r.token (string_capacity r.line) s
  pub blank : string_bytes r.line ≡ []
  pub empty : r.spelled.items ≡ []
  pub spelled : 525350 ≤ vec_capacity r.spelled

-- the room for the next outcome of a call that goes out with this request at this path
pub record IsNewRoom (path : List ℕ) (request : Request) (s : StackState) (r : CallRoom) : Type 0 where
  pub terms : is_create request ≡ true → r.terms ≡ terms_at path s
  pub line : length path + 100 ≤ string_capacity r.line
  pub blank : string_bytes r.line ≡ []
  pub empty : r.spelled.items ≡ []
  pub spelled : 525350 ≤ vec_capacity r.spelled

-- the room is that of the call of this token
abbrev pub is_room_of : ℕ → CallRoom → Bool
is_room_of token r = token == r.token

-- no two of these calls have one token
abbrev pub is_other : ℕ → Pending → Type 0
is_other token p = (token == p.token) ≡ false

abbrev pub HaveOwnTokens : List Pending → Type 0
HaveOwnTokens [] = Unit {0}
HaveOwnTokens (p ∷ ps) = AllByRecursion (is_other p.token) ps × HaveOwnTokens ps

-- what is laid by for a call stays right for its stack: its source and what was held before stay, and no other call has its token
pub record KeepsCalls (old new : StackState) : Type 0 where
  pub going : new.going ≡ old.going
  pub before : new.before ≡ old.before
  pub tokens : (token : ℕ) (p : Pending) → pending_of token new ≡ Some p → pending_of token old ≡ Some p

-- an entry leaves the calls of its stack so: a create or an update rests on something else, and an intent adds one
abbrev pub LeavesCalls : Entry → StackState → StackState → Type 0
LeavesCalls (entry.Begin number name (begin.Create source)) old new = HaveOwnTokens new.tokens
LeavesCalls (entry.Begin number name (begin.Update source)) old new = HaveOwnTokens new.tokens
LeavesCalls (entry.Intent number token lane path r) old new = ⊤
LeavesCalls e old new = KeepsCalls old new × HaveOwnTokens new.tokens
