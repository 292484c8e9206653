-- What an entry of the forward phase leaves of a path as it was, and what it may change of its stack (this project's own).
use Rattle.std.specs.Prelude.{◌≡◌, ℕ, true, false, IsTrue, List, Some}
use Rattle.cf_tree.specs.declared.source.Source.{Source}
use Rattle.cf_entry.specs.declared.entry.Entry.{Entry}
use Rattle.cf_schema.specs.declared.described.Schema.{Schema}
use Rattle.cf_effect.specs.declared.call.Call.{Call}
use Rattle.cf_effect.specs.declared.held.Held.{Held}
use Rattle.cf_effect.specs.declared.held.Pending.{Pending}
use Rattle.cf_effect.specs.World.{StackState}
use Rattle.cf_effect.specs.Words.{current_at, is_update, updates}
use Rattle.cf_effect.specs.Calls.{was_updated}
use Rattle.cf_effect.specs.Status.{goes_forward}
use Rattle.cf_plan.specs.Forward.{IsDone, IsReady, was_updated_at}
use Rattle.cf_tree.specs.Lists.{In}
use Rattle.cf_core.specs.Advancing.{AreSameThings, AreSingle, IsAsBefore, IsAsSaid, AsksForNow, IsHidden, changes_begun}

-- the same is made and held at a path, and it was updated or not as before
pub record IsStill (s t : StackState) (path : List ℕ) : Type 0 where
  pub made : current_at path t.made ≡ current_at path s.made
  pub held : current_at path t.held ≡ current_at path s.held
  pub updated : was_updated_at path t ≡ was_updated_at path s

-- the operation goes by the same source over what was held before, and each path that was done is as it was
pub record IsFurther (s t : StackState) (source : Source) : Type 0 where
  pub going : s.going ≡ Some source
  pub goes : t.going ≡ Some source
  pub before : t.before ≡ s.before
  pub done : (path : List ℕ) → IsDone s path → IsStill s t path

-- an open call as a stack that goes forward has it
pub record IsOpenAhead (schemas : List Schema) (s : StackState) (source : Source) (p : Pending) : Type 0 where
  pub ready : IsReady s p.path
  pub not_done : ¬ IsDone s p.path
  pub asked : AsksForNow s p.path p.request
  pub hidden : IsHidden (changes_begun schemas s source).rows s p.path p.request

-- rows of a ledger as a stack that goes forward has them
pub record AreAhead (s : StackState) (cs : List Call) : Type 0 where
  pub calls : (c : Call) → In c cs → (c.number ≡ s.operation) × IsTrue (goes_forward c.status)
  pub at_path : (c : Call) (b : Held) → In c cs → In b s.before → IsTrue (updates b.physical c.request) → c.path ≡ b.path

-- The stack with these resources held and made, these calls open, and these rows in its ledger.
abbrev pub moved : StackState → List Held → List Held → List Pending → List Call → List Entry → List (List ℕ) → StackState
moved s hs ms ts cs es lines = record s { held = hs; made = ms; tokens = ts; ledger = cs; entries = es; events = lines }

-- What the entry leaves of a path: it is as it was; or it is that of an open call that succeeds, and then what is held there stays as
-- it was after a create, and has the same id after an update.
pub data HeldLeft (s t : StackState) (p : Pending) (path : List ℕ) : Type 0 where
  by_create : is_update p.request ≡ false → current_at path t.held ≡ current_at path s.held → HeldLeft s t p path
  by_update :
      (g h : Held) → is_update p.request ≡ true → current_at path t.made ≡ current_at path s.made → current_at path s.held ≡ Some g
      → current_at path t.held ≡ Some h → h.physical ≡ g.physical → HeldLeft s t p path

pub data LeftAt (s t : StackState) (path : List ℕ) : Type 0 where
  unmoved : IsStill s t path → LeftAt s t path
  closed :
      (p : Pending) → In p s.tokens → p.path ≡ path → ((q : Pending) → In q t.tokens → ¬ (q.path ≡ path)) → HeldLeft s t p path
      → LeftAt s t path

-- In these alone t differs from s, and what is made and updated is as the template said.
pub record IsMoved (schemas : List Schema) (s t : StackState) (source : Source) : Type 0 where
  pub left : (path : List ℕ) → LeftAt s t path
  pub open_ : (p : Pending) → In p t.tokens → IsOpenAhead schemas s source p
  pub held : AreSameThings s.before t.held
  pub unchanged : (b h : Held) → In b s.before → In h t.held → h.physical ≡ b.physical → was_updated b.physical t ≡ false → IsAsBefore b h
  pub single_made : AreSingle t.made
  pub made : (r : Held) → In r t.made → IsAsSaid s r
  pub updated : (path : List ℕ) → IsTrue (was_updated_at path t) → (h : Held) × (current_at path t.held ≡ Some h) × IsAsSaid s h
  pub calls : AreAhead s t.ledger
