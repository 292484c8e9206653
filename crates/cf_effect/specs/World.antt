-- What a journal's entries leave of each stack and of all stacks together, as plain records (this project's own; what a
-- stack holds, its outputs and its statuses are those of the User Guide).
use Rattle.std.specs.Prelude.{ℕ, ◌==◌, Bool, ◌&&◌, List, [], Option, None, find}
use Rattle.std.specs.Option.{unwrap_or}
use Rattle.cf_tree.specs.Keys.{value_at}
use Rattle.cf_tree.specs.declared.source.Source.{Source}
use Rattle.cf_export.specs.declared.Export.{Export}
use Rattle.cf_export.specs.declared.Output.{Output}
use Rattle.cf_export.specs.declared.Pin.{Pin}
use Rattle.cf_entry.specs.declared.entry.Entry.{Entry}
use Rattle.cf_entry.specs.declared.status.Status.{Status}
use Rattle.cf_entry.specs.declared.status.Status.TheVariants as status
use Rattle.cf_effect.specs.declared.call.Call.{Call}
use Rattle.cf_effect.specs.declared.held.Held.{Held}
use Rattle.cf_effect.specs.declared.held.Leftover.{Leftover}
use Rattle.cf_effect.specs.declared.held.Pending.{Pending}
use Rattle.cf_effect.specs.declared.held.GivenUp.{GivenUp}
use Rattle.cf_effect.specs.declared.held.KeptSet.{KeptSet}
use Rattle.cf_effect.specs.Status.{is_in_progress}

pub record StackState : Type 0 where
  pub status : Status
  pub number : ℕ  -- of the operation that created it; 0 while it is under review
  pub operation : ℕ  -- the number of its last operation
  pub held : List Held
  pub before : List Held  -- what it held as its last create or update began
  pub made : List Held  -- what its operation made
  pub leftovers : List Leftover
  pub tokens : List Pending  -- its open calls
  pub abandoned : List GivenUp
  pub source : Option Source  -- the one that was completed last
  pub going : Option Source  -- that of its last create or update
  pub outputs : List Output
  pub sets : List KeptSet
  pub events : List (List ℕ)
  pub entries : List Entry  -- those since its last Begin that is no continued rollback, with each opening since
  pub ledger : List Call  -- one row for each call of these entries, and for each that was open before them

pub record World : Type 0 where
  pub stacks : List (List ℕ × StackState)  -- by name
  pub exports : List Export
  pub pins : List Pin  -- the exports that stacks import
  pub claims : List Pin  -- the names that operations in progress mean to export
  pub lanes : List (List ℕ × List ℕ)  -- those of the last opening, with their types
  pub epoch : ℕ  -- the last numbers: of an opening, an operation, a change set and a call
  pub operation : ℕ
  pub set : ℕ
  pub token : ℕ
  pub place : ℕ  -- how many entries there were

-- the world before the first entry, and a stack of which nothing is known
abbrev pub empty_world : World
empty_world =
    record { stacks = []; exports = []; pins = []; claims = []; lanes = []; epoch = 0; operation = 0; set = 0; token = 0; place = 0 }

abbrev pub no_stack : StackState
no_stack = record {
  status = status.DeleteComplete;
  number = 0;
  operation = 0;
  held = [];
  before = [];
  made = [];
  leftovers = [];
  tokens = [];
  abandoned = [];
  source = None;
  going = None;
  outputs = [];
  sets = [];
  events = [];
  entries = [];
  ledger = [];
}

-- the stack of a name, where it is there; the stack of a name, or else one of which nothing is known
abbrev pub stack_at : List ℕ → World → Option StackState
stack_at name x = value_at name x.stacks

abbrev pub known_stack : List ℕ → World → StackState
known_stack name x = unwrap_or (stack_at name x) no_stack

-- the operation of this number is in progress on the stack
abbrev pub is_going : ℕ → StackState → Bool
is_going number s = s.operation == number && is_in_progress s.status

-- the stack, with its name, on which the operation of this number is in progress
abbrev pub stack_of_operation : ℕ → World → Option (List ℕ × StackState)
stack_of_operation number x = find (λ s. is_going number s.1) x.stacks
