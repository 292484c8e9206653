-- What comes next in an operation can be written: a turn back has a cause, no other phase has one, and an operation ends in a status for it.
use Rattle.std.proofs.Common.{◌≡◌, ℕ, List, true, Option, Some, None, refl, arith}
use Rattle.cf_schema.specs.declared.described.Schema.{Schema}
use Rattle.cf_entry.specs.declared.entry.Entry.{Entry}
use Rattle.cf_entry.specs.declared.entry.Entry.TheVariants as entry
use Rattle.cf_entry.specs.declared.status.Status.{Status}
use Rattle.cf_entry.specs.declared.turn.Phase.{Phase}
use Rattle.cf_entry.specs.declared.turn.Phase.TheVariants as phase
use Rattle.cf_entry.specs.declared.turn.Cause.{Cause}
use Rattle.cf_entry.specs.Entry.{IsProper}
use Rattle.cf_entry.specs.Status.{is_end}
use Rattle.cf_effect.specs.World.{StackState, World}
use Rattle.cf_plan.specs.Follow.{EndsAs, MayTurn}
use Rattle.cf_plan.specs.Proper.{GrantedIsProper}

module _ (schemas : List Schema) (name : List ℕ) (x : World) (s : StackState) where
  turn_proper : (number : ℕ) (p : Phase) (c : Option Cause) → MayTurn schemas name x s p c → IsProper (entry.Phase number p c)
  turn_proper number phase.Back (Some c) may = refl
  turn_proper number phase.Back None may = absurd may
  turn_proper number phase.Clean (Some c) may = absurd may
  turn_proper number phase.Clean None may = refl
  turn_proper number phase.BackClean (Some c) may = absurd may
  turn_proper number phase.BackClean None may = refl

  end_proper : (was state : Status) → EndsAs schemas name x s was state → is_end state ≡ true
  end_proper was state ends = grind arith

pub granted_is_proper : GrantedIsProper
granted_is_proper schemas x out (entry.Kept number path physical w) granted may = tt
granted_is_proper schemas x out (entry.Intent number token lane path r) granted may = tt
granted_is_proper schemas x out (entry.Outcome number token a before after) granted may = absurd granted
granted_is_proper schemas x out (entry.Phase number p c) granted (name, s, stage, going, at, (none, may)) = turn_proper schemas name x s number p c may
granted_is_proper schemas x out (entry.Done number state failed) granted (name, s, stage, going, at, (none, over, ends, named)) =
    end_proper schemas name x s s.status state ends
granted_is_proper schemas x out (entry.Opened epoch lanes) granted may = absurd granted
granted_is_proper schemas x out (entry.Begin number stack k) granted may = absurd granted
granted_is_proper schemas x out (entry.ChangeSet number stack from rows outputs) granted may = absurd granted
