-- What the forward phase of a create or an update offers, as code puts it together (this project's own).
use Rattle.std.specs.Prelude.{◌≡◌, Bool, true, false, List, [], Option, Some, None, if◌then◌else◌}
use Rattle.cf_schema.specs.declared.described.Schema.{Schema}
use Rattle.cf_effect.specs.Status.{Forward, stage_of}
use Rattle.cf_effect.specs.World.{StackState}
use Rattle.cf_plan.specs.Overview.{IsOverview}
use Rattle.cf_plan.specs.declared.overview.Overview.{Overview}
use Rattle.cf_entry.specs.declared.status.Status.{Status}
use Rattle.cf_entry.specs.declared.status.Status.TheVariants as status
use Rattle.cf_entry.specs.declared.turn.Cause.{Cause}
use Rattle.cf_entry.specs.declared.turn.Phase.TheVariants as phase
use Rattle.cf_next.specs.declared.offer.Offer.{Offer}
use Rattle.cf_next.specs.declared.offer.Turn.{Turn}

-- what is known of the paths of an operation that goes forward
abbrev pub IsOverviewIn : List Schema → StackState → Option Overview → Type 0
IsOverviewIn schemas s None = stage_of s.status ≡ Some Forward → ⊥
IsOverviewIn schemas s (Some o) = IsOverview schemas s o

-- an update goes forward
abbrev pub is_updating : Status → Bool
is_updating status.UpdateInProgress = true
is_updating _ = false

-- where it has failed there is only the turn; where all is done, an update cleans up
abbrev pub failed_offer : Cause → Offer
failed_offer c = record {
  repeats = [];
  starts = [];
  keepings = [];
  turn = Some (record { phase = phase.Back; cause = Some c });
  is_made = false;
}

abbrev pub turn_made : Bool → Option Turn
turn_made over = if over then Some (record { phase = phase.Clean; cause = None }) else None
