-- Why an operation was rolled back, and the counts of its calls (User Guide: stack failure options; which cause is told is this project's
-- own).
use Rattle.std.specs.Prelude.{◌≡◌, ℕ, ◌≤◌, List, [], filter_map, ⊤}
use Rattle.std.specs.Option.{unwrap_or}
use Rattle.cf_tree.specs.declared.request.Request.{Request}
use Rattle.cf_entry.specs.declared.entry.Entry.{Entry}
use Rattle.cf_entry.specs.declared.entry.Entry.TheVariants as entry
use Rattle.cf_entry.specs.declared.turn.Cause.{Cause}
use Rattle.cf_entry.specs.declared.turn.Cause.TheVariants as cause
use Rattle.cf_effect.specs.World.{StackState}
use Rattle.cf_effect.specs.Operation.{own_of}
use Rattle.cf_lane.specs.Lanes.{LaneNow}
use Rattle.cf_tree.specs.Lists.{In, first_in}
pub use Rattle.cf_core.specs.Turned.{TurnsBack, cause_in, reason_in}

-- why the stack's last operation turned back; without a cause, which no rollback is, an empty text
abbrev pub cause_of : StackState → Cause
cause_of s = unwrap_or (first_in (filter_map cause_in (own_of s))) (cause.Plan [])

-- These counts lie between those of the lane of this name, as it was and as it is.
pub record IsCountedOn (lanes lanes' : List LaneNow) (name : List ℕ) (before after : ℕ) : Type 0 where
  pub was : LaneNow
  pub now : LaneNow
  pub was_there : In was lanes
  pub is_there : In now lanes'
  pub was_named : was.name ≡ name
  pub is_named : now.name ≡ name
  pub between : (was.count ≤ before) × (before ≤ after) × (after ≤ now.count)

-- the call of a token went out to this lane, as its Intent says
abbrev pub IsSentTo : List Entry → ℕ → List ℕ → Type 0
IsSentTo es token lane = (number : ℕ) × (path : List ℕ) × (r : Request) × In (entry.Intent number token lane path r) es

-- the counts of an outcome lie between those of the lane that its call went out to
abbrev pub IsCountedAsSent : List LaneNow → List LaneNow → List Entry → Entry → Type 0
IsCountedAsSent lanes lanes' es (entry.Outcome number token answer before after) =
    (lane : List ℕ) × IsSentTo es token lane × IsCountedOn lanes lanes' lane before after
IsCountedAsSent lanes lanes' es _ = ⊤
