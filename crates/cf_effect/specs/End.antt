-- What a later phase and the end of an operation leave (User Guide: stack status codes, update rollbacks).
use Rattle.std.specs.Prelude.{ℕ, Bool, true, false, ◌&&◌, not, List, [], ◌++◌, Option, Some, None, map, find, if◌then◌else◌}
use Rattle.std.specs.Option.{option_map_or, unwrap_or}
use Rattle.std.specs.Str.{bytes_eq}
use Rattle.cf_tree.specs.declared.request.Request.{Request}
use Rattle.cf_tree.specs.declared.request.Request.TheVariants as request
use Rattle.cf_tree.specs.declared.source.Source.{Source}
use Rattle.cf_entry.specs.declared.status.Status.{Status}
use Rattle.cf_entry.specs.declared.status.Status.TheVariants as status
use Rattle.cf_entry.specs.declared.turn.Phase.{Phase}
use Rattle.cf_entry.specs.declared.turn.Phase.TheVariants as phase
use Rattle.cf_desired.specs.Seeing.{Seen}
use Rattle.cf_desired.specs.Whole.{Right, Whole, whole_of}
use Rattle.cf_effect.specs.declared.held.Held.{Held}
use Rattle.cf_effect.specs.declared.held.HeldStatus.{HeldStatus}
use Rattle.cf_effect.specs.declared.held.HeldStatus.TheVariants as held
use Rattle.cf_effect.specs.declared.held.Pending.{Pending}
use Rattle.cf_effect.specs.Status.{turned}
use Rattle.cf_effect.specs.World.{StackState}
use Rattle.cf_effect.specs.Words.{has_physical, is_on, resource_at, resources_of}
use Rattle.cf_effect.specs.Calls.{anew}
use Rattle.cf_effect.specs.Listed.{Same, Only, import_names}
use Rattle.cf_effect.specs.Effect.{Effect, on_stack}
use Rattle.cf_effect.specs.Begin.{seen_in}

-- What the stack's template wants, all of it, over the resource of each path; nothing where not all of that is known.
abbrev pub seen_now : StackState → Seen
seen_now s = seen_in (s.made ++ s.held)

abbrev pub empty_whole : Whole
empty_whole = record { wanted = []; outputs = []; exports = [] }

abbrev pub whole_over : Option Source → Seen → Whole
whole_over None seen = empty_whole
whole_over (Some source) seen = unwrap_or (whole_of source seen) empty_whole

abbrev pub whole_now : StackState → Whole
whole_now s = whole_over s.going (seen_now s)

-- Where the forward phase is complete, the resource of each path is held as the template says, every other one is
-- superseded, and nothing is made. Source, outputs, exports and pins are those of the operation.
abbrev pub is_physical_of : List ℕ → Option Held → Bool
is_physical_of physical h = option_map_or (has_physical physical) h false

abbrev pub is_right_at : List ℕ → Right → Bool
is_right_at path r = bytes_eq path r.path

abbrev pub as_wanted : Option Right → Held → Held
as_wanted None h = record h { superseded = true }
as_wanted (Some w) h = record h { needs = w.needs; deletion = w.deletion; replace = w.replace; superseded = false }

abbrev pub settled_in : Whole → StackState → Held → Held
settled_in whole s h =
    if is_physical_of h.physical (resource_at h.path s) && not h.superseded then as_wanted (find (is_right_at h.path) whole.wanted) h
    else record h { superseded = true }

abbrev pub completing : Whole → StackState → StackState
completing whole s = record s { held = map (settled_in whole s) (resources_of s); made = []; source = s.going; outputs = whole.outputs }

abbrev pub completed : Whole → StackState → Effect
completed whole s = record { stack = completing whole s; exports = Some whole.exports; pins = Only (import_names s.going); claims = Same }

-- A later phase. Clean completes the update, the others change the status alone; every call counts anew.
abbrev pub turning : Phase → StackState → StackState
turning p s = record s { status = turned s.status p; ledger = map anew s.ledger }

abbrev pub turned_effect : Phase → StackState → Effect
turned_effect phase.Clean s = completed (whole_now s) (turning phase.Clean s)
turned_effect p s = on_stack (turning p s)

-- The end. A resource of which a call is open is left in doubt.
abbrev pub doubtful : Request → HeldStatus → HeldStatus
doubtful (request.Create k props) state = state
doubtful (request.Update id props) state = held.UpdateFailed
doubtful (request.Delete id) state = held.DeleteFailed

abbrev pub left_in_doubt : Option Pending → Held → Held
left_in_doubt None h = h
left_in_doubt (Some p) h = record h { status = doubtful p.request h.status }

abbrev pub marked : List Pending → Held → Held
marked ps h = left_in_doubt (find (is_on h.physical) ps) h

abbrev pub stopping : Status → StackState → StackState
stopping state s = record s { status = state; held = map (marked s.tokens) s.held; made = map (marked s.tokens) s.made }

-- what a rollback that failed made is held; one that took an update back leaves the pins of the source that was completed
-- last; where all is gone, none are left
abbrev pub ending : Status → StackState → Effect
ending status.CreateComplete s = completed (whole_now s) s
ending status.RollbackFailed s = on_stack (record s { held = s.held ++ s.made; made = [] })
ending status.UpdateRollbackComplete s = record (on_stack s) { pins = Only (import_names s.source) }
ending status.RollbackComplete s = record (on_stack s) { pins = Only [] }
ending status.DeleteComplete s = record (on_stack s) { pins = Only [] }
ending _ s = on_stack s

abbrev pub ended_effect : Status → StackState → Effect
ended_effect state s = record (ending state (stopping state s)) { claims = Only [] }
