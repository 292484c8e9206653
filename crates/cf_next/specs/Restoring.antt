-- What the rollback of an update gives back, as it is found out by names that were marked (this project's own).
use Rattle.std.specs.Prelude.{◌≡◌, ℕ, ◌==◌, Bool, true, ◌&&◌, not, List, [], Option, Some, None, filter, fold, is_some, length, map, if◌then◌else◌}
use Rattle.std.specs.List.{list_any}
use Rattle.cf_tree.specs.Keys.{put, value_at}
use Rattle.cf_tree.specs.declared.request.Request.{Request}
use Rattle.cf_tree.specs.declared.request.Request.TheVariants as request
use Rattle.cf_entry.specs.declared.turn.Phase.TheVariants as phase
use Rattle.cf_effect.specs.declared.call.Call.{Call}
use Rattle.cf_effect.specs.declared.held.Held.{Held}
use Rattle.cf_effect.specs.Calls.{succeeded, was_restored, was_updated}
use Rattle.cf_effect.specs.Operation.{was_skipped}
use Rattle.cf_effect.specs.Status.{Back, goes_back, goes_forward}
use Rattle.cf_effect.specs.World.{StackState}
use Rattle.cf_plan.specs.Follow.{has_refused_restore, has_restore, is_free, waits_for_repeats}
use Rattle.cf_plan.specs.Start.{Start}
use Rattle.cf_next.specs.declared.offer.Turn.{Turn}
use Rattle.cf_next.specs.declared.past.Past.{Past}

-- a name is marked where something stands under it
abbrev pub is_marked : List ℕ → List (List ℕ × Bool) → Bool
is_marked name marks = is_some (value_at name marks)

abbrev pub mark_if : Bool → List ℕ → List (List ℕ × Bool) → List (List ℕ × Bool)
mark_if marked name marks = if marked then put name true marks else marks

abbrev pub with_marks : List (List ℕ) → List (List ℕ × Bool) → List (List ℕ × Bool)
with_marks names marks = fold (λ ms name. mark_if true name ms) marks names

-- what a call of an operation tells of the resource that it updates
abbrev pub with_update : ℕ → Past → Call → List ℕ → Past
with_update number past c physical = record past {
  updated = mark_if (goes_forward c.status && succeeded c) physical past.updated;
  restored = mark_if (goes_back c.status && succeeded c) physical past.restored;
  tried = mark_if (c.number == number && goes_back c.status) physical past.tried;
}

abbrev pub noting_update : ℕ → Past → Call → Request → Past
noting_update number past c (request.Update physical props) = with_update number past c physical
noting_update number past c _ = past

abbrev pub noting_call : ℕ → Past → Call → Past
noting_call number past c = noting_update number past c c.request

-- Marked are just the ids of resources that were updated in place, given back, and called to be given back; the paths that are
-- skipped, and those at which a call is open.
pub record AreMarksOf (s : StackState) (past : Past) : Type 0 where
  pub updated : (physical : List ℕ) → is_marked physical past.updated ≡ was_updated physical s
  pub restored : (physical : List ℕ) → is_marked physical past.restored ≡ was_restored physical s
  pub tried : (physical : List ℕ) → is_marked physical past.tried ≡ has_restore physical s
  pub skipped : (path : List ℕ) → is_marked path past.skipped ≡ was_skipped path s
  pub called : (path : List ℕ) → not (is_marked path past.called) ≡ is_free path s

-- a resource of before is to be given back what it had; a call may begin that does, where no repeat is waited for
abbrev pub is_to_restore : StackState → Held → Bool
is_to_restore s b = was_updated b.physical s && (not (was_restored b.physical s) && not (was_skipped b.path s))

abbrev pub may_restore : StackState → Held → Bool
may_restore s b = is_to_restore s b && (not (has_restore b.physical s) && is_free b.path s)

abbrev pub restore_of : Held → Start
restore_of b = record { path = b.path; request = request.Update b.physical b.props }

abbrev pub restores : StackState → List Held → List Start
restores s bs = map restore_of (filter (may_restore s) bs)

abbrev pub restores_out : List ℕ → StackState → List Start
restores_out out s = if waits_for_repeats Back out s then [] else restores s s.before

-- all is given back, and so the deletion of what was made begins
abbrev pub is_restored : StackState → Bool
is_restored s = length s.tokens == 0 && (not (list_any (is_to_restore s) s.before) && not (has_refused_restore s))

abbrev pub turn_restored : Bool → Option Turn
turn_restored over = if over then Some (record { phase = phase.BackClean; cause = None }) else None
