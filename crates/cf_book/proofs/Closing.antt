-- Which operations have ended, as entries are appended.
use Rattle.std.proofs.Common.{◌≡◌, inl, inr, ℕ, Bool, true, false, List, [], ◌∷◌, ◌++◌, Option, Some, None, Result, Ok, Err, refl, sym, ◌∙◌, ap}
use Rattle.std.proofs.lemmas.List.Sums.{fold-append}
use Rattle.cf_disk.specs.declared.disk.Disk.{Ghosts}
use Rattle.cf_entry.specs.declared.entry.Entry.{Entry}
use Rattle.cf_entry.specs.declared.entry.Entry.TheVariants as entry
use Rattle.cf_entry.specs.declared.entry.Reply.{Reply}
use Rattle.cf_lane.specs.declared.told.Told.{Told}
use Rattle.cf_plan.specs.Life.{IsBegin}
use Rattle.cf_next.specs.Chosen.{IsInProgress}
use Rattle.cf_book.specs.Ended.{end_status, ended_in, with_end}
use Rattle.cf_book.specs.Granting.{HasBegun, IsMove}
use Rattle.cf_book.specs.Events.{outcome_by}
use Rattle.cf_book.specs.Inside.{doubt_in, entries_in}
use Rattle.cf_book.specs.Lending.{EntersIn}
use Rattle.cf_tree.specs.declared.request.Request.{Request}
use Rattle.cf_book.specs.Record.{AppendsTo, WritesTo, world_left}
use Rattle.cf_book.specs.Settling.{ConcludesAs}
use Rattle.cf_book.specs.declared.ending.Ended.{Ended}
use Rattle.cf_book.specs.declared.record.Record.{Record}
use Rattle.cf_book.specs.declared.stop.StopFault.{StopFault}
use Rattle.cf_book.specs.declared.stop.StopFault.TheVariants as stop

-- one entry more
pub ended_more : (es : List Entry) (e : Entry) → ended_in (es ++ e ∷ []) ≡ with_end (ended_in es) e
ended_more es e = fold-append with_end [] es (e ∷ [])

-- those that have ended stay so behind an entry that is no end and no opening, and where it could not be written
abbrev pub LeavesEnds : Entry → Type 0
LeavesEnds e = (ends : List Ended) → with_end ends e ≡ ends

module _ {D T : Type 0} (g : Ghosts D) (d d' : D) (es es' : List Entry) (doubt doubt' : Option Entry) (e : Entry) (leaves : LeavesEnds e) where
  pub ends_appended : (result : Result T StopFault) → AppendsTo g d d' es es' doubt doubt' e result → ended_in es' ≡ ended_in es
  ends_appended (Ok x) h = ap ended_in h.0 ∙ ended_more es e ∙ leaves (ended_in es)
  ends_appended (Err fault) h = ap ended_in h.0

  pub ends_written : (result : Result T StopFault) → WritesTo g d d' es es' doubt doubt' e result → ended_in es' ≡ ended_in es
  ends_written (Ok x) h = ends_appended (Ok x) h
  ends_written (Err stop.DiskFault) h = ends_appended (Err stop.DiskFault) h
  ends_written (Err (stop.Full l need room)) h = ends_appended (Err (stop.Full l need room)) h
  ends_written (Err (stop.LaneAhead place fence epoch)) h = ends_appended (Err (stop.LaneAhead place fence epoch)) h
  ends_written (Err stop.NoMemory) h = ap ended_in h.1

-- where an end could not be written
pub ends_unwritten : {D : Type 0} (T : Type 0) (g : Ghosts D) (d d' : D) (es es' : List Entry) (doubt doubt' : Option Entry) (e : Entry) (fault : StopFault)
    → WritesTo {T = T} g d d' es es' doubt doubt' e (Err fault) → ended_in es' ≡ ended_in es
ends_unwritten T g d d' es es' doubt doubt' e stop.DiskFault h = ap ended_in h.0
ends_unwritten T g d d' es es' doubt doubt' e (stop.Full l need room) h = ap ended_in h.0
ends_unwritten T g d d' es es' doubt doubt' e (stop.LaneAhead place fence epoch) h = ap ended_in h.0
ends_unwritten T g d d' es es' doubt doubt' e stop.NoMemory h = ap ended_in h.1

pub begin_leaves : (e : Entry) → IsBegin e → LeavesEnds e
begin_leaves (entry.Begin number name k) i ends = refl
begin_leaves (entry.Kept number path physical w) i ends = absurd i
begin_leaves (entry.Intent number token lane path r) i ends = absurd i
begin_leaves (entry.Outcome number token a before after) i ends = absurd i
begin_leaves (entry.Phase number p cause) i ends = absurd i
begin_leaves (entry.Done number state failed) i ends = absurd i
begin_leaves (entry.Opened epoch lanes) i ends = absurd i
begin_leaves (entry.ChangeSet number name source rows outputs) i ends = absurd i

pub move_leaves : (e : Entry) → IsMove e → LeavesEnds e
move_leaves (entry.Kept number path physical w) i ends = refl
move_leaves (entry.Phase number p cause) i ends = refl
move_leaves (entry.Begin number name k) i ends = absurd i
move_leaves (entry.Intent number token lane path r) i ends = absurd i
move_leaves (entry.Outcome number token a before after) i ends = absurd i
move_leaves (entry.Done number state failed) i ends = absurd i
move_leaves (entry.Opened epoch lanes) i ends = absurd i
move_leaves (entry.ChangeSet number name source rows outputs) i ends = absurd i

-- a settled call ends no operation
pub ends_settled : {D T : Type 0} (g : Ghosts D) (old new : Record D) (place : ℕ) (told : Told) (o : Option Reply) (result : Result T StopFault)
    → ConcludesAs g old new place told o result → ended_in (entries_in new) ≡ ended_in (entries_in old)
ends_settled g old new place told (Some r) result h =
    ends_appended g old.disk new.disk (entries_in old) (entries_in new) (doubt_in old) (doubt_in new) (outcome_by told r) (λ ends. refl) result h
ends_settled g old new place told None (Ok x) h = absurd h
ends_settled g old new place told None (Err fault) h = ap (λ (r : Record _). ended_in (entries_in r)) h.0

-- neither does a call that is granted, or could not be
pub ends_entered : {D : Type 0} (T : Type 0) (g : Ghosts D) (old new : Record D) (twice : Bool) (number token : ℕ) (lane path : List ℕ) (q : Request)
    (result : Result T StopFault) → EntersIn g old new twice (entry.Intent number token lane path q) result → ended_in (entries_in new) ≡ ended_in (entries_in old)
ends_entered T g old new false number token lane path q result h =
    ends_written g old.disk new.disk (entries_in old) (entries_in new) (doubt_in old) (doubt_in new) (entry.Intent number token lane path q) (λ ends. refl) result h
ends_entered T g old new true number token lane path q (Ok x) h = ap ended_in h.1
ends_entered T g old new true number token lane path q (Err stop.NoMemory) h = ap ended_in h.1
ends_entered T g old new true number token lane path q (Err stop.DiskFault) h = absurd h
ends_entered T g old new true number token lane path q (Err (stop.Full l need room)) h = absurd h
ends_entered T g old new true number token lane path q (Err (stop.LaneAhead place fence epoch)) h = absurd h

-- an operation that has begun and not ended is in progress
pub going_by : (es : List Entry) (number : ℕ) → HasBegun es number → end_status number (ended_in es) ≡ None → IsInProgress (world_left es) number
going_by es number h none = elim h [
  | inl going ↦ going
  | inr (status, ended) ↦ (let no : None ≡ Some status = sym none ∙ ended in absurd (cc))
]
