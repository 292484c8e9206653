-- How the outcome of a call is written into the record of a disk (this project's own).
use Rattle.std.specs.Prelude.{◌≡◌, ℕ, Option, Some, None, Result, Ok, Err}
use Rattle.cf_tree.specs.declared.request.Answer.{Answer}
use Rattle.cf_tree.specs.declared.request.Answer.TheVariants as answer
use Rattle.cf_disk.specs.declared.disk.Disk.{Ghosts}
use Rattle.cf_entry.specs.declared.entry.Reply.{Reply}
use Rattle.cf_lane.specs.declared.told.Told.{Told}
use Rattle.cf_book.specs.Events.{outcome_by, reply_for}
use Rattle.cf_book.specs.Inside.{AppendsIn}
use Rattle.cf_book.specs.declared.record.Record.{Record}
use Rattle.cf_book.specs.declared.stop.StopFault.{StopFault}
use Rattle.cf_book.specs.declared.stop.StopFault.TheVariants as stop

-- what is written of an answer, or why nothing is: the lane is at this place, and the call was of this opening
abbrev pub StopsAt : ℕ → ℕ → Answer → StopFault → Type 0
StopsAt place epoch a stop.NoMemory = a ≡ answer.NoMemory
StopsAt place epoch a (stop.LaneAhead lane fence e) = (a ≡ answer.Stale fence) × (lane ≡ place) × (e ≡ epoch)
StopsAt place epoch a _ = ⊥

abbrev pub RepliesAs : ℕ → ℕ → Answer → Result Reply StopFault → Type 0
RepliesAs place epoch a (Ok r) = reply_for a ≡ Some r
RepliesAs place epoch a (Err fault) = (reply_for a ≡ None) × StopsAt place epoch a fault

-- the outcome is appended, or could not be; where there is none, the record is as it was
abbrev pub ConcludesAs : {D T : Type 0} → Ghosts D → Record D → Record D → ℕ → Told → Option Reply → Result T StopFault → Type 0
ConcludesAs g old new place told (Some r) result = AppendsIn g old new (outcome_by told r) result
ConcludesAs g old new place told None (Ok x) = ⊥
ConcludesAs g old new place told None (Err fault) = (new ≡ old) × StopsAt place told.epoch told.answer fault
