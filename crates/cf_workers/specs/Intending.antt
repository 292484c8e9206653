-- The calls of a run, each with its Intent in the journal (the handler contract of the CloudFormation registry: a call whose outcome is not
-- known is made again under its token, so a journal has to have it before it is made; the journal is this project's own, docs/JOURNAL.md).
use Rattle.std.specs.Prelude.{◌≡◌, ◌⊎◌, ◌≤◌, ℕ, List, [], ◌∷◌, Ok, IsTrue}
use Rattle.cf_tree.specs.Lists.{In}
use Rattle.cf_disk.specs.Disk.{LeavesOnly}
use Rattle.cf_disk.specs.declared.disk.Disk.{Ghosts as DiskGhosts}
use Rattle.cf_handler.specs.declared.fence.FenceAnswer.{FenceAnswer}
use Rattle.cf_entry.specs.declared.entry.Entry.{Entry}
use Rattle.cf_entry.specs.declared.entry.Entry.TheVariants as entry
use Rattle.cf_journal.specs.Record.{record_of}
use Rattle.cf_lane.specs.Calling.{Granted, IsCalled, granted_in}
use Rattle.cf_lane.specs.Lanes.{IsFenced, LaneNow}
use Rattle.cf_lane.specs.declared.told.Told.{Told}
use Rattle.cf_book.specs.Granting.{IsDurable}
use Rattle.cf_book.specs.State.{BookNow}
use Rattle.cf_workers.specs.Driving.{CallAt}
use Rattle.cf_workers.specs.Growing.{Extends}

-- The Intent of the call is among the entries: with its token, path, lane and request, of an operation of any number.
abbrev pub HasIntent : List Entry → CallAt → Type 0
HasIntent es c = (number : ℕ) × In (entry.Intent number c.told.token c.lane c.path c.told.request) es

-- the file's record begins with these entries
abbrev pub BeginsWith : List Entry → List ℕ → Type 0
BeginsWith es file = (now : List Entry) × (record_of file ≡ Ok now) × Extends es now

-- There was a moment of the command at which each file that a crash might leave had just the entries that were acknowledged; the call's
-- Intent was among them, and its token was open. Each file that a crash might leave then, or at any later moment of the command, begins
-- with these entries.
pub record IsIntendedIn {D : Type 0} (g : DiskGhosts D) (disk disk' : D) (c : CallAt) : Type 0 where
  pub lent : BookNow D
  pub intent : HasIntent lent.entries c
  pub durable : IsDurable g lent c.lane (granted_in c.told)
  pub within : IsTrue g.tells → g.moment disk ≤ g.moment lent.disk
  pub since : IsTrue g.tells → LeavesOnly g.moment g.left_since lent.disk disk' (BeginsWith lent.entries)

-- A lane after calls, one after another: each is made by a lease, and is the last of the log then.
pub data AfterCalls (first : LaneNow) : LaneNow → Type 0 where
  none_made : AfterCalls first first
  one_more :
      {before after : LaneNow} {granted : Granted} {call : Told} → AfterCalls first before → IsCalled granted before after call
      → AfterCalls first after

-- the fence of a lane was raised, or its raising answered otherwise, or nothing was asked of the lane
abbrev pub AfterFence : LaneNow → LaneNow → Type 0
AfterFence before after = (after ≡ before) ⊎ ((epoch : ℕ) × (a : FenceAnswer) × IsFenced before after epoch a)

-- so it is with each lane, in their order: its fence first, then calls, and nothing else
abbrev pub AreAfterCalls : List LaneNow → List LaneNow → Type 0
AreAfterCalls [] [] = Unit {0}
AreAfterCalls (b ∷ bs) (a ∷ more) = ((raised : LaneNow) × AfterFence b raised × AfterCalls raised a) × AreAfterCalls bs more
AreAfterCalls _ _ = ⊥

abbrev pub without_log : LaneNow → LaneNow
without_log l = record l { log = [] }
