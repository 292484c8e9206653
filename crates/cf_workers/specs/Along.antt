-- What a crash may leave of a journal on the way of a command (this project's own format, docs/JOURNAL.md).
use Rattle.std.specs.Prelude.{◌≡◌, ◌⊎◌, ℕ, List, [], ◌∷◌, ◌++◌, Some, Ok, map}
use Rattle.cf_disk.specs.declared.disk.Disk.{Ghosts as DiskGhosts}
use Rattle.cf_handler.specs.declared.handler.Handler.{Ghosts as HandlerGhosts}
use Rattle.cf_schema.specs.declared.described.Schema.{Schema}
use Rattle.cf_entry.specs.declared.entry.Entry.{Entry}
use Rattle.cf_entry.specs.declared.entry.Reply.{Reply}
use Rattle.cf_journal.specs.Record.{record_of}
use Rattle.cf_lane.specs.Calling.{granted_in}
use Rattle.cf_lane.specs.Lanes.{LaneNow}
use Rattle.cf_lane.specs.declared.told.Told.{Told}
use Rattle.cf_plan.specs.Follow.{MayFollow}
use Rattle.cf_plan.specs.Life.{IsBegin}
use Rattle.cf_next.specs.Chosen.{IsNext, entry_for}
use Rattle.cf_next.specs.declared.step.Next.{Next}
use Rattle.cf_book.specs.Entering.{opened_over}
use Rattle.cf_book.specs.Events.{outcome_by, reply_for}
use Rattle.cf_book.specs.Fences.{handed_in}
use Rattle.cf_book.specs.Granting.{IsOpenCall}
use Rattle.cf_book.specs.Record.{world_left}
use Rattle.cf_book.specs.State.{at_home}
use Rattle.cf_workers.specs.Growing.{Extends}
use Rattle.cf_workers.specs.Ordering.{schemas_in}

-- The entry comes next behind these: a beginning that may follow, the step that comes next in an operation, or the outcome of an open call.
pub data IsNextEntry (schemas : List Schema) (es : List Entry) (e : Entry) : Type 0 where
  begins : IsBegin e → MayFollow schemas (world_left es) [] e → IsNextEntry schemas es e
  steps :
      (number : ℕ) (n : Next) → IsNext schemas (world_left es) [] number n → entry_for number n ≡ Some e → IsNextEntry schemas es e
  answers :
      (lane : List ℕ) (told : Told) (r : Reply) → IsOpenCall es lane (granted_in told) → reply_for told.answer ≡ Some r
      → e ≡ outcome_by told r → IsNextEntry schemas es e

-- The entry could come next behind these: over the old ones the opening with the lanes that were handed in, and behind that opening one
-- that comes next.
abbrev pub MayBeNext : List LaneNow → List Entry → List Entry → Entry → Type 0
MayBeNext lanes old es e =
    ((es ≡ old) × (e ≡ opened_over lanes old))
    ⊎ (Extends (old ++ opened_over lanes old ∷ []) es × IsNextEntry (schemas_in (map at_home lanes)) es e)

-- A file on the way from one disk to a later one: its record begins with that of the first, and goes no further than that of the second, or
-- than that with one entry that could come next behind it.
pub record IsAlong {D H : Type 0} (g : DiskGhosts D) (h : HandlerGhosts H) (disk disk' : D) (handlers : List H) (file : List ℕ) : Type 0
  where
    pub old : List Entry
    pub now : List Entry
    pub last : List Entry
    pub was : record_of (g.seen disk) ≡ Ok old
    pub record_is : record_of file ≡ Ok now
    pub stays : record_of (g.seen disk') ≡ Ok last
    pub no_shorter : Extends old now
    pub no_longer :
        Extends now last ⊎ ((e : Entry) × (now ≡ last ++ e ∷ []) × MayBeNext (handed_in h handlers) old last e)

-- what a crash might have left before, or a file along the way
abbrev pub IsOldOrAlong : {D H : Type 0} → DiskGhosts D → HandlerGhosts H → D → D → List H → List ℕ → Type 0
IsOldOrAlong g h disk disk' handlers file = g.may_leave disk file ⊎ IsAlong g h disk disk' handlers file
