-- The record of a book where room was made for a call that is made again.
use Rattle.std.proofs.Common.{◌≡◌, Bool, true, false, List, Option, Some, None, Result, Ok, Err, OnOk, IsTrue, map, option_map, refl, sym, ◌∙◌, ap, subst}
use Rattle.std.specs.declared.snapshot.Snapshot.{Snapshot}
use Rattle.cf_disk.specs.Disk.{LeavesOnly}
use Rattle.cf_disk.specs.declared.disk.Disk.{Ghosts}
use Rattle.cf_entry.specs.declared.entry.Entry.{Entry}
use Rattle.cf_journal.specs.Record.{Stands, record_of}
use Rattle.cf_book.specs.Inside.{IsOpen, doubt_in, entries_in}
use Rattle.cf_book.specs.Lending.{EntersIn, IsSameRecord}
use Rattle.cf_book.specs.Record.{LeavesOneMore, world_left}
use Rattle.cf_book.specs.declared.record.Record.{Record}
use Rattle.cf_book.specs.declared.stop.StopFault.{StopFault}
use Rattle.cf_book.specs.declared.stop.StopFault.TheVariants as stop

module _ {D : Type 0} (g : Ghosts D) (r r' : Record D) (disk : r'.disk ≡ r.disk) (entries : r'.entries.items ≡ r.entries.items) (doubt : r'.doubt ≡ r.doubt)
    (journal : r'.journal ≡ r.journal) where
  pub same_record : IsSameRecord r r'
  same_record = (disk, ap (map (λ (e : Snapshot Entry). e.value)) entries, ap (option_map (λ (e : Snapshot Entry). e.value)) doubt)

  pub open_again : IsOpen g r → IsOpen g r'
  open_again h = record {
    stands = subst (λ d. Stands g.tells g.seen g.may_leave g.room_of r'.journal d) (sym disk)
        (subst (λ j. Stands g.tells g.seen g.may_leave g.room_of j r.disk) (sym journal) h.stands);
    holds = λ t. ap (λ d. record_of (g.seen d)) disk ∙ h.holds t ∙ ap Ok (sym same_record.1);
    certain = same_record.2 ∙ h.certain;
  }

  pub world_again : r'.world.world ≡ r.world.world → r.world.world ≡ world_left (entries_in r) → r'.world.world ≡ world_left (entries_in r')
  world_again w h = w ∙ h ∙ ap world_left (sym same_record.1)

  pub moments_again : (IsTrue g.tells → LeavesOnly g.moment g.left_since r.disk r.disk (LeavesOneMore (entries_in r) (entries_in r) (doubt_in r)))
      → IsTrue g.tells → LeavesOnly g.moment g.left_since r.disk r'.disk (LeavesOneMore (entries_in r) (entries_in r') (doubt_in r'))
  moments_again h told =
      subst (λ d. LeavesOnly g.moment g.left_since r.disk d (LeavesOneMore (entries_in r) (entries_in r') (doubt_in r'))) (sym disk)
      (subst (λ es. LeavesOnly g.moment g.left_since r.disk r.disk (LeavesOneMore (entries_in r) es (doubt_in r'))) (sym same_record.1)
      (subst (λ o. LeavesOnly g.moment g.left_since r.disk r.disk (LeavesOneMore (entries_in r) (entries_in r) o)) (sym same_record.2) (h told)))

pub ok_so : {T E B : Type 0} (r : Result T E) → B → OnOk r B
ok_so (Ok x) h = h
ok_so (Err e) h = tt

-- what came of a call, as others tell it
pub enters_ok : {D T U : Type 0} (g : Ghosts D) (r r' : Record D) (twice : Bool) (e : Entry) (x : T) (y : U) → EntersIn g r r' twice e (Ok x) → EntersIn g r r' twice e (Ok y)
enters_ok g r r' false e x y h = h
enters_ok g r r' true e x y h = h

pub enters_err : {D : Type 0} (T U : Type 0) (g : Ghosts D) (r r' : Record D) (twice : Bool) (e : Entry) (fault : StopFault) → EntersIn {T = T} g r r' twice e (Err fault)
    → EntersIn {T = U} g r r' twice e (Err fault)
enters_err T U g r r' false e stop.NoMemory h = h
enters_err T U g r r' false e stop.DiskFault h = h
enters_err T U g r r' false e (stop.Full l need room) h = h
enters_err T U g r r' false e (stop.LaneAhead place fence epoch) h = h
enters_err T U g r r' true e stop.NoMemory h = h
enters_err T U g r r' true e stop.DiskFault h = h
enters_err T U g r r' true e (stop.Full l need room) h = h
enters_err T U g r r' true e (stop.LaneAhead place fence epoch) h = h

pub unentered : {D : Type 0} (U : Type 0) (g : Ghosts D) (r : Record D) (twice : Bool) (e : Entry) → EntersIn {T = U} g r r twice e (Err stop.NoMemory)
unentered U g r false e = (refl, refl, refl)
unentered U g r true e = (refl, refl, refl)
