-- An entry is written behind the room that was made for it.
use Rattle.std.proofs.Common.{◌≡◌, ℕ, suc, ◌+◌, ◌≤◌, ◌^◌, Bool, false, List, [], ◌∷◌, ◌++◌, drop, Option, Some, None, Result, Ok, Err, OnOk, IsOk, IsTrue, map, option_map, refl, sym, ◌∙◌, ap, subst, arith, vec_len, vec_capacity}
use Rattle.std.specs.declared.snapshot.Snapshot.{Snapshot}
use Rattle.cf_disk.specs.Disk.{LeavesOnly, Only}
use Rattle.cf_disk.specs.declared.disk.Disk.{Ghosts}
use Rattle.cf_entry.specs.declared.entry.Entry.{Entry}
use Rattle.cf_journal.specs.Head.{made}
use Rattle.cf_journal.specs.Record.{Stands, is_broken, journal_length, length_of, record_of}
use Rattle.cf_journal.specs.declared.journal.Journal.{Journal}
use Rattle.cf_stacks.specs.Room.{Standing, stepped}
use Rattle.cf_book.specs.Inside.{AppendsIn, IsOpen, KeepsCalls, StepsOver, WritesIn, doubt_in, entries_in}
use Rattle.cf_book.specs.Record.{AppendsTo, LeavesOneMore, WritesTo, world_left}
use Rattle.cf_book.specs.declared.record.Record.{Record}
use Rattle.cf_book.specs.declared.stop.StopFault.{StopFault}
use Rattle.cf_book.specs.declared.stop.StopFault.TheVariants as stop
use Rattle.cf_book.proofs.Appended.{one_longer}
use Rattle.cf_book.proofs.Written.{kept_world}

-- another journal of the same length stands for a disk where the one did
stands_kept : {D : Type 0} (g : Ghosts D) (j k : Journal) (d : D) → Stands g.tells g.seen g.may_leave g.room_of j d → journal_length k ≡ journal_length j
    → is_broken k ≡ is_broken j → Stands g.tells g.seen g.may_leave g.room_of k d
stands_kept g j k d h l b = record {
  sound = b ∙ h.sound;
  is_made = h.is_made;
  is_read = h.is_read;
  length_is = λ t. h.length_is t ∙ sym l;
  durable = h.durable;
  room = h.room;
}

-- an append that was no want of memory is a write
is_written : {D T : Type 0} (g : Ghosts D) (old new : D) (es es' : List Entry) (doubt doubt' : Option Entry) (e : Entry) (result : Result T StopFault)
    → AppendsTo g old new es es' doubt doubt' e result → WritesTo g old new es es' doubt doubt' e result
is_written g old new es es' doubt doubt' e (Ok x) h = h
is_written g old new es es' doubt doubt' e (Err stop.DiskFault) h = h
is_written g old new es es' doubt doubt' e (Err (stop.Full l need room)) h = h
is_written g old new es es' doubt doubt' e (Err (stop.LaneAhead place fence epoch)) h = h
is_written g old new es es' doubt doubt' e (Err stop.NoMemory) h = absurd h.1

module _ {D : Type 0} (g : Ghosts D) (old mid : Record D) (disk : mid.disk ≡ old.disk) (entries : mid.entries.items ≡ old.entries.items)
    (doubt : mid.doubt ≡ old.doubt) where
  pub same_entries : entries_in mid ≡ entries_in old
  same_entries = ap (map (λ (s : Snapshot Entry). s.value)) entries

  pub same_doubt : doubt_in mid ≡ doubt_in old
  same_doubt = ap (option_map (λ (s : Snapshot Entry). s.value)) doubt

  pub open_kept : IsOpen g old → journal_length mid.journal ≡ journal_length old.journal → is_broken mid.journal ≡ is_broken old.journal → IsOpen g mid
  open_kept h l b = record {
    stands = subst (λ (d : D). Stands g.tells g.seen g.may_leave g.room_of mid.journal d) (sym disk) (stands_kept g old.journal mid.journal old.disk h.stands l b);
    holds = λ t. ap (λ (d : D). record_of (g.seen d)) disk ∙ h.holds t ∙ ap Ok (sym same_entries);
    certain = same_doubt ∙ h.certain;
  }

  pub world_kept : (e : Entry) → KeepsCalls old.world e mid.world → old.world.world ≡ world_left (entries_in old) → mid.world.world ≡ world_left (entries_in mid)
  world_kept e keeps is = kept_world old.world e mid.world keeps ∙ is ∙ ap world_left (sym same_entries)

  pub writes_so : {T : Type 0} (new : Record D) (e : Entry) (result : Result T StopFault) → AppendsIn g mid new e result → WritesIn g old new e result
  writes_so new e result h =
      is_written g old.disk new.disk (entries_in old) (entries_in new) (doubt_in old) (doubt_in new) e result
      (subst (λ (d : D). AppendsTo g d new.disk (entries_in old) (entries_in new) (doubt_in old) (doubt_in new) e result) disk
      (subst (λ es. AppendsTo g mid.disk new.disk es (entries_in new) (doubt_in old) (doubt_in new) e result) same_entries
      (subst (λ q. AppendsTo g mid.disk new.disk (entries_in mid) (entries_in new) q (doubt_in new) e result) same_doubt h)))

  pub moments_so : (new : D) (es : List Entry) (q : Option Entry)
      → (IsTrue g.tells → LeavesOnly g.moment g.left_since mid.disk new (LeavesOneMore (entries_in mid) es q))
      → IsTrue g.tells → LeavesOnly g.moment g.left_since old.disk new (LeavesOneMore (entries_in old) es q)
  moments_so new es q h t =
      subst (λ (d : D). LeavesOnly g.moment g.left_since d new (LeavesOneMore (entries_in old) es q)) disk
      (subst (λ xs. LeavesOnly g.moment g.left_since mid.disk new (LeavesOneMore xs es q)) same_entries (h t))

-- there are places left for calls
pub places_so : {D T : Type 0} (g : Ghosts D) (mid new : Record D) (e : Entry) (calls : ℕ) (result : Result T StopFault)
    → vec_len mid.entries + (calls + 1) ≤ vec_capacity mid.entries → vec_capacity mid.entries ≤ vec_capacity new.entries → AppendsIn g mid new e result
    → OnOk result (vec_len new.entries + calls ≤ vec_capacity new.entries)
places_so g mid new e calls (Ok x) room capacity h =
    let long : vec_len new.entries ≡ suc (vec_len mid.entries) =
    new.entries.ok.0 ∙ one_longer (λ (s : Snapshot Entry). s.value) mid.entries.items new.entries.items e h.0 ∙ ap suc (sym mid.entries.ok.0) in
    omega (arith, room, capacity, long)
places_so g mid new e calls (Err fault) room capacity h = tt

pub steps_so : {T : Type 0} (x y z : Standing) (e : Entry) (result : Result T StopFault) → KeepsCalls x e y → OnOk result (z ≡ stepped y e) → OnOk result (StepsOver x e z)
steps_so x y z e (Ok done) keeps h = (y, keeps, h)
steps_so x y z e (Err fault) keeps h = tt
