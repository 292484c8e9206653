-- What a book keeps and stands for where an entry is appended, or could not be.
use Rattle.std.proofs.Common.{◌≡◌, ◌⊎◌, inl, inr, ℕ, suc, ◌+◌, ◌≤◌, Bool, true, false, List, [], ◌∷◌, ◌++◌, Option, Some, None, Result, Ok, Err, OnOk, map, length, refl, sym, ◌∙◌, ap, subst, arith, vec_len, vec_capacity}
use Rattle.std.specs.Str.{bytes_eq}
use Rattle.cf_tree.specs.Lists.{In}
use Rattle.cf_tree.specs.Named.{all_differ}
use Rattle.cf_disk.specs.declared.disk.Disk.{Ghosts}
use Rattle.cf_entry.specs.declared.entry.Entry.{Entry}
use Rattle.cf_entry.specs.declared.entry.Entry.TheVariants as entry
use Rattle.cf_effect.specs.Fold.{is_opening}
use Rattle.cf_journal.specs.Record.{spare_of}
use Rattle.cf_stacks.specs.Apart.{AreApart, HasNextNumber}
use Rattle.cf_stacks.specs.Room.{HasRoom, Standing, awaited_at, has_call, stepped, with_room}
use Rattle.cf_stacks.specs.RoomStays.{MakesRoom}
use Rattle.cf_stacks.proofs.Apart.{stay_apart}
use Rattle.cf_stacks.proofs.Awaited.{awaited_stays}
use Rattle.cf_next.specs.declared.home.Home.{Home}
use Rattle.cf_plan.specs.Life.{BrokenWith, BrokenWithout, End, Life, Whole, appended}
use Rattle.cf_lane.specs.Calling.{Granted}
use Rattle.cf_book.specs.Calls.{stopped_by}
use Rattle.cf_book.specs.Events.{MayEnd}
use Rattle.cf_book.specs.Inside.{IsAwaited, IsOpen, IsReady, IsRight, KeepsCalls, StepsOver, WritesIn, calls_out, doubt_in, entries_in, known_in}
use Rattle.cf_book.specs.Lives.{AreEntriesOf, StandsFor}
use Rattle.cf_book.specs.Record.{AppendsTo, Appends, WritesTo, with_doubt, world_left}
use Rattle.cf_book.specs.State.{BookLane, BookNow, home_of}
use Rattle.cf_book.specs.declared.record.Record.{Record}
use Rattle.cf_book.specs.declared.stop.StopFault.{StopFault}
use Rattle.cf_book.specs.declared.stop.StopFault.TheVariants as stop
use Rattle.cf_book.proofs.Raised.{opening_left}

-- where nothing is in doubt the life has just the entries of the book
pub known_entries : {D : Type 0} (b : BookNow D) (life : Life) → StandsFor b life → b.doubt ≡ None → life.entries ≡ b.entries
known_entries b life stands certain = elim stands.entries [ inl e ↦ e | inr e ↦ e ∙ ap (with_doubt b.entries) certain ]

-- what an append leaves of the entries, and that it stops the book where it is broken
abbrev pub EndsSo : {D : Type 0} → BookNow D → Entry → Life → End → Type 0
EndsSo new e life end = AreEntriesOf new (appended end e life).entries × (new.stopped ≡ None → (appended end e life).is_stopped ≡ false)

module _ {D T : Type 0} (g : Ghosts D) (old new : BookNow D) (life : Life) (e : Entry) (as_known : life.entries ≡ old.entries) (runs : life.is_stopped ≡ false) where
  pub ends_so : (result : Result T StopFault) → Appends g old new e result → new.stopped ≡ stopped_by None result → (end : End) → MayEnd result end → EndsSo new e life end
  ends_so (Ok x) (es, d, fits) s end is =
      subst (EndsSo new e life) (sym is) (inl (ap (λ xs. xs ++ e ∷ []) as_known ∙ sym es), λ n. runs)
  ends_so (Err stop.DiskFault) (es, f) s end (inl is) =
      subst (EndsSo new e life) (sym is) (inr (ap (λ xs. xs ++ e ∷ []) (as_known ∙ sym es) ∙ sym (ap (with_doubt new.entries) f.1)), λ n. let no : Some stop.DiskFault ≡ None = sym s ∙ n in absurd (cc))
  ends_so (Err stop.DiskFault) (es, f) s end (inr is) =
      subst (EndsSo new e life) (sym is) (inl (as_known ∙ sym es), λ n. let no : Some stop.DiskFault ≡ None = sym s ∙ n in absurd (cc))
  ends_so (Err (stop.Full l need room)) (es, f) s end is =
      subst (EndsSo new e life) (sym is) (inl (as_known ∙ sym es), λ n. let no : Some (stop.Full l need room) ≡ None = sym s ∙ n in absurd (cc))
  ends_so (Err (stop.LaneAhead place fence epoch)) (es, f) s end is = absurd f
  ends_so (Err stop.NoMemory) (es, f) s end is = absurd f

-- The opening stays the last one behind an entry that is none, also where that is in doubt.
abbrev pub IsOpening : ℕ → List Entry → Option Entry → Type 0
IsOpening n es doubt = (n ≡ (world_left es).epoch) × (n ≡ (world_left (with_doubt es doubt)).epoch)

module _ {D T : Type 0} (g : Ghosts D) (d d' : D) (es es' : List Entry) (doubt doubt' : Option Entry) (e : Entry) (plain : is_opening e ≡ false) where
  pub opening_appended : (result : Result T StopFault) → AppendsTo g d d' es es' doubt doubt' e result → doubt ≡ None → (n : ℕ) → n ≡ (world_left es).epoch
      → IsOpening n es' doubt'
  opening_appended result h none n is = by result h where
    whole : n ≡ (world_left (es ++ e ∷ [])).epoch
    whole = is ∙ sym (opening_left es e plain).epoch

    by : (result : Result T StopFault) → AppendsTo g d d' es es' doubt doubt' e result → IsOpening n es' doubt'
    by (Ok x) h = subst (λ xs. IsOpening n xs doubt') (sym h.0) (subst (IsOpening n (es ++ e ∷ [])) (sym (h.1 ∙ none)) (whole, whole))
    by (Err stop.DiskFault) h = subst (λ xs. IsOpening n xs doubt') (sym h.0) (subst (IsOpening n es) (sym h.1.1) (is, whole))
    by (Err (stop.Full l need room)) h = subst (λ xs. IsOpening n xs doubt') (sym h.0) (subst (IsOpening n es) (sym (h.1.1 ∙ none)) (is, is))
    by (Err (stop.LaneAhead place fence epoch)) h = absurd h.1
    by (Err stop.NoMemory) h = absurd h.1

  pub opening_written : (result : Result T StopFault) → WritesTo g d d' es es' doubt doubt' e result → doubt ≡ None → (n : ℕ) → n ≡ (world_left es).epoch
      → IsOpening n es' doubt'
  opening_written (Ok x) h = opening_appended (Ok x) h
  opening_written (Err stop.DiskFault) h = opening_appended (Err stop.DiskFault) h
  opening_written (Err (stop.Full l need room)) h = opening_appended (Err (stop.Full l need room)) h
  opening_written (Err (stop.LaneAhead place fence epoch)) h = opening_appended (Err (stop.LaneAhead place fence epoch)) h
  opening_written (Err stop.NoMemory) h = λ none n is. subst (λ xs. IsOpening n xs doubt') (sym h.1) (subst (IsOpening n es) (sym (h.2 ∙ none)) (is, is))

-- the room that was made is room for the entry
pub room_made : (was now : Standing) (e : Entry) → now ≡ with_room e was → HasRoom now e
room_made was now (entry.Outcome number token answer before after) h = inr (ap (λ (x : Standing). x.ready) h)
room_made was now (entry.Opened epoch lanes) h = ap (λ (x : Standing). x.ready) h
room_made was now (entry.Begin number name k) h = ap (λ (x : Standing). x.ready) h
room_made was now (entry.Kept number path physical w) h = ap (λ (x : Standing). x.ready) h
room_made was now (entry.Intent number token lane path r) h = ap (λ (x : Standing). x.ready) h
room_made was now (entry.Phase number p c) h = ap (λ (x : Standing). x.ready) h
room_made was now (entry.Done number state failed) h = ap (λ (x : Standing). x.ready) h
room_made was now (entry.ChangeSet number name source rows outputs) h = ap (λ (x : Standing). x.ready) h

-- making it leaves the world, and takes no room of a call
pub kept_world : (x : Standing) (e : Entry) (y : Standing) → KeepsCalls x e y → y.world ≡ x.world
kept_world x e y h = elim h [
  | inl k ↦ ap (λ (z : Standing). z.world) k
  | inr k ↦ elim k [
    | inl m ↦ ap (λ (z : Standing). z.world) m
    | inr m ↦ elim m [ inl n ↦ ap (λ (z : Standing). z.world) n | inr n ↦ ap (λ (z : Standing). z.world) n ]
  ]
]

pub kept_calls : (x : Standing) (e : Entry) (y : Standing) (call : Granted) → KeepsCalls x e y → IsAwaited x call → IsAwaited y call
kept_calls x e y call h a = elim h [
  | inl k ↦ subst (λ (z : Standing). IsAwaited z call) (sym k) a
  | inr k ↦ elim k [
    | inl m ↦ subst (λ (z : Standing). IsAwaited z call) (sym m) (record { name = a.name; stack = a.stack; at = a.at; row = a.row; room = more })
    | inr m ↦ elim m [
      | inl n ↦ subst (λ (z : Standing). IsAwaited z call) (sym n) (record { name = a.name; stack = a.stack; at = a.at; row = a.row; room = a.room })
      | inr n ↦ subst (λ (z : Standing). IsAwaited z call) (sym n) (record { name = a.name; stack = a.stack; at = a.at; row = a.row; room = more })
    ]
  ]
]
  where
    more : has_call call.token (awaited_at a.name (with_room e x)) ≡ true
    more = awaited_stays x a.name call.token (MakesRoom e ∷ []) tt a.room

-- The book is ready behind an entry that leaves each call awaited.
pub ready_stepped : {D : Type 0} (g : Ghosts D) (old new : Record D) (lanes : List BookLane) (e : Entry) → IsReady g old lanes → IsOpen g new
    → StepsOver old.world e new.world → vec_len new.entries + length (calls_out lanes) ≤ vec_capacity new.entries → spare_of old.journal ≤ spare_of new.journal
    → HasNextNumber e old.world.world
    → ((y : Standing) (b : BookLane) (call : Granted) → In b lanes → b.out ≡ Some call → y.world ≡ old.world.world → IsAwaited y call → IsAwaited (stepped y e) call)
    → IsReady g new lanes
ready_stepped g old new lanes e ready opens (y, keeps, step) places spare next stays =
    let same : y.world ≡ old.world.world = kept_world old.world e y keeps in
    record {
      appends = opens;
      spare = omega (arith, ready.spare, spare);
      places = places;
      apart =
          subst (λ (z : Standing). AreApart z.world) (sym step)
          (stay_apart y.world e (subst AreApart (sym same) ready.apart) (subst (HasNextNumber e) (sym same) next));
      awaited = λ b call i out.
          subst (λ (z : Standing). IsAwaited z call) (sym step)
          (stays y b call i out same (kept_calls old.world e y call keeps (ready.awaited b call i out)));
      once = ready.once;
    }

-- What always holds holds behind it, and where it could not be written.
pub right_written : {D T : Type 0} (g : Ghosts D) (old new : Record D) (lanes : List BookLane) (homes : List Home) (e : Entry) (result : Result T StopFault)
    → IsRight g old lanes homes None → is_opening e ≡ false → WritesIn g old new e result → new.world.world ≡ world_left (entries_in new) → known_in g new
    → OnOk result (IsReady g new lanes) → IsRight g new lanes homes (stopped_by None result)
right_written {T = T} g old new lanes homes e result right plain writes world known ready = record {
  known = known;
  world = world;
  homes_are = right.homes_are;
  names_differ = right.names_differ;
  epochs = λ b call i out.
      opening_written g old.disk new.disk (entries_in old) (entries_in new) (doubt_in old) (doubt_in new) e plain result writes (right.ready refl).appends.certain
      call.epoch (right.epochs b call i out).0;
  ready = λ n. by result ready n;
}
  where
    by : (result : Result T StopFault) → OnOk result (IsReady g new lanes) → stopped_by None result ≡ None → IsReady g new lanes
    by (Ok x) h n = h
    by (Err fault) h n = absurd (cc)
