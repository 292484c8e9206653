-- What the steps come to by which a book is made: what is found on a disk, the room for the lanes, and the record that is opened over them.
use Rattle.std.proofs.Common.{◌≡◌, inl, inr, ℕ, ◌≤◌, List, [], ◌∷◌, ◌++◌, Option, None, Some, Result, Ok, Err, map, length, refl, sym, ◌∙◌, ap, subst, arith, true}
use Rattle.std.specs.Prelude.{IfOk, IsTrue, vec_capacity}
use Rattle.std.specs.Result.{IsErrAnd}
use Rattle.std.specs.List.{list_all}
use Rattle.std.proofs.lemmas.List.{length-map}
use Rattle.std.proofs.lemmas.List.Sums.{fold-append}
use Rattle.cf_disk.specs.Disk.{LeavesOnly}
use Rattle.cf_disk.specs.declared.disk.Disk.{Ghosts as DiskGhosts}
use Rattle.cf_entry.specs.declared.entry.Entry.{Entry}
use Rattle.cf_effect.specs.Fold.{world_after}
use Rattle.cf_effect.specs.World.{World, empty_world}
use Rattle.cf_handler.specs.declared.handler.Handler.{Ghosts as HandlerGhosts}
use Rattle.cf_journal.specs.Faults.{HasRecoverCause}
use Rattle.cf_handler.specs.Name.{is_lane_name}
use Rattle.cf_journal.specs.Record.{Stands, record_of, spare_of}
use Rattle.cf_journal.specs.declared.faults.RecoverFault.{RecoverFault}
use Rattle.cf_journal.specs.declared.faults.RecoverFault.TheVariants as recover
use Rattle.cf_journal.specs.declared.journal.Journal.{Journal}
use Rattle.cf_lane.specs.Lanes.{LaneNow, lane_with}
use Rattle.cf_next.specs.declared.home.Home.{Home}
use Rattle.cf_stacks.proofs.Apart.{stay_apart}
use Rattle.cf_stacks.proofs.Folded.{folded_more}
use Rattle.cf_stacks.specs.Apart.{AreApart}
use Rattle.cf_stacks.specs.Room.{Standing}
use Rattle.cf_book.specs.Ended.{ended_in, with_end}
use Rattle.cf_book.specs.Entering.{LeavesEither, disk_after, epoch_over, names_of, opened_over, recovering}
use Rattle.cf_book.specs.Fences.{handed_in}
use Rattle.cf_book.specs.Finding.{AreLanesFor, EntersOver, FindsAs, HasRoomFor, IsFoundOn, IsLaid, IsOfRecord, IsRaisedBook, IsReadyRecord, KeepsJournal, OpensOn, PreparesAs, RaisesIn, RefusesDisk, RefusesHanded, RefusesOpening, StopsAtLane, entries_of, homes_in, unwritten}
use Rattle.cf_book.specs.Inside.{IsOpen, StepsOver, WritesIn, doubt_in, entries_in, known_in}
use Rattle.cf_book.specs.Opening.{AreComplete, RefusesLanes, name_of_home, named_by, opening}
use Rattle.cf_book.specs.Record.{Fits, IsKnown, KnowsDisk, LeavesOneMore, with_doubt, world_left}
use Rattle.cf_book.specs.State.{BookNow}
use Rattle.cf_book.specs.declared.entering.Found.{Found}
use Rattle.cf_book.specs.declared.entering.Room.{Room}
use Rattle.cf_book.specs.declared.record.Record.{Record}
use Rattle.cf_book.specs.declared.refused.EnterFault.{EnterFault}
use Rattle.cf_book.specs.declared.refused.EnterFault.TheVariants as fault
use Rattle.cf_book.specs.declared.refused.Refused.{Refused}
use Rattle.cf_book.specs.declared.stop.StopFault.{StopFault}
use Rattle.cf_book.specs.declared.stop.StopFault.TheVariants as stop
use Rattle.cf_journal.proofs.Moments.{weaker}
use Rattle.cf_book.proofs.Appended.{known_open, unmoved}
use Rattle.cf_book.proofs.Missing.{first_missing}
use Rattle.cf_book.proofs.Opened.{lanes_apart, named_so}
use Rattle.cf_book.proofs.Written.{kept_world}

-- what is found on a disk
module _ {D : Type 0} (g : DiskGhosts D) (old new : D) (keeps : KeepsJournal g old new) where
  pub found_on : (journal : Journal) (es : List Entry) (f : Found) → Stands g.tells g.seen g.may_leave g.room_of journal new
      → (IsTrue g.tells → record_of (g.seen old) ≡ Ok es) → IsLaid journal es f → KeepsJournal g old new × IsFoundOn g new f
  found_on journal es f stands found laid = (
    keeps,
    record {
      stands = record {
        sound = laid.sound ∙ stands.sound;
        is_made = stands.is_made;
        is_read = stands.is_read;
        length_is = λ t. stands.length_is t ∙ sym laid.same_length;
        durable = stands.durable;
        room = stands.room;
      };
      holds = λ t. (keeps.record_keeps t).same ∙ found t ∙ ap Ok (sym laid.entries);
      world = laid.world ∙ ap world_left (sym laid.entries);
      apart = laid.apart;
      spare = laid.spare;
    },
  )

  refused_by : (x : RecoverFault) → HasRecoverCause g.tells (g.seen old) (g.count old) (g.count new) x → RefusesDisk g old new (recovering x)
  refused_by (recover.NotAJournal offset) h = h
  refused_by recover.DiskFault h = h
  refused_by recover.NoMemory h = tt

  pub refused_disk : (r : Result Found EnterFault) (x : RecoverFault) → IsErrAnd r (λ f. f ≡ recovering x)
      → HasRecoverCause g.tells (g.seen old) (g.count old) (g.count new) x → FindsAs g old new r
  refused_disk (Ok f) x is cause = absurd is
  refused_disk (Err f) x is cause = (keeps, subst (RefusesDisk g old new) (sym is) (refused_by x cause))

  pub without_memory : (r : Result Found EnterFault) → IsErrAnd r (λ f. f ≡ fault.NoMemory) → FindsAs g old new r
  without_memory (Ok f) is = absurd is
  without_memory (Err f) is = (keeps, subst (RefusesDisk g old new) (sym is) tt)

-- the names of lanes, as their homes have them
homes_named : (ls : List LaneNow) → map name_of_home (homes_in ls) ≡ names_of ls
homes_named [] = refl
homes_named (l ∷ ls) = ap (λ ns. named_by l ∷ ns) (homes_named ls)

-- the room for lanes and the entry of their opening
module _ {H : Type 0} (h : HandlerGhosts H) (hs : List H) (x : World) (homes : List Home) (is : homes ≡ homes_in (handed_in h hs))
    (named : list_all (λ (l : LaneNow). is_lane_name l.name) (handed_in h hs) ≡ true) where
  same_names : map name_of_home homes ≡ names_of (handed_in h hs)
  same_names = ap (map name_of_home) is ∙ homes_named (handed_in h hs)

  are_lanes : AreComplete (map name_of_home homes) x → AreLanesFor (handed_in h hs) x
  are_lanes may = record { named = named; complete = subst (λ ns. AreComplete ns x) same_names may }

  room_stands : (room : Room H) → room.homes ≡ homes → (room.places.items ≡ []) × (room.emptied.items ≡ [])
      → (length hs ≤ vec_capacity room.places) × (length hs ≤ vec_capacity room.emptied) → AreComplete (map name_of_home homes) x
      → HasRoomFor room (handed_in h hs)
  room_stands room same (no_place, none) (places, back) may =
      let long : length (handed_in h hs) ≡ length hs = length-map hs (λ k. lane_with h k []) in
      record {
        homes_are = same ∙ is;
        none_placed = no_place;
        places_room = omega (arith, long, places);
        empty = none;
        way_back = omega (arith, long, back);
        differ = lanes_apart (handed_in h hs) (are_lanes may).complete.0;
      }

  pub prepared : (room : Room H) (e : Entry) → room.homes ≡ homes → (room.places.items ≡ []) × (room.emptied.items ≡ [])
      → (length hs ≤ vec_capacity room.places) × (length hs ≤ vec_capacity room.emptied)
      → AreComplete (map name_of_home homes) x × (e ≡ opening (map name_of_home homes) x) → PreparesAs x (handed_in h hs) (Ok (room, e))
  prepared room e same empty roomy (may, made) =
      (are_lanes may, made ∙ ap (λ ns. opening ns x) same_names, room_stands room same empty roomy may)

  pub unprepared : (f : EnterFault) → RefusesLanes (map name_of_home homes) x f → RefusesHanded (handed_in h hs) x f
  unprepared f refuses = by f (subst (λ ns. RefusesLanes ns x f) same_names refuses) where
    by : (f : EnterFault) → RefusesLanes (names_of (handed_in h hs)) x f → RefusesHanded (handed_in h hs) x f
    by (fault.LaneTwice name) r = r
    by (fault.LaneMissing name) r = (r.0, first_missing (names_of (handed_in h hs)) (named_so (handed_in h hs) named) x name r.1)
    by fault.NoMemory r = tt
    by (fault.NotAJournal offset) r = absurd r
    by fault.DiskFault r = absurd r
    by (fault.Full long need room) r = absurd r
    by (fault.LaneAhead name stands epoch) r = absurd r
    by (fault.LaneFault name) r = absurd r

-- a slice has the same lanes
pub of_slice : {H : Type 0} (h : HandlerGhosts H) (x : World) (ks hs : List H) (room : Room H) (e : Entry) → ks ≡ hs
    → PreparesAs x (handed_in h ks) (Ok (room, e)) → PreparesAs x (handed_in h hs) (Ok (room, e))
of_slice h x ks hs room e same = subst (λ ls. PreparesAs x (handed_in h ls) (Ok (room, e))) same

-- a record to which the opening is appended
module _ {D : Type 0} (g : DiskGhosts D) (old new : Record D) (e : Entry) (ls : List LaneNow) (is : e ≡ opened_over ls (entries_in old)) where
  pub ready_opened : IsReadyRecord g old → IsOpen g new → StepsOver old.world e new.world → new.world.world ≡ world_left (entries_in new)
      → spare_of old.journal ≤ spare_of new.journal → IsReadyRecord g new
  ready_opened ready opens (y, keeps, step) left spare =
      let same : y.world ≡ old.world.world = kept_world old.world e y keeps in
      record {
        opened = opens;
        world = left;
        apart =
            subst (λ (z : Standing). AreApart z.world) (sym step)
            (subst (λ z. AreApart (world_after y.world z)) (sym is)
            (stay_apart y.world (opened_over ls (entries_in old)) (subst AreApart (sym same) ready.apart) tt));
        spare = omega (arith, ready.spare, spare);
      }

  pub epoch_opened : new.world.world ≡ world_left (entries_in new) → entries_in new ≡ entries_in old ++ e ∷ []
      → new.world.world.epoch ≡ epoch_over (entries_in old)
  epoch_opened left more =
      let world : new.world.world ≡ world_after (world_left (entries_in old)) (opened_over ls (entries_in old)) =
      left ∙ ap world_left more ∙ sym (folded_more empty_world (entries_in old) e) ∙ ap (world_after (world_left (entries_in old))) is in
      ap (λ (x : World). x.epoch) world

  -- an opening begins the ends anew
  pub none_ended : entries_in new ≡ entries_in old ++ e ∷ [] → ended_in (entries_in new) ≡ []
  none_ended more =
      ap ended_in more ∙ fold-append with_end [] (entries_in old) (e ∷ []) ∙ ap (with_end (ended_in (entries_in old))) is

  known_opened : IsOpen g new → entries_in new ≡ entries_in old ++ e ∷ [] → IsKnown g new.disk (entries_in old ++ e ∷ []) None
  known_opened opens more =
      subst (λ xs. IsKnown g new.disk xs None) more (subst (IsKnown g new.disk (entries_in new)) opens.certain (known_open g new opens))

  module _ {H : Type 0} (h : HandlerGhosts H) (hs : List H) where
    -- the fences are raised over it, or not
    raised_over : (result : Result (BookNow D) (Refused D H)) → IsOpen g new → entries_in new ≡ entries_in old ++ e ∷ []
        → Fits g old.disk e → new.world.world.epoch ≡ epoch_over (entries_in old) → RaisesIn g h new hs result → OpensOn g h old.disk (entries_in old) e hs result
    raised_over (Ok b) opens more fits epoch made = (
      fits,
      new.disk,
      subst (λ n. IsRaisedBook new.disk (entries_in old ++ e ∷ []) (handed_in h hs) n b) epoch
          (subst (λ xs. IsRaisedBook new.disk xs (handed_in h hs) new.world.world.epoch b) more made),
    )
    raised_over (Err x) opens more fits epoch (disk, stops) =
        by x.fault (subst (λ n. StopsAtLane (handed_in h hs) (handed_in h x.lanes.items) n x.fault) epoch stops) where
          known : IsKnown g x.disk (entries_in old ++ e ∷ []) None
          known = subst (λ d. IsKnown g d (entries_in old ++ e ∷ []) None) (sym disk) (known_opened opens more)

          by : (f : EnterFault) → StopsAtLane (handed_in h hs) (handed_in h x.lanes.items) (epoch_over (entries_in old)) f
              → RefusesOpening g h old.disk (entries_in old) e hs x.disk x.lanes.items f
          by (fault.LaneAhead name stands n) s = (known, fits, s)
          by (fault.LaneFault name) s = (known, fits, s)
          by (fault.NotAJournal offset) s = absurd s.why
          by fault.DiskFault s = absurd s.why
          by (fault.LaneTwice name) s = absurd s.why
          by (fault.LaneMissing name) s = absurd s.why
          by (fault.Full long need room) s = absurd s.why
          by fault.NoMemory s = absurd s.why

    pub opens_over : (result : Result (BookNow D) (Refused D H)) → IsOpen g new → new.world.world ≡ world_left (entries_in new)
        → WritesIn {T = Unit {0}} g old new e (Ok tt) → RaisesIn g h new hs result → OpensOn g h old.disk (entries_in old) e hs result
    opens_over result opens left (more, doubt, fits) made = raised_over result opens more fits (epoch_opened left more) made

    -- or it could not be appended
    pub not_opened : (f : StopFault) → WritesIn {T = Unit {0}} g old new e (Err f) → known_in g new
        → RefusesOpening g h old.disk (entries_in old) e hs new.disk hs (unwritten f)
    not_opened (stop.Full long need room) (es, (disk, doubt, long_is, needs, rooms, over)) known = (disk, refl, long_is, needs, rooms, over)
    not_opened stop.DiskFault (es, (faulted, doubt, fits)) known =
        (refl, faulted, subst (IsKnown g new.disk (entries_in old)) doubt (subst (λ xs. IsKnown g new.disk xs (doubt_in new)) es known), fits)
    not_opened stop.NoMemory (disk, es, doubt) known = (disk, refl)
    not_opened (stop.LaneAhead lane stands epoch) w known = absurd w.1

  pub of_record : (f : StopFault) → WritesIn {T = Unit {0}} g old new e (Err f) → IsOfRecord f
  of_record (stop.Full long need room) w = tt
  of_record stop.DiskFault w = tt
  of_record stop.NoMemory w = tt
  of_record (stop.LaneAhead lane stands epoch) w = absurd w.1

-- what a crash leaves of it
module _ (es more : List Entry) (doubt : Option Entry) (e : Entry) (bytes : List ℕ) where
  pub either_left : more ≡ es ++ e ∷ [] → doubt ≡ None → LeavesOneMore es more doubt bytes → LeavesEither es e bytes
  either_left m d h = elim h [
    | inl was ↦ inl was
    | inr now ↦ elim now [ inl k ↦ inr (k ∙ ap Ok m) | inr k ↦ inr (k ∙ ap (λ o. Ok (with_doubt more o)) d ∙ ap Ok m) ]
  ]

  doubted_left : more ≡ es → doubt ≡ Some e → LeavesOneMore es more doubt bytes → LeavesEither es e bytes
  doubted_left m d h = elim h [
    | inl was ↦ inl was
    | inr now ↦ elim now [
      | inl k ↦ inl (k ∙ ap Ok m)
      | inr k ↦ inr (k ∙ ap (λ o. Ok (with_doubt more o)) d ∙ ap (λ xs. Ok (xs ++ e ∷ [])) m)
    ]
  ]

  same_left : more ≡ es → doubt ≡ None → LeavesOneMore es more doubt bytes → LeavesEither es e bytes
  same_left m d h = elim h [
    | inl was ↦ inl was
    | inr now ↦ elim now [ inl k ↦ inl (k ∙ ap Ok m) | inr k ↦ inl (k ∙ ap (λ o. Ok (with_doubt more o)) d ∙ ap Ok m) ]
  ]

module _ {D : Type 0} (g : DiskGhosts D) (old new : Record D) (e : Entry) (opened : IsOpen g old) (bytes : List ℕ) where
  pub written_left : WritesIn {T = Unit {0}} g old new e (Ok tt) → LeavesOneMore (entries_in old) (entries_in new) (doubt_in new) bytes
      → LeavesEither (entries_in old) e bytes
  written_left (more, doubt, fits) = either_left (entries_in old) (entries_in new) (doubt_in new) e bytes more (doubt ∙ opened.certain)

  pub unwritten_left : (f : StopFault) → WritesIn {T = Unit {0}} g old new e (Err f) → LeavesOneMore (entries_in old) (entries_in new) (doubt_in new) bytes
      → LeavesEither (entries_in old) e bytes
  unwritten_left (stop.Full long need room) (es, (disk, doubt, long_is, needs, rooms, over)) =
      same_left (entries_in old) (entries_in new) (doubt_in new) e bytes es (doubt ∙ opened.certain)
  unwritten_left stop.DiskFault (es, (faulted, doubt, fits)) = doubted_left (entries_in old) (entries_in new) (doubt_in new) e bytes es doubt
  unwritten_left stop.NoMemory (disk, es, doubt) =
      same_left (entries_in old) (entries_in new) (doubt_in new) e bytes es (doubt ∙ opened.certain)
  unwritten_left (stop.LaneAhead lane stands epoch) w = absurd w.1

-- the disk of a book whose fences are raised, and what it knows of it
module _ {D H : Type 0} (g : DiskGhosts D) (h : HandlerGhosts H) (r : Record D) (hs : List H) where
  pub raised_disk : (result : Result (BookNow D) (Refused D H)) → RaisesIn g h r hs result → disk_after result ≡ r.disk
  raised_disk (Ok b) made = made.disk_is
  raised_disk (Err x) made = made.0

  pub known_raised : (result : Result (BookNow D) (Refused D H)) → IsOpen g r → RaisesIn g h r hs result → IfOk result (KnowsDisk g)
  known_raised (Ok b) opens made =
      subst (λ d. IsKnown g d b.entries b.doubt) (sym made.disk_is)
      (subst (λ xs. IsKnown g r.disk xs b.doubt) (sym made.entries)
      (subst (IsKnown g r.disk (entries_in r)) (opens.certain ∙ sym made.certain) (known_open g r opens)))
  known_raised (Err x) opens made = tt

-- what was found, as a record; and what is entered over it
module _ {D : Type 0} (g : DiskGhosts D) (disk : D) (f : Found) (found : IsFoundOn g disk f) where
  abbrev as_record : Record D
  as_record = record { disk = disk; journal = f.journal; entries = f.entries; doubt = None; world = f.world }

  pub ready_found : IsReadyRecord g as_record
  ready_found = record {
    opened = record { stands = found.stands; holds = found.holds; certain = refl };
    world = found.world;
    apart = found.apart;
    spare = found.spare;
  }

  -- nothing was written
  pub unopened : (e : Entry) → IsTrue g.tells → ((bytes : List ℕ) → g.left_since disk (g.moment disk) bytes → g.may_leave disk bytes)
      → LeavesOnly g.moment g.left_since disk disk (LeavesEither (entries_of f.entries.items) e)
  unopened e told now =
      weaker g.moment g.left_since disk disk _ _ (unmoved g disk (entries_of f.entries.items) None told now (known_open g as_record ready_found.opened))
      (λ bytes k. same_left (entries_of f.entries.items) (entries_of f.entries.items) None e bytes refl refl k)

  module _ {H : Type 0} (h : HandlerGhosts H) (hs : List H) where
    pub entry_found : (e : Entry) → e ≡ opening (names_of (handed_in h hs)) f.world.world → e ≡ opened_over (handed_in h hs) (entries_of f.entries.items)
    entry_found e is = is ∙ ap (opening (names_of (handed_in h hs))) found.world

    pub entered_over : (e : Entry) (result : Result (BookNow D) (Refused D H)) → AreLanesFor (handed_in h hs) f.world.world
        → e ≡ opening (names_of (handed_in h hs)) f.world.world → OpensOn g h disk (entries_of f.entries.items) e hs result
        → EntersOver g h disk hs (entries_of f.entries.items) result
    entered_over e result may is opens =
        by result (subst (AreLanesFor (handed_in h hs)) found.world may)
        (subst (λ z. OpensOn g h disk (entries_of f.entries.items) z hs result) (entry_found e is) opens) where
          by : (y : Result (BookNow D) (Refused D H)) → AreLanesFor (handed_in h hs) (world_left (entries_of f.entries.items))
              → OpensOn g h disk (entries_of f.entries.items) (opened_over (handed_in h hs) (entries_of f.entries.items)) hs y
              → EntersOver g h disk hs (entries_of f.entries.items) y
          by (Ok b) m made = (m, made)
          by (Err x) m made = inr (m, made)

    pub refused_over : (r : Refused D H) → r.disk ≡ disk → r.lanes.items ≡ hs → RefusesHanded (handed_in h hs) f.world.world r.fault
        → EntersOver g h disk hs (entries_of f.entries.items) (Err r)
    refused_over r d l why = inl (d, l, subst (λ x. RefusesHanded (handed_in h hs) x r.fault) found.world why)
