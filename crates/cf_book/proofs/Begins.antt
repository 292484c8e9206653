-- An operation that begins leaves each call that is out awaited, and is one event of a life.
use Rattle.std.proofs.Common.{◌≡◌, ℕ, ◌+◌, ◌≤◌, ◌==◌, Bool, true, false, not, ◌&&◌, List, [], ◌∷◌, ◌++◌, Option, Some, None, Result, Ok, Err, OnOk, find, is_some, map, unwrap_or, inl, length, option_map, vec_len, vec_capacity, refl, sym, ◌∙◌, ap, subst, cond, arith, true≢false, inr}
use Rattle.std.proofs.lemmas.Bool.{eq-eqb, eqb-true}
use Rattle.std.specs.Cmp.{first_so, second_so}
use Rattle.std.specs.List.{cons_option}
use Rattle.std.specs.Str.{bytes_eq}
use Rattle.cf_tree.specs.Keys.{put, value_at}
use Rattle.cf_disk.specs.declared.disk.Disk.{Ghosts}
use Rattle.cf_schema.specs.declared.described.Schema.{Schema}
use Rattle.cf_entry.specs.declared.entry.Begun.{Begun}
use Rattle.cf_entry.specs.declared.entry.Begun.TheVariants as begin
use Rattle.cf_entry.specs.declared.entry.Entry.{Entry}
use Rattle.cf_entry.specs.declared.entry.Entry.TheVariants as entry
use Rattle.cf_entry.specs.declared.status.Status.{Status}
use Rattle.cf_effect.specs.Fold.{effect_at, stack_for, world_after}
use Rattle.cf_effect.specs.Status.{is_in_progress}
use Rattle.cf_effect.specs.World.{StackState, World, is_going, known_stack, no_stack, stack_at, stack_of_operation}
use Rattle.cf_journal.specs.Record.{spare_of}
use Rattle.cf_next.specs.Chosen.{IsInProgress, schemas_of}
use Rattle.cf_next.specs.declared.home.Home.{Home}
use Rattle.cf_stacks.specs.Apart.{AreApart, HasNextNumber}
use Rattle.cf_stacks.specs.Room.{Standing, stepped}
use Rattle.cf_stacks.specs.RoomStays.{Steps, spares}
use Rattle.cf_stacks.proofs.Awaited.{awaited_stays}
use Rattle.cf_stacks.proofs.Worlds.{found_stands}
use Rattle.cf_core.proofs.KeepSound.{stands_in}
use Rattle.cf_effect.specs.World.{empty_world}
use Rattle.cf_effect.specs.Status.{Stage, stage_of}
use Rattle.cf_stacks.proofs.Folded.{folded_more}
use Rattle.cf_tree.proofs.Lookups.{put_here}
use Rattle.cf_tree.specs.Lists.{In}
use Rattle.cf_plan.proofs.CreatedStays.{found_one}
use Rattle.cf_plan.proofs.RunLists.{is_found_in}
use Rattle.cf_plan.proofs.Frame.{found_passes}
use Rattle.cf_plan.proofs.Listed.{bytes_same}
use Rattle.cf_plan.proofs.Members.{false_from}
use Rattle.cf_plan.specs.Follow.{MayFollow, begins_from}
use Rattle.cf_plan.specs.Life.{AreRaised, Begin, BrokenWith, BrokenWithout, End, Happens, IsBegin, Life, Whole, appended, is_running, life_after, tokens_out, world_of}
use Rattle.cf_core.proofs.FitKept.{after_stacks}
use Rattle.cf_core.proofs.Stacks.{Found, put_by}
use Rattle.cf_prepare.specs.declared.wish.Order.{Order}
use Rattle.cf_prepare.specs.declared.wish.Order.TheVariants as order
use Rattle.cf_lane.specs.Calling.{Granted}
use Rattle.cf_book.specs.Beginning.{BeginsAs, BeginsLife, BeginsOrder, IsPrepared, begun_by}
use Rattle.cf_book.specs.Granting.{HasBegun}
use Rattle.cf_book.specs.Calls.{stopped_by}
use Rattle.cf_book.specs.Inside.{IsAwaited, IsOpen, IsReady, IsRight, StepsOver, WritesIn, book_of, calls_out, entries_in, known_in}
use Rattle.cf_book.specs.Lives.{AreLanesOf, AreLeasesOf, InLife, LeadsTo, NamesLanes, StandsFor}
use Rattle.cf_book.specs.Record.{Writes, world_left}
use Rattle.cf_book.specs.State.{BookLane, BookNow, home_of}
use Rattle.cf_book.specs.declared.record.Record.{Record}
use Rattle.cf_book.specs.declared.stop.StopFault.{StopFault}
use Rattle.cf_book.specs.declared.stop.StopFault.TheVariants as stop
use Rattle.cf_core.proofs.Operations.{find_else}
use Rattle.cf_book.proofs.Raised.{begin_new, raised_after}
use Rattle.cf_book.proofs.Written.{EndsSo, ends_so, known_entries, ready_stepped, right_written}
use Rattle.cf_book.proofs.Named.{opening_after}
use Rattle.cf_book.proofs.Prepared.{prepared_by}
use Rattle.cf_book.specs.Ended.{end_status, ended_in}
use Rattle.cf_book.proofs.Closing.{begin_leaves, ended_more}

-- nothing begins on a stack whose operation is in progress
idle : (k : Begun) (s : Status) → begins_from k s ≡ true → is_in_progress s ≡ false
idle k s h = grind arith

module _ (x : World) (number : ℕ) (name : List ℕ) (k : Begun) (next : number ≡ x.operation + 1)
    (from : begins_from k (known_stack name x).status ≡ true) (apart : AreApart x) where
  abbrev begun : Entry
  begun = entry.Begin number name k

  begun_number : (place : ℕ) (s : StackState) → (effect_at place begun s).stack.operation ≡ number
  begun_number place s = by k where
    by : (k : Begun) → (effect_at place (entry.Begin number name k) s).stack.operation ≡ number
    by (begin.Create source) = refl
    by (begin.Update source) = refl
    by (begin.Delete paths) = refl
    by (begin.Continue paths) = refl

  is_name : (m : List ℕ) (s : StackState) → stack_for begun x ≡ Some (m, s) → m ≡ name
  is_name m s = by k where
    same : (o : Option StackState) → option_map {U = List ℕ × StackState} (λ (z : StackState). (name, z)) o ≡ Some (m, s) → m ≡ name
    same None e = absurd (cc)
    same (Some z) e = let it : (name, z) ≡ (m, s) = cc e in ap (λ (q : List ℕ × StackState). q.0) (sym it)

    by : (k : Begun) → stack_for (entry.Begin number name k) x ≡ Some (m, s) → m ≡ name
    by (begin.Create source) e = same (Some (known_stack name x)) e
    by (begin.Update source) e = same (stack_at name x) e
    by (begin.Delete paths) e = same (stack_at name x) e
    by (begin.Continue paths) e = same (stack_at name x) e

  -- every other operation in progress goes on
  module _ (op : ℕ) (at_name : List ℕ) (st : StackState) (at : stack_of_operation op x ≡ Some (at_name, st)) where
    on : is_going op st ≡ true
    on = found_passes (λ (p : List ℕ × StackState). is_going op p.1) x.stacks (at_name, st) at

    there : stack_at at_name x ≡ Some st
    there = found_stands (λ (p : List ℕ × StackState). is_going op p.1) x.stacks (at_name, st) apart.names at

    works : is_in_progress st.status ≡ true
    works = second_so (st.operation == op) (is_in_progress st.status) on

    is_numbered : st.operation ≡ op
    is_numbered = eqb-true st.operation op (first_so (st.operation == op) (is_in_progress st.status) on)

    elsewhere : bytes_eq at_name name ≡ false
    elsewhere = false_from (bytes_eq at_name name) (λ t.
        let known : known_stack name x ≡ st =
        ap (λ m. known_stack m x) (sym (bytes_same at_name name t)) ∙ ap (λ o. unwrap_or o no_stack) there in
        true≢false (sym works ∙ idle k st.status (subst (λ (z : StackState). begins_from k z.status ≡ true) known from)))

    pub still_at : stack_of_operation op (world_after x begun) ≡ Some (at_name, st)
    still_at = ap (find (λ (p : List ℕ × StackState). is_going op p.1)) (after_stacks x begun refl) ∙ by (stack_for begun x) refl ∙ at
      where
        below : op ≤ x.operation
        below = subst (λ n. n ≤ x.operation) is_numbered (apart.last at_name st there)

        other : (s : StackState) → s.operation ≡ number → is_going op s ≡ false
        other s e =
            let no : (s.operation == op) ≡ false = false_from (s.operation == op) (λ t.
            let same : s.operation ≡ op = eqb-true s.operation op t in omega (arith, below, next, e, same)) in
            ap (λ b. b && is_in_progress s.status) no

        rests : (s : StackState) → value_at name x.stacks ≡ Some s → is_going op s ≡ false
        rests s e =
            let resting : is_in_progress s.status ≡ false = idle k s.status (subst (λ (z : StackState). begins_from k z.status ≡ true) (ap (λ o. unwrap_or o no_stack) e) from) in
            by_test (s.operation == op) resting where
              by_test : (b : Bool) → is_in_progress s.status ≡ false → (b && is_in_progress s.status) ≡ false
              by_test true r = r
              by_test false r = refl

        by : (o : Found) → stack_for begun x ≡ o
            → find (λ (p : List ℕ × StackState). is_going op p.1) (put_by x begun o) ≡ find (λ (p : List ℕ × StackState). is_going op p.1) x.stacks
        by None e = refl
        by (Some (m, s)) e =
            let its : m ≡ name = is_name m s e in
            find_else (is_going op) m (effect_at (x.place + 1) begun s).stack (other (effect_at (x.place + 1) begun s).stack (begun_number (x.place + 1) s)) x.stacks
            (λ z f. rests z (ap (λ n. value_at n x.stacks) (sym its) ∙ f))

-- a call that is out stays awaited
awaited_begun : (x : Standing) (number : ℕ) (name : List ℕ) (k : Begun) → number ≡ x.world.operation + 1 → begins_from k (known_stack name x.world).status ≡ true
    → AreApart x.world → (call : Granted) → IsAwaited x call → IsAwaited (stepped x (entry.Begin number name k)) call
awaited_begun x number name k next from apart call h = record {
  name = h.name;
  stack = h.stack;
  at = still_at x.world number name k next from apart call.number h.name h.stack h.at;
  row = h.row;
  room = awaited_stays x h.name call.token (Steps (entry.Begin number name k) ∷ []) (spared k, tt) h.room;
}
  where
    other : not (bytes_eq h.name name) ≡ true
    other = ap not (elsewhere x.world number name k next from apart call.number h.name h.stack h.at)

    spared : (k : Begun) → spares h.name call.token (entry.Begin number name k) ≡ true
    spared (begin.Create source) = other
    spared (begin.Update source) = other
    spared (begin.Delete paths) = refl
    spared (begin.Continue paths) = refl

-- of an entry that begins an operation and may follow
pub awaited_behind : (schemas : List Schema) (x : Standing) (out : List ℕ) (e : Entry) → IsBegin e → MayFollow schemas x.world out e → AreApart x.world → (call : Granted)
    → IsAwaited x call → IsAwaited (stepped x e) call
awaited_behind schemas x out (entry.Begin number name k) i may apart call h = awaited_begun x number name k may.0 may.1 apart call h
awaited_behind schemas x out (entry.Opened epoch lanes) i may apart call h = absurd i
awaited_behind schemas x out (entry.ChangeSet number name source rows outputs) i may apart call h = absurd i
awaited_behind schemas x out (entry.Kept number path physical w) i may apart call h = absurd i
awaited_behind schemas x out (entry.Intent number token lane path r) i may apart call h = absurd i
awaited_behind schemas x out (entry.Outcome number token a before after) i may apart call h = absurd i
awaited_behind schemas x out (entry.Phase number p cause) i may apart call h = absurd i
awaited_behind schemas x out (entry.Done number state failed) i may apart call h = absurd i

pub next_number : (schemas : List Schema) (x : World) (out : List ℕ) (e : Entry) → IsBegin e → MayFollow schemas x out e
    → HasNextNumber e x
next_number schemas x out (entry.Begin number name k) i may = let n = may.0 in omega (arith, n)
next_number schemas x out (entry.Opened epoch lanes) i may = absurd i
next_number schemas x out (entry.ChangeSet number name source rows outputs) i may = absurd i
next_number schemas x out (entry.Kept number path physical w) i may = absurd i
next_number schemas x out (entry.Intent number token lane path r) i may = absurd i
next_number schemas x out (entry.Outcome number token a before after) i may = absurd i
next_number schemas x out (entry.Phase number p cause) i may = absurd i
next_number schemas x out (entry.Done number state failed) i may = absurd i

-- no more calls are out than there are lanes
pub calls_within : (lanes : List BookLane) → length (calls_out lanes) ≤ length lanes
calls_within [] = omega arith
calls_within (b ∷ bs) = by b.out (calls_within bs) where
  by : (o : Option Granted) → length (calls_out bs) ≤ length bs → length (cons_option o (calls_out bs)) ≤ length (b ∷ bs)
  by None h = omega (arith, h)
  by (Some call) h = omega (arith, h)

-- What always holds of the book holds behind the beginning.
pub right_begun : {D T : Type 0} (g : Ghosts D) (old new : Record D) (lanes : List BookLane) (homes : List Home) (e : Entry) (schemas : List Schema)
    (result : Result T StopFault) → IsRight g old lanes homes None → IsBegin e → MayFollow schemas (world_left (entries_in old)) [] e
    → WritesIn g old new e result → OnOk result (IsOpen g new) → OnOk result (StepsOver old.world e new.world)
    → OnOk result (vec_len new.entries + length lanes ≤ vec_capacity new.entries) → spare_of old.journal ≤ spare_of new.journal
    → new.world.world ≡ world_left (entries_in new) → known_in g new → IsRight g new lanes homes (stopped_by None result)
right_begun {T = T} g old new lanes homes e schemas result right begins may writes opens steps places spare world known =
    right_written g old new lanes homes e result right (begin_new e begins) writes world known (by result opens steps places)
  where
    follows : MayFollow schemas old.world.world [] e
    follows = subst (λ x. MayFollow schemas x [] e) (sym right.world) may

    by : (result : Result T StopFault) → OnOk result (IsOpen g new) → OnOk result (StepsOver old.world e new.world)
        → OnOk result (vec_len new.entries + length lanes ≤ vec_capacity new.entries) → OnOk result (IsReady g new lanes)
    by (Ok x) opens steps places =
        ready_stepped g old new lanes e (right.ready refl) opens steps (omega (arith, places, calls_within lanes)) spare
        (next_number schemas old.world.world [] e begins follows)
        (λ y b call i out same a. awaited_behind schemas y [] e begins (subst (λ x. MayFollow schemas x [] e) (sym same) follows)
        (subst AreApart (sym same) (right.ready refl).apart) call a)
    by (Err fault) opens steps places = tt

-- a beginning does not ask which calls are out
any_out : (schemas : List Schema) (x : World) (out other : List ℕ) (e : Entry) → IsBegin e → MayFollow schemas x out e → MayFollow schemas x other e
any_out schemas x out other (entry.Begin number name k) i may = may
any_out schemas x out other (entry.Opened epoch lanes) i may = absurd i
any_out schemas x out other (entry.ChangeSet number name source rows outputs) i may = absurd i
any_out schemas x out other (entry.Kept number path physical w) i may = absurd i
any_out schemas x out other (entry.Intent number token lane path r) i may = absurd i
any_out schemas x out other (entry.Outcome number token a before after) i may = absurd i
any_out schemas x out other (entry.Phase number p cause) i may = absurd i
any_out schemas x out other (entry.Done number state failed) i may = absurd i

-- The event.
module _ {D : Type 0} (g : Ghosts D) (schemas : List Schema) (life : Life) (old new : BookNow D) (e : Entry) (begins : IsBegin e)
    (may : MayFollow schemas (world_left old.entries) [] e) (stands : StandsFor old life) (running : old.stopped ≡ None) (certain : old.doubt ≡ None)
    (lanes : new.lanes ≡ old.lanes) (granted : new.has_granted ≡ old.has_granted) where
  as_known : life.entries ≡ old.entries
  as_known = known_entries old life stands certain

  happens : (end : End) → Happens schemas life (Begin e end)
  happens end =
      let runs : is_running life ≡ true = ap (λ b. cond b (not life.is_stopped) false) stands.opened ∙ ap not (stands.running running) in
      (runs, stands.raised, begins, any_out schemas (world_of life) [] (tokens_out life) e begins (subst (λ es. MayFollow schemas (world_left es) [] e) (sym as_known) may))

  lanes_are : AreLanesOf new.lanes life.lanes
  lanes_are = subst (λ ls. AreLanesOf ls life.lanes) (sym lanes) stands.lanes

  leases_are : AreLeasesOf new.lanes life.leases
  leases_are = subst (λ ls. AreLeasesOf ls life.leases) (sym lanes) stands.leases

  ended : (end : End) → EndsSo new e life end → LeadsTo schemas life (Begin e end ∷ []) new
  ended end h = record {
    after = life_after life (Begin e end);
    happen = (happens end, refl);
    stands = by end h (raised_after schemas life (Begin e end) tt (happens end) stands.raised)
        (subst (λ ls. NamesLanes ls (world_of (life_after life (Begin e end)))) (sym lanes) (opening_after schemas life (Begin e end) tt (happens end) ∙ stands.named));
  } where
    by : (end : End) → EndsSo new e life end → AreRaised (appended end e life) → NamesLanes new.lanes (world_of (appended end e life))
        → StandsFor new (appended end e life)
    by Whole h r n = record { entries = h.0; lanes = lanes_are; leases = leases_are; opened = stands.opened; granted = stands.granted ∙ sym granted; running = h.1; raised = r; named = n }
    by BrokenWith h r n = record { entries = h.0; lanes = lanes_are; leases = leases_are; opened = stands.opened; granted = stands.granted ∙ sym granted; running = h.1; raised = r; named = n }
    by BrokenWithout h r n = record { entries = h.0; lanes = lanes_are; leases = leases_are; opened = stands.opened; granted = stands.granted ∙ sym granted; running = h.1; raised = r; named = n }

  -- nothing was written
  still : new.entries ≡ old.entries → LeadsTo schemas life [] new
  still same = record {
    after = life;
    happen = refl;
    stands = record {
      entries = inl (as_known ∙ sym same);
      lanes = lanes_are;
      leases = leases_are;
      opened = stands.opened;
      granted = stands.granted ∙ sym granted;
      running = λ n. stands.running running;
      raised = stands.raised;
      named = subst (λ ls. NamesLanes ls (world_of life)) (sym lanes) stands.named;
    };
  }

  pub begins_life : (result : Result ℕ StopFault) → Writes g old new e result → new.stopped ≡ stopped_by None result
      → BeginsLife schemas life new (order.Begin e) None result
  begins_life (Ok n) w s = λ end is. ended end (ends_so g old new life e as_known (stands.running running) (Ok n) w s end is)
  begins_life (Err stop.DiskFault) w s = λ end is. ended end (ends_so {T = ℕ} g old new life e as_known (stands.running running) (Err stop.DiskFault) w s end is)
  begins_life (Err (stop.Full l need room)) w s =
      λ end is. ended end (ends_so {T = ℕ} g old new life e as_known (stands.running running) (Err (stop.Full l need room)) w s end is)
  begins_life (Err (stop.LaneAhead place fence epoch)) w s = absurd w.1
  begins_life (Err stop.NoMemory) w s = still w.1

-- The same of a record and the lanes of a book.
module _ {D : Type 0} (g : Ghosts D) (r r' : Record D) (lanes : List BookLane) (homes : List Home) (given : Bool) (stopped stopped' : Option StopFault)
    (old : BookNow D) (e : Entry) (result : Result ℕ StopFault) (is : book_of r lanes given stopped ≡ old) (running : old.stopped ≡ None)
    (right : IsRight g r lanes homes stopped) (writes : WritesIn g r r' e result) (stops : stopped' ≡ stopped_by None result) where
  abbrev new : BookNow D
  new = book_of r' lanes given stopped'

  pub begins_in : (schemas : List Schema) (life : Life) → IsPrepared (schemas_of (map home_of old.lanes)) (world_left old.entries) (order.Begin e)
      → InLife schemas life old (BeginsLife schemas life new (order.Begin e) None result)
  begins_in schemas life prepared described stands holds =
      let ran : stopped ≡ None = ap (λ (b : BookNow D). b.stopped) is ∙ running in
      let sure : old.doubt ≡ None = sym (ap (λ (b : BookNow D). b.doubt) is) ∙ (right.ready ran).appends.certain in
      let same = known_entries old life stands sure in
      let may = subst (λ es. IsPrepared schemas (world_left es) (order.Begin e)) same
      (prepared_by schemas old.lanes life described stands.named holds (order.Begin e)
      (subst (λ es. IsPrepared (schemas_of (map home_of old.lanes)) (world_left es) (order.Begin e)) (sym same) prepared)) in
      begins_life g schemas life old new e may.0 may.2 stands running sure (ap (λ (b : BookNow D). b.lanes) is)
      (ap (λ (b : BookNow D). b.has_granted) is) result (subst (λ (b : BookNow D). Writes g b new e result) is writes) stops

  pub right_in : {T : Type 0} (res : Result T StopFault) → WritesIn g r r' e res → IsPrepared (schemas_of (map home_of old.lanes)) (world_left old.entries) (order.Begin e)
      → OnOk res (IsOpen g r') → OnOk res (StepsOver r.world e r'.world) → OnOk res (vec_len r'.entries + length lanes ≤ vec_capacity r'.entries)
      → spare_of r.journal ≤ spare_of r'.journal → r'.world.world ≡ world_left (entries_in r') → known_in g r' → IsRight g r' lanes homes (stopped_by None res)
  right_in {T = T} res w prepared opens steps places spare world known =
      let ran : stopped ≡ None = ap (λ (b : BookNow D). b.stopped) is ∙ running in
      right_begun {T = T} g r r' lanes homes e (schemas_of (map home_of old.lanes)) res (subst (IsRight g r lanes homes) ran right) prepared.0
      (subst (λ es. MayFollow (schemas_of (map home_of old.lanes)) (world_left es) [] e) (sym (ap (λ (b : BookNow D). b.entries) is)) prepared.2) w opens steps places spare
      world known

-- what was not written, as a book tells it
pub number_fault : {D : Type 0} (g : Ghosts D) (r r' : Record D) (e : Entry) (fault : StopFault) → WritesIn {T = Unit {0}} g r r' e (Err fault)
    → WritesIn {T = ℕ} g r r' e (Err fault)
number_fault g r r' e stop.NoMemory w = w
number_fault g r r' e stop.DiskFault w = w
number_fault g r r' e (stop.Full l need room) w = w
number_fault g r r' e (stop.LaneAhead place fence epoch) w = w

pub unwritten_so : {D : Type 0} (g : Ghosts D) (r r' : Record D) (lanes : List BookLane) (given : Bool) (stopped stopped' : Option StopFault) (old : BookNow D)
    (e : Entry) (fault : StopFault) → book_of r lanes given stopped ≡ old → WritesIn {T = Unit {0}} g r r' e (Err fault)
    → Writes {T = ℕ} g old (book_of r' lanes given stopped') e (Err fault)
unwritten_so g r r' lanes given stopped stopped' old e fault is w =
    subst (λ (b : BookNow _). Writes {T = ℕ} g b (book_of r' lanes given stopped') e (Err fault)) is (number_fault g r r' e fault w)

-- a beginning of the order that was handed in, on a book that has not stopped
pub begins_as : {D : Type 0} (g : Ghosts D) (old new : BookNow D) (o p : Order) (stopped : Option StopFault) (result : Result ℕ StopFault) → o ≡ p → stopped ≡ None
    → BeginsOrder g old new p result → BeginsAs g old new o stopped result
begins_as g old new o p stopped result is runs h =
    subst (λ s. BeginsAs g old new o s result) (sym runs) (subst (λ q. BeginsOrder g old new q result) (sym is) h)

pub begins_life_as : {D : Type 0} (schemas : List Schema) (life : Life) (new : BookNow D) (o p : Order) (stopped : Option StopFault) (result : Result ℕ StopFault)
    → o ≡ p → stopped ≡ None → BeginsLife schemas life new p None result → BeginsLife schemas life new o stopped result
begins_life_as schemas life new o p stopped result is runs h =
    subst (λ s. BeginsLife schemas life new o s result) (sym runs) (subst (λ q. BeginsLife schemas life new q None result) (sym is) h)

-- nothing is done by a book that has stopped, or where an operation goes on
pub nothing_begins : {D : Type 0} (schemas : List Schema) (life : Life) (old : BookNow D) (o : Order) (fault : StopFault) (result : Result ℕ StopFault)
    → StandsFor old life → BeginsLife schemas life old o (Some fault) result
nothing_begins schemas life old (order.Begin e) fault result stands = record { after = life; happen = refl; stands = stands }
nothing_begins schemas life old (order.Review e) fault result stands = record { after = life; happen = refl; stands = stands }
nothing_begins schemas life old (order.Resume number) fault result stands = record { after = life; happen = refl; stands = stands }

-- An operation that has begun is in progress.
module _ (x : World) (number : ℕ) (name : List ℕ) where
  begun_stack : (k : Begun) → begins_from k (known_stack name x).status ≡ true → (s : StackState) × (stack_for (entry.Begin number name k) x ≡ Some (name, s))
  begun_stack (begin.Create source) from = (known_stack name x, refl)
  begun_stack (begin.Update source) from = by (stack_at name x) refl where
    by : (o : Option StackState) → stack_at name x ≡ o → (s : StackState) × (option_map {U = List ℕ × StackState} (λ (z : StackState). (name, z)) (stack_at name x) ≡ Some (name, s))
    by (Some s) e = (s, ap (option_map (λ (z : StackState). (name, z))) e)
    by None e = absurd (true≢false (sym (ap (λ (o : Option StackState). begins_from (begin.Update source) (unwrap_or o no_stack).status) (sym e) ∙ from)))
  begun_stack (begin.Delete paths) from = by (stack_at name x) refl where
    by : (o : Option StackState) → stack_at name x ≡ o → (s : StackState) × (option_map {U = List ℕ × StackState} (λ (z : StackState). (name, z)) (stack_at name x) ≡ Some (name, s))
    by (Some s) e = (s, ap (option_map (λ (z : StackState). (name, z))) e)
    by None e = absurd (true≢false (sym (ap (λ (o : Option StackState). begins_from (begin.Delete paths) (unwrap_or o no_stack).status) (sym e) ∙ from)))
  begun_stack (begin.Continue paths) from = by (stack_at name x) refl where
    by : (o : Option StackState) → stack_at name x ≡ o → (s : StackState) × (option_map {U = List ℕ × StackState} (λ (z : StackState). (name, z)) (stack_at name x) ≡ Some (name, s))
    by (Some s) e = (s, ap (option_map (λ (z : StackState). (name, z))) e)
    by None e = absurd (true≢false (sym (ap (λ (o : Option StackState). begins_from (begin.Continue paths) (unwrap_or o no_stack).status) (sym e) ∙ from)))

  begun_going : (k : Begun) (place : ℕ) (s : StackState) → is_going number (effect_at place (entry.Begin number name k) s).stack ≡ true
  begun_going (begin.Create source) place s = ap (λ t. t && true) (eq-eqb number number refl)
  begun_going (begin.Update source) place s = ap (λ t. t && true) (eq-eqb number number refl)
  begun_going (begin.Delete paths) place s = ap (λ t. t && true) (eq-eqb number number refl)
  begun_going (begin.Continue paths) place s = ap (λ t. t && true) (eq-eqb number number refl)

  begun_goes : (k : Begun) → begins_from k (known_stack name x).status ≡ true → IsInProgress (world_after x (entry.Begin number name k)) number
  begun_goes k from =
      let (s, for) = begun_stack k from in
      let e : Entry = entry.Begin number name k in
      let v : StackState = (effect_at (x.place + 1) e s).stack in
      let stacks : (world_after x e).stacks ≡ put name v x.stacks = after_stacks x e refl ∙ ap (put_by x e) for in
      let there : In (name, v) (world_after x e).stacks =
      subst (λ (ss : List (List ℕ × StackState)). In (name, v) ss) (sym stacks) (stands_in name v (put name v x.stacks) (put_here name v x.stacks)) in
      let (q, found) = is_found_in (λ (p : List ℕ × StackState). is_going number p.1) (world_after x e).stacks (name, v) there (begun_going k (x.place + 1) s) in
      let passes = (found_one (λ (p : List ℕ × StackState). is_going number p.1) (world_after x e).stacks q found).1 in
      let (stage, at) = staged q.1.status (second_so (q.1.operation == number) (is_in_progress q.1.status) passes) in
      (q.0, q.1, stage, found, at)
    where
      staged : (s : Status) → is_in_progress s ≡ true → (stage : Stage) × (stage_of s ≡ Some stage)
      staged s h = by (stage_of s) refl where
        by : (o : Option Stage) → stage_of s ≡ o → (stage : Stage) × (stage_of s ≡ Some stage)
        by (Some stage) e = (stage, e)
        by None e = absurd (true≢false (sym h ∙ ap is_some e))

pub has_begun : (schemas : List Schema) (es : List Entry) (e : Entry) → IsBegin e → MayFollow schemas (world_left es) [] e → HasBegun (es ++ e ∷ []) (begun_by e)
has_begun schemas es (entry.Begin number name k) i may =
    inl (subst (λ x. IsInProgress x number) (folded_more empty_world es (entry.Begin number name k)) (begun_goes (world_left es) number name k may.1))
has_begun schemas es (entry.Opened epoch lanes) i may = absurd i
has_begun schemas es (entry.ChangeSet number name source rows outputs) i may = absurd i
has_begun schemas es (entry.Kept number path physical w) i may = absurd i
has_begun schemas es (entry.Intent number token lane path r) i may = absurd i
has_begun schemas es (entry.Outcome number token a before after) i may = absurd i
has_begun schemas es (entry.Phase number p cause) i may = absurd i
has_begun schemas es (entry.Done number state failed) i may = absurd i

-- and one that had begun before goes on, or has ended
pub still_begun : (schemas : List Schema) (es : List Entry) (e : Entry) → IsBegin e → MayFollow schemas (world_left es) [] e → AreApart (world_left es)
    → (m : ℕ) → HasBegun es m → HasBegun (es ++ e ∷ []) m
still_begun schemas es e i may apart m (inr (status, ended)) =
    inr (status, ap (end_status m) (ended_more es e ∙ begin_leaves e i (ended_in es)) ∙ ended)
still_begun schemas es (entry.Begin number name k) i may apart m (inl (n, s, stage, at, is)) =
    inl (subst (λ x. IsInProgress x m) (folded_more empty_world es (entry.Begin number name k))
    (n, s, stage, still_at (world_left es) number name k may.0 may.1 apart m n s at, is))
still_begun schemas es (entry.Opened epoch lanes) i may apart m (inl going) = absurd i
still_begun schemas es (entry.ChangeSet number name source rows outputs) i may apart m (inl going) = absurd i
still_begun schemas es (entry.Kept number path physical w) i may apart m (inl going) = absurd i
still_begun schemas es (entry.Intent number token lane path r) i may apart m (inl going) = absurd i
still_begun schemas es (entry.Outcome number token a before after) i may apart m (inl going) = absurd i
still_begun schemas es (entry.Phase number p cause) i may apart m (inl going) = absurd i
still_begun schemas es (entry.Done number state failed) i may apart m (inl going) = absurd i
