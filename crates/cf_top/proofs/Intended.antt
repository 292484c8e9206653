-- The calls of a command: each had its Intent in the journal, where it stays, they are few, and lanes change by their fences and them alone.
use Rattle.std.proofs.Common.{◌≡◌, inl, inr, ℕ, ◌≤◌, Bool, true, false, cond, List, [], Some, None, Result, Ok, Err, sym, ◌∙◌, ap, subst, arith}
use Rattle.std.specs.Bool.{IsTrue}
use Rattle.std.specs.Str.{bytes_eq}
use Rattle.cf_tree.specs.Lists.{In}
use Rattle.cf_disk.specs.Disk.{LeavesOnly}
use Rattle.cf_disk.specs.declared.disk.Disk.{Ghosts as DiskGhosts}
use Rattle.cf_handler.specs.declared.fence.FenceAnswer.TheVariants as fence
use Rattle.cf_handler.specs.declared.handler.Handler.{Ghosts as HandlerGhosts}
use Rattle.cf_schema.specs.declared.described.Schema.{Schema}
use Rattle.cf_entry.proofs.Codec.{some_is}
use Rattle.cf_entry.specs.declared.entry.Entry.{Entry}
use Rattle.cf_entry.specs.declared.status.Status.{Status}
use Rattle.cf_entry.specs.declared.status.Status.TheVariants as status
use Rattle.cf_journal.specs.Record.{record_of}
use Rattle.cf_effect.specs.World.{StackState, known_stack}
use Rattle.cf_effect.specs.declared.held.KeptSet.{KeptSet}
use Rattle.cf_lane.specs.Lanes.{LaneNow}
use Rattle.cf_plan.proofs.Causing.{map_in, mapped_in}
use Rattle.cf_plan.proofs.Listed.{in_none, same_bytes}
use Rattle.cf_plan.specs.Life.{Life}
use Rattle.cf_book.specs.Entering.{IsEntered, RefusesAs, epoch_over, names_of}
use Rattle.cf_book.specs.Fences.{handed_in}
use Rattle.cf_book.specs.Lives.{DescribeLanes, StandsFor}
use Rattle.cf_book.specs.Record.{world_left}
use Rattle.cf_book.specs.State.{BookLane, BookNow}
use Rattle.cf_book.specs.declared.refused.EnterFault.{EnterFault}
use Rattle.cf_book.specs.declared.refused.EnterFault.TheVariants as fault
use Rattle.cf_book.specs.declared.stop.StopFault.{StopFault}
use Rattle.cf_book.specs.declared.stop.StopFault.TheVariants as stop
use Rattle.cf_core.specs.Foretold.{IsTold, row_at}
use Rattle.cf_core.specs.Theorem.{HoldsAlways}
use Rattle.cf_core.specs.Turned.{was_continued}
use Rattle.cf_prepare.specs.Refusals.{set_of}
use Rattle.cf_face.specs.declared.exit.Exit.{Exit}
use Rattle.cf_face.specs.declared.exit.Exit.TheVariants as exit
use Rattle.cf_face.specs.declared.words.Task.{Task}
use Rattle.cf_face.specs.declared.words.Task.TheVariants as task
use Rattle.cf_workers.proofs.Crashes.{extends_on}
use Rattle.cf_workers.proofs.Wrote.{lane_in, lanes_in}
use Rattle.cf_top.specs.Alone.{AloneTells, Comes}
use Rattle.cf_workers.specs.Driving.{CallAt, calls_on}
use Rattle.cf_workers.specs.Intending.{AreAfterCalls, BeginsWith, IsIntendedIn}
use Rattle.cf_top.proofs.SetTold.{kept_opened, told_done}
use Rattle.cf_top.specs.Foretold.{IsKeptOn, WasOpenForward}
use Rattle.cf_top.specs.Intended.{CallsAreIntended, CallsNoLane}
use Rattle.cf_top.specs.Outside.{CameTo, HasEntered, IsClosed, Outside, Printed, Printing, WasDone}
use Rattle.cf_top.specs.Performed.{DoesTask, ExitsFor}
use Rattle.cf_top.specs.Refusals.{LibraryUse}
use Rattle.cf_top.specs.Tasks.{task_words}
use Rattle.cf_top.specs.Telling.{exit_by, exit_for, outcome_exit}
use Rattle.cf_workers.specs.Turning.{cause_of}
use Rattle.cf_workers.proofs.Entered.{described, stands_entered}
use Rattle.cf_workers.proofs.FewCalls.{none_few}
use Rattle.cf_workers.proofs.Intending.{AreCalls, HasCalls, all_same, calls_none, handed_logs, handed_silent, held_run, home_lanes, names_in, raised_silent, raised_then, stops_at, uncalled, without_logs}

-- a task over a book on which no call was made before
module _ {D : Type 0} (g : DiskGhosts D) (start : D) (first : List LaneNow) (entered ended : BookNow D) (within : IsTrue g.tells → g.moment start ≤ g.moment entered.disk)
    (are : AreCalls first (lanes_in entered.lanes)) (silent : (l : LaneNow) → In l (lanes_in entered.lanes) → l.log ≡ []) where
  held_done : (IsTrue g.tells → g.moment start ≤ g.moment ended.disk) → (o : LibraryUse) (name : List ℕ) (t : Task) (result : Result Status Exit)
      → DoesTask g o entered ended name t result → HasCalls g start first entered ended
  held_done now o name t (Ok status) (ordered, is, runs) = held_run g start first entered ended within are silent now ordered (Ok status) runs
  held_done now o name t (Err x) (inl (refused, still)) = uncalled g start first entered ended within are silent still.1.lanes now
  held_done now o name t (Err x) (inr (ordered, is, (f, exits, runs))) = held_run g start first entered ended within are silent now ordered (Err f) runs

-- with these answers no call was made over a book that was entered
module _ {D : Type 0} (g : DiskGhosts D) (o : LibraryUse) (entered ended : BookNow D) (name : List ℕ) (t : Task) where
  never_stopped : (f : StopFault) (x : Exit) → ExitsFor ended.lanes f x → CallsNoLane x → ⊥
  never_stopped (stop.Full l need room) x q none = subst CallsNoLane q none
  never_stopped stop.DiskFault x q none = subst CallsNoLane q none
  never_stopped (stop.LaneAhead place fence epoch) x (inl q) none = subst CallsNoLane q none
  never_stopped (stop.LaneAhead place fence epoch) x (inr (b, at, q)) none = subst CallsNoLane q none
  never_stopped stop.NoMemory x q none = subst CallsNoLane q none

  same_lanes : (x : Exit) → DoesTask g o entered ended name t (Err x) → CallsNoLane x → ended.lanes ≡ entered.lanes
  same_lanes x (inl (refused, still)) none = still.1.lanes
  same_lanes x (inr (ordered, is, (f, exits, what))) none = absurd (never_stopped f x exits none)

never_ended : (s : StackState) (kind : Status) → CallsNoLane (exit_by s kind) → ⊥
never_ended s status.CreateComplete none = none
never_ended s status.UpdateComplete none = none
never_ended s status.DeleteComplete none = none
never_ended s status.RollbackComplete none = back (was_continued s) none where
  back : (b : Bool) → CallsNoLane (cond b exit.Done (exit.RolledBack (cause_of s))) → ⊥
  back true k = k
  back false k = k
never_ended s status.UpdateRollbackComplete none = back (was_continued s) none where
  back : (b : Bool) → CallsNoLane (cond b exit.Done (exit.RolledBack (cause_of s))) → ⊥
  back true k = k
  back false k = k
never_ended s _ none = none

same_record : (a b : List Entry) → ◌≡◌ {A = Result (List Entry) ℕ} (Ok a) (Ok b) → a ≡ b
same_record a b q = cc

-- a call's Intent was there, up to the same disk
abbrev at_end : {D : Type 0} (g : DiskGhosts D) (start disk disk' : D) → disk' ≡ disk → (c : CallAt) → IsIntendedIn g start disk c → IsIntendedIn g start disk' c
at_end g start disk disk' q c k = record {
  lent = k.lent;
  intent = k.intent;
  durable = k.durable;
  within = k.within;
  since = λ told. subst (λ d. LeavesOnly g.moment g.left_since k.lent.disk d (BeginsWith k.lent.entries)) (sym q) (k.since told);
}

module _ {D H : Type 0} (g : DiskGhosts D) (h : HandlerGhosts H) where
  -- no lane was called
  module _ (disk disk' : D) (handlers handlers' : List H) (words : List (List ℕ)) (x : Exit) where
    fenced_only : AreAfterCalls (handed_in h handlers) (handed_in h handlers') → CallsAreIntended g h disk disk' handlers handlers' words x
    fenced_only k = record {
      lanes = handed_in h handlers';
      given_back = handed_logs g h handlers';
      called = k;
      calls = [];
      logs = λ l i. handed_silent g h handlers' l i;
      on = λ c i. absurd (in_none i);
      each = λ c i. absurd (in_none i);
      few = λ told schemas all agree. none_few;
      told = λ told schemas all agree c i. absurd (in_none i);
      none = λ q l i. handed_silent g h handlers' l i;
    }

    pub none_asked : handlers' ≡ handlers → CallsAreIntended g h disk disk' handlers handlers' words x
    none_asked q = fenced_only (subst (λ (hs : List H). AreAfterCalls (handed_in h handlers) (handed_in h hs)) (sym q) (all_same (handed_in h handlers)))

  module _ (seen_may_stay : (d : D) → IsTrue g.tells → g.may_leave d (g.seen d)) (m : Outside D H) (words : List (List ℕ)) where
    abbrev AreIntended : Exit → Type 0
    AreIntended x = CallsAreIntended g h m.disk m.disk' m.handlers m.handlers' words x

    untouched : (x : Exit) → m.handlers' ≡ m.handlers → AreIntended x
    untouched x q = none_asked m.disk m.disk' m.handlers m.handlers' words x q

    refused : (x : Exit) (f : EnterFault) → RefusesAs g h m.disk m.handlers m.disk' m.handlers' f → AreIntended x
    refused x (fault.NotAJournal offset) r = untouched x r.0.lanes_keep
    refused x fault.DiskFault (rose, inl u) = untouched x u.lanes_keep
    refused x fault.DiskFault (rose, inr (quiet, es, over, broken)) = untouched x quiet
    refused x (fault.LaneTwice name) r = untouched x r.0.lanes_keep
    refused x (fault.LaneMissing name) r = untouched x r.0.lanes_keep
    refused x (fault.Full length need room) r = untouched x r.0.lanes_keep
    refused x (fault.LaneAhead name stands epoch) (es, over, is, u, never) =
        fenced_only m.disk m.disk' m.handlers m.handlers' words x
        (stops_at (handed_in h m.handlers) (handed_in h m.handlers') u.place (epoch_over es) (fence.Ahead stands) u.fences)
    refused x (fault.LaneFault name) (es, over, u) =
        fenced_only m.disk m.disk' m.handlers m.handlers' words x
        (stops_at (handed_in h m.handlers) (handed_in h m.handlers') u.place (epoch_over es) fence.Fault u.fences)
    refused x fault.NoMemory u = untouched x u.lanes_keep

    -- a book was entered, and closed
    done : (x : Exit) (name : List ℕ) (t : Task) (entered ended : BookNow D) (result : Result Status Exit) → task_words words ≡ Some (name, t)
        → WasDone g h m name t entered ended result → (CallsNoLane x → ended.lanes ≡ entered.lanes) → AreIntended x
    done x name t entered ended result said w quiet = by w.enters w.closes where
      by : HasEntered g h m entered → IsClosed g h m ended → AreIntended x
      by (es, over, enters, known, room, opens) (disk_is, handlers_are, none, ended_known) = record {
        lanes = lanes_in ended.lanes;
        given_back = without_logs ended.lanes ∙ sym handlers_are;
        called = raised_then (handed_in h m.handlers) enters.raised (lanes_in ended.lanes) (epoch_over es) enters.fences has.held.lanes;
        calls = has.calls;
        logs = has.held.logs;
        on = λ c i. subst (In c.lane) (names_in ended.lanes) (has.held.on c i);
        each = λ c i. at_end g m.disk ended.disk m.disk' disk_is c (has.held.each c i).intent;
        few = λ told schemas all agree.
            let (life, stands, holds) =
            stands_entered g h m.disk m.disk' m.handlers m.handlers' es entered ended over.0 enters w.stretch.leads w.stretch.lanes none disk_is handlers_are ended_known
            seen_may_stay told schemas all agree in
            has.few schemas life
            (described g h m.disk m.disk' m.handlers m.handlers' es entered ended over.0 enters w.stretch.leads w.stretch.lanes none disk_is handlers_are ended_known
            seen_may_stay told schemas all agree) stands holds;
        told = λ told schemas all agree c i stack number set executes kept forward.
            let (life, stands, holds) =
            stands_entered g h m.disk m.disk' m.handlers m.handlers' es entered ended over.0 enters w.stretch.leads w.stretch.lanes none disk_is handlers_are ended_known
            seen_may_stay told schemas all agree in
            let described_so =
            described g h m.disk m.disk' m.handlers m.handlers' es entered ended over.0 enters w.stretch.leads w.stretch.lanes none disk_is handlers_are ended_known
            seen_may_stay told schemas all agree in
            told_call c i stack number set executes
            (kept_entered es (over.0.found told) enters stack number set kept)
            schemas life described_so stands holds enters.certain forward;
        none = λ q l i. silent l (subst (λ (ls : List BookLane). In l (lanes_in ls)) (quiet q) i);
      } where
        home_so : lanes_in entered.lanes ≡ enters.raised
        home_so = ap lanes_in enters.lanes_are ∙ home_lanes enters.raised

        silent : (l : LaneNow) → In l (lanes_in entered.lanes) → l.log ≡ []
        silent l i = raised_silent (handed_in h m.handlers) enters.raised (epoch_over es) enters.fences (handed_silent g h m.handlers) l (subst (In l) home_so i)

        within : IsTrue g.tells → g.moment m.disk ≤ g.moment entered.disk
        within told = (opens told).later

        now : IsTrue g.tells → g.moment m.disk ≤ g.moment ended.disk
        now told = let before = within told in let after = (w.stretch.grows told).later in omega (arith, before, after)

        has : HasCalls g m.disk enters.raised entered ended
        has =
            held_done g m.disk enters.raised entered ended within (subst (AreCalls enters.raised) (sym home_so) (calls_none enters.raised)) silent now m.library name
            t result w.does

        -- the set was kept on the stack as the book was entered, too
        kept_entered : (first : List Entry) → record_of (g.seen m.disk) ≡ Ok first → IsEntered first (handed_in h m.handlers) entered → (stack : List ℕ) (number : ℕ) (set : KeptSet)
            → IsKeptOn g m.disk stack number set → set_of number (known_stack stack (world_left entered.entries)) ≡ Some set
        kept_entered first found enters stack number set (es, was, kept) =
            subst (λ ds. set_of number (known_stack stack (world_left ds)) ≡ Some set) (sym enters.entries)
            (kept_opened first (epoch_over first) (names_of (handed_in h m.handlers)) stack number set
            (subst (λ ds. set_of number (known_stack stack (world_left ds)) ≡ Some set) (same_record es first (sym was ∙ found)) kept))

        -- a call is told by the change set that is executed
        told_call : (c : CallAt) (i : In c has.calls) (stack : List ℕ) (number : ℕ) (set : KeptSet) → task_words words ≡ Some (stack, task.Execute number)
            → set_of number (known_stack stack (world_left entered.entries)) ≡ Some set → (schemas : List Schema) (life : Life) → DescribeLanes schemas entered.lanes
            → StandsFor entered life → HoldsAlways schemas life → entered.doubt ≡ None
            → WasOpenForward (has.held.each c i).intent.lent.entries c → IsTold (row_at c.path set.rows) c.told.request
        told_call c i stack number set executes kept schemas life described_so stands holds certain (first, up, (intent, opens, on)) =
            let (b, j, at) = map_in (λ (l : BookLane). l.lane.name) c.lane ended.lanes (has.held.on c i) in
            let held = has.held.each c i in
            let in_log : In c.told b.lane.log =
            subst (In c.told) (ap (λ n. calls_on n has.calls) (sym at) ∙ sym (has.held.logs b.lane (lane_in ended.lanes b j)))
            (mapped_in (λ (d : CallAt). cond (bytes_eq c.lane d.lane) (Some d.told) None) c.told c has.calls i (ap (λ s. cond s (Some c.told) None) (same_bytes c.lane))) in
            let same = some_is (name, t) (stack, task.Execute number) (sym said ∙ executes) in
            told_done g m.library entered ended stack number schemas life described_so stands holds certain w.stretch.leads (λ l k. silent l.lane (lane_in entered.lanes l k)) set kept c b j in_log
            first intent opens (extends_on first held.intent.lent.entries ended.entries up held.stays) on result
            (subst (λ (s : List ℕ × Task). DoesTask g m.library entered ended s.0 s.1 result) same w.does)

    came : (name : List ℕ) (t : Task) (outcome : Result StackState Exit) → task_words words ≡ Some (name, t) → CameTo g h m name t outcome
        → AreIntended (outcome_exit outcome)
    came name t (Ok st) said (entered, ended, status, was, left, lasts) =
        done (exit_for st) name t entered ended (Ok status) said was (λ none. absurd (never_ended st st.status none))
    came name t (Err e) said (inl (f, refuses, is, unasked), none) = refused e f refuses
    came name t (Err e) said (inr (entered, ended, was), none) =
        done e name t entered ended (Err e) said was (same_lanes g m.library entered ended name t e was.does)

    comes_to : (stack : List ℕ) (t : Task) (outcome : Result StackState Exit) → Comes g h m words stack t outcome → AreIntended (outcome_exit outcome)
    comes_to stack t outcome (inl (q, none, touched)) = untouched (outcome_exit outcome) touched.1
    comes_to stack t outcome (inr (inl (q, touched))) = untouched (outcome_exit outcome) touched.1
    comes_to stack t outcome (inr (inr (said, did))) = came stack t outcome said did

    -- another exit, after which a lane may have been called
    told_as : (x y : Exit) → (CallsNoLane y → ⊥) → AreIntended x → AreIntended y
    told_as x y never k =
        record {
          lanes = k.lanes;
          given_back = k.given_back;
          called = k.called;
          calls = k.calls;
          logs = k.logs;
          on = k.on;
          each = k.each;
          few = k.few;
          told = k.told;
          none = λ q l i. absurd (never q);
        }

    pub intended_alone : (p : Printing) (result : Exit) → AloneTells g h m p words result
        → CallsAreIntended g h m.disk m.disk' m.handlers m.handlers' words result
    intended_alone p result (stack, t, outcome, comes, printed) = by printed where
      all : AreIntended (outcome_exit outcome)
      all = comes_to stack t outcome comes

      by : Printed p stack t outcome result → AreIntended result
      by (inl (is, a)) = subst AreIntended (sym is) all
      by (inr (inl (is, rose, a))) = told_as (outcome_exit outcome) result (λ q. subst CallsNoLane is q) all
      by (inr (inr (is, a))) = told_as (outcome_exit outcome) result (λ q. subst CallsNoLane is q) all
