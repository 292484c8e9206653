-- What a task over the journal of a disk comes to, from what its book came to.
use Rattle.std.proofs.Common.{◌≡◌, inl, inr, ℕ, List, Some, None, Result, Ok, Err, refl, sym, ◌∙◌, ap, subst}
use Rattle.std.specs.Bool.{IsTrue}
use Rattle.std.specs.Result.{IfOk}
use Rattle.cf_tree.specs.Lists.{In}
use Rattle.cf_disk.specs.Disk.{LeavesOnly}
use Rattle.cf_disk.specs.declared.disk.Disk.{Ghosts as DiskGhosts}
use Rattle.cf_handler.specs.declared.handler.Handler.{Ghosts as HandlerGhosts}
use Rattle.cf_entry.specs.declared.entry.Entry.{Entry}
use Rattle.cf_entry.specs.declared.status.Status.{Status}
use Rattle.cf_effect.specs.World.{StackState, World, stack_at}
use Rattle.cf_lane.specs.Lanes.{LaneNow}
use Rattle.cf_plan.proofs.Causing.{map_in}
use Rattle.cf_book.specs.Calls.{AreHandlersOf}
use Rattle.cf_book.specs.Entering.{IsEntered, LeavesOpening, MayOpenOn, RefusesAs, epoch_over, names_of}
use Rattle.cf_book.specs.Fences.{handed_in}
use Rattle.cf_book.specs.Lives.{DescribeLanes}
use Rattle.cf_book.specs.Record.{KeepsRoom, KnowsDisk, world_left}
use Rattle.cf_book.specs.State.{BookLane, BookNow, NoneOut, at_home}
use Rattle.cf_book.specs.declared.refused.EnterFault.{EnterFault}
use Rattle.cf_book.specs.declared.refused.EnterFault.TheVariants as fault
use Rattle.cf_face.specs.declared.words.Task.{Task}
use Rattle.cf_face.specs.declared.exit.Exit.{Exit}
use Rattle.cf_face.specs.declared.exit.Exit.TheVariants as exit
use Rattle.cf_top.specs.Crash.{Lasts}
use Rattle.cf_workers.specs.Agreement.{AgreeOn, at_rest}
use Rattle.cf_top.specs.Performed.{DoesTask, NeverAhead}
use Rattle.cf_workers.specs.Ordering.{HasStack, IsEnded, IsJustOpened}
use Rattle.cf_top.specs.Refusals.{IsUnasked, LibraryUse}
use Rattle.cf_top.specs.Tasks.{number_for}
use Rattle.cf_workers.specs.Driving.{IsAtRest}
use Rattle.cf_workers.specs.Leading.{IsStretch}
use Rattle.cf_top.specs.Opening.{enter_exit}
use Rattle.cf_top.specs.Outside.{TellsOutcome, CameTo, DoesOn, DoesOver, HaveAgreed, LeavesBook, NoneAhead, Outside, Printed, Printing}
use Rattle.cf_workers.proofs.Entered.{described, stands_entered}
use Rattle.cf_workers.proofs.Untouched.{begun_on}

one_stack : (a b : StackState) → Some a ≡ Some b → a ≡ b
one_stack a b q = cc

-- what is left of a book on which an operation ended
pub leaves_stack : {D : Type 0} (g : DiskGhosts D) (o : LibraryUse) (book ended : BookNow D) (name : List ℕ) (t : Task) (status : Status) (st : StackState)
    → DoesTask g o book ended name t (Ok status) → IsEnded ended name (number_for (world_left book.entries) name t) status → IsAtRest g ended → stack_at name (world_left ended.entries) ≡ Some st
    → LeavesBook g o book ended name t (Ok st)
leaves_stack g o book ended name t status st does has rest there =
    (status, does, record { over = has; stack_is = one_stack has.stack st (sym has.here ∙ there); rest = rest })

-- a task over a book, all of it
pub does_over : {D H : Type 0} (g : DiskGhosts D) (h : HandlerGhosts H) (o : LibraryUse) (p : Printing) (book ended : BookNow D) (disk' : D) (handlers' : List H) (name : List ℕ)
    (t : Task) (result : Result Status Exit) (x : World) (e : Exit) → DoesTask g o book ended name t result → HasStack ended name (number_for (world_left book.entries) name t) result → NeverAhead book result
    → NoneOut ended.lanes → IfOk result (λ _. IsAtRest g ended) → IsStretch g book ended → x ≡ world_left ended.entries → TellsOutcome p name t x result e → disk' ≡ ended.disk
    → AreHandlersOf h ended.lanes handlers' → KnowsDisk g ended → (ended.stopped ≡ None → Lasts g.tells (g.seen disk') (g.may_leave disk'))
    → DoesOver g h o p book disk' handlers' name t e
does_over g h o p book ended disk' handlers' name t (Ok status) x e does has never none rest stretch is (st, there, prints) disk_is handlers_are known lasts = record {
  ended = ended;
  outcome = Ok st;
  leaves = leaves_stack g o book ended name t status st does has rest (subst (λ (y : World). stack_at name y ≡ Some st) is there);
  disk_is = disk_is;
  handlers_are = handlers_are;
  none_out = none;
  known = known;
  lasts = lasts;
  stretch = stretch;
  prints = prints;
}
does_over g h o p book ended disk' handlers' name t (Err early) x e does has never none rest stretch is prints disk_is handlers_are known lasts = record {
  ended = ended;
  outcome = Err early;
  leaves = (does, never);
  disk_is = disk_is;
  handlers_are = handlers_are;
  none_out = none;
  known = known;
  lasts = lasts;
  stretch = stretch;
  prints = prints;
}

-- the stack of a task that came to its end is there
pub is_there : {D : Type 0} (ended : BookNow D) (name : List ℕ) (number : ℕ) (result : Result Status Exit) (x : World) → x ≡ world_left ended.entries → HasStack ended name number result
    → IfOk result (λ _. (st : StackState) × (stack_at name x ≡ Some st))
is_there ended name number (Ok status) x is has = (has.stack, ap (stack_at name) is ∙ has.here)
is_there ended name number (Err e) x is has = tt

-- of a book that was entered no call is out, and its opening is its last entry
module _ {D : Type 0} (es : List Entry) (lanes : List LaneNow) (b : BookNow D) (enters : IsEntered es lanes b) where
  pub none_out : NoneOut b.lanes
  none_out l i =
      let (n, j, q) = map_in at_home l enters.raised (subst (λ (ls : List BookLane). In l ls) enters.lanes_are i) in ap (λ (x : BookLane). x.out) (sym q)

  pub just_opened : IsJustOpened b.entries
  just_opened = (es, epoch_over es, names_of lanes, enters.entries)

module _ {D H : Type 0} (g : DiskGhosts D) (h : HandlerGhosts H) (stay : (d : D) → IsTrue g.tells → g.may_leave d (g.seen d)) (m : Outside D H) where
  -- no lane is ahead where disk and lanes agreed
  ahead_refused : (f : EnterFault) → RefusesAs g h m.disk m.handlers m.disk' m.handlers' f → NoneAhead g h m (enter_exit f)
  ahead_refused (fault.LaneAhead name stands epoch) (es, over, is, u, never) = by where
    by : HaveAgreed g h m → ⊥
    by (tells, schemas, all, agree) =
        let at : AgreeOn schemas es all = begun_on g h m.disk m.disk' m.handlers m.handlers' stay es over.0 tells schemas all agree in
        never schemas (at_rest es all) (record { entries = refl; lanes_are = agree.among.lanes; closed = refl }) at.holds
  ahead_refused (fault.NotAJournal offset) r = tt
  ahead_refused fault.DiskFault r = tt
  ahead_refused (fault.LaneTwice name) r = tt
  ahead_refused (fault.LaneMissing name) r = tt
  ahead_refused (fault.Full length need room) r = tt
  ahead_refused (fault.LaneFault name) r = tt
  ahead_refused fault.NoMemory r = tt

  module _ (es : List Entry) (entered : BookNow D) (over : MayOpenOn g m.disk (handed_in h m.handlers) es) (enters : IsEntered es (handed_in h m.handlers) entered) (known : KnowsDisk g entered) (room : KeepsRoom g m.disk entered.disk)
      (opens : IsTrue g.tells → LeavesOnly g.moment g.left_since m.disk entered.disk (LeavesOpening g m.disk (handed_in h m.handlers)))
      (p : Printing) (name : List ℕ) (t : Task) (e : Exit) (d : DoesOver g h m.library p entered m.disk' m.handlers' name t e) where
    ahead_done : (x : Exit) → NeverAhead entered (Err x) → NoneAhead g h m x
    ahead_done (exit.LaneAhead lane fence epoch) never = by where
      by : HaveAgreed g h m → ⊥
      by (tells, schemas, all, agree) =
          let (life, stands, holds) =
          stands_entered g h m.disk m.disk' m.handlers m.handlers' es entered d.ended over.0 enters d.stretch.leads d.stretch.lanes d.none_out d.disk_is d.handlers_are d.known stay tells schemas all agree in
          let told : DescribeLanes schemas entered.lanes =
          described g h m.disk m.disk' m.handlers m.handlers' es entered d.ended over.0 enters d.stretch.leads d.stretch.lanes d.none_out d.disk_is d.handlers_are d.known stay tells schemas all agree in
          never schemas life told stands holds lane fence epoch refl
    ahead_done exit.Done never = tt
    ahead_done exit.BadWords never = tt
    ahead_done (exit.TemplateRefused f) never = tt
    ahead_done (exit.StackRefused f) never = tt
    ahead_done (exit.RolledBack cause) never = tt
    ahead_done (exit.Failed blamed) never = tt
    ahead_done exit.LibraryFault never = tt
    ahead_done exit.DiskFault never = tt
    ahead_done exit.SinkFault never = tt
    ahead_done exit.NoMemory never = tt
    ahead_done (exit.NotAJournal offset) never = tt
    ahead_done (exit.LaneMissing lane) never = tt
    ahead_done (exit.LaneTwice lane) never = tt
    ahead_done (exit.LaneFault lane) never = tt
    ahead_done (exit.Full length need room) never = tt

    pub does_on : DoesOn g h m p name t e
    does_on = (d.outcome, by d.outcome d.leaves, d.prints) where
      by : (outcome : Result StackState Exit) → LeavesBook g m.library entered d.ended name t outcome → CameTo g h m name t outcome
      by (Ok st) (status, does, stack) = (
        entered,
        d.ended,
        status,
        record {
          enters = (es, over, enters, known, room, opens);
          does = does;
          stretch = d.stretch;
          closes = (d.disk_is, d.handlers_are, d.none_out, d.known);
        },
        stack,
        d.lasts stack.rest.running,
      )
      by (Err x) (does, never) = (
        inr (
          entered,
          d.ended,
          record {
            enters = (es, over, enters, known, room, opens);
            does = does;
            stretch = d.stretch;
            closes = (d.disk_is, d.handlers_are, d.none_out, d.known);
          },
        ),
        ahead_done x never,
      )

  pub refused_on : (p : Printing) (name : List ℕ) (t : Task) (f : EnterFault) (e : Exit) → RefusesAs g h m.disk m.handlers m.disk' m.handlers' f → IsUnasked m.library
      → Printed p name t (Err (enter_exit f)) e → DoesOn g h m p name t e
  refused_on p name t f e refuses unasked prints = (Err (enter_exit f), (inl (f, refuses, refl, unasked), ahead_refused f refuses), prints)
