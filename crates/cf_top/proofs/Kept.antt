-- What each answer of a command keeps: the lanes' names and types, that disk and lanes agree, and what a crash may leave of the journal.
use Rattle.std.proofs.Common.{◌≡◌, ◌⊎◌, inl, inr, ℕ, List, [], ◌∷◌, ◌++◌, Option, Some, None, Result, Ok, Err, map, refl, sym, ◌∙◌, ap, subst}
use Rattle.std.specs.Bool.{IsTrue}
use Rattle.cf_disk.specs.declared.disk.Disk.{Ghosts as DiskGhosts}
use Rattle.cf_handler.specs.declared.handler.Handler.{Ghosts as HandlerGhosts}
use Rattle.cf_handler.specs.declared.fence.FenceAnswer.TheVariants as fence
use Rattle.cf_entry.specs.declared.entry.Entry.{Entry}
use Rattle.cf_entry.specs.declared.entry.Reply.{Reply}
use Rattle.cf_entry.specs.declared.status.Status.{Status}
use Rattle.cf_journal.specs.Record.{record_of}
use Rattle.cf_schema.specs.declared.described.Schema.{Schema}
use Rattle.cf_effect.specs.World.{StackState}
use Rattle.cf_prepare.specs.declared.wish.Order.{Order}
use Rattle.cf_prepare.specs.declared.wish.Order.TheVariants as order
use Rattle.cf_book.specs.Beginning.{BeginsOrder}
use Rattle.cf_book.specs.Entering.{IsUntouched, RefusesAs, opened_over}
use Rattle.cf_book.specs.Events.{outcome_by, reply_for}
use Rattle.cf_book.specs.Fences.{handed_in}
use Rattle.cf_book.specs.Record.{HasKnown}
use Rattle.cf_book.specs.State.{BookNow}
use Rattle.cf_book.specs.declared.refused.EnterFault.{EnterFault}
use Rattle.cf_book.specs.declared.refused.EnterFault.TheVariants as fault
use Rattle.cf_book.specs.declared.stop.StopFault.{StopFault}
use Rattle.cf_book.specs.declared.stop.StopFault.TheVariants as stop
use Rattle.cf_face.specs.declared.words.Task.{Task}
use Rattle.cf_face.specs.declared.exit.Exit.{Exit}
use Rattle.cf_face.specs.declared.exit.Exit.TheVariants as exit
use Rattle.cf_workers.specs.Agreement.{KeepsAgreement}
use Rattle.cf_top.specs.Alone.{AloneTells, Comes, EndsEarly, Says}
use Rattle.cf_top.specs.Answer.{RanAs}
use Rattle.cf_top.specs.Crash.{WroteNothing, CrashLeaves, MayDoubt}
use Rattle.cf_workers.specs.Growing.{Extends}
use Rattle.cf_top.specs.Ends.{HasEnded}
use Rattle.cf_top.specs.Performed.{DoesTask, ExitsFor}
use Rattle.cf_workers.specs.Driving.{CouldNotWrite, LacksOutcome, Stops}
use Rattle.cf_top.specs.History.{IsCommand}
use Rattle.cf_top.specs.Opening.{enter_exit}
use Rattle.cf_top.specs.Outside.{CameTo, HasEntered, IsClosed, Outside, Printed, Printing, WasDone}
use Rattle.cf_top.specs.Telling.{outcome_exit}
use Rattle.cf_top.proofs.Sets.{keeps_set}
use Rattle.cf_workers.proofs.Commanded.{named_as}
use Rattle.cf_workers.proofs.Crashes.{extends_itself, extends_on}
use Rattle.cf_workers.proofs.Entered.{entered_agrees, same_handlers}
use Rattle.cf_workers.proofs.Untouched.{agree_broken, agree_unraised, keeps_untouched, stops_same}

abbrev pub Stays : {D : Type 0} → DiskGhosts D → Type 0
Stays {D} g = (d : D) → IsTrue g.tells → g.may_leave d (g.seen d)

module _ {D H : Type 0} (g : DiskGhosts D) (h : HandlerGhosts H) where
  -- the same lanes, by name and schema
  abbrev pub SameLanes : Outside D H → Type 0
  SameLanes m = map named_as (handed_in h m.handlers') ≡ map named_as (handed_in h m.handlers)

  abbrev pub KeepsAgreed : Outside D H → Type 0
  KeepsAgreed m = KeepsAgreement g h m.disk m.handlers m.disk' m.handlers'

  abbrev pub LeavesIt : Outside D H → Exit → Type 0
  LeavesIt m e = CrashLeaves (g.seen m.disk) (g.seen m.disk') (g.may_leave m.disk) (g.may_leave m.disk') e

  -- all that is kept, whatever the answer
  pub record IsKept (m : Outside D H) (e : Exit) : Type 0 where
    pub same : SameLanes m
    pub agrees : Stays g → KeepsAgreed m
    pub leaves : IsTrue g.tells → LeavesIt m e

  -- no lane is called, and what a crash may leave keeps the record
  kept_before : (m : Outside D H) (e : Exit) → m.handlers' ≡ m.handlers → (IsTrue g.tells → WroteNothing (g.seen m.disk) (g.seen m.disk') (g.may_leave m.disk) (g.may_leave m.disk')) → IsKept m e
  kept_before m e quiet keeps = record {
    same = ap (λ (hs : List H). map named_as (handed_in h hs)) quiet;
    agrees = λ stay. subst (KeepsAgreement g h m.disk m.handlers m.disk') (sym quiet) (keeps_untouched g h m.disk m.disk' m.handlers stay (λ tells. (keeps tells).each));
    leaves = λ tells. inl (keeps tells);
  }

  pub kept_nothing : (m : Outside D H) (e : Exit) → m.disk' ≡ m.disk → m.handlers' ≡ m.handlers → IsKept m e
  kept_nothing m e same quiet = kept_before m e quiet (λ tells. record {
    kept = record { same = ap (λ d. record_of (g.seen d)) same; bytes = inr (ap g.seen same) };
    each = λ file left. inl (subst (λ d. g.may_leave d file) same left);
  })

  kept_untouched : (m : Outside D H) (e : Exit) → IsUntouched g m.disk m.disk' m.handlers m.handlers' → IsKept m e
  kept_untouched m e u = kept_before m e u.lanes_keep (λ tells. record { kept = u.disk_keeps tells; each = u.each tells })

  -- the book was not entered
  kept_refused : (m : Outside D H) (f : EnterFault) → RefusesAs g h m.disk m.handlers m.disk' m.handlers' f → IsKept m (enter_exit f)
  kept_refused m (fault.NotAJournal offset) r = kept_untouched m (exit.NotAJournal offset) r.0
  kept_refused m fault.DiskFault (rose, inl u) = kept_untouched m exit.DiskFault u
  kept_refused m fault.DiskFault (rose, inr (quiet, es, over, broken)) = record {
    same = ap (λ (hs : List H). map named_as (handed_in h hs)) quiet;
    agrees = λ stay tells schemas all agree.
        subst (λ (hs : List H). KeepsAgreement g h m.disk m.handlers m.disk' hs) (sym quiet)
        (λ t s a ag. agree_broken g h m.disk m.disk' m.handlers m.handlers stay es over.0 t s a ag broken) tells schemas all agree;
    leaves = λ tells. inr (record {
      old = es;
      known = es;
      doubt = Some (opened_over (handed_in h m.handlers) es);
      was = (over.0).found tells;
      grown = extends_itself es;
      certain = inl tt;
      stays = broken.known.now tells;
      each = broken.known.each tells;
    });
  }
  kept_refused m (fault.LaneTwice name) r = kept_untouched m (exit.LaneTwice name) r.0
  kept_refused m (fault.LaneMissing name) r = kept_untouched m (exit.LaneMissing name) r.0
  kept_refused m (fault.Full length need room) r = kept_untouched m (exit.Full length need room) r.0
  kept_refused m (fault.LaneAhead name stands epoch) (es, over, is, u, never) = record {
    same = stops_same (handed_in h m.handlers) (handed_in h m.handlers') u.place _ (fence.Ahead stands) u.fences;
    agrees = λ stay tells schemas all agree.
        agree_unraised g h m.disk m.disk' m.handlers m.handlers' stay es over.0 tells schemas all agree name (fence.Ahead stands) u;
    leaves = λ tells. inr (record {
      old = es;
      known = es ++ opened_over (handed_in h m.handlers) es ∷ [];
      doubt = None;
      was = (over.0).found tells;
      grown = (opened_over (handed_in h m.handlers) es ∷ [], refl);
      certain = inr refl;
      stays = u.known.now tells;
      each = u.known.each tells;
    });
  }
  kept_refused m (fault.LaneFault name) (es, over, u) = record {
    same = stops_same (handed_in h m.handlers) (handed_in h m.handlers') u.place _ fence.Fault u.fences;
    agrees = λ stay tells schemas all agree. agree_unraised g h m.disk m.disk' m.handlers m.handlers' stay es over.0 tells schemas all agree name fence.Fault u;
    leaves = λ tells. inr (record {
      old = es;
      known = es ++ opened_over (handed_in h m.handlers) es ∷ [];
      doubt = None;
      was = (over.0).found tells;
      grown = (opened_over (handed_in h m.handlers) es ∷ [], refl);
      certain = inr refl;
      stays = u.known.now tells;
      each = u.known.each tells;
    });
  }
  kept_refused m fault.NoMemory u = kept_untouched m exit.NoMemory u

  -- What is in doubt after a book that stopped: nothing, or the disk failed, which the exit tells.
  doubt_of : (disk : D) (old new : BookNow D) (e : Entry) (f : StopFault) (x : Exit) → ExitsFor new.lanes f x → CouldNotWrite g disk old new e f → MayDoubt x ⊎ (new.doubt ≡ None)
  doubt_of disk old new e (stop.Full l need room) x q w = inr w.0
  doubt_of disk old new e stop.DiskFault x q w = inl (subst MayDoubt (sym q) tt)
  doubt_of disk old new e (stop.LaneAhead place f epoch) x q w = absurd w
  doubt_of disk old new e stop.NoMemory x q w = absurd w

  doubt_stopped : (number : ℕ) (old new : BookNow D) (f : StopFault) (x : Exit) → ExitsFor new.lanes f x → Stops g number old new f → MayDoubt x ⊎ (new.doubt ≡ None)
  doubt_stopped number old new f x q (stopped, none, known, inl (same, lanes, inl (is, certain, lacks))) = inr certain
  doubt_stopped number old new f x q (stopped, none, known, inl (same, lanes, inr (n, e, comes, is, w))) = doubt_of old.disk old new e f x q w
  doubt_stopped number old new f x q (stopped, none, known, inr a) = by (reply_for (a.0).told.answer) a.4 where
    by : (o : Option Reply) → LacksOutcome g (a.1).lent.disk old new (a.0).after (a.0).told o f → MayDoubt x ⊎ (new.doubt ≡ None)
    by (Some r) w = doubt_of (a.1).lent.disk old new (outcome_by (a.0).told r) f x q w
    by None w = inr w.0

  doubt_begun : (old new : BookNow D) (ordered : Order) (f : StopFault) (x : Exit) → old.doubt ≡ None → ExitsFor new.lanes f x → BeginsOrder g old new ordered (Err f)
      → MayDoubt x ⊎ (new.doubt ≡ None)
  doubt_begun old new (order.Begin e) (stop.Full l need room) x none q w = inr (w.0.1.1 ∙ none)
  doubt_begun old new (order.Begin e) stop.DiskFault x none q w = inl (subst MayDoubt (sym q) tt)
  doubt_begun old new (order.Begin e) (stop.LaneAhead place fe epoch) x none q w = absurd w.0.1
  doubt_begun old new (order.Begin e) stop.NoMemory x none q w = inr (w.0.2 ∙ none)
  doubt_begun old new (order.Review e) f x none q w = absurd w
  doubt_begun old new (order.Resume number) f x none q w = inr (w.1.doubt ∙ none)

  doubt_done : (m : Outside D H) (name : List ℕ) (t : Task) (entered ended : BookNow D) (x : Exit) → entered.doubt ≡ None → DoesTask g m.library entered ended name t (Err x)
      → MayDoubt x ⊎ (ended.doubt ≡ None)
  doubt_done m name t entered ended x none (inl (refused, still)) = inr (still.0.doubt ∙ none)
  doubt_done m name t entered ended x none (inr (ordered, is, (f, exits, inl (begins, lanes, known)))) = doubt_begun entered ended ordered f x none exits begins
  doubt_done m name t entered ended x none (inr (ordered, is, (f, exits, inr (number, begun, goes, ((last, course, stops, disk, grows), few))))) =
      doubt_stopped number last ended f x exits stops

  -- the book was entered, and closed
  pub kept_done : (m : Outside D H) (name : List ℕ) (t : Task) (entered ended : BookNow D) (result : Result Status Exit) (e : Exit)
      → WasDone g h m name t entered ended result → MayDoubt e ⊎ (ended.doubt ≡ None) → IsKept m e
  kept_done m name t entered ended result e w certain = by w.enters w.closes where
    by : HasEntered g h m entered → IsClosed g h m ended → IsKept m e
    by (es, over, enters, known, room, opens) (disk_is, handlers_are, none, ended_known) = record {
      same = same_handlers g h m.disk m.disk' m.handlers m.handlers' es entered ended over.0 enters w.stretch.leads w.stretch.lanes none disk_is handlers_are ended_known;
      agrees = λ stay.
          entered_agrees g h m.disk m.disk' m.handlers m.handlers' es entered ended over.0 enters w.stretch.leads w.stretch.lanes none disk_is handlers_are ended_known stay;
      leaves = λ tells. inr (record {
        old = es;
        known = ended.entries;
        doubt = ended.doubt;
        was = (over.0).found tells;
        grown =
            extends_on es entered.entries ended.entries
            (subst (Extends es) (sym enters.entries) (opened_over (handed_in h m.handlers) es ∷ [], refl)) w.stretch.grown;
        certain = certain;
        stays = subst (λ d. HasKnown ended.entries ended.doubt (g.seen d)) (sym disk_is) (ended_known.now tells);
        each = λ file left. ended_known.each tells file (subst (λ d. g.may_leave d file) disk_is left);
      });
    }

  kept_came : (m : Outside D H) (name : List ℕ) (t : Task) (outcome : Result StackState Exit) → CameTo g h m name t outcome → IsKept m (outcome_exit outcome)
  kept_came m name t (Ok st) (entered, ended, status, was, stack, lasts) =
      kept_done m name t entered ended (Ok status) (outcome_exit (Ok st)) was (inr stack.rest.certain)
  kept_came m name t (Err e) (inl (f, refuses, is, unasked), none) = subst (IsKept m) (sym is) (kept_refused m f refuses)
  kept_came m name t (Err e) (inr (entered, ended, was), none) =
      kept_done m name t entered ended (Err e) e was
      (doubt_done m name t entered ended e (certain_of was.enters) was.does) where
        certain_of : HasEntered g h m entered → entered.doubt ≡ None
        certain_of (es, over, enters, known, room, opens) = enters.certain

  kept_comes : (m : Outside D H) (words : List (List ℕ)) (stack : List ℕ) (t : Task) (outcome : Result StackState Exit) → Comes g h m words stack t outcome → IsKept m (outcome_exit outcome)
  kept_comes m words stack t outcome (inl (q, none, touched)) = kept_nothing m (outcome_exit outcome) touched.0 touched.1
  kept_comes m words stack t outcome (inr (inl (q, touched))) = kept_nothing m (outcome_exit outcome) touched.0 touched.1
  kept_comes m words stack t outcome (inr (inr (said, came))) = kept_came m stack t outcome came

  -- what could not be printed may hide a fault of the disk
  doubtful : (m : Outside D H) (e x : Exit) → MayDoubt x → IsKept m e → IsKept m x
  doubtful m e x may k = record { same = k.same; agrees = k.agrees; leaves = λ tells. by (k.leaves tells) } where
    by : LeavesIt m e → LeavesIt m x
    by (inl b) = inl b
    by (inr s) = inr (record {
      old = s.old;
      known = s.known;
      doubt = s.doubt;
      was = s.was;
      grown = s.grown;
      certain = inl may;
      stays = s.stays;
      each = s.each;
    })

  pub kept_alone : (m : Outside D H) (p : Printing) (words : List (List ℕ)) (result : Exit) → AloneTells g h m p words result → IsKept m result
  kept_alone m p words result (stack, t, outcome, comes, printed) = by printed where
    k : IsKept m (outcome_exit outcome)
    k = kept_comes m words stack t outcome comes

    by : Printed p stack t outcome result → IsKept m result
    by (inl (is, a)) = subst (IsKept m) (sym is) k
    by (inr (inl (is, rose, a))) = doubtful m (outcome_exit outcome) result (subst MayDoubt (sym is) tt) k
    by (inr (inr (is, a))) = doubtful m (outcome_exit outcome) result (subst MayDoubt (sym is) tt) k

  kept_over : (m : Outside D H) (p : Printing) (words : List (List ℕ)) (e : Exit) → HasEnded g h m p words e → SameLanes m × (Stays g → KeepsAgreed m)
  kept_over m p words e d = let k = kept_done m d.name d.what d.entered d.ended (Ok d.state) exit.NoMemory d.was (inl tt) in (k.same, k.agrees)

  kept_early : (m : Outside D H) (p : Printing) (words : List (List ℕ)) (e : Exit) → EndsEarly g h m p words e → SameLanes m × (Stays g → KeepsAgreed m)
  kept_early m p words e s = let k = kept_came m s.name s.what (Err e) s.ran in (k.same, k.agrees)

  -- by what an answer says
  kept_says : (m : Outside D H) (p : Printing) (words : List (List ℕ)) (result : Exit) → Says g h m p words result → SameLanes m × (Stays g → KeepsAgreed m)
  kept_says m p words exit.Done s = kept_over m p words exit.Done s
  kept_says m p words (exit.RolledBack cause) s = kept_over m p words (exit.RolledBack cause) s
  kept_says m p words (exit.Failed blamed) s = kept_over m p words (exit.Failed blamed) s
  kept_says m p words exit.BadWords s = let k = kept_nothing m exit.BadWords (s.1).0 (s.1).1 in (k.same, k.agrees)
  kept_says m p words exit.SinkFault s = let c = s.1 in let k = kept_comes m words c.stack c.what c.outcome c.comes in (k.same, k.agrees)
  kept_says m p words exit.NoMemory s = let k = kept_comes m words s.stack s.what s.outcome s.comes in (k.same, k.agrees)
  kept_says m p words (exit.TemplateRefused fault) s = kept_early m p words (exit.TemplateRefused fault) s
  kept_says m p words (exit.StackRefused fault) s = kept_early m p words (exit.StackRefused fault) s
  kept_says m p words exit.LibraryFault s = kept_early m p words exit.LibraryFault s
  kept_says m p words exit.DiskFault s = kept_early m p words exit.DiskFault s
  kept_says m p words (exit.NotAJournal offset) s = kept_early m p words (exit.NotAJournal offset) s
  kept_says m p words (exit.LaneMissing name) s = kept_early m p words (exit.LaneMissing name) s
  kept_says m p words (exit.LaneTwice name) s = kept_early m p words (exit.LaneTwice name) s
  kept_says m p words (exit.LaneAhead name f epoch) s = kept_early m p words (exit.LaneAhead name f epoch) s
  kept_says m p words (exit.LaneFault name) s = kept_early m p words (exit.LaneFault name) s
  kept_says m p words (exit.Full length need room) s = kept_early m p words (exit.Full length need room) s

  -- a command of a history
  ran_agrees : (m : Outside D H) (p : Printing) (words : List (List ℕ)) (result : Exit) → RanAs g h m p words result → Stays g → KeepsAgreed m
  ran_agrees m p words result (inl (asks, (quiet, keeps, leaves), answers)) = λ stay.
      subst (λ (hs : List H). KeepsAgreement g h m.disk m.handlers m.disk' hs) (sym quiet) (keeps_set g h m.disk m.disk' m.handlers stay result leaves)
  ran_agrees m p words result (inr (inl (drives, answered))) = (kept_says m p words result answered.says).1
  ran_agrees m p words result (inr (inr (touched, printed))) = (kept_nothing m result touched.0 touched.1).agrees

-- the handlers that are given back have the names and schemas of those that were handed in
module _ {H : Type 0} (h : HandlerGhosts H) where
  parts : {A : Type 0} (f : List ℕ × Schema → A) (hs : List H) → map f (map named_as (handed_in h hs)) ≡ map (λ (x : H). f (h.label x, h.schema_of x)) hs
  parts f [] = refl
  parts f (x ∷ hs) = ap (λ ys. f (h.label x, h.schema_of x) ∷ ys) (parts f hs)

  pub labels_same : (hs hs' : List H) → map named_as (handed_in h hs') ≡ map named_as (handed_in h hs) → map h.label hs' ≡ map h.label hs
  labels_same hs hs' q = sym (parts (λ x. x.0) hs') ∙ ap (map (λ (x : List ℕ × Schema). x.0)) q ∙ parts (λ x. x.0) hs

  pub schemas_given : (hs hs' : List H) → map named_as (handed_in h hs') ≡ map named_as (handed_in h hs) → map h.schema_of hs' ≡ map h.schema_of hs
  schemas_given hs hs' q = sym (parts (λ x. x.1) hs') ∙ ap (map (λ (x : List ℕ × Schema). x.1)) q ∙ parts (λ x. x.1) hs

pub command_agrees : {D H : Type 0} (g : DiskGhosts D) (h : HandlerGhosts H) → Stays g → (disk disk' : D) (handlers handlers' : List H) → IsCommand g h disk disk' handlers handlers'
    → KeepsAgreement g h disk handlers disk' handlers'
command_agrees g h stay disk disk' handlers handlers' c =
    ran_agrees g h (record { library = c.library; disk = disk; disk' = disk'; handlers = handlers; handlers' = handlers' }) c.printing c.words c.exit c.ran stay
