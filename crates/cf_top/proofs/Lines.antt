-- What each answer of the top call says, from what its run came to.
use Rattle.std.proofs.Common.{◌≡◌, ◌⊎◌, inl, inr, ℕ, suc, zero, ◌||◌, true≢false, Bool, true, false, ◌≤◌, ◌^◌, ◌-◌, cond, List, [], ◌∷◌, length, map, Option, Some, None, Result, Ok, Err, refl, sym, ap, ◌∙◌, subst, slice_index_or, arith}
use Rattle.std.proofs.Math.Seq.{take-length}
use Rattle.std.proofs.lemmas.Bool.Decides.{leb_tells}
use Rattle.std.specs.Prelude.{not, ◌&&◌, option_map}
use Rattle.std.specs.Str.{bytes_eq}
use Rattle.std.specs.Io.KnownBytes.{Appends}
use Rattle.cf_tree.specs.Counts.{HasRisen}
use Rattle.cf_tree.specs.Lists.{In, is_among}
use Rattle.cf_tree.specs.Lists.In.{here, there}
use Rattle.cf_tree.specs.Named.{all_differ}
use Rattle.cf_disk.specs.declared.disk.Disk.{Ghosts as DiskGhosts}
use Rattle.cf_handler.specs.declared.fence.FenceAnswer.TheVariants as fence
use Rattle.cf_handler.specs.declared.handler.Handler.{Ghosts as HandlerGhosts}
use Rattle.cf_schema.specs.declared.described.Schema.{Schema}
use Rattle.cf_entry.specs.declared.entry.Entry.{Entry}
use Rattle.cf_entry.specs.declared.entry.Entry.TheVariants as entry
use Rattle.cf_entry.specs.declared.entry.Reply.{Reply}
use Rattle.cf_entry.specs.declared.entry.Reply.TheVariants as reply
use Rattle.cf_entry.specs.declared.status.Status.{Status}
use Rattle.cf_entry.specs.declared.status.Status.TheVariants as status
use Rattle.cf_entry.specs.declared.turn.Cause.{Cause}
use Rattle.cf_entry.specs.declared.turn.Cause.TheVariants as cause
use Rattle.cf_entry.specs.declared.turn.Reason.{Reason}
use Rattle.cf_io.specs.Library.{StandsUnder, Texts, text_named}
use Rattle.cf_effect.specs.World.{StackState, World, known_stack}
use Rattle.cf_lane.specs.Lanes.{LaneNow}
use Rattle.cf_plan.proofs.Listed.{same_bytes}
use Rattle.cf_plan.specs.Follow.{lane_kinds}
use Rattle.cf_core.specs.Turned.{reason_in, was_continued}
use Rattle.cf_prepare.specs.Answer.{TestsAs}
use Rattle.cf_prepare.specs.Orders.{IsContinuation, IsDeployment}
use Rattle.cf_prepare.specs.Prepare.{ExecutesAs, ExecutesFound, ExecutesSet, PreparesAs}
use Rattle.cf_prepare.specs.Refusals.{continue_refusal, execute_refusal, proposed_changes, resume_refusal, set_of, set_refusal}
use Rattle.cf_prepare.specs.Resuming.{IsFirstStuck}
use Rattle.cf_prepare.specs.declared.wish.Order.{Order}
use Rattle.cf_prepare.specs.declared.wish.Order.TheVariants as order
use Rattle.cf_prepare.specs.declared.wish.PrepareFault.{PrepareFault}
use Rattle.cf_prepare.specs.declared.wish.PrepareFault.TheVariants as prepare
use Rattle.cf_prepare.specs.declared.wish.StackFault.TheVariants as fault_of
use Rattle.cf_prepare.specs.declared.wish.Wish.TheVariants as wish
use Rattle.cf_book.specs.Beginning.{BeginsOrder}
use Rattle.cf_book.specs.Entering.{RefusesAs, epoch_over}
use Rattle.cf_book.specs.Events.{reply_for}
use Rattle.cf_book.specs.Fences.{StopsRaising, handed_in}
use Rattle.cf_book.specs.Record.{HasFaulted, world_left}
use Rattle.cf_book.specs.State.{BookLane, BookNow, at_home}
use Rattle.cf_book.specs.declared.refused.EnterFault.{EnterFault}
use Rattle.cf_book.specs.declared.refused.EnterFault.TheVariants as fault
use Rattle.cf_book.specs.declared.stop.StopFault.{StopFault}
use Rattle.cf_book.specs.declared.stop.StopFault.TheVariants as stop
use Rattle.cf_face.specs.declared.words.Choice.{Choice}
use Rattle.cf_face.specs.Words.{load_choice}
use Rattle.cf_face.specs.declared.words.Task.{Task}
use Rattle.cf_face.specs.declared.words.Task.TheVariants as task
use Rattle.cf_face.specs.declared.exit.Exit.{Exit}
use Rattle.cf_face.specs.declared.exit.Exit.TheVariants as exit
use Rattle.cf_face.specs.declared.exit.Refusal.TheVariants as refusal
use Rattle.cf_face.specs.declared.exit.StackFault.TheVariants as outdated
use Rattle.cf_workers.specs.Driving.{LacksOutcome, Stops}
use Rattle.cf_workers.specs.Turning.{IsCountedOn, cause_of}
use Rattle.cf_workers.proofs.Agreeing.{rest_differs}
use Rattle.cf_workers.proofs.Commanded.{named_as, same_names_now}
use Rattle.cf_workers.proofs.Along.{same_entered}
use Rattle.cf_workers.proofs.Wrote.{schemas_same}
use Rattle.cf_top.specs.Alone.{AloneTells, Comes, ComesBefore, EndsEarly, IsAnswered, IsCutShort, IsDeploymentRefused, IsExecutionRefused, IsExitOf, IsRefusal, IsRefusedAs, IsRefusedOver, IsSetRefused, NoCountRose, RoseAt, Says, counts_of, opened_world}
use Rattle.cf_top.specs.Crash.{Lasts, LastsWhereOver}
use Rattle.cf_top.specs.Ends.{BlamesNoCall, CallFailed, CountsWithin, EndsWithoutFailure, FailedAt, FailedBy, HadCause, HasEnded, IsNoFailure, IsUntold, TurnedBefore, TurnedNow}
use Rattle.cf_top.specs.Opening.{enter_exit}
use Rattle.cf_top.specs.Outside.{CameTo, HasEntered, IsClosed, Outside, Printed, Printing}
use Rattle.cf_top.specs.Performed.{DoesTask, ExitsFor}
use Rattle.cf_workers.specs.Ordering.{schemas_in, number_of}
use Rattle.cf_top.specs.Refusals.{IsRefusedFor, LibraryUse, RefusesChoice, deployment_refusal, exit_of_fault}
use Rattle.cf_top.specs.Tasks.{DeploysBy, ExecutesBy, OrdersTask, RefusesTask, load_library, status_refusal, task_words}
use Rattle.cf_top.specs.declared.planning.Purpose.TheVariants as purpose
use Rattle.cf_effect.specs.declared.held.KeptSet.{KeptSet}
use Rattle.cf_top.specs.Telling.{exit_by, exit_for, outcome_exit, outcome_text}
use Rattle.cf_top.proofs.Course.{has_run}
use Rattle.cf_top.proofs.Early.{IsAsked, RefusesEarly, asked_fault, asked_option, early}
use Rattle.cf_top.proofs.Endings.{because, counted, here_now, number_is, operation_is, promise, state_is, wrote}
use Rattle.cf_top.proofs.Kept.{Stays, kept_alone}
use Rattle.cf_workers.proofs.Stuck.{one_stuck}

some≢none : {A : Type 0} (x : A) → Some x ≡ None → ⊥
some≢none x e = cc

some_inside : {A : Type 0} (x y : A) → Some x ≡ Some y → x ≡ y
some_inside x y e = cc

-- exits that a task comes to before its operation ends, or before it begins
abbrev pub IsEarly : Exit → Type 0
IsEarly exit.Done = ⊥
IsEarly (exit.RolledBack cause) = ⊥
IsEarly (exit.Failed blamed) = ⊥
IsEarly exit.BadWords = ⊥
IsEarly exit.SinkFault = ⊥
IsEarly _ = Unit {0}

early_refused : (f : EnterFault) → IsEarly (enter_exit f)
early_refused (fault.NotAJournal offset) = tt
early_refused fault.DiskFault = tt
early_refused (fault.LaneTwice name) = tt
early_refused (fault.LaneMissing name) = tt
early_refused (fault.Full length need room) = tt
early_refused (fault.LaneAhead name f epoch) = tt
early_refused (fault.LaneFault name) = tt
early_refused fault.NoMemory = tt

early_stopped : (lanes : List BookLane) (f : StopFault) (x : Exit) → ExitsFor lanes f x → IsEarly x
early_stopped lanes (stop.Full l need room) x q = subst IsEarly (sym q) tt
early_stopped lanes stop.DiskFault x q = subst IsEarly (sym q) tt
early_stopped lanes (stop.LaneAhead place f epoch) x (inl q) = subst IsEarly (sym q) tt
early_stopped lanes (stop.LaneAhead place f epoch) x (inr (b, at, q)) = subst IsEarly (sym q) tt
early_stopped lanes stop.NoMemory x q = subst IsEarly (sym q) tt

-- what refuses a task is one of them
is_early : (e : Exit) → RefusesEarly e → IsEarly e
is_early exit.Done r = absurd r
is_early exit.BadWords r = absurd r
is_early exit.SinkFault r = absurd r
is_early exit.LibraryFault r = tt
is_early exit.DiskFault r = absurd r
is_early exit.NoMemory r = tt
is_early (exit.TemplateRefused f) r = tt
is_early (exit.StackRefused f) r = tt
is_early (exit.RolledBack c) r = absurd r
is_early (exit.Failed blamed) r = absurd r
is_early (exit.NotAJournal offset) r = absurd r
is_early (exit.LaneMissing lane) r = absurd r
is_early (exit.LaneTwice lane) r = absurd r
is_early (exit.LaneAhead lane f epoch) r = absurd r
is_early (exit.LaneFault lane) r = absurd r
is_early (exit.Full long need room) r = absurd r

module _ {D H : Type 0} (g : DiskGhosts D) (h : HandlerGhosts H) where
  early_came : (m : Outside D H) (name : List ℕ) (t : Task) (e : Exit) → CameTo g h m name t (Err e) → IsEarly e
  early_came m name t e (inl (f, refuses, is, unasked), none) = subst IsEarly (sym is) (early_refused f)
  early_came m name t e (inr (entered, ended, w), none) = by w.does where
    by : DoesTask g m.library entered ended name t (Err e) → IsEarly e
    by (inl (refused, still)) = is_early e (early m.library (schemas_in entered.lanes) (world_left entered.entries) name t e refused)
    by (inr (ordered, is, (f, exits, what))) = early_stopped ended.lanes f e exits

  -- a text that was printed whole is a prefix of itself
  cut_whole : (m : Outside D H) (p : Printing) (words : List (List ℕ)) (stack : List ℕ) (t : Task) (outcome : Result StackState Exit) → Comes g h m words stack t outcome
      → Appends p.held p.held' (outcome_text stack t outcome) → IsCutShort g h m p words
  cut_whole m p words stack t outcome c a = record {
    stack = stack;
    what = t;
    outcome = outcome;
    length = length (outcome_text stack t outcome);
    comes = c;
    printed = subst (Appends p.held p.held') (sym (take-length (outcome_text stack t outcome))) a;
  }

  done_says : Stays g → (m : Outside D H) (p : Printing) (words : List (List ℕ)) (name : List ℕ) (t : Task) (st : StackState) → task_words words ≡ Some (name, t)
      → CameTo g h m name t (Ok st) → Appends p.held p.held' (outcome_text name t (Ok st)) → HasEnded g h m p words (exit_for st)
  done_says stay m p words name t st said (entered, ended, state, w, left, lasts) a = by w.enters w.closes where
    by : HasEntered g h m entered → IsClosed g h m ended → HasEnded g h m p words (exit_for st)
    by (es0, over, enters, known, room, opens) closes =
        let r = has_run g m.library entered ended name t state w.does in record {
          name = name;
          what = t;
          said = said;
          entered = entered;
          ended = ended;
          state = state;
          was = w;
          ordered = r.ordered;
          orders = r.orders.orders;
          number_is = number_is g h stay m name t entered ended state st es0 over enters w left closes r;
          wrote = wrote g h stay m name t entered ended state st es0 over enters w left closes r;
          stack = st;
          counted = counted g h stay m name t entered ended state st es0 over enters w left closes r;
          here = here_now g h stay m name t entered ended state st es0 over enters w left closes;
          status_is = state_is g h stay m name t entered ended state st es0 over enters w left closes;
          operation_is = operation_is g h stay m name t entered ended state st es0 over enters w left closes r;
          exit_is = refl;
          because = because g h stay m name t entered ended state st es0 over enters w left closes r;
          promise = promise g h stay m name t entered ended state st es0 over enters w left closes r;
          printed = a;
        }

  -- an operation that ended says so by one of three exits
  says_ended : (m : Outside D H) (p : Printing) (words : List (List ℕ)) (st : StackState) (kind : Status) → HasEnded g h m p words (exit_by st kind) → Says g h m p words (exit_by st kind)
  says_ended m p words st status.CreateComplete d = d
  says_ended m p words st status.UpdateComplete d = d
  says_ended m p words st status.DeleteComplete d = d
  says_ended m p words st status.RollbackComplete d = back (was_continued st) d where
    back : (b : Bool) → HasEnded g h m p words (cond b exit.Done (exit.RolledBack (cause_of st))) → Says g h m p words (cond b exit.Done (exit.RolledBack (cause_of st)))
    back true k = k
    back false k = k
  says_ended m p words st status.UpdateRollbackComplete d = back (was_continued st) d where
    back : (b : Bool) → HasEnded g h m p words (cond b exit.Done (exit.RolledBack (cause_of st))) → Says g h m p words (cond b exit.Done (exit.RolledBack (cause_of st)))
    back true k = k
    back false k = k
  says_ended m p words st _ d = d

  ended_says : (m : Outside D H) (p : Printing) (words : List (List ℕ)) (name : List ℕ) (t : Task) (e : Exit) → task_words words ≡ Some (name, t) → CameTo g h m name t (Err e)
      → Appends p.held p.held' (outcome_text name t (Err e)) → Says g h m p words e
  ended_says m p words name t exit.Done s r a = absurd (early_came m name t exit.Done r)
  ended_says m p words name t exit.BadWords s r a = absurd (early_came m name t exit.BadWords r)
  ended_says m p words name t exit.SinkFault s r a = absurd (early_came m name t exit.SinkFault r)
  ended_says m p words name t exit.LibraryFault s r a = record { name = name; what = t; said = s; ran = r; printed = a }
  ended_says m p words name t exit.DiskFault s r a = record { name = name; what = t; said = s; ran = r; printed = a }
  ended_says m p words name t exit.NoMemory s r a = cut_whole m p words name t (Err exit.NoMemory) (inr (inr (s, r))) a
  ended_says m p words name t (exit.TemplateRefused f) s r a = record { name = name; what = t; said = s; ran = r; printed = a }
  ended_says m p words name t (exit.StackRefused f) s r a = record { name = name; what = t; said = s; ran = r; printed = a }
  ended_says m p words name t (exit.RolledBack c) s r a = absurd (early_came m name t (exit.RolledBack c) r)
  ended_says m p words name t (exit.Failed blamed) s r a = absurd (early_came m name t (exit.Failed blamed) r)
  ended_says m p words name t (exit.NotAJournal offset) s r a = record { name = name; what = t; said = s; ran = r; printed = a }
  ended_says m p words name t (exit.LaneMissing lane) s r a = record { name = name; what = t; said = s; ran = r; printed = a }
  ended_says m p words name t (exit.LaneTwice lane) s r a = record { name = name; what = t; said = s; ran = r; printed = a }
  ended_says m p words name t (exit.LaneAhead lane f epoch) s r a = record { name = name; what = t; said = s; ran = r; printed = a }
  ended_says m p words name t (exit.LaneFault lane) s r a = record { name = name; what = t; said = s; ran = r; printed = a }
  ended_says m p words name t (exit.Full long need room) s r a = record { name = name; what = t; said = s; ran = r; printed = a }

  task_says : Stays g → (m : Outside D H) (p : Printing) (words : List (List ℕ)) (name : List ℕ) (t : Task) (outcome : Result StackState Exit) → task_words words ≡ Some (name, t)
      → CameTo g h m name t outcome → Appends p.held p.held' (outcome_text name t outcome) → Says g h m p words (outcome_exit outcome)
  task_says stay m p words name t (Ok st) s r a = says_ended m p words st st.status (done_says stay m p words name t st s r a)
  task_says stay m p words name t (Err e) s r a = ended_says m p words name t e s r a

  said_by : Stays g → (m : Outside D H) (p : Printing) (words : List (List ℕ)) (stack : List ℕ) (t : Task) (outcome : Result StackState Exit) → Comes g h m words stack t outcome
      → Appends p.held p.held' (outcome_text stack t outcome) → Says g h m p words (outcome_exit outcome)
  said_by stay m p words stack t outcome (inl (q, n, u)) a =
      subst (λ (x : Result StackState Exit). Says g h m p words (outcome_exit x)) (sym q) (n, u, subst (λ (x : Result StackState Exit). Appends p.held p.held' (outcome_text stack t x)) q a)
  said_by stay m p words stack t outcome (inr (inl (q, u))) a =
      subst (λ (x : Result StackState Exit). Says g h m p words (outcome_exit x)) (sym q) (cut_whole m p words stack t outcome (inr (inl (q, u))) a)
  said_by stay m p words stack t outcome (inr (inr (s, r))) a = task_says stay m p words stack t outcome s r a

  pub printed_says : Stays g → (m : Outside D H) (p : Printing) (words : List (List ℕ)) (result : Exit) (stack : List ℕ) (t : Task) (outcome : Result StackState Exit) → Comes g h m words stack t outcome
      → Printed p stack t outcome result → Says g h m p words result
  printed_says stay m p words result stack t outcome c (inl (e, a)) = subst (Says g h m p words) (sym e) (said_by stay m p words stack t outcome c a)
  printed_says stay m p words result stack t outcome c (inr (inl (e, r, a))) =
      subst (Says g h m p words) (sym e) (r, record { stack = stack; what = t; outcome = outcome; length = a.0; comes = c; printed = a.1 })
  printed_says stay m p words result stack t outcome c (inr (inr (e, a))) =
      subst (Says g h m p words) (sym e) (record { stack = stack; what = t; outcome = outcome; length = a.0; comes = c; printed = a.1 })

  no_words : (words : List (List ℕ)) (said : List ℕ × Task) → task_words words ≡ Some said → task_words words ≡ None → ⊥
  no_words words said s n = some≢none said (sym s ∙ n)

  pub no_task : (m : Outside D H) (p : Printing) (words : List (List ℕ)) (result : Exit) → Says g h m p words result → task_words words ≡ None
      → IsExitOf result (exit.BadWords ∷ exit.SinkFault ∷ exit.NoMemory ∷ [])
  no_task m p words exit.BadWords s n = inl refl
  no_task m p words exit.SinkFault s n = inr (inl refl)
  no_task m p words exit.NoMemory s n = inr (inr (inl refl))
  no_task m p words exit.Done s n = absurd (no_words words (s.name, s.what) s.said n)
  no_task m p words exit.LibraryFault s n = absurd (no_words words (s.name, s.what) s.said n)
  no_task m p words exit.DiskFault s n = absurd (no_words words (s.name, s.what) s.said n)
  no_task m p words (exit.TemplateRefused f) s n = absurd (no_words words (s.name, s.what) s.said n)
  no_task m p words (exit.StackRefused f) s n = absurd (no_words words (s.name, s.what) s.said n)
  no_task m p words (exit.RolledBack c) s n = absurd (no_words words (s.name, s.what) s.said n)
  no_task m p words (exit.Failed blamed) s n = absurd (no_words words (s.name, s.what) s.said n)
  no_task m p words (exit.NotAJournal offset) s n = absurd (no_words words (s.name, s.what) s.said n)
  no_task m p words (exit.LaneMissing lane) s n = absurd (no_words words (s.name, s.what) s.said n)
  no_task m p words (exit.LaneTwice lane) s n = absurd (no_words words (s.name, s.what) s.said n)
  no_task m p words (exit.LaneAhead lane f epoch) s n = absurd (no_words words (s.name, s.what) s.said n)
  no_task m p words (exit.LaneFault lane) s n = absurd (no_words words (s.name, s.what) s.said n)
  no_task m p words (exit.Full long need room) s n = absurd (no_words words (s.name, s.what) s.said n)

  -- what lasts after an operation that ended
  early_lasts : (e : Exit) (tells : Bool) (bytes : List ℕ) (may_leave : List ℕ → Type 0) → IsEarly e → LastsWhereOver e tells bytes may_leave
  early_lasts exit.Done tells bytes may_leave r = absurd r
  early_lasts (exit.RolledBack cause) tells bytes may_leave r = absurd r
  early_lasts (exit.Failed blamed) tells bytes may_leave r = absurd r
  early_lasts _ tells bytes may_leave r = tt

  lasts_ever : (tells : Bool) (bytes : List ℕ) (may_leave : List ℕ → Type 0) (e : Exit) → Lasts tells bytes may_leave → LastsWhereOver e tells bytes may_leave
  lasts_ever tells bytes may_leave exit.Done l = l
  lasts_ever tells bytes may_leave (exit.RolledBack cause) l = l
  lasts_ever tells bytes may_leave (exit.Failed blamed) l = l
  lasts_ever tells bytes may_leave _ l = tt

  lasts_came : (m : Outside D H) (name : List ℕ) (t : Task) (outcome : Result StackState Exit) → CameTo g h m name t outcome
      → LastsWhereOver (outcome_exit outcome) g.tells (g.seen m.disk') (g.may_leave m.disk')
  lasts_came m name t (Ok st) (entered, ended, state, w, left, lasts) = lasts_ever g.tells (g.seen m.disk') (g.may_leave m.disk') (exit_for st) lasts
  lasts_came m name t (Err e) r = early_lasts e g.tells (g.seen m.disk') (g.may_leave m.disk') (early_came m name t e r)

  lasts_comes : (m : Outside D H) (words : List (List ℕ)) (stack : List ℕ) (t : Task) (outcome : Result StackState Exit) → Comes g h m words stack t outcome
      → LastsWhereOver (outcome_exit outcome) g.tells (g.seen m.disk') (g.may_leave m.disk')
  lasts_comes m words stack t outcome (inl (q, n, u)) = subst (λ (x : Result StackState Exit). LastsWhereOver (outcome_exit x) g.tells (g.seen m.disk') (g.may_leave m.disk')) (sym q) tt
  lasts_comes m words stack t outcome (inr (inl (q, u))) = subst (λ (x : Result StackState Exit). LastsWhereOver (outcome_exit x) g.tells (g.seen m.disk') (g.may_leave m.disk')) (sym q) tt
  lasts_comes m words stack t outcome (inr (inr (s, r))) = lasts_came m stack t outcome r

  pub lasts_alone : (m : Outside D H) (p : Printing) (words : List (List ℕ)) (result : Exit) → AloneTells g h m p words result
      → LastsWhereOver result g.tells (g.seen m.disk') (g.may_leave m.disk')
  lasts_alone m p words result (stack, t, outcome, comes, printed) = by printed where
    by : Printed p stack t outcome result → LastsWhereOver result g.tells (g.seen m.disk') (g.may_leave m.disk')
    by (inl (e, a)) = subst (λ (x : Exit). LastsWhereOver x g.tells (g.seen m.disk') (g.may_leave m.disk')) (sym e) (lasts_comes m words stack t outcome comes)
    by (inr (inl (e, r, a))) = subst (λ (x : Exit). LastsWhereOver x g.tells (g.seen m.disk') (g.may_leave m.disk')) (sym e) tt
    by (inr (inr (e, a))) = subst (λ (x : Exit). LastsWhereOver x g.tells (g.seen m.disk') (g.may_leave m.disk')) (sym e) tt

-- A task that is refused over the world is not done, and comes to that refusal.
module _ (o : LibraryUse) (schemas : List Schema) (x : World) (name : List ℕ) where
  -- what was found in a library that tells its texts is what stands there
  found_is : (choice : Choice) (texts : Texts) (found : Option (List ℕ)) → o.texts ≡ Some texts → StandsUnder o.texts choice.template found → found ≡ text_named choice.template texts
  found_is choice texts found told stands = subst (λ (z : Option Texts). StandsUnder z choice.template found) told stands

  not_refused : (w : Option PrepareFault) (e : Exit) → w ≡ None → option_map exit_of_fault w ≡ Some e → ⊥
  not_refused w e none q = some≢none e (sym q ∙ ap (option_map exit_of_fault) none)

  -- an operation that goes on is refused for its stack, or for the first path that stops it
  abbrev ResumesNot : Exit → Type 0
  ResumesNot e =
      (option_map exit_of_fault (resume_refusal x name) ≡ Some e)
      ⊎ ((path kind : List ℕ) × (e ≡ exit.TemplateRefused (refusal.UnknownType path kind)) × (resume_refusal x name ≡ None) × IsFirstStuck (lane_kinds x) (known_stack name x) path kind)

  resumes_not : (e : Exit) → IsRefusedAs o.texts schemas x name task.Resume e → ResumesNot e
  resumes_not (exit.TemplateRefused (refusal.UnknownType path kind)) r = inr (path, kind, refl, r.0, r.1)
  resumes_not (exit.TemplateRefused (refusal.Read text f)) r = inl r
  resumes_not (exit.TemplateRefused (refusal.NotYet text)) r = inl r
  resumes_not (exit.TemplateRefused (refusal.Plan f)) r = inl r
  resumes_not exit.Done r = inl r
  resumes_not exit.BadWords r = inl r
  resumes_not exit.SinkFault r = inl r
  resumes_not exit.LibraryFault r = inl r
  resumes_not exit.DiskFault r = inl r
  resumes_not exit.NoMemory r = inl r
  resumes_not (exit.StackRefused f) r = inl r
  resumes_not (exit.RolledBack c) r = inl r
  resumes_not (exit.Failed blamed) r = inl r
  resumes_not (exit.NotAJournal offset) r = inl r
  resumes_not (exit.LaneMissing lane) r = inl r
  resumes_not (exit.LaneTwice lane) r = inl r
  resumes_not (exit.LaneAhead lane f epoch) r = inl r
  resumes_not (exit.LaneFault lane) r = inl r
  resumes_not (exit.Full long need room) r = inl r

  never_deployed : (choice : Choice) (e : Exit) → IsDeploymentRefused o.texts schemas x name choice e → (ordered : Order) → DeploysBy o schemas x name choice ordered → ⊥
  never_deployed choice e (inl q) ordered d = some≢none e (sym q ∙ d.free)
  never_deployed choice e (inr (free, texts, told, q)) ordered d =
      some≢none e (sym q ∙ ap (deployment_refusal schemas x name choice) (sym (found_is choice texts (Some d.bytes) told d.stands)) ∙ d.sound)

  never_executed : (number : ℕ) (e : Exit) → IsExecutionRefused schemas x name number e → (ordered : Order) → ExecutesBy schemas x name number ordered → ⊥
  never_executed number e (inl q) ordered d = not_refused (set_refusal x name number) e d.free q
  never_executed number e (inr (free, set, kept, why)) ordered d = by why where
    one : set ≡ d.set
    one = some_inside set d.set (sym kept ∙ d.kept)

    by : IsSetRefused schemas x name number set e → ⊥
    by (inl q) = not_refused (execute_refusal schemas x name set.source) e (ap (λ (k : KeptSet). execute_refusal schemas x name k.source) one ∙ d.sound) q
    by (inr (sound, other, is)) = other (subst (λ (k : KeptSet). (proposed_changes schemas x name k.source).rows ≡ k.rows) (sym one) d.same_rows)

  -- a test that refuses does so for its reason, or for want of memory
  tests_so : (P : Order → Type 0) (w : Option PrepareFault) (f : PrepareFault) → TestsAs w P (Err f) → (w ≡ Some f) ⊎ (f ≡ prepare.NoMemory)
  tests_so P w prepare.NoMemory q = inr refl
  tests_so P w (prepare.Plan flaw) q = inl q
  tests_so P w (prepare.UnknownType path kind) q = inl q
  tests_so P w (prepare.Stack f) q = inl q

  -- of a refusal that was foretold
  abbrev IsForetold : Exit → Exit → Type 0
  IsForetold e y = (y ≡ e) ⊎ ComesBefore y

  wish_same : (w : Option PrepareFault) (f : PrepareFault) (e y : Exit) → option_map exit_of_fault w ≡ Some e → y ≡ exit_of_fault f → (w ≡ Some f) ⊎ (f ≡ prepare.NoMemory) → IsForetold e y
  wish_same w f e y q is (inl told) = inl (is ∙ some_inside (exit_of_fault f) e (sym (ap (option_map exit_of_fault) told) ∙ q))
  wish_same w f e y q is (inr none) = inr (subst ComesBefore (sym (is ∙ ap exit_of_fault none)) tt)

  found_refused : (choice : Choice) (texts : Texts) (e y : Exit) → o.texts ≡ Some texts → deployment_refusal schemas x name choice (text_named choice.template texts) ≡ Some e
      → IsRefusedFor o purpose.Deploy schemas x name choice y → IsForetold e y
  found_refused choice texts e exit.Done told q r = inl (some_inside exit.Done e (sym r.2 ∙ ap (deployment_refusal schemas x name choice) (found_is choice texts r.0 told r.1) ∙ q))
  found_refused choice texts e exit.BadWords told q r = inl (some_inside exit.BadWords e (sym r.2 ∙ ap (deployment_refusal schemas x name choice) (found_is choice texts r.0 told r.1) ∙ q))
  found_refused choice texts e exit.SinkFault told q r = inl (some_inside exit.SinkFault e (sym r.2 ∙ ap (deployment_refusal schemas x name choice) (found_is choice texts r.0 told r.1) ∙ q))
  found_refused choice texts e exit.LibraryFault told q r = inr tt
  found_refused choice texts e exit.DiskFault told q r = inl (some_inside exit.DiskFault e (sym r.2 ∙ ap (deployment_refusal schemas x name choice) (found_is choice texts r.0 told r.1) ∙ q))
  found_refused choice texts e exit.NoMemory told q r = inr tt
  found_refused choice texts e (exit.TemplateRefused f) told q r = inl (some_inside (exit.TemplateRefused f) e (sym r.2 ∙ ap (deployment_refusal schemas x name choice) (found_is choice texts r.0 told r.1) ∙ q))
  found_refused choice texts e (exit.StackRefused f) told q r = inl (some_inside (exit.StackRefused f) e (sym r.2 ∙ ap (deployment_refusal schemas x name choice) (found_is choice texts r.0 told r.1) ∙ q))
  found_refused choice texts e (exit.RolledBack c) told q r = inl (some_inside (exit.RolledBack c) e (sym r.2 ∙ ap (deployment_refusal schemas x name choice) (found_is choice texts r.0 told r.1) ∙ q))
  found_refused choice texts e (exit.Failed blamed) told q r = inl (some_inside (exit.Failed blamed) e (sym r.2 ∙ ap (deployment_refusal schemas x name choice) (found_is choice texts r.0 told r.1) ∙ q))
  found_refused choice texts e (exit.NotAJournal offset) told q r = inl (some_inside (exit.NotAJournal offset) e (sym r.2 ∙ ap (deployment_refusal schemas x name choice) (found_is choice texts r.0 told r.1) ∙ q))
  found_refused choice texts e (exit.LaneMissing lane) told q r = inl (some_inside (exit.LaneMissing lane) e (sym r.2 ∙ ap (deployment_refusal schemas x name choice) (found_is choice texts r.0 told r.1) ∙ q))
  found_refused choice texts e (exit.LaneTwice lane) told q r = inl (some_inside (exit.LaneTwice lane) e (sym r.2 ∙ ap (deployment_refusal schemas x name choice) (found_is choice texts r.0 told r.1) ∙ q))
  found_refused choice texts e (exit.LaneAhead lane f epoch) told q r = inl (some_inside (exit.LaneAhead lane f epoch) e (sym r.2 ∙ ap (deployment_refusal schemas x name choice) (found_is choice texts r.0 told r.1) ∙ q))
  found_refused choice texts e (exit.LaneFault lane) told q r = inl (some_inside (exit.LaneFault lane) e (sym r.2 ∙ ap (deployment_refusal schemas x name choice) (found_is choice texts r.0 told r.1) ∙ q))
  found_refused choice texts e (exit.Full long need room) told q r = inl (some_inside (exit.Full long need room) e (sym r.2 ∙ ap (deployment_refusal schemas x name choice) (found_is choice texts r.0 told r.1) ∙ q))

  deploy_refused : (choice : Choice) (e y : Exit) (bars : Option Exit) → status_refusal name x ≡ bars → IsDeploymentRefused o.texts schemas x name choice e
      → RefusesChoice o purpose.Deploy schemas x name choice bars y → IsForetold e y
  deploy_refused choice e y None is (inl q) r = absurd (some≢none e (sym q ∙ is))
  deploy_refused choice e y None is (inr (free, texts, told, q)) r = found_refused choice texts e y told q r
  deploy_refused choice e y (Some bar) is (inl q) r = inl (r.0 ∙ some_inside bar e (sym is ∙ q))
  deploy_refused choice e y (Some bar) is (inr (free, texts, told, q)) r = absurd (some≢none bar (sym is ∙ free))

  resume_same : (f : PrepareFault) (e y : Exit) → ResumesNot e → PreparesAs schemas x (wish.Resume name) (Err f) → y ≡ exit_of_fault f → IsForetold e y
  resume_same (prepare.UnknownType path kind) e y (inl q) (free, first) is = absurd (not_refused (resume_refusal x name) e free q)
  resume_same (prepare.UnknownType path kind) e y (inr (other, sort, same, none, least)) (free, first) is =
      let one = one_stuck (known_stack name x) (lane_kinds x) path other kind sort first least in
      inl (is ∙ ap (λ (p : List ℕ). exit.TemplateRefused (refusal.UnknownType p kind)) one.0 ∙ ap (λ (k : List ℕ). exit.TemplateRefused (refusal.UnknownType other k)) one.1 ∙ sym same)
  resume_same prepare.NoMemory e y n p is = inr (subst ComesBefore (sym is) tt)
  resume_same (prepare.Plan flaw) e y (inl q) p is = wish_same (resume_refusal x name) (prepare.Plan flaw) e y q is (inl p)
  resume_same (prepare.Plan flaw) e y (inr (other, sort, same, none, least)) p is = absurd (some≢none (prepare.Plan flaw) (sym p ∙ none))
  resume_same (prepare.Stack f) e y (inl q) p is = wish_same (resume_refusal x name) (prepare.Stack f) e y q is (inl p)
  resume_same (prepare.Stack f) e y (inr (other, sort, same, none, least)) p is = absurd (some≢none (prepare.Stack f) (sym p ∙ none))

  -- an execution is refused for its change set, for the source of that, or since other rows change by now
  set_foretold : (number : ℕ) (set : KeptSet) (f : PrepareFault) (e y : Exit) → IsSetRefused schemas x name number set e
      → ExecutesSet (execute_refusal schemas x name set.source) number (proposed_changes schemas x name set.source).rows set.rows (IsDeployment schemas x name set.source) (Err f)
      → y ≡ exit_of_fault f → IsForetold e y
  set_foretold number set (prepare.Stack (fault_of.Outdated n)) e y (inl q) (sound, same, other) is = absurd (not_refused (execute_refusal schemas x name set.source) e sound q)
  set_foretold number set (prepare.Stack (fault_of.Outdated n)) e y (inr (sound, other, told)) (none, same, differ) is =
      inl (is ∙ ap (λ (k : ℕ). exit.StackRefused (outdated.Outdated k)) same ∙ sym told)
  set_foretold number set prepare.NoMemory e y r p is = inr (subst ComesBefore (sym is) tt)
  set_foretold number set (prepare.Plan flaw) e y (inl q) p is = wish_same (execute_refusal schemas x name set.source) (prepare.Plan flaw) e y q is (inl p)
  set_foretold number set (prepare.UnknownType path kind) e y (inl q) p is = wish_same (execute_refusal schemas x name set.source) (prepare.UnknownType path kind) e y q is (inl p)
  set_foretold number set (prepare.Plan flaw) e y (inr (sound, other, told)) p is = absurd (some≢none (prepare.Plan flaw) (sym p ∙ sound))
  set_foretold number set (prepare.UnknownType path kind) e y (inr (sound, other, told)) p is = absurd (some≢none (prepare.UnknownType path kind) (sym p ∙ sound))
  set_foretold number set (prepare.Stack fault_of.NoStack) e y (inl q) p is = wish_same (execute_refusal schemas x name set.source) (prepare.Stack fault_of.NoStack) e y q is (inl p)
  set_foretold number set (prepare.Stack fault_of.NoStack) e y (inr (sound, other, told)) p is = absurd (some≢none (prepare.Stack fault_of.NoStack) (sym p ∙ sound))
  set_foretold number set (prepare.Stack (fault_of.WrongStatus status)) e y (inl q) p is = wish_same (execute_refusal schemas x name set.source) (prepare.Stack (fault_of.WrongStatus status)) e y q is (inl p)
  set_foretold number set (prepare.Stack (fault_of.WrongStatus status)) e y (inr (sound, other, told)) p is = absurd (some≢none (prepare.Stack (fault_of.WrongStatus status)) (sym p ∙ sound))
  set_foretold number set (prepare.Stack (fault_of.NoChangeSet n)) e y (inl q) p is = wish_same (execute_refusal schemas x name set.source) (prepare.Stack (fault_of.NoChangeSet n)) e y q is (inl p)
  set_foretold number set (prepare.Stack (fault_of.NoChangeSet n)) e y (inr (sound, other, told)) p is = absurd (some≢none (prepare.Stack (fault_of.NoChangeSet n)) (sym p ∙ sound))
  set_foretold number set (prepare.Stack (fault_of.NotFailed path)) e y (inl q) p is = wish_same (execute_refusal schemas x name set.source) (prepare.Stack (fault_of.NotFailed path)) e y q is (inl p)
  set_foretold number set (prepare.Stack (fault_of.NotFailed path)) e y (inr (sound, other, told)) p is = absurd (some≢none (prepare.Stack (fault_of.NotFailed path)) (sym p ∙ sound))
  set_foretold number set (prepare.Stack (fault_of.TypeChanged path)) e y (inl q) p is = wish_same (execute_refusal schemas x name set.source) (prepare.Stack (fault_of.TypeChanged path)) e y q is (inl p)
  set_foretold number set (prepare.Stack (fault_of.TypeChanged path)) e y (inr (sound, other, told)) p is = absurd (some≢none (prepare.Stack (fault_of.TypeChanged path)) (sym p ∙ sound))
  set_foretold number set (prepare.Stack (fault_of.ExportTaken export)) e y (inl q) p is = wish_same (execute_refusal schemas x name set.source) (prepare.Stack (fault_of.ExportTaken export)) e y q is (inl p)
  set_foretold number set (prepare.Stack (fault_of.ExportTaken export)) e y (inr (sound, other, told)) p is = absurd (some≢none (prepare.Stack (fault_of.ExportTaken export)) (sym p ∙ sound))
  set_foretold number set (prepare.Stack (fault_of.ExportInUse export)) e y (inl q) p is = wish_same (execute_refusal schemas x name set.source) (prepare.Stack (fault_of.ExportInUse export)) e y q is (inl p)
  set_foretold number set (prepare.Stack (fault_of.ExportInUse export)) e y (inr (sound, other, told)) p is = absurd (some≢none (prepare.Stack (fault_of.ExportInUse export)) (sym p ∙ sound))
  set_foretold number set (prepare.Stack fault_of.NoChanges) e y (inl q) p is = wish_same (execute_refusal schemas x name set.source) (prepare.Stack fault_of.NoChanges) e y q is (inl p)
  set_foretold number set (prepare.Stack fault_of.NoChanges) e y (inr (sound, other, told)) p is = absurd (some≢none (prepare.Stack fault_of.NoChanges) (sym p ∙ sound))

  execution_foretold : (number : ℕ) (f : PrepareFault) (e y : Exit) → IsExecutionRefused schemas x name number e → PreparesAs schemas x (wish.Execute name number) (Err f)
      → y ≡ exit_of_fault f → IsForetold e y
  execution_foretold number f e y r p is = by (set_refusal x name number) refl r p where
    by : (w : Option PrepareFault) → set_refusal x name number ≡ w → IsExecutionRefused schemas x name number e → ExecutesAs w schemas x name number (Err f) → IsForetold e y
    by (Some g) at (inl q) t =
        wish_same (Some g) f e y (ap (option_map exit_of_fault) (sym at) ∙ q) is (tests_so (λ o. Unit {0}) (Some g) f t)
    by (Some g) at (inr (free, set, kept, why)) t = absurd (some≢none g (sym at ∙ free))
    by None at (inl q) t = absurd (not_refused (set_refusal x name number) e at q)
    by None at (inr (free, set, kept, why)) t =
        set_foretold number set f e y why (subst (λ (k : Option KeptSet). ExecutesFound schemas x name number k (Err f)) kept t) is

  deploy_told : (choice : Choice) (bars : Option Exit) → status_refusal name x ≡ bars → RefusesChoice o purpose.Deploy schemas x name choice bars exit.LibraryFault → HasRisen o.faults o.faults'
  deploy_told choice None is q = q
  deploy_told choice (Some bar) is q = absurd (subst IsAsked (sym q.0) (asked_option _ bar is))

-- a library whose count stayed did not fail
never_rose : HasRisen 0 0 → ⊥
never_rose rose = let more = rose (omega arith) in omega (arith, more)

-- so it is with each task; a load is a deployment over a library of its own
module _ (o : LibraryUse) (schemas : List Schema) (x : World) (name : List ℕ) where
  never_ordered : (t : Task) (e : Exit) → IsRefusedAs o.texts schemas x name t e → (ordered : Order) → OrdersTask o schemas x name t ordered → ⊥
  never_ordered (task.Deploy choice) e r ordered d = never_deployed o schemas x name choice e r ordered d
  never_ordered (task.Continue paths) e r ordered d = not_refused o schemas x name (continue_refusal x name paths) e d.0 r
  never_ordered task.Resume e r ordered d = by (resumes_not o schemas x name e r) where
    by : ResumesNot o schemas x name e → ⊥
    by (inl q) = not_refused o schemas x name (resume_refusal x name) e ((d.0).0) q
    by (inr (path, kind, is, free, (w, stuck, at, sort, least))) = (d.0).1 w stuck
  never_ordered (task.Execute number) e r ordered d = never_executed o schemas x name number e r ordered d.0
  never_ordered (task.Load count) e r ordered d = never_deployed (load_library count) schemas x name (load_choice count) e r ordered d.0

  foretold : (t : Task) (e y : Exit) → IsRefusedAs o.texts schemas x name t e → RefusesTask o schemas x name t y → IsForetold o schemas x name e y
  foretold (task.Deploy choice) e y r q = deploy_refused o schemas x name choice e y (status_refusal name x) refl r q
  foretold (task.Continue paths) e y r ((f, prepares, is), unasked) =
      wish_same o schemas x name (continue_refusal x name paths) f e y r is (tests_so o schemas x name (IsContinuation x name paths) (continue_refusal x name paths) f prepares)
  foretold task.Resume e y r ((f, prepares, is), unasked) = resume_same o schemas x name f e y (resumes_not o schemas x name e r) prepares is
  foretold (task.Execute number) e y r ((f, prepares, is), unasked) = execution_foretold o schemas x name number f e y r prepares is
  foretold (task.Load count) e y r q = deploy_refused (load_library count) schemas x name (load_choice count) e y (status_refusal name x) refl r q.0

  -- a library is at fault only in a deployment, where its count rose
  library_told : (t : Task) → RefusesTask o schemas x name t exit.LibraryFault → HasRisen o.faults o.faults'
  library_told (task.Deploy choice) r = deploy_told o schemas x name choice (status_refusal name x) refl r
  library_told (task.Continue paths) ((f, prepares, is), unasked) = absurd (subst IsAsked (sym is) (asked_fault f))
  library_told task.Resume ((f, prepares, is), unasked) = absurd (subst IsAsked (sym is) (asked_fault f))
  library_told (task.Execute number) ((f, prepares, is), unasked) = absurd (subst IsAsked (sym is) (asked_fault f))
  library_told (task.Load count) r = absurd (never_rose (deploy_told (load_library count) schemas x name (load_choice count) (status_refusal name x) refl r.0))

before_refused : (f : EnterFault) → ComesBefore (enter_exit f)
before_refused (fault.NotAJournal offset) = tt
before_refused fault.DiskFault = tt
before_refused (fault.LaneTwice lane) = tt
before_refused (fault.LaneMissing lane) = tt
before_refused (fault.Full length need room) = tt
before_refused (fault.LaneAhead lane f epoch) = tt
before_refused (fault.LaneFault lane) = tt
before_refused fault.NoMemory = tt

before_stopped : (lanes : List BookLane) (f : StopFault) (x : Exit) → ExitsFor lanes f x → ComesBefore x
before_stopped lanes (stop.Full l need room) x q = subst ComesBefore (sym q) tt
before_stopped lanes stop.DiskFault x q = subst ComesBefore (sym q) tt
before_stopped lanes (stop.LaneAhead place f epoch) x (inl q) = subst ComesBefore (sym q) tt
before_stopped lanes (stop.LaneAhead place f epoch) x (inr (b, at, q)) = subst ComesBefore (sym q) tt
before_stopped lanes stop.NoMemory x q = subst ComesBefore (sym q) tt

-- one call that failed raised a count
names_there : (l : LaneNow) (ls : List LaneNow) → In l ls → is_among l.name (map (λ (k : LaneNow). k.name) ls) ≡ true
names_there l (k ∷ ls) here = ap (λ b. b || is_among k.name (map (λ (j : LaneNow). j.name) ls)) (same_bytes k.name)
names_there l (k ∷ ls) (there i) = either (bytes_eq l.name k.name) (names_there l ls i) where
  either : (b : Bool) → is_among l.name (map (λ (j : LaneNow). j.name) ls) ≡ true → (b || is_among l.name (map (λ (j : LaneNow). j.name) ls)) ≡ true
  either true e = refl
  either false e = e
names_there l [] i = elim i [ ]

record IsAt (lanes lanes' : List LaneNow) (was now : LaneNow) : Type 0 where
  pub place : ℕ
  pub first : slice_index_or (map (λ (l : LaneNow). l.count) lanes) place 0 ≡ was.count
  pub last : slice_index_or (map (λ (l : LaneNow). l.count) lanes') place 0 ≡ now.count

not_both : (m : List ℕ) (ns : List (List ℕ)) → all_differ bytes_eq (m ∷ ns) ≡ true → is_among m ns ≡ true → ⊥
not_both m ns differ mine = by (is_among m ns) mine differ where
  by : (b : Bool) → b ≡ true → (not b && all_differ bytes_eq ns) ≡ true → ⊥
  by true q r = true≢false (sym r)
  by false q r = true≢false (sym q)

one_place : (bs ks : List LaneNow) → map (λ (l : LaneNow). l.name) ks ≡ map (λ (l : LaneNow). l.name) bs → all_differ bytes_eq (map (λ (l : LaneNow). l.name) bs) ≡ true → (was now : LaneNow)
    → In was bs → In now ks → now.name ≡ was.name → IsAt bs ks was now
one_place (b ∷ bs) (k ∷ ks) same differ was now here here named = record { place = 0; first = refl; last = refl }
one_place (b ∷ bs) (k ∷ ks) same differ was now here (there j) named =
    let tail : map (λ (l : LaneNow). l.name) ks ≡ map (λ (l : LaneNow). l.name) bs = tails same in
    absurd (not_both b.name (map (λ (l : LaneNow). l.name) bs) differ (subst (λ ns. is_among b.name ns ≡ true) tail (subst (λ n. is_among n (map (λ (l : LaneNow). l.name) ks) ≡ true) named (names_there now ks j)))) where
      tails : {x y : List ℕ} {xs ys : List (List ℕ)} → x ∷ xs ≡ y ∷ ys → xs ≡ ys
      tails e = cc
one_place (b ∷ bs) (k ∷ ks) same differ was now (there i) here named =
    let head : k.name ≡ b.name = heads same in
    absurd (not_both b.name (map (λ (l : LaneNow). l.name) bs) differ (subst (λ n. is_among n (map (λ (l : LaneNow). l.name) bs) ≡ true) (sym named ∙ head) (names_there was bs i))) where
      heads : {x y : List ℕ} {xs ys : List (List ℕ)} → x ∷ xs ≡ y ∷ ys → x ≡ y
      heads e = cc
one_place (b ∷ bs) (k ∷ ks) same differ was now (there i) (there j) named =
    let p = one_place bs ks (tails same) (rest_differs b.name (map (λ (l : LaneNow). l.name) bs) differ) was now i j named in
    record { place = suc p.place; first = p.first; last = p.last } where
      tails : {x y : List ℕ} {xs ys : List (List ℕ)} → x ∷ xs ≡ y ∷ ys → xs ≡ ys
      tails e = cc
one_place [] ks same differ was now i j named = elim i [ ]
one_place (b ∷ bs) [] same differ was now i j named = elim j [ ]

-- a count that rose meanwhile has risen
risen_within : (a b c d : ℕ) → a ≤ b → HasRisen b c → b ≤ c → c ≤ d → HasRisen a d
risen_within a b c d p r q s low =
    elim (leb_tells (suc b) (2 ^ 64 - 1)) [
      | inl k ↦ (let rose = r k.1 in omega (arith, p, s, rose))
      | inr k ↦ omega (arith, p, q, s, k.1, low)
    ]

raised_fault : (bs ks : List LaneNow) (n epoch : ℕ) → StopsRaising bs ks n epoch fence.Fault → RoseAt n (map (λ (l : LaneNow). l.count) bs) (map (λ (l : LaneNow). l.count) ks)
raised_fault [] ks n epoch q = absurd q
raised_fault (b ∷ bs) [] n epoch q = absurd q
raised_fault (b ∷ bs) (k ∷ ks) zero epoch q = q.0.cause.1
raised_fault (b ∷ bs) (k ∷ ks) (suc n) epoch q = raised_fault bs ks n epoch q.1

module _ {D H : Type 0} (g : DiskGhosts D) (h : HandlerGhosts H) (m : Outside D H) where
  -- over the world of the book that was entered
  refused_here : (name : List ℕ) (t : Task) (e : Exit) (entered : BookNow D) → HasEntered g h m entered → IsRefusedOver g h m name t e
      → IsRefusedAs m.library.texts (schemas_in entered.lanes) (world_left entered.entries) name t e
  refused_here name t e entered (es, over, enters, known, room, opens) forbids =
      let opened : world_left entered.entries ≡ opened_world h m.handlers es = ap world_left enters.entries in
      let same : schemas_in entered.lanes ≡ schemas_in (map at_home (handed_in h m.handlers)) =
      schemas_same (map at_home (handed_in h m.handlers)) entered.lanes (same_entered es (handed_in h m.handlers) entered enters) in
      subst (λ (y : World). IsRefusedAs m.library.texts (schemas_in entered.lanes) y name t e) (sym opened)
      (subst (λ (ss : List Schema). IsRefusedAs m.library.texts ss (opened_world h m.handlers es) name t e) (sym same) (forbids es (over.0).found))

  came_refused : (name : List ℕ) (t : Task) (e x : Exit) → IsRefusedOver g h m name t e → CameTo g h m name t (Err x) → (x ≡ e) ⊎ ComesBefore x
  came_refused name t e x forbids (inl (f, refuses, is, unasked), none) = inr (subst ComesBefore (sym is) (before_refused f))
  came_refused name t e x forbids (inr (entered, ended, w), none) = by w.does where
    by : DoesTask g m.library entered ended name t (Err x) → (x ≡ e) ⊎ ComesBefore x
    by (inl (refused, still)) =
        foretold m.library (schemas_in entered.lanes) (world_left entered.entries) name t e x (refused_here name t e entered w.enters forbids) refused
    by (inr (ordered, is, (f, exits, what))) = inr (before_stopped ended.lanes f x exits)

  same_words : (words : List (List ℕ)) (a b : List ℕ × Task) → task_words words ≡ Some a → task_words words ≡ Some b → a ≡ b
  same_words words a b p q = some_inside a b (sym p ∙ q)

  module _ (p : Printing) (words : List (List ℕ)) (name : List ℕ) (t : Task) (e : Exit) (said : task_words words ≡ Some (name, t)) (forbids : IsRefusedOver g h m name t e) where
    at_words : (other : List ℕ × Task) → task_words words ≡ Some other → IsRefusedOver g h m other.0 other.1 e
    at_words other q = subst (λ (y : List ℕ × Task). IsRefusedOver g h m y.0 y.1 e) (same_words words (name, t) other said q) forbids

    never_done : (x : Exit) → HasEnded g h m p words x → ⊥
    never_done x d =
        never_ordered m.library (schemas_in d.entered.lanes) (world_left d.entered.entries) d.name d.what e
        (refused_here d.name d.what e d.entered d.was.enters (at_words (d.name, d.what) d.said)) d.ordered d.orders

    by_early : (x : Exit) → EndsEarly g h m p words x → (x ≡ e) ⊎ ComesBefore x
    by_early x s = came_refused s.name s.what e x (at_words (s.name, s.what) s.said) s.ran

    pub refuses : (result : Exit) → Says g h m p words result → (result ≡ e) ⊎ ComesBefore result
    refuses exit.Done s = absurd (never_done exit.Done s)
    refuses exit.BadWords s = absurd (no_words g h words (name, t) said s.0)
    refuses exit.SinkFault s = inr tt
    refuses exit.LibraryFault s = by_early exit.LibraryFault s
    refuses exit.DiskFault s = by_early exit.DiskFault s
    refuses exit.NoMemory s = inr tt
    refuses (exit.TemplateRefused f) s = by_early (exit.TemplateRefused f) s
    refuses (exit.StackRefused f) s = by_early (exit.StackRefused f) s
    refuses (exit.RolledBack c) s = absurd (never_done (exit.RolledBack c) s)
    refuses (exit.Failed blamed) s = absurd (never_done (exit.Failed blamed) s)
    refuses (exit.NotAJournal offset) s = by_early (exit.NotAJournal offset) s
    refuses (exit.LaneMissing lane) s = by_early (exit.LaneMissing lane) s
    refuses (exit.LaneTwice lane) s = by_early (exit.LaneTwice lane) s
    refuses (exit.LaneAhead lane f epoch) s = by_early (exit.LaneAhead lane f epoch) s
    refuses (exit.LaneFault lane) s = by_early (exit.LaneFault lane) s
    refuses (exit.Full long need room) s = by_early (exit.Full long need room) s

  -- Where no count rose.
  module _ (p : Printing) (c : NoCountRose g h m p) where
    library_rose : (name : List ℕ) (t : Task) → CameTo g h m name t (Err exit.LibraryFault) → ⊥
    library_rose name t (inl (f, refuses, is, unasked), none) = by f is where
      by : (f : EnterFault) → exit.LibraryFault ≡ enter_exit f → ⊥
      by (fault.NotAJournal offset) q = cc
      by fault.DiskFault q = cc
      by (fault.LaneTwice lane) q = cc
      by (fault.LaneMissing lane) q = cc
      by (fault.Full length need room) q = cc
      by (fault.LaneAhead lane fe epoch) q = cc
      by (fault.LaneFault lane) q = cc
      by fault.NoMemory q = cc
    library_rose name t (inr (entered, ended, w), none) = by w.does where
      stopped : (f : StopFault) → ExitsFor ended.lanes f exit.LibraryFault → ⊥
      stopped (stop.Full l need room) q = cc
      stopped stop.DiskFault q = cc
      stopped (stop.LaneAhead place f epoch) (inl q) = cc
      stopped (stop.LaneAhead place f epoch) (inr (b, at, q)) = cc
      stopped stop.NoMemory q = cc

      by : DoesTask g m.library entered ended name t (Err exit.LibraryFault) → ⊥
      by (inl (refused, still)) = c.library (library_told m.library (schemas_in entered.lanes) (world_left entered.entries) name t refused)
      by (inr (ordered, is, (f, exits, what))) = stopped f exits

    lane_rose : (name : List ℕ) (t : Task) (lane : List ℕ) → CameTo g h m name t (Err (exit.LaneFault lane)) → ⊥
    lane_rose name t lane (inl (f, refuses, is, unasked), none) = by f is refuses where
      by : (f : EnterFault) → exit.LaneFault lane ≡ enter_exit f → RefusesAs g h m.disk m.handlers m.disk' m.handlers' f → ⊥
      by (fault.NotAJournal offset) q r = cc
      by fault.DiskFault q r = cc
      by (fault.LaneTwice other) q r = cc
      by (fault.LaneMissing other) q r = cc
      by (fault.Full length need room) q r = cc
      by (fault.LaneAhead other fe epoch) q r = cc
      by (fault.LaneFault other) q (es, over, u) = c.lanes u.place (raised_fault (handed_in h m.handlers) (handed_in h m.handlers') u.place (epoch_over es) u.fences)
      by fault.NoMemory q r = cc
    lane_rose name t lane (inr (entered, ended, w), none) = by w.does where
      stopped : (f : StopFault) → ExitsFor ended.lanes f (exit.LaneFault lane) → ⊥
      stopped (stop.Full l need room) q = cc
      stopped stop.DiskFault q = cc
      stopped (stop.LaneAhead place f epoch) (inl q) = cc
      stopped (stop.LaneAhead place f epoch) (inr (b, at, q)) = cc
      stopped stop.NoMemory q = cc

      by : DoesTask g m.library entered ended name t (Err (exit.LaneFault lane)) → ⊥
      by (inl (refused, still)) = early m.library (schemas_in entered.lanes) (world_left entered.entries) name t (exit.LaneFault lane) refused
      by (inr (ordered, is, (f, exits, what))) = stopped f exits

    disk_fault : (name : List ℕ) (t : Task) → CameTo g h m name t (Err exit.DiskFault) → ⊥
    disk_fault name t (inl (f, refuses, is, unasked), none) = by f is refuses where
      by : (f : EnterFault) → exit.DiskFault ≡ enter_exit f → RefusesAs g h m.disk m.handlers m.disk' m.handlers' f → ⊥
      by (fault.NotAJournal offset) q r = cc
      by fault.DiskFault q r = c.disk r.0
      by (fault.LaneTwice other) q r = cc
      by (fault.LaneMissing other) q r = cc
      by (fault.Full length need room) q r = cc
      by (fault.LaneAhead other fe epoch) q r = cc
      by (fault.LaneFault other) q r = cc
      by fault.NoMemory q r = cc
    disk_fault name t (inr (entered, ended, w), none) = by w.enters w.closes w.does where
      faulted : (old : D) → g.count m.disk ≤ g.count old → m.disk' ≡ ended.disk → HasFaulted (g.count old) (g.count ended.disk) → ⊥
      faulted old low same r =
          c.disk (subst (λ (d : D). HasRisen (g.count m.disk) (g.count d)) (sym same)
          (risen_within (g.count m.disk) (g.count old) (g.count ended.disk) (g.count ended.disk) low r.1 r.0 (let le : g.count ended.disk ≤ g.count ended.disk = omega arith in le)))

      began : (ordered : Order) (f : StopFault) → ExitsFor ended.lanes f exit.DiskFault → g.count m.disk ≤ g.count entered.disk → m.disk' ≡ ended.disk
          → BeginsOrder g entered ended ordered (Err f) → ⊥
      began (order.Begin e) (stop.Full l need room) q low same b = cc
      began (order.Begin e) stop.DiskFault q low same b = faulted entered.disk low same ((b.0.1).0)
      began (order.Begin e) (stop.LaneAhead place f epoch) (inl q) low same b = cc
      began (order.Begin e) (stop.LaneAhead place f epoch) (inr (l, at, q)) low same b = cc
      began (order.Begin e) stop.NoMemory q low same b = cc
      began (order.Review e) f q low same b = absurd b
      began (order.Resume n) f q low same b = let no : ⊥ = (let never = b.0 in cc) in no

      halted : (number : ℕ) (last : BookNow D) (f : StopFault) → ExitsFor ended.lanes f exit.DiskFault → g.count m.disk ≤ g.count last.disk → m.disk' ≡ ended.disk → Stops g number last ended f → ⊥
      halted number last (stop.Full l need room) q low same s = cc
      halted number last stop.DiskFault q low same (stopped, none, known, inl (es, lanes, inl (is, certain, lacks))) = let never : ⊥ = cc in never
      halted number last stop.DiskFault q low same (stopped, none, known, inl (es, lanes, inr (n, e, comes, is, w))) = faulted last.disk low same w.0
      halted number last stop.DiskFault q low same (stopped, none, known, inr a) = lacking (reply_for (a.0).told.answer) a.4 where
        lacking : (o : Option Reply) → LacksOutcome g (a.1).lent.disk last ended (a.0).after (a.0).told o stop.DiskFault → ⊥
        lacking (Some r) w = faulted last.disk low same w.0
        lacking None w = w.1
      halted number last (stop.LaneAhead place f epoch) (inl q) low same s = cc
      halted number last (stop.LaneAhead place f epoch) (inr (l, at, q)) low same s = cc
      halted number last stop.NoMemory q low same s = cc

      by : HasEntered g h m entered → IsClosed g h m ended → DoesTask g m.library entered ended name t (Err exit.DiskFault) → ⊥
      by enters closes (inl (refused, still)) = early m.library (schemas_in entered.lanes) (world_left entered.entries) name t exit.DiskFault refused
      by (es, over, enters, known, room, opens) closes (inr (ordered, is, (f, exits, inl (begins, lanes, known')))) = began ordered f exits room.count closes.0 begins
      by (es, over, enters, known, room, opens) closes (inr (ordered, is, (f, exits, inr (number, begun, begins, ((last, course, stops, keeps, grows), few))))) =
          let first = room.count in
          let second = (begins.3).count in
          let third = keeps.count in halted number last f exits (omega (arith, first, second, third)) closes.0 stops

    -- no call failed
    module _ (same : map (λ (l : LaneNow). l.name) (handed_in h m.handlers') ≡ map (λ (l : LaneNow). l.name) (handed_in h m.handlers))
        (differ : all_differ bytes_eq (map (λ (l : LaneNow). l.name) (handed_in h m.handlers)) ≡ true) where
      never_counted : (name : List ℕ) (before after : ℕ) → HasRisen before after → IsCountedOn (handed_in h m.handlers) (handed_in h m.handlers') name before after → ⊥
      never_counted name before after rose i =
          let at = one_place (handed_in h m.handlers) (handed_in h m.handlers') same differ i.was i.now i.was_there i.is_there (i.is_named ∙ sym i.was_named) in
          c.lanes at.place (subst (λ n. HasRisen n (slice_index_or (counts_of h m.handlers') at.place 0)) (sym at.first)
          (subst (HasRisen (i.was).count) (sym at.last) (risen_within (i.was).count before after (i.now).count i.between.0 rose i.between.1 i.between.2)))

      no_failure : (es : List Entry) (e : Entry) → CountsWithin (handed_in h m.handlers) (handed_in h m.handlers') es e → IsNoFailure e
      no_failure es (entry.Outcome number token (reply.Success physical attrs) before after) i = tt
      no_failure es (entry.Outcome number token (reply.Failed code) before after) i = absurd (never_counted (i.1).0 before after i.0.1 (i.1).2)
      no_failure es (entry.Outcome number token reply.Doubt before after) i = absurd (never_counted (i.1).0 before after i.0.1 (i.1).2)
      no_failure es (entry.Opened epoch lanes) i = tt
      no_failure es (entry.Begin number stack k) i = tt
      no_failure es (entry.ChangeSet number stack source rows outputs) i = tt
      no_failure es (entry.Kept number path physical w) i = tt
      no_failure es (entry.Intent number token lane path q) i = tt
      no_failure es (entry.Phase number ph why) i = tt
      no_failure es (entry.Done number state failed) i = tt

-- where no entry tells of a call that failed, an earlier command's calls are blamed alone
module _ (earlier : List Entry) (ordered : Order) (es : List Entry) (s : StackState) (none : (x : Entry) → In x es → IsNoFailure x) where
  not_so : (a : Reply) (why : Reason) (n token before after : ℕ) → IsNoFailure (entry.Outcome n token a before after) → reason_in a ≡ Some why → ⊥
  not_so (reply.Success physical attrs) why n token before after k told = let no : ⊥ = cc in no
  not_so (reply.Failed code) why n token before after k told = absurd k
  not_so reply.Doubt why n token before after k told = absurd k

  narrowed : (path : List ℕ) (why : Reason) → CallFailed earlier ordered es s path why → CallFailed earlier ordered [] s path why
  narrowed path why f = record {
    token = f.token;
    answer = f.answer;
    before = f.before;
    after = f.after;
    stands = elim f.stands [
      | inl i ↦ absurd (not_so f.answer why (number_of ordered) f.token f.before f.after (none (entry.Outcome (number_of ordered) f.token f.answer f.before f.after) i) f.told)
      | inr w ↦ inr w
    ];
    told = f.told;
    call = f.call;
    of_call = f.of_call;
    at_path = f.at_path;
    rose = f.rose;
  }

  narrowed_by : (k : Cause) → FailedBy earlier ordered es s k → FailedBy earlier ordered [] s k
  narrowed_by (cause.Handler path why) f = narrowed path why f
  narrowed_by (cause.Plan flaw) f = tt
  narrowed_by (cause.Export export) f = tt

module _ {D H : Type 0} (g : DiskGhosts D) (h : HandlerGhosts H) (m : Outside D H) (name : List ℕ) (entered : BookNow D) (es : List Entry) (s : StackState) where
  module _ (none : (x : Entry) → In x es → IsNoFailure x) where
    narrowed_cause : (ordered : Order) (k : Cause) → HadCause g h m entered ordered es s k → HadCause g h m entered ordered [] s k
    narrowed_cause (order.Resume n) k f = λ agreed. narrowed_by entered.entries (order.Resume n) es s none k (f agreed)
    narrowed_cause (order.Begin e) k f = narrowed_by entered.entries (order.Begin e) es s none k f
    narrowed_cause (order.Review e) k f = narrowed_by entered.entries (order.Review e) es s none k f

    untold_cause : (ordered : Order) (k : Cause) → IsUntold g h m ordered s → HadCause g h m entered ordered [] s k
    untold_cause (order.Resume n) k u = λ agreed. absurd (u.0 agreed)
    untold_cause (order.Begin e) k u = absurd u
    untold_cause (order.Review e) k u = absurd u

    narrowed_at : (ordered : Order) (blamed : List (List ℕ)) → FailedAt g h m entered ordered es s blamed → FailedAt g h m entered ordered [] s blamed
    narrowed_at ordered blamed f = λ agreed path i. let (why, failed) = f agreed path i in (why, narrowed entered.entries ordered es s none path why failed)

    blames_back : (ordered : Order) (k : Cause) → TurnedNow g h m entered name ordered es s k ⊎ (TurnedBefore g h m entered name ordered es s k ⊎ IsUntold g h m ordered s)
        → BlamesNoCall g h m entered name ordered s (exit.RolledBack k)
    blames_back ordered k (inl (turned, had)) = inr (narrowed_cause ordered k had)
    blames_back ordered k (inr (inl b)) = inl b.wrote
    blames_back ordered k (inr (inr u)) = inr (untold_cause ordered k u)

-- all of it
module _ {D H : Type 0} (g : DiskGhosts D) (h : HandlerGhosts H) (stay : Stays g) (m : Outside D H) (p : Printing) (words : List (List ℕ)) where
  blames_none : (e : Exit) (d : HasEnded g h m p words e) → ((x : Entry) → In x d.wrote.es → IsNoFailure x) → BlamesNoCall g h m d.entered d.name d.ordered d.stack e
  blames_none exit.Done d none = tt
  blames_none (exit.RolledBack k) d none = blames_back g h m d.name d.entered d.wrote.es d.stack none d.ordered k d.because
  blames_none (exit.Failed blamed) d none = narrowed_at g h m d.name d.entered d.wrote.es d.stack none d.ordered blamed d.because.1
  blames_none exit.BadWords d none = absurd d.because
  blames_none exit.SinkFault d none = absurd d.because
  blames_none exit.LibraryFault d none = absurd d.because
  blames_none exit.DiskFault d none = absurd d.because
  blames_none exit.NoMemory d none = absurd d.because
  blames_none (exit.TemplateRefused f) d none = absurd d.because
  blames_none (exit.StackRefused f) d none = absurd d.because
  blames_none (exit.NotAJournal offset) d none = absurd d.because
  blames_none (exit.LaneMissing lane) d none = absurd d.because
  blames_none (exit.LaneTwice lane) d none = absurd d.because
  blames_none (exit.LaneAhead lane f epoch) d none = absurd d.because
  blames_none (exit.LaneFault lane) d none = absurd d.because
  blames_none (exit.Full long need room) d none = absurd d.because

  module _ (same : map (λ (l : LaneNow). l.name) (handed_in h m.handlers') ≡ map (λ (l : LaneNow). l.name) (handed_in h m.handlers)) where
    unfailed : NoCountRose g h m p → (e : Exit) → HasEnded g h m p words e → EndsWithoutFailure g h m p words e
    unfailed c e d = by d.was.enters where
      by : HasEntered g h m d.entered → EndsWithoutFailure g h m p words e
      by (es, over, enters, known, room, opens) =
          let none : (x : Entry) → In x d.wrote.es → IsNoFailure x = λ x i. no_failure g h m p c same (over.0).differ d.ended.entries x (d.counted x i) in
          (d, none, blames_none e d none)

    otherwise : (result : Exit) (said : List ℕ × Task) → Says g h m p words result → task_words words ≡ Some said → NoCountRose g h m p
        → EndsWithoutFailure g h m p words result ⊎ ((result ≡ exit.NoMemory) ⊎ IsRefusal result)
    otherwise exit.Done said s w c = inl (unfailed c exit.Done s)
    otherwise (exit.RolledBack cause) said s w c = inl (unfailed c (exit.RolledBack cause) s)
    otherwise (exit.Failed blamed) said s w c = inl (unfailed c (exit.Failed blamed) s)
    otherwise exit.NoMemory said s w c = inr (inl refl)
    otherwise exit.BadWords said s w c = absurd (no_words g h words said w s.0)
    otherwise exit.SinkFault said s w c = absurd (c.sink s.0)
    otherwise exit.LibraryFault said s w c = absurd (library_rose g h m p c s.name s.what s.ran)
    otherwise exit.DiskFault said s w c = absurd (disk_fault g h m p c s.name s.what s.ran)
    otherwise (exit.LaneFault lane) said s w c = absurd (lane_rose g h m p c s.name s.what lane s.ran)
    otherwise (exit.TemplateRefused f) said s w c = inr (inr tt)
    otherwise (exit.StackRefused f) said s w c = inr (inr tt)
    otherwise (exit.NotAJournal offset) said s w c = inr (inr tt)
    otherwise (exit.LaneMissing lane) said s w c = inr (inr tt)
    otherwise (exit.LaneTwice lane) said s w c = inr (inr tt)
    otherwise (exit.LaneAhead lane f epoch) said s w c = inr (inr tt)
    otherwise (exit.Full long need room) said s w c = inr (inr tt)

  pub answers_of : (result : Exit) → AloneTells g h m p words result → IsAnswered g h m p words result
  answers_of result t =
      let s : Says g h m p words result = printed_says g h stay m p words result t.0 t.1 t.2 t.3 t.4 in
      let same : map named_as (handed_in h m.handlers') ≡ map named_as (handed_in h m.handlers) = (kept_alone g h m p words result t).same in
      record {
        says = s;
        no_task = no_task g h m p words result s;
        otherwise = λ said w c. otherwise (same_names_now (handed_in h m.handlers) (handed_in h m.handlers') same) result said s w c;
        refuses = λ name what e said forbids. refuses g h m p words name what e said forbids result s;
      }
