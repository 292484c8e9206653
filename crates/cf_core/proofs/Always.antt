-- Whatever happens in the life of an engine, each stack stays on its course, and keeps what its status promises.
use Rattle.std.proofs.Common.{arith, ◌≡◌, ◌∙◌, ℕ, ◌+◌, List, [], true, false, Option, Some, None, refl, sym, ap, subst, true≢false, ◌∷◌, ◌++◌, ◌||◌, ◌≢◌, Bool, filter}
use Rattle.cf_core.proofs.Words.{Act, Appends, AreDescribed, AreKept, AreSchemas, AreSteady, BackClean, BecomesBy, Begin, Begun, Cause, ChangeSet, Clean, DescribedIsKept, End, EndsAs, Entry, Event, Fits, StaysForward, Grant, HasBegunForward, HasNext, Held, HoldsWhole, In, IsAdvancing, IsBlamed, IsCleared, IsGivenUpIn, IsHeldAtRest, IsLife, IsMove, IsNoBegin, IsOnCourse, IsOnce, IsSteady, IsTo, IsTold, IsUnmaking, IsWritten, Lane, LeavesApart, Life, MayBegin, Happens, Opened, Pending, Phase, Raise, Repeat, Request, Schema, Settle, Source, StackState, StartIsDescribed, Status, World, appended, begins_from, begun, bytes_eq, continues_from, creates_from, deletes_from, deletes_nothing, effect_at, empty_world, ends, failed_of, fold_of, found, goes_forward, granted, is_cleared, is_failed_status, is_going, is_in_progress, is_opening, known_stack, life_after, no_stack, of_rollback, of_update, other as another, stack_at, stack_for, stack_of_operation, stage_of, stays as goes_on, tokens_out, turned, turns, updates_from, world_after, world_of}
use Rattle.cf_core.proofs.Lemmas.{all_in, empty_list, empty_parts, found_one, found_stands, in_kept, none_false, or_left, or_right}
use Rattle.cf_core.proofs.WholeKept.{creation_is_whole, nothing_held, update_is_whole, cleanup_keeps_whole, rest_keeps_whole, update_ends_at_rest, course_keeps_promise, held_is_found}
use Rattle.cf_core.proofs.BackLaws.{back_holds, cleanup_stays, failed_stay, rest_stays, updates_back, updates_turn}
use Rattle.cf_core.proofs.KeepSound.{event_keeps, event_writes, outcome_new, reviews_idle, start_is_sound_life}
use Rattle.cf_core.proofs.Statuses.{begun_status, ended_status, turned_status, begun_goes, turned_goes}
use Rattle.cf_core.proofs.MoreStacks.{completes_begun_stays, leaves_once_stays, lists_given_up_stays}
use Rattle.cf_core.proofs.Cleanups.{back_tidying_begins, nothing_deleted, tidying_begins, cleaning_of, of_cleaning, of_cleaning_back, tidying_stays, tidying_ends}
use Rattle.cf_core.proofs.MoreLives.{leases_once_stays, settles_once_stays, start_is_once}
use Rattle.cf_core.proofs.{FewCalls.few_stay, FewCalls.none_few, MovesStatus.status_moves}
use Rattle.cf_core.proofs.{InFlight.leases_stay_open, NamedLanes.advancing, Tries.tries_stay_left}
use Rattle.cf_core.proofs.HidCalls.{advancing_stays, none_is_ordered, order_stays}
use Rattle.cf_core.proofs.Moving.{numbered_so, written_is_to, written_moves}
use Rattle.cf_core.proofs.Stacks.{is_working, once_here, stands_on}
use Rattle.cf_core.specs.StatusMoves.{StatusMoves, stays, reviewed, creates, updates, deletes, continues, creation_back, created, unmade, unmaking_failed, cleans, updated, update_back, back_cleans, rolled_back, back_failed, deleted, deletion_failed}
use Rattle.cf_core.specs.Theorem.{EventHolds, EventsHold, HoldsAlways, HoldsKeepsPromises, LivesKeepPromises, OperationsGoOn, StartHolds}
use Rattle.cf_core.specs.Unmade.{ClearedStays, EndsCleared, UnmakingBegins, UnmakingStays, leaves_nothing}
use Rattle.cf_core.specs.Returning.{IsAfterBack, IsAfterBackClean, IsAfterFailed, IsAfterReturn}
use Rattle.cf_core.specs.Moving.{begins, other, reviewed as is_reviewed}
use Rattle.cf_core.specs.OnCourse.{IsOnWay, IsSupported, WayIsKept}
use Rattle.cf_core.proofs.{GoingOn.operation_goes_on, MoreApart.leaves_apart_stays, BlameFailed.failed_blamed, BlameStays.none_booked}
use Rattle.cf_core.proofs.{BlameStays.stays_booked, FitKept.after_lanes, FitKept.at_known, GoingTold.told_begins, GoingTold.told_stays}
use Rattle.cf_core.proofs.{AdvSteps.advancing_begins, AdvSteps.course_is_free, BackSteps.updates_skip, HidSeen.shape_stays}
use Rattle.cf_core.proofs.Settling.{held_is_live}
use Rattle.cf_core.specs.{Back.IsGoingBack, Blaming.HoldsIfWhole}
use Rattle.cf_plan.proofs.Members.{in_none}
use Rattle.cf_stacks.proofs.Folded.{folded_more}
use Rattle.std.specs.{Option.option_map, Option.unwrap_or, Prelude.IsTrue, Prelude.is_some}
use Rattle.cf_core.specs.SoundLife as sound
use Rattle.cf_core.specs.Written as to

-- Each type of the lanes that were handed in has a schema, in every life.

-- What is so of the entries of a life, and of those with one more that an event appends, is so of those after the event.
module _ (l : Life) (P : List Entry → Type 0) (same : P l.entries) where
  ended : (end : End) (e : Entry) (m : Life) → m.entries ≡ l.entries → P (l.entries ++ e ∷ []) → P (appended end e m).entries
  ended end e m is more = grind arith

  pub entries_after : (ev : Event) → ((e : Entry) (out : List ℕ) → Appends l ev e out → P (l.entries ++ e ∷ [])) → P (life_after l ev).entries
  entries_after (Opened epoch lanes end) more =
      ended end (Entry.Opened epoch lanes) (record l { leases = []; is_open = true; has_granted = false; is_stopped = false }) refl (more _ [] sound.opened)
  entries_after (ChangeSet e end) more = ended end e l refl (more e [] sound.set)
  entries_after (Begin e end) more = ended end e l refl (more e (tokens_out l) sound.begun)
  entries_after (Grant e end) more = subst P (sym (grind arith)) (ended end e l refl (more e (tokens_out l) sound.granted))
  entries_after (Settle token e end) more = ended end e l refl (more e (tokens_out l) sound.settled)
  entries_after (Repeat token) more = subst P (sym (grind arith)) same
  entries_after (Act token reply left) more = subst P (sym (grind arith)) same
  entries_after (Raise name a true before counted) more = same
  entries_after ev more = same

module _ (schemas : List Schema) (life : Life) (d : AreDescribed schemas (world_of life)) where
  described_by : (e : Entry) → is_opening e ≡ false → AreDescribed schemas (world_after (world_of life) e)
  described_by e h l i = d l (subst (In l) (after_lanes (world_of life) e h) i)

  described_more : AreSchemas schemas life.lanes → {ev : Event} {e : Entry} {out : List ℕ} → Appends life ev e out → Happens schemas life ev
      → AreDescribed schemas (world_after (world_of life) e)
  described_more s sound.opened may = λ l i.
      let of_life = may.2.there_are l i in
      let there = (found_one (λ (m : Lane). bytes_eq l.0 m.name) life.lanes of_life.0 of_life.1).0 in
      ap (λ (n : List ℕ × List ℕ). is_some (found n.1 schemas)) of_life.2 ∙ all_in (λ (m : Lane). is_some (found m.kind schemas)) life.lanes s.described of_life.0 there
  described_more s (sound.set {e}) may = described_by e (grind arith)
  described_more s (sound.begun {e}) may = described_by e (grind arith)
  described_more s (sound.granted {e}) may = described_by e (grind arith)
  described_more s (sound.settled {e = e}) may = described_by e (outcome_new may.1 may.2 e may.5)

pub described_kept : DescribedIsKept
described_kept schemas life ev may s d = entries_after life (λ es. AreDescribed schemas (fold_of empty_world es)) d ev (λ e out a.
    subst (AreDescribed schemas) (folded_more empty_world life.entries e) (described_more schemas life d s a may))

pub start_described : StartIsDescribed
start_described schemas life start l i = elim (subst (λ es. In l (fold_of empty_world es).lanes) start.no_entries i) [ ]

-- The rollback of a creation, and the ends that leave nothing.

-- The end of it, and that of a deletion, with nothing left: the marks that an end sets leave it so.
all_gone : (place number : ℕ) (failed : List (List ℕ)) (s : StackState) → is_cleared s ≡ true → (state : Status) → IsTrue (leaves_nothing state)
    → IsCleared (effect_at place (Entry.Done number state failed) s).stack
all_gone place number failed s gone = grind (arith, empty_parts, empty_list, true≢false)

module _ (schemas : List Schema) (name : List ℕ) (x : World) (s : StackState) where
  ends_with_nothing : (old new : Status) → IsTrue (leaves_nothing new) → EndsAs schemas name x s old new → is_cleared s ≡ true
  ends_with_nothing old new l e = grind (arith, true≢false)

pub ends_cleared : EndsCleared
ends_cleared schemas name x out s stage place number state failed (none_out, at_end, as_said, are_failed) l =
    all_gone place number failed s (ends_with_nothing schemas name x s s.status state l as_said) state l

module _ (schemas : List Schema) (x : World) (out : List ℕ) (name : List ℕ) (s : StackState) (u : IsUnmaking s) where
  to_none : {e : Entry} {t : StackState} → t.status ≡ Status.RollbackInProgress → IsTo schemas x out name s e t → IsUnmaking t
  to_none still h = grind (arith, begun_status)

pub unmaking_stays : UnmakingStays
unmaking_stays schemas x out e name s t w still u = to_none schemas x out name s u still (written_is_to schemas x out e name s t w)

-- Where a creation goes back, nothing was held before, and so nothing is.
pub unmaking_begins : UnmakingBegins
unmaking_begins schemas s source a before = record { none_before = before; none_held = nothing_held s.before s.held a.held before }

-- What is cleared stays so until an operation begins.
module _ (schemas : List Schema) (x : World) (out : List ℕ) (name : List ℕ) (s : StackState) (rests : is_in_progress s.status ≡ false) (c : IsCleared s) where
  still_clear : {t : StackState} → t.tokens ≡ s.tokens → t.made ≡ s.made → t.held ≡ s.held → IsCleared t
  still_clear tokens made held = record { settled = record { none_open = tokens ∙ c.settled.none_open; none_made = made ∙ c.settled.none_made }; none_held = held ∙ c.none_held }

  to_clear : {e : Entry} {t : StackState} → is_in_progress t.status ≡ false → IsTo schemas x out name s e t → IsCleared t × (t.before ≡ s.before)
  to_clear still (to.step stage in_stage own may) = absurd (true≢false (sym (ap is_some in_stage) ∙ rests))
  to_clear still (to.begins k from by) = absurd (true≢false (sym (ap is_in_progress (begun_status (x.place + 1) name (x.operation + 1) k s) ∙ begun_goes k) ∙ still))
  to_clear still to.other = (c, refl)
  to_clear still _ = (still_clear refl refl refl, refl)

pub cleared_stays : ClearedStays
cleared_stays schemas x out e name s t w rests still c = to_clear schemas x out name s rests c still (written_is_to schemas x out e name s t w)

-- What the course of its operations gives of a stack, whatever its status.

module _ (schemas : List Schema) (name : List ℕ) (x : World) (s : StackState) where
  given_up : IsGoingBack s → (p : Pending) → In p s.tokens → IsGivenUpIn s p p.request
  given_up g p i = by p.request refl
    where
      by : (r : Request) → p.request ≡ r → IsGivenUpIn s p r
      by (Request.Create kind props) e = tt
      by (Request.Update id props) e = (back_holds s g).updates p id props i e
      by (Request.Delete id) e = absurd ((back_holds s g).no_deletion p id i e)

  pub steady : IsOnCourse schemas name x s s.status → IsSteady s
  steady c = record {
    rests = λ b. (grind (arith, true≢false));
    restores = λ was. (back_holds s (subst (IsOnCourse schemas name x s) was c)).before;
    gives_up = λ was. given_up (subst (IsOnCourse schemas name x s) was c).0;
  }

-- Every entry that is written leaves a stack on its course, stage by stage.

-- where nothing passes, each fails
none_left : {A : Type 0} (test : A → Bool) (xs : List A) → filter test xs ≡ [] → (x : A) → In x xs → test x ≡ false
none_left test xs e x i = none_false (test x) (λ t. in_none (subst (In x) e (in_kept test xs x i t)))

-- a change set is kept where no operation is in progress
unreviewed : (st : Status) → IsTrue (creates_from st || updates_from st) → is_in_progress st ≡ true → ⊥
unreviewed st b g = true≢false (sym g ∙ reviews_idle st b)

-- what is so of statuses alone
cleans_by : (number : ℕ) (p : Phase) (why : Option Cause) → turned Status.UpdateInProgress p ≡ Status.UpdateCompleteCleanupInProgress
    → (number' : ℕ) × (why' : Option Cause) × (Entry.Phase number p why ≡ Entry.Phase number' Phase.Clean why')
cleans_by number Phase.Clean why e = (number, why, refl)
cleans_by number p why e = let no : ⊥ = cc in absurd no

module _ (schemas : List Schema) (x : World) (out : List ℕ) (name : List ℕ) (s : StackState) where
  -- where no operation is in progress after an entry, none begins by it on the stack
  begins_none : (number : ℕ) (n : List ℕ) (k : Begun) (t : StackState) → known_stack name x ≡ s → MayBegin schemas x number n k → BecomesBy x (Entry.Begin number n k) name s t → is_in_progress t.status ≡ false → n ≢ name
  begins_none number n k t was may (another q none) rests same = by k may.1 none
    where
      -- where the stack is there the entry is of it, and on none no operation begins that needs one
      there :
          (o : Option StackState) (test : Status → Bool) → test Status.DeleteComplete ≡ false → IsTrue (test (unwrap_or o no_stack).status)
          → ((v : StackState) → option_map {U = List ℕ × StackState} (λ (u : StackState). (n, u)) o ≡ Some (name, v) → ⊥) → ⊥
      there None test fails from never = true≢false (sym from ∙ fails)
      there (Some v) test fails from never = never v (ap (λ (o : List ℕ). Some (o, v)) same)

      by : (k : Begun) → IsTrue (begins_from k (known_stack n x).status) → ((v : StackState) → stack_for (Entry.Begin number n k) x ≡ Some (name, v) → ⊥) → ⊥
      by (Begun.Create source) from never = never (known_stack n x) (ap (λ (o : List ℕ). Some (o, known_stack n x)) same)
      by (Begun.Update source) from never = there (stack_at n x) updates_from refl from never
      by (Begun.Delete paths) from never = there (stack_at n x) deletes_from refl from never
      by (Begun.Continue paths) from never = there (stack_at n x) continues_from refl from never
  begins_none number n k t was may v6 rests same = grind (arith, begun_status, begun_goes)

  no_begin : (e : Entry) (t : StackState) → IsWritten schemas x out e name s t → is_in_progress t.status ≡ false → IsNoBegin name e
  no_begin e t w rests = grind (arith, begins_none, w.was, w.may, w.becomes)

  -- an end, and the beginning of a cleanup, are by these entries
  is_end : {e : Entry} {t : StackState} (a b : Status) → s.status ≡ a → t.status ≡ b → is_in_progress a ≡ true → is_in_progress b ≡ false → IsMove schemas x out name s e t
      → (number : ℕ) × (failed : List (List ℕ)) × (e ≡ Entry.Done number b failed)
  is_end a b was now g r (goes_on same) = absurd (true≢false (sym g ∙ ap is_in_progress (sym was ∙ sym same ∙ now) ∙ r))
  is_end a b was now g r (turns number p why q may) = absurd (true≢false (sym (ap is_in_progress (turned_status (x.place + 1) number p s why) ∙ turned_goes s.status p) ∙ ap is_in_progress now ∙ r))
  is_end a b was now g r (ends number state failed stage q at may) = (number, failed, ap (λ (v : Status). Entry.Done number v failed) (sym (ended_status (x.place + 1) number state failed s) ∙ now))
  is_end a b was now g r (begins k from by) = absurd (true≢false (sym (ap is_in_progress (begun_status (x.place + 1) name (x.operation + 1) k s) ∙ begun_goes k) ∙ ap is_in_progress now ∙ r))
  is_end a b was now g r (is_reviewed number source rows outputs from) = absurd (unreviewed s.status from (ap is_in_progress was ∙ g))
  is_end a b was now g r other = absurd (true≢false (sym g ∙ ap is_in_progress (sym was ∙ now) ∙ r))

  is_clean : {e : Entry} {t : StackState} → s.status ≡ Status.UpdateInProgress → t.status ≡ Status.UpdateCompleteCleanupInProgress → IsMove schemas x out name s e t
      → (number : ℕ) × (why : Option Cause) × (e ≡ Entry.Phase number Phase.Clean why)
  is_clean was now (goes_on same) = let no : Status.UpdateInProgress ≡ Status.UpdateCompleteCleanupInProgress = sym was ∙ sym same ∙ now in absurd cc
  is_clean was now (turns number p why q may) = cleans_by number p why (ap (λ (a : Status). turned a p) (sym was) ∙ sym (turned_status (x.place + 1) number p s why) ∙ now)
  is_clean was now (ends number state failed stage q at may) = absurd (grind (arith, may.2))
  is_clean was now (begins k from by) = absurd (grind (arith, sym (begun_status (x.place + 1) name (x.operation + 1) k s) ∙ now))
  is_clean was now (is_reviewed number source rows outputs from) = absurd (unreviewed s.status from (ap is_in_progress was))
  is_clean was now other = let no : Status.UpdateInProgress ≡ Status.UpdateCompleteCleanupInProgress = sym was ∙ now in absurd cc

-- an end leaves what was before as it was
module _ (schemas : List Schema) (x : World) (out : List ℕ) (name : List ℕ) (s : StackState) where
  cleared_by : {t : StackState} (number : ℕ) (b : Status) (failed : List (List ℕ)) → IsTrue (leaves_nothing b) → s.status ≢ t.status → IsMove schemas x out name s (Entry.Done number b failed) t
      → IsCleared t × (t.before ≡ s.before)
  cleared_by number b failed l differ (goes_on same) = absurd (differ (sym same))
  cleared_by number b failed l differ (ends number' b' failed' stage q at may) = (
    ends_cleared schemas name x out s stage
        (x.place + 1) number b failed may l,
    grind (arith, true≢false),
  )
  cleared_by number b failed l differ other = absurd (differ refl)

module _ (schemas : List Schema) (x : World) (out : List ℕ) (e : Entry) (name : List ℕ) (s t : StackState) (w : IsWritten schemas x out e name s t)
    (described : AreDescribed schemas x) (supported : IsSupported s) (blamed : is_failed_status t.status ≡ true → IsBlamed t (failed_of t)) where
  abbrev After : Status → Type 0
  After b = IsOnCourse schemas name (world_after x e) t b

  abbrev Now : Status → Type 0
  Now a = IsOnCourse schemas name x s a

  forward : (a : Status) → s.status ≡ a → t.status ≡ a → IsTrue (goes_forward a) → (source : Source) → IsAdvancing schemas s source → StaysForward schemas s t source
  forward a was now goes source h = advancing_stays schemas x out e name s t source w (ap goes_forward was ∙ goes) (ap goes_forward now ∙ goes) h supported.ordered described

  differ : (a b : Status) → s.status ≡ a → t.status ≡ b → a ≢ b → s.status ≢ t.status
  differ a b was now d same = d (sym was ∙ same ∙ now)

  -- it stays in its status
  still : (a : Status) → s.status ≡ a → t.status ≡ a → Now a → After a
  still Status.CreateInProgress was now (source, h, none) = let g = forward Status.CreateInProgress was now refl source h in (source, g.advancing, g.before ∙ none)
  still Status.UpdateInProgress was now (source, h) = (source, (forward Status.UpdateInProgress was now refl source h).advancing)
  still Status.UpdateCompleteCleanupInProgress was now c =
      cleaning_of name (world_after x e) t (cleanup_keeps_whole schemas x out e name s t w was c.calls c.whole).0
      (tidying_stays schemas x out e name s t Clean Status.UpdateCompleteCleanupInProgress w of_update was now (of_cleaning name x s c))
  still Status.RollbackInProgress was now u = unmaking_stays schemas x out e name s t w now u
  still Status.UpdateRollbackInProgress was now g = subst (IsAfterBack t) now (updates_back schemas x out e name s t w was g)
  still Status.UpdateRollbackCompleteCleanupInProgress was now c =
      let k = tidying_stays schemas x out e name s t BackClean Status.UpdateRollbackCompleteCleanupInProgress w of_rollback was now (of_cleaning_back s c) in
      record { back = subst (IsAfterBackClean s t) now (cleanup_stays schemas x out e name s t w was c.back c.calls); calls = k.calls; tried = k.tried }
  still Status.CreateComplete was now (h, r) = let k = rest_keeps_whole schemas x out e name s t w (ap stage_of was) (no_begin schemas x out name s e t w (ap is_in_progress now)) h r in (k.0.0, k.1)
  still Status.UpdateComplete was now (h, r) = let k = rest_keeps_whole schemas x out e name s t w (ap stage_of was) (no_begin schemas x out name s e t w (ap is_in_progress now)) h r in (k.0.0, k.1)
  still Status.UpdateRollbackComplete was now (h, r) = subst (IsAfterReturn t) now (rest_stays schemas x out e name s t w was h r)
  still Status.UpdateRollbackFailed was now (g, b) = (subst (IsAfterFailed t) now (failed_stay schemas x out e name s t w was g), blamed (ap is_failed_status now))
  still Status.RollbackComplete was now (c, none) = let k = cleared_stays schemas x out e name s t w (ap is_in_progress was) (ap is_in_progress now) c in (k.0, k.1 ∙ none)
  still Status.RollbackFailed was now b = blamed (ap is_failed_status now)
  still Status.DeleteFailed was now b = blamed (ap is_failed_status now)
  still Status.DeleteComplete was now c = (cleared_stays schemas x out e name s t w (ap is_in_progress was) (ap is_in_progress now) c).0
  still Status.ReviewInProgress was now c = (cleared_stays schemas x out e name s t w (ap is_in_progress was) (ap is_in_progress now) c).0
  still Status.DeleteInProgress was now c = tt

  -- an operation begins
  begun_source : (a b : Status) → s.status ≡ a → t.status ≡ b → is_in_progress a ≡ false → IsTrue (goes_forward b) → Now a → (source : Source) × HasBegunForward schemas s t source
  begun_source a b was now rests goes c =
      advancing_begins schemas x out e name s t w (ap is_in_progress was ∙ rests) (ap goes_forward now ∙ goes)
      (course_is_free schemas name x s (subst (IsOnCourse schemas name x s) (sym was) c))

  -- the entry that ends an operation
  ended_so : (a b : Status) → s.status ≡ a → t.status ≡ b → is_in_progress a ≡ true → is_in_progress b ≡ false → a ≢ b → (P : Entry → Type 0)
      → ((number : ℕ) (failed : List (List ℕ)) → IsWritten schemas x out (Entry.Done number b failed) name s t → s.status ≢ t.status → P (Entry.Done number b failed))
      → P e
  ended_so a b was now goes rests d P h =
      let (number, failed, is) = is_end schemas x out name s a b was now goes rests (written_moves w) in
      subst P (sym is) (h number failed (subst (λ (f : Entry). IsWritten schemas x out f name s t) is w) (differ a b was now d))

  cleared : (a b : Status) → s.status ≡ a → t.status ≡ b → is_in_progress a ≡ true → is_in_progress b ≡ false → a ≢ b → IsTrue (leaves_nothing b) → IsCleared t × (t.before ≡ s.before)
  cleared a b was now goes rests d l =
      ended_so a b was now goes rests d (λ f. IsCleared t × (t.before ≡ s.before)) (λ number failed v n. cleared_by schemas x out name s number b failed l n (written_moves v))

  moved : (a b : Status) → s.status ≡ a → t.status ≡ b → StatusMoves a b → Now a → After b
  moved a b was now stays c = still a was now c
  moved a b was now reviewed c = (cleared_stays schemas x out e name s t w (ap is_in_progress was) (ap is_in_progress now) c).0
  moved a b was now (creates from) c =
      let k = begun_source a Status.CreateInProgress was now (reviews_idle a (or_left (creates_from a) (updates_from a) from)) refl c in (k.0, k.1.advancing, k.1.before ∙ (grind (arith, true≢false)))
  moved a b was now (updates from) c = let k = begun_source a Status.UpdateInProgress was now (reviews_idle a (or_right (creates_from a) (updates_from a) from)) refl c in (k.0, k.1.advancing)
  moved a b was now (deletes from) c = tt
  moved a b was now continues c = subst (IsAfterFailed t) now (failed_stay schemas x out e name s t w was c.0)
  moved a b was now creation_back c = unmaking_stays schemas x out e name s t w now (unmaking_begins schemas s c.0 c.1 c.2)
  moved a b was now created c =
      ended_so Status.CreateInProgress Status.CreateComplete was now refl refl (λ k. cc) (λ f. HoldsWhole name (world_after x f) t × IsHeldAtRest t)
      (λ number failed v d. creation_is_whole schemas x out number failed name s t c.0 v d c.1 (shape_stays schemas s c.0 c.1) c.2)
  moved a b was now unmade c = let k = cleared Status.RollbackInProgress Status.RollbackComplete was now refl refl (λ d. cc) refl in (k.0, k.1 ∙ c.none_before)
  moved a b was now unmaking_failed c = blamed (ap is_failed_status now)
  moved a b was now cleans c =
      let by = is_clean schemas x out name s was now (written_moves w) in
      let d = differ Status.UpdateInProgress Status.UpdateCompleteCleanupInProgress was now (λ k. cc) in
      let k = update_is_whole schemas x out by.0 by.1 name s t c.0 (subst (λ (f : Entry). IsWritten schemas x out f name s t) by.2 w) d c.1 (shape_stays schemas s c.0 c.1) in
      cleaning_of name (world_after x e) t (subst (λ (f : Entry). HoldsWhole name (world_after x f) t) (sym by.2) k.0)
      (tidying_begins schemas x out e name s t c.0 w was now c.1 (supported.undeleted (ap deletes_nothing was)))
  moved a b was now updated c =
      ended_so Status.UpdateCompleteCleanupInProgress Status.UpdateComplete was now refl refl (λ k. cc) (λ f. HoldsWhole name (world_after x f) t × IsHeldAtRest t)
      (λ number failed v d.
      let z = tidying_ends schemas x out e name s t Clean Status.UpdateCompleteCleanupInProgress w of_update was (λ same. d (was ∙ sym same)) (of_cleaning name x s c) in
      update_ends_at_rest schemas x out number failed name s t v d c.whole (none_left (λ (r : Held). r.superseded) s.held z.0.1) z.0.0)
  moved a b was now update_back c = updates_turn schemas x out e name s t c.0 w was c.1 (supported.skips_none was) now
  moved a b was now back_cleans c =
      let k = back_tidying_begins schemas x out e name s t w was now (supported.undeleted (ap deletes_nothing was)) in
      record { back = (subst (IsAfterBack t) now (updates_back schemas x out e name s t w was c)).0; calls = k.calls; tried = k.tried }
  moved a b was now rolled_back c =
      let d = differ Status.UpdateRollbackCompleteCleanupInProgress Status.UpdateRollbackComplete was now (λ k. cc) in
      let z = tidying_ends schemas x out e name s t BackClean Status.UpdateRollbackCompleteCleanupInProgress w of_rollback was (λ same. d (was ∙ sym same)) (of_cleaning_back s c) in
      let k = subst (IsAfterBackClean s t) now (cleanup_stays schemas x out e name s t w was c.back c.calls) in (k.0, k.1 z.0.0 z.0.1)
  moved a b was now back_failed c = (subst (IsAfterBack t) now (updates_back schemas x out e name s t w was c), blamed (ap is_failed_status now))
  moved a b was now deleted c = (cleared Status.DeleteInProgress Status.DeleteComplete was now refl refl (λ d. cc) refl).0
  moved a b was now deletion_failed c = blamed (ap is_failed_status now)

-- what a phase and an end complete is whole
holds_whole : (schemas : List Schema) (name : List ℕ) (y : World) (t : StackState) (b : Status) → IsOnCourse schemas name y t b → HoldsIfWhole name y t b
holds_whole schemas name y t b c = grind arith

-- no call is open where a forward phase begins
module _ (schemas : List Schema) (name : List ℕ) (x : World) (s : StackState) where
  none_open : (a b : Status) → StatusMoves a b → goes_forward a ≡ false → goes_forward b ≡ true → s.status ≡ a → IsOnCourse schemas name x s s.status → s.tokens ≡ []
  none_open a b m g h e c = grind (arith, true≢false, course_is_free, or_left, or_right)

-- so the stack is on its way
pub way_kept : WayIsKept
way_kept schemas x out e name s t w described once k = record {
  course = grind (arith, stage, stays_booked, holds_whole, k.course);
  supported = record {
    ordered = order_stays schemas x out e name s t w k.supported.ordered;
    skips_none = updates_skip schemas x out e name s t w k.supported.skips_none;
    undeleted = nothing_deleted schemas x out e name s t w k.supported.undeleted;
    tries = tries_stay_left schemas x out e name s t w k.supported.tries;
    told = told (goes_forward s.status) refl;
    completes = completes_begun_stays schemas x out e name s t w k.supported.completes;
    lists = lists_given_up_stays schemas x out e name s t w k.supported.lists;
    leaves = leaves_once_stays schemas x out e name s t w once k.supported.leaves;
    few = few_stay schemas x out e name s t w k;
  };
}
  where
    told : (b : Bool) → goes_forward s.status ≡ b → goes_forward t.status ≡ true → IsTold t
    told true g h = let a = advancing schemas name x s s.status g k.course.stage in told_stays schemas x out e name s t a.0 w g h a.1 (k.supported.told g)
    told false g h = told_begins schemas x out e name s t w g h (none_open schemas name x s s.status t.status (status_moves schemas x out e name s t w) g h refl k.course.stage)

    stage : IsOnCourse schemas name (world_after x e) t t.status
    stage = moved schemas x out e name s t w described k.supported (failed_blamed schemas x out e name s t w k.course) s.status t.status refl refl (status_moves schemas x out e name s t w) k.course.stage

-- a stack of which nothing is known is on its way
pub none_on_way : (schemas : List Schema) (name : List ℕ) (x : World) → IsOnWay schemas name x no_stack
none_on_way schemas name x = grind (arith, none_booked, none_few, none_is_ordered, true≢false)

-- Whatever happens in the life of an engine, journal and lanes agree, and each stack keeps what its status promises.

-- all stacks are on their way in a world
abbrev AreOnWay : List Schema → World → Type 0
AreOnWay schemas x = (name : List ℕ) (s : StackState) → stack_at name x ≡ Some s → IsOnWay schemas name x s

-- the stack of a name, or one of which nothing is known, is
known_on_way : (schemas : List Schema) (x : World) → AreOnWay schemas x → (name : List ℕ) → IsOnWay schemas name x (known_stack name x)
known_on_way schemas x ways name = at_known (IsOnWay schemas name x) x name (none_on_way schemas name x) (ways name)

module _ (schemas : List Schema) (l : Life) (h : HoldsAlways schemas l) where
  are_steady : AreSteady (world_of l)
  are_steady name s there = steady schemas name (world_of l) s (h.way name s there).course.stage

  -- no two resources of it have one id, and none is left over
  known_once : (name : List ℕ) → IsOnce (known_stack name (world_of l))
  known_once name =
      at_known IsOnce (world_of l) name (record { ids = refl; left = λ i r k. let no : ⊥ = cc in absurd no; tokens = refl })
      (λ s e. once_here (stands_on (world_of l) name s h.sound.orderly.own e).one h.sound.orderly.own)

  -- one more entry
  ways_more : (ev : Event) (e : Entry) (out : List ℕ) → Appends l ev e out → Happens schemas l ev → AreOnWay schemas (fold_of empty_world (l.entries ++ e ∷ []))
  ways_more ev e out appends may = subst (AreOnWay schemas) (folded_more empty_world l.entries e) now
    where
      now : AreOnWay schemas (world_after (world_of l) e)
      now name t there =
          way_kept schemas (world_of l) out e name (known_stack name (world_of l)) t
          (event_writes schemas l ev e out appends may are_steady h.sound name t there) h.described (known_once name) (known_on_way schemas (world_of l) h.way name)

  ways : (ev : Event) → Happens schemas l ev → AreOnWay schemas (world_of (life_after l ev))
  ways ev may = entries_after l (λ es. AreOnWay schemas (fold_of empty_world es)) h.way ev (λ e out appends. ways_more ev e out appends may)

  apart : (ev : Event) → Happens schemas l ev → LeavesApart (world_of (life_after l ev))
  apart ev may = entries_after l (λ es. LeavesApart (fold_of empty_world es)) h.leaves ev (λ e out appends.
      subst LeavesApart (folded_more empty_world l.entries e)
      (leaves_apart_stays schemas (world_of l) out e (event_writes schemas l ev e out appends may are_steady h.sound) h.sound.orderly.own h.leaves))

  holds_after : (ev : Event) → Happens schemas l ev → HoldsAlways schemas (life_after l ev)
  holds_after ev may = record {
    sound = event_keeps schemas l ev may are_steady h.sound;
    described = described_kept schemas l ev may h.sound.described h.described;
    leaves = apart ev may;
    leases = leases_once_stays schemas l ev may h.sound h.leases;
    in_flight = leases_stay_open schemas l ev may h.sound h.way h.in_flight;
    settles = settles_once_stays schemas l ev may h.sound h.settles;
    way = ways ev may;
  }

  -- each promise
  promises : AreKept l
  promises name s there =
      let fits : Fits (world_of l) s = h.sound.fitted name s there in
      course_keeps_promise schemas name (world_of l) s l.lanes fits (h.way name s there).course.stage
      (λ none r i. held_is_live l name s r (record { agrees = h.sound.agrees; orderly = h.sound.orderly }) there none (held_is_found (world_of l) s r fits i))

pub starts_hold : StartHolds
starts_hold schemas l s = record {
  sound = start_is_sound_life schemas l s;
  described = start_described schemas l s;
  leases = (start_is_once schemas l s).0;
  in_flight = λ k i. elim (subst (In k) s.no_leases i) [ ];
  leaves = subst (λ es. LeavesApart (fold_of empty_world es)) (sym s.no_entries) (λ n m d u v i. elim i [ ]);
  settles = (start_is_once schemas l s).1;
  way = λ name v there. none name v (ap (λ (es : List Entry). stack_at name (fold_of empty_world es)) (sym s.no_entries) ∙ there);
}
  where
    none : (name : List ℕ) (v : StackState) → ◌≡◌ {A = Option StackState} None (Some v) → IsOnWay schemas name (world_of l) v
    none name v e = let no : ⊥ = cc in absurd no

run : (schemas : List Schema) (events : List Event) (l end : Life) → HoldsAlways schemas l → IsLife schemas l events end → HoldsAlways schemas end
run schemas [] l end h e = subst (HoldsAlways schemas) (sym e) h
run schemas (ev ∷ evs) l end h (may, rest) = run schemas evs (life_after l ev) end (holds_after schemas l h ev may) rest

pub events_hold : EventsHold
events_hold schemas l end events h life_is = let k = run schemas events l end h life_is in (k, promises schemas end k)

pub lives_keep_promises : LivesKeepPromises
lives_keep_promises schemas start end events s life_is = events_hold schemas start end events (starts_hold schemas start s) life_is

pub event_holds : EventHolds
event_holds schemas l ev h may = holds_after schemas l h ev may

pub holds_keeps_promises : HoldsKeepsPromises
holds_keeps_promises = promises

-- and each operation goes on until its end
pub operations_go_on : OperationsGoOn
operations_go_on schemas l number name s h going kinds =
    let x : World = world_of l in
    let same : s.operation ≡ number = sym (numbered_so schemas x [] name s number going) in
    let here : stack_at name x ≡ Some s = found_stands (λ (p : List ℕ × StackState). is_going number p.1) x.stacks (name, s) h.sound.orderly.apart.names going in
    let next : HasNext schemas x s.operation =
    operation_goes_on schemas name x s (ap (λ (n : ℕ). stack_of_operation n x) same ∙ going) (is_working number x name s going)
    (h.sound.fitted name s here) (h.way name s here).course.stage (λ g. (kinds g, (h.way name s here).supported.told g)) in
    subst (HasNext schemas x) same next
