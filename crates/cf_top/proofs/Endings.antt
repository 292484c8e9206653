-- Why an operation that was driven to its end ended so, and what its stack keeps.
use Rattle.std.proofs.Common.{◌≡◌, ◌⊎◌, inl, inr, ℕ, ◌+◌, ◌≤◌, ◌==◌, ◌&&◌, Bool, true, false, cond, List, [], ◌∷◌, ◌++◌, Option, Some, None, Result, Ok, map, filter, refl, sym, ◌∙◌, ap, subst, true≢false, arith}
use Rattle.std.specs.Prelude.{filter_map, flat_map, option_map, unwrap_or}
use Rattle.std.specs.Bool.{IsTrue}
use Rattle.std.proofs.lemmas.Bool.{eq-eqb, eqb-true}
use Rattle.std.proofs.lemmas.Grind.{flat_map-append, fold-append}
use Rattle.std.proofs.lemmas.List.Elements.{filter-append, filter_map-append}
use Rattle.cf_tree.specs.Counts.{HasRisen}
use Rattle.cf_tree.specs.Lists.{In, first_in}
use Rattle.cf_tree.specs.Lists.In.{here, there}
use Rattle.cf_disk.specs.declared.disk.Disk.{Ghosts as DiskGhosts}
use Rattle.cf_handler.specs.Move.{HasCause}
use Rattle.cf_handler.specs.declared.handler.Handler.{Ghosts as HandlerGhosts}
use Rattle.cf_schema.specs.declared.described.Schema.{Schema}
use Rattle.cf_entry.specs.declared.entry.Begun.{Begun}
use Rattle.cf_entry.specs.declared.entry.Begun.TheVariants as begin
use Rattle.cf_entry.specs.declared.entry.Entry.{Entry}
use Rattle.cf_entry.specs.declared.entry.Entry.TheVariants as entry
use Rattle.cf_entry.specs.declared.entry.Reply.{Reply}
use Rattle.cf_entry.specs.declared.entry.Reply.TheVariants as reply
use Rattle.cf_entry.specs.declared.status.Status.{Status}
use Rattle.cf_entry.specs.declared.status.Status.TheVariants as status
use Rattle.cf_entry.specs.declared.turn.Cause.{Cause}
use Rattle.cf_entry.specs.declared.turn.Cause.TheVariants as cause
use Rattle.cf_entry.specs.declared.turn.Phase.TheVariants as phase
use Rattle.cf_entry.specs.declared.turn.Reason.{Reason}
use Rattle.cf_entry.specs.declared.turn.Reason.TheVariants as reason
use Rattle.cf_journal.specs.Record.{record_of}
use Rattle.cf_effect.specs.declared.call.Call.{Call}
use Rattle.cf_effect.specs.Calls.{call_under, is_success}
use Rattle.cf_effect.specs.Fold.{fold_of, world_after}
use Rattle.cf_effect.specs.Operation.{Response, is_of, own_of, reply_in}
use Rattle.cf_effect.specs.Status.{begun, is_in_progress}
use Rattle.cf_effect.specs.World.{StackState, World, empty_world, known_stack, no_stack, stack_at}
use Rattle.cf_lane.specs.Lanes.{LaneNow}
use Rattle.cf_plan.specs.Ends.{IsBlamed, IsBlamedFor}
use Rattle.cf_plan.specs.Follow.{IsCounted, failed_in, failed_of, settled_by}
use Rattle.cf_plan.specs.Lanes.{Lane}
use Rattle.cf_plan.specs.Life.{Life, world_of}
use Rattle.cf_plan.specs.Promise.{Promised}
use Rattle.cf_plan.proofs.Causing.{in_either}
use Rattle.cf_plan.proofs.CreatedRight.{in_filter}
use Rattle.cf_plan.proofs.Frame.{here_of, is_on, number_is as its_number}
use Rattle.cf_plan.proofs.RunLists.{any_of, in_back, in_front, in_kept, in_mapped, in_one, to_mapped}
use Rattle.cf_core.specs.More.{has_completed}
use Rattle.cf_core.specs.Theorem.{HoldsAlways}
use Rattle.cf_core.specs.Turned.{HasFailedFor, TurnsBack, cause_in, is_continuation, is_turned_back, reason_in, was_continued}
use Rattle.cf_core.proofs.Alike.{KeepsCalls, paths_of}
use Rattle.cf_core.proofs.Failing.{failing_says, some_same}
use Rattle.cf_core.proofs.Heard.{heard_in_journal}
use Rattle.cf_core.proofs.Turned.{back_is_told, heard_numbers, none_failed_yet, turn_told, turns_had_cause}
use Rattle.cf_next.specs.Chosen.{schemas_of}
use Rattle.cf_prepare.specs.declared.wish.Order.{Order}
use Rattle.cf_prepare.specs.declared.wish.Order.TheVariants as order
use Rattle.cf_book.specs.Beginning.{IsPrepared}
use Rattle.cf_book.specs.Entering.{IsEntered, MayOpenOn, epoch_over}
use Rattle.cf_book.specs.Fences.{EachRaised, handed_in}
use Rattle.cf_book.specs.Lives.{AreEntriesOf, StandsFor}
use Rattle.cf_book.specs.Record.{HasKnown, with_doubt, world_left}
use Rattle.cf_book.specs.State.{BookLane, BookNow, at_home, home_of}
use Rattle.cf_face.specs.declared.exit.Exit.TheVariants as exit
use Rattle.cf_face.specs.declared.words.Task.{Task}
use Rattle.cf_workers.specs.Agreement.{Agree, AgreeOn, all_as_told, at_rest}
use Rattle.cf_workers.specs.Driving.{EndsWith}
use Rattle.cf_workers.specs.Turning.{IsCountedAsSent, cause_of}
use Rattle.cf_workers.proofs.Entered.{agrees_ended, stands_entered}
use Rattle.cf_workers.proofs.Wrote.{AreLater, AreSteps, answer_as, counted_more, lanes_in, own_each, sent_more}
use Rattle.cf_workers.proofs.Wrote.{IsCounted as HasCount}
use Rattle.cf_top.specs.Ends.{CallFailed, CountsWithin, EndsBy, FailedAt, FailedBy, IsUntold, KeepsStatus, TellsEnd, TurnedBefore, TurnedNow, WasBefore, WroteOperation}
use Rattle.cf_top.specs.Outside.{HaveAgreed, IsClosed, LeavesStack, Outside, WasDone}
use Rattle.cf_workers.specs.Ordering.{schemas_in, IsOrderOn, number_of, with_order}
use Rattle.cf_top.specs.Tasks.{number_for}
use Rattle.cf_top.specs.Telling.{exit_by, exit_for}
use Rattle.cf_workers.proofs.Course.{HasCourse, IsStart, course, ends_behind, last_of, starts}
use Rattle.cf_top.proofs.Course.{HasRun}
use Rattle.cf_top.proofs.Kept.{Stays}
use Rattle.cf_top.proofs.Ordered.{numbered_as}
use Rattle.cf_top.proofs.Over.{just_opened}
use Rattle.cf_workers.proofs.Intending.{home_lanes}
use Rattle.cf_workers.proofs.Turns.{is_end, is_rolled}

-- the lanes of a book and those that are handed in or given back
raised_later : (now raised : List LaneNow) (epoch : ℕ) → EachRaised now raised epoch → AreLater now raised
raised_later [] [] epoch r = tt
raised_later [] (k ∷ ks) epoch r = absurd r
raised_later (n ∷ ns) [] epoch r = absurd r
raised_later (n ∷ ns) (k ∷ ks) epoch r = ((r.0.name, r.0.cause.0), raised_later ns ks epoch r.1)

abbrev without_log : BookLane → LaneNow
without_log b = record b.lane { log = [] }

closed_later : (bs : List BookLane) → AreLater (lanes_in bs) (map without_log bs)
closed_later [] = tt
closed_later (b ∷ bs) = ((refl, (let le : b.lane.count ≤ b.lane.count = omega arith in le)), closed_later bs)

counted_as : (a : Reply) (before after : ℕ) → HasCause before after (answer_as a) → IsCounted a before after
counted_as (reply.Success physical attrs) before after c = c.0
counted_as (reply.Failed code) before after c = (c.0, c.1)
counted_as reply.Doubt before after c = (c.0, c.1)

-- a call that failed raised its count
rose_of : (a : Reply) (why : Reason) (before after : ℕ) → reason_in a ≡ Some why → HasCause before after (answer_as a) → HasRisen before after
rose_of (reply.Success physical attrs) why before after h c = let no : ⊥ = cc in absurd no
rose_of (reply.Failed code) why before after h c = c.1
rose_of reply.Doubt why before after h c = c.1

-- a call that did not succeed has a reason
some_reason : (a : Reply) → is_success (settled_by a) ≡ false → (why : Reason) × (reason_in a ≡ Some why)
some_reason (reply.Success physical attrs) h = absurd (true≢false h)
some_reason (reply.Failed code) h = (reason.Code code, refl)
some_reason reply.Doubt h = (reason.Fault, refl)

-- the call of a token whose path is known
call_there : (o : Option Call) (path : List ℕ) → option_map (λ (c : Call). c.path) o ≡ Some path → (call : Call) × (o ≡ Some call) × (call.path ≡ path)
call_there None path h = let no : ⊥ = cc in absurd no
call_there (Some call) path h = (call, refl, some_same h)

-- the outcome that a reply stands for
outcome_of : (e : Entry) (r : Response) → reply_in e ≡ Some r → (n : ℕ) × (e ≡ entry.Outcome n r.token r.answer r.before r.after)
outcome_of (entry.Outcome n token answer before after) r h = (n, ap (λ (q : Response). entry.Outcome n q.token q.answer q.before q.after) (some_same h))
outcome_of (entry.Opened epoch lanes) r h = let no : ⊥ = cc in absurd no
outcome_of (entry.Begin n stack k) r h = let no : ⊥ = cc in absurd no
outcome_of (entry.Kept n path physical w) r h = let no : ⊥ = cc in absurd no
outcome_of (entry.Intent n token lane path q) r h = let no : ⊥ = cc in absurd no
outcome_of (entry.Phase n p c) r h = let no : ⊥ = cc in absurd no
outcome_of (entry.Done n state failed) r h = let no : ⊥ = cc in absurd no
outcome_of (entry.ChangeSet n stack source rows outputs) r h = let no : ⊥ = cc in absurd no

abbrev turn : ℕ → Cause → Entry
turn n c = entry.Phase n phase.Back (Some c)

some_none : {A : Type 0} {x : A} → Some x ≡ None → ⊥
some_none e = cc

no_begin : (n j : ℕ) (c : Cause) (stack : List ℕ) (b : Begun) → turn n c ≡ entry.Begin j stack b → ⊥
no_begin n j c stack b e = cc

first_some : (cs : List Cause) (c : Cause) → In c cs → (d : Cause) × (first_in cs ≡ Some d)
first_some [] c i = elim i [ ]
first_some (d ∷ ds) c i = (d, refl)

-- what is first among the first of two lists, or else among the second
first_both : (cs ds : List Cause) (c : Cause) → first_in cs ≡ Some c → first_in (cs ++ ds) ≡ Some c
first_both [] ds c q = let no : ⊥ = cc in absurd no
first_both (d ∷ rest) ds c q = q

first_second : (cs ds : List Cause) → first_in cs ≡ None → first_in (cs ++ ds) ≡ first_in ds
first_second [] ds q = refl
first_second (d ∷ rest) ds q = let no : ⊥ = cc in absurd no

none_first : (cs : List Cause) → first_in cs ≡ None → cs ≡ []
none_first [] q = refl
none_first (d ∷ rest) q = let no : ⊥ = cc in absurd no

-- where an operation is driven to its end
module _ {D H : Type 0} (g : DiskGhosts D) (h : HandlerGhosts H) (stay : Stays g) (m : Outside D H) (name : List ℕ) (t : Task) (entered ended : BookNow D) (state : Status) (st : StackState)
    (es0 : List Entry) (over : MayOpenOn g m.disk (handed_in h m.handlers) es0) (enters : IsEntered es0 (handed_in h m.handlers) entered) (w : WasDone g h m name t entered ended (Ok state))
    (left : LeavesStack g entered ended name t state st) (closes : IsClosed g h m ended) where
  abbrev x : World
  x = world_left entered.entries

  abbrev schemas_now : List Schema
  schemas_now = schemas_in entered.lanes

  pub here_now : stack_at name (world_left ended.entries) ≡ Some st
  here_now = left.over.here ∙ ap (λ (s : StackState). Some s) left.stack_is

  pub state_is : st.status ≡ state
  state_is = ap (λ (s : StackState). s.status) (sym left.stack_is) ∙ left.over.status_is

  -- what agreement gives of the stack, as it was entered and as it ended
  module _ (tells : IsTrue g.tells) (schemas : List Schema) (all : List Lane) (agree : Agree g h schemas m.disk m.handlers all) where
    abbrev lanes_now : List Lane
    lanes_now = all_as_told (handed_in h m.handlers') all

    agreed : AgreeOn schemas ended.entries lanes_now
    agreed = by (now.each (g.seen m.disk') (stay m.disk' tells)) where
      now : Agree g h schemas m.disk' m.handlers' lanes_now
      now =
          agrees_ended g h m.disk m.disk' m.handlers m.handlers' es0 entered ended over.0 enters w.stretch.leads w.stretch.lanes closes.2 closes.0 closes.1 closes.3 stay tells schemas all agree

      known : HasKnown ended.entries None (g.seen m.disk')
      known =
          subst (λ (o : Option Entry). HasKnown ended.entries o (g.seen m.disk')) left.rest.certain
          (subst (λ (d : D). HasKnown ended.entries ended.doubt (g.seen d)) (sym closes.0) ((closes.3).now tells))

      record_is : record_of (g.seen m.disk') ≡ Ok ended.entries
      record_is = so known where
        so : HasKnown ended.entries None (g.seen m.disk') → record_of (g.seen m.disk') ≡ Ok ended.entries
        so (inl q) = q
        so (inr q) = q

      one : (xs : List Entry) → ◌≡◌ {A = Result (List Entry) ℕ} (Ok xs) (Ok ended.entries) → xs ≡ ended.entries
      one xs q = cc

      by : (xs : List Entry) × (record_of (g.seen m.disk') ≡ Ok xs) × AgreeOn schemas xs lanes_now → AgreeOn schemas ended.entries lanes_now
      by (xs, q, on) = subst (λ (l : List Entry). AgreeOn schemas l lanes_now) (one xs (sym q ∙ record_is)) on

    abbrev ended_life : Life
    ended_life = at_rest ended.entries lanes_now

    holds : HoldsAlways schemas ended_life
    holds = agreed.holds

    promised : Promised st.status name (world_left ended.entries) st lanes_now
    promised = agreed.kept name st here_now

    completes : has_completed st.status ≡ true → st.source ≡ st.going
    completes = (holds.way name st here_now).supported.completes

    -- a life of the entries as they were entered
    entered_life : (life : Life) × (life.entries ≡ entered.entries) × HoldsAlways schemas life
    entered_life = by (stands_entered g h m.disk m.disk' m.handlers m.handlers' es0 entered ended over.0 enters w.stretch.leads w.stretch.lanes closes.2 closes.0 closes.1 closes.3 stay tells schemas all agree) where
      are : (life : Life) → AreEntriesOf entered life.entries → life.entries ≡ entered.entries
      are life (inl q) = q
      are life (inr q) = q ∙ ap (with_doubt entered.entries) enters.certain

      by : (life : Life) × StandsFor entered life × HoldsAlways schemas life → (life : Life) × (life.entries ≡ entered.entries) × HoldsAlways schemas life
      by (life, stands, always) = (life, are life stands.entries, always)

    entered_here : (s : StackState) → stack_at name x ≡ Some s → stack_at name (world_of entered_life.0) ≡ Some s
    entered_here s q = ap (λ (l : List Entry). stack_at name (fold_of empty_world l)) entered_life.1 ∙ q

    -- an operation that had turned back before had its cause
    turned_then : (s : StackState) (c : Cause) → stack_at name x ≡ Some s → first_in (filter_map cause_in (own_of s)) ≡ Some c → TurnsBack schemas empty_world s.operation name entered.entries c
    turned_then s c q told =
        subst (λ (l : List Entry). TurnsBack schemas empty_world s.operation name l c) entered_life.1
        (turns_had_cause schemas entered_life.0 name s c entered_life.2 (entered_here s q) (turn_told s c told)).0

    none_then : (s : StackState) → stack_at name x ≡ Some s → is_in_progress s.status ≡ true → failed_of s ≡ []
    none_then s q goes = none_failed_yet schemas entered_life.0 name s entered_life.2 (entered_here s q) goes

    numbers_then : (s : StackState) → stack_at name x ≡ Some s → (e : Entry) → In e s.entries → (n : ℕ) → is_of n e ≡ true → n ≤ x.operation
    numbers_then s q e i n own =
        subst (λ (l : List Entry). n ≤ (fold_of empty_world l).operation) entered_life.1 (heard_numbers schemas entered_life.0 name s entered_life.2 (entered_here s q) e i n own)

  -- What is known of the order's run.
  module _ (r : HasRun g m.library entered ended name t) where
    abbrev es : List Entry
    es = r.wrote.es

    abbrev number : ℕ
    number = number_of r.ordered

    abbrev first : List Entry
    first = with_order entered.entries r.ordered

    pub wrote_all : ended.entries ≡ first ++ es
    wrote_all = r.wrote.wrote ∙ ap (λ (l : List Entry). l ++ es) r.entries

    now_is : world_left ended.entries ≡ fold_of (world_left first) es
    now_is = ap world_left wrote_all ∙ fold-append world_after empty_world first es

    pub steps : AreSteps schemas_now number (world_left first) es
    steps =
        subst (λ (ls : List BookLane). AreSteps (schemas_of (map home_of ls)) number (world_left first) es) r.lanes
        (subst (λ (l : List Entry). AreSteps (schemas_of (map home_of r.begun.lanes)) number (world_left l) es) r.entries r.wrote.steps)

    pub number_is : number ≡ number_for x name t
    number_is = numbered_as m.library schemas_now x name t r.ordered r.orders.orders

    opened_last : EndsWith es number state
    opened_last =
        ends_behind number state first es ended.entries
        (last_of name x entered.entries r.ordered (just_opened es0 (handed_in h m.handlers) entered enters) r.orders.on_stack) wrote_all
        (subst (λ (k : ℕ). EndsWith ended.entries k state) (sym number_is) left.over.last)

    pub start : (s : StackState) × IsStart x name r.ordered (world_left first) s
    start = starts schemas_now entered.entries name r.ordered r.orders.apart r.orders.prepared r.orders.on_stack

    pub runs : HasCourse schemas_now number name (world_left first) start.0 es state st
    runs = course schemas_now number name (world_left first) start.0 es state st start.1.on steps opened_last (ap (stack_at name) (sym now_is) ∙ here_now)

    -- counted between the handlers as they are handed in and as they are given back
    handed_later : AreLater (handed_in h m.handlers) (lanes_in r.begun.lanes)
    handed_later =
        subst (λ (ls : List BookLane). AreLater (handed_in h m.handlers) (lanes_in ls)) (sym (r.lanes ∙ enters.lanes_are))
        (subst (AreLater (handed_in h m.handlers)) (sym (home_lanes enters.raised)) (raised_later (handed_in h m.handlers) enters.raised (epoch_over es0) enters.fences))

    given_later : AreLater (lanes_in ended.lanes) (handed_in h m.handlers')
    given_later = subst (AreLater (lanes_in ended.lanes)) (sym closes.1) (closed_later ended.lanes)

    has_count : (e : Entry) → In e es → HasCount (handed_in h m.handlers) (handed_in h m.handlers') e
    has_count e i =
        counted_more (handed_in h m.handlers) (lanes_in r.begun.lanes) (lanes_in ended.lanes) (handed_in h m.handlers') handed_later given_later e (r.wrote.counted e i)

    is_sent : (e : Entry) → In e es → IsCountedAsSent (handed_in h m.handlers) (handed_in h m.handlers') ended.entries e
    is_sent e i =
        sent_more (handed_in h m.handlers) (lanes_in r.begun.lanes) (lanes_in ended.lanes) (handed_in h m.handlers') handed_later given_later ended.entries ended.entries
        (λ d j. j) e (r.wrote.sent e i)

    pub counted : (e : Entry) → In e es → CountsWithin (handed_in h m.handlers) (handed_in h m.handlers') ended.entries e
    counted (entry.Outcome n token a before after) i =
        (counted_as a before after (has_count (entry.Outcome n token a before after) i).0, is_sent (entry.Outcome n token a before after) i)
    counted (entry.Opened epoch lanes) i = tt
    counted (entry.Begin n stack k) i = tt
    counted (entry.ChangeSet n stack source rows outputs) i = tt
    counted (entry.Kept n path physical why) i = tt
    counted (entry.Intent n token lane path q) i = tt
    counted (entry.Phase n p c) i = tt
    counted (entry.Done n status failed) i = tt

    abbrev pub wrote : WroteOperation entered ended r.ordered state
    wrote = record {
      es = es;
      wrote = wrote_all;
      own = λ e i. own_each schemas_now number (world_left first) es steps e i;
      over = runs.over;
    }

    pub operation_is : st.operation ≡ number
    operation_is = runs.run.operation

    pub promise : KeepsStatus g h m name x r.ordered (world_left ended.entries) st
    promise = record {
      promised = λ tells schemas all agree. promised tells schemas all agree;
      works_by = runs.run.going ∙ start.1.going;
      before_is = runs.run.before ∙ start.1.before;
      completes = λ agreed done. by agreed done;
    } where
      by : HaveAgreed g h m → has_completed st.status ≡ true → st.source ≡ st.going
      by (tells, schemas, all, agree) done = completes tells schemas all agree done

  -- Why it ended so, by what was ordered.
  record IsRunOf (ordered : Order) (es : List Entry) : Type 0 where
    pub on_stack : IsOrderOn name x ordered
    pub prepared : IsPrepared schemas_now x ordered
    pub start : StackState
    pub starts : IsStart x name ordered (world_left (with_order entered.entries ordered)) start
    pub steps : AreSteps schemas_now (number_of ordered) (world_left (with_order entered.entries ordered)) es
    pub course : HasCourse schemas_now (number_of ordered) name (world_left (with_order entered.entries ordered)) start es state st
    pub count : (e : Entry) → In e es → HasCount (handed_in h m.handlers) (handed_in h m.handlers') e

  module _ (ordered : Order) (es : List Entry) (k : IsRunOf ordered es) where
    abbrev n : ℕ
    n = number_of ordered

    abbrev s : StackState
    s = k.start

    own_number : (e : Entry) → In e (own_of st) → is_of n e ≡ true
    own_number e i = ap (λ (j : ℕ). is_of j e) (sym k.course.run.operation) ∙ (in_filter (is_of st.operation) st.entries e i).1

    -- what the stack heard of its operation stood before the run, or was written in it
    sides : (e : Entry) → In e (own_of st) → In e s.entries ⊎ In e es
    sides e i = in_either e s.entries es (subst (In e) k.course.run.entries (in_filter (is_of st.operation) st.entries e i).0)

    own_now : (e : Entry) → In e st.entries → is_of n e ≡ true → In e (own_of st)
    own_now e i own = in_kept (is_of st.operation) st.entries e i (ap (λ (j : ℕ). is_of j e) k.course.run.operation ∙ own)

    in_written : (e : Entry) → In e es → In e st.entries
    in_written e i = subst (In e) (sym k.course.run.entries) (in_back e s.entries es i)

    in_start : (e : Entry) → In e s.entries → In e st.entries
    in_start e i = subst (In e) (sym k.course.run.entries) (in_front e s.entries es i)

    own_are : own_of st ≡ filter (is_of n) s.entries ++ filter (is_of n) es
    own_are =
        ap (λ (j : ℕ). filter (is_of j) st.entries) k.course.run.operation ∙ ap (filter (is_of n)) k.course.run.entries ∙ filter-append (is_of n) s.entries es

    failed_are : failed_of st ≡ flat_map failed_in (filter (is_of n) s.entries ++ filter (is_of n) es)
    failed_are = ap (flat_map failed_in) own_are

    -- the paths that are told are those of its end, where its entries from before tell none
    tells_end : flat_map failed_in (filter (is_of n) s.entries) ≡ [] → failed_of st ≡ k.course.over.failed
    tells_end none =
        failed_are ∙ flat_map-append failed_in (filter (is_of n) s.entries) (filter (is_of n) es)
        ∙ ap (λ (ps : List (List ℕ)). ps ++ flat_map failed_in (filter (is_of n) es)) none ∙ k.course.fails

    told_cause : (c : Cause) → first_in (filter_map cause_in (own_of st)) ≡ Some c → cause_of st ≡ c
    told_cause c q = ap (λ (o : Option Cause). unwrap_or o (cause.Plan [])) q

    -- a turn that is told, in the operation's own number
    turn_own : (c : Cause) → first_in (filter_map cause_in (own_of st)) ≡ Some c → In (turn n c) (own_of st)
    turn_own c q = subst (λ (j : ℕ). In (turn j c) (own_of st)) k.course.run.operation (turn_told st c q)

    caused : (c : Cause) → In (turn n c) (own_of st) → In c (filter_map cause_in (own_of st))
    caused c i = to_mapped cause_in (own_of st) (turn n c) c i refl

    turn_written : (c : Cause) → In (turn n c) es → In (turn n c) (own_of st)
    turn_written c i = own_now (turn n c) (in_written (turn n c) i) (eq-eqb n n refl)

    -- a call of this command that failed
    failed_call : (j token before after : ℕ) (a : Reply) (why : Reason) (path : List ℕ) (call : Call) → In (entry.Outcome j token a before after) es → reason_in a ≡ Some why → call_under token st ≡ Some call
        → call.path ≡ path → CallFailed entered.entries ordered es st path why
    failed_call j token before after a why path call i told found at = record {
      token = token;
      answer = a;
      before = before;
      after = after;
      stands = inl (subst (λ (q : ℕ). In (entry.Outcome q token a before after) es)
          (own_each schemas_now n (world_left (with_order entered.entries ordered)) es k.steps (entry.Outcome j token a before after) i) i);
      told = told;
      call = call;
      of_call = found;
      at_path = at;
      rose = rose_of a why before after told (k.count (entry.Outcome j token a before after) i).0;
    }

    -- the turn of this command: where what stood before has no outcome, it is one of this command's calls that failed
    failed_now : ((e : Entry) → In e s.entries → reply_in e ≡ None) → (c : Cause) (turned : TurnsBack schemas_now (world_left (with_order entered.entries ordered)) n name es c) → KeepsCalls turned.stack st
        → turned.stack.entries ≡ s.entries ++ turned.before → FailedBy entered.entries ordered es st c
    failed_now quiet (cause.Plan fault) turned calls heard = tt
    failed_now quiet (cause.Export export) turned calls heard = tt
    failed_now quiet (cause.Handler path why) turned calls heard =
        let (token, failing, at) = turned.is_cause in
        let (e, i, is) = failing_says token why schemas_now turned.stack failing in
        let outcome : Entry = entry.Outcome is.number token is.answer is.before is.after in
        let there_then : In outcome (s.entries ++ turned.before) = subst (In outcome) heard (subst (λ (d : Entry). In d turned.stack.entries) is.is i) in
        let written : In outcome es = elim (in_either outcome s.entries turned.before there_then) [
          | inl j ↦ absurd (some_none (quiet outcome j))
          | inr j ↦ subst (In outcome) (sym turned.at) (in_front outcome turned.before (turn n (cause.Handler path why) ∷ turned.after) j)
        ] in
        let (call, found, on_path) = call_there (call_under token st) path (paths_of turned.stack st calls token path at) in
        failed_call is.number token is.before is.after is.answer why path call written is.told found on_path

    -- what stood before the run and is of the operation is no outcome, or was written by an earlier command
    abbrev KnownBefore : Type 0
    KnownBefore = (e : Entry) → In e s.entries → is_of n e ≡ true → (reply_in e ≡ None) ⊎ WasBefore entered.entries ordered e

    stands_so : KnownBefore → (token before after : ℕ) (a : Reply) → In (entry.Outcome n token a before after) (own_of st)
        → In (entry.Outcome n token a before after) es ⊎ WasBefore entered.entries ordered (entry.Outcome n token a before after)
    stands_so known token before after a own = elim (sides (entry.Outcome n token a before after) own) [
      | inl j ↦ elim (known (entry.Outcome n token a before after) j (eq-eqb n n refl)) [
        | inl none ↦ absurd (some_none none)
        | inr was ↦ inr was
      ]
      | inr j ↦ inl j
    ]

    -- where disk and lanes agreed, the turn that is told had its cause among the operation's entries
    failed_agreed : KnownBefore → HaveAgreed g h m → (c : Cause) → In (turn n c) (own_of st) → FailedBy entered.entries ordered es st c
    failed_agreed known (tells, schemas, all, agree) c i = by (was.0).stack c was.1 where
      was : (turned : TurnsBack schemas empty_world st.operation name ended.entries c) × HasFailedFor schemas turned.stack st c
      was =
          turns_had_cause schemas (at_rest ended.entries (all_as_told (handed_in h m.handlers') all)) name st c (holds tells schemas all agree) here_now
          (subst (λ (j : ℕ). In (turn j c) (own_of st)) (sym k.course.run.operation) i)

      by : (turned : StackState) (d : Cause) → HasFailedFor schemas turned st d → FailedBy entered.entries ordered es st d
      by turned (cause.Plan fault) f = tt
      by turned (cause.Export export) f = tt
      by turned (cause.Handler path why) f = record {
        token = f.token;
        answer = f.answer;
        before = f.before;
        after = f.after;
        stands =
            stands_so known f.token f.before f.after f.answer
            (subst (λ (j : ℕ). In (entry.Outcome j f.token f.answer f.before f.after) (own_of st)) k.course.run.operation f.stands);
        told = f.told;
        call = f.call;
        of_call = f.of_call;
        at_path = f.at_path;
        rose = f.rose;
      }

    -- and so had each path that is blamed
    blamed_for : KnownBefore → (path : List ℕ) → IsBlamedFor st path → (why : Reason) × CallFailed entered.entries ordered es st path why
    blamed_for known path b =
        let mapped = in_mapped reply_in (own_of st) b.reply b.stands in
        let (j, is) = outcome_of mapped.one b.reply mapped.same in
        let own : In (entry.Outcome j b.reply.token b.reply.answer b.reply.before b.reply.after) (own_of st) = subst (λ (e : Entry). In e (own_of st)) is mapped.of_list in
        let same : n ≡ j = eqb-true n j (own_number (entry.Outcome j b.reply.token b.reply.answer b.reply.before b.reply.after) own) in
        let (why, told) = some_reason b.reply.answer b.failed in (
          why,
          record {
            token = b.reply.token;
            answer = b.reply.answer;
            before = b.reply.before;
            after = b.reply.after;
            stands =
                stands_so known b.reply.token b.reply.before b.reply.after b.reply.answer
                (subst (λ (q : ℕ). In (entry.Outcome q b.reply.token b.reply.answer b.reply.before b.reply.after) (own_of st)) (sym same) own);
            told = told;
            call = b.call;
            of_call = b.of_call;
            at_path = b.at_path;
            rose = b.rose;
          },
        )

  -- An operation that begins with no entry but its beginning.
  module _ (j : ℕ) (stack : List ℕ) (b : Begun) (es : List Entry) (k : IsRunOf (order.Begin (entry.Begin j stack b)) es) (heard : k.start.entries ≡ entry.Begin j stack b ∷ [])
      (forward : is_rolled (begun b) ≡ false) where
    abbrev ordered : Order
    ordered = order.Begin (entry.Begin j stack b)

    begins_alone : (e : Entry) → In e k.start.entries → e ≡ entry.Begin j stack b
    begins_alone e i = in_one e (entry.Begin j stack b) (subst (In e) heard i)

    no_reply : (e : Entry) → In e k.start.entries → reply_in e ≡ None
    no_reply e i = ap reply_in (begins_alone e i)

    begun_known : KnownBefore ordered es k
    begun_known e i own = inl (no_reply e i)

    begun_tells : failed_of st ≡ k.course.over.failed
    begun_tells =
        tells_end ordered es k (ap (λ (l : List Entry). flat_map failed_in (filter (is_of j) l)) heard ∙ by (is_of j (entry.Begin j stack b))) where
          by : (q : Bool) → flat_map failed_in (cond q (entry.Begin j stack b ∷ []) []) ≡ []
          by true = refl
          by false = refl

    begun_back : is_rolled st.status ≡ true → TurnedNow g h m entered name ordered es st (cause_of st)
    begun_back rolled =
        let (c, i) = k.course.run.rolls rolled (ap is_rolled k.starts.status ∙ forward) in
        let (d, told) = first_some (filter_map cause_in (own_of st)) c (caused ordered es k c (turn_written ordered es k c i)) in
        let written : In (turn j d) es = elim (sides ordered es k (turn j d) (turn_own ordered es k d told)) [
          | inl q ↦ absurd (no_begin j j d stack b (begins_alone (turn j d) q))
          | inr q ↦ q
        ] in
        let (turned, calls, with_it) = k.course.run.turns d written in
        subst (λ (z : Cause). TurnedNow g h m entered name ordered es st z) (sym (told_cause ordered es k d told))
        (turned, failed_now ordered es k no_reply d turned calls with_it)

  -- An operation that an earlier command began.
  second_so : (a b : Bool) → (a && b) ≡ true → b ≡ true
  second_so true b q = q
  second_so false b q = absurd (true≢false (sym q))

  module _ (j : ℕ) (es : List Entry) (k : IsRunOf (order.Resume j) es) where
    abbrev was : StackState
    was = k.start

    was_here : stack_at name x ≡ Some was
    was_here = here_of j name x was k.starts.on

    was_known : known_stack name x ≡ was
    was_known = ap (λ (o : Option StackState). unwrap_or o no_stack) was_here

    was_number : was.operation ≡ j
    was_number = its_number j name x was k.starts.on

    resumed_known : KnownBefore (order.Resume j) es k
    resumed_known e i own = inr (heard_in_journal entered.entries name was was_here e i)

    abbrev told_before : List Cause
    told_before = filter_map cause_in (filter (is_of j) was.entries)

    abbrev told_after : List Cause
    told_after = filter_map cause_in (filter (is_of j) es)

    told_all : filter_map cause_in (own_of st) ≡ told_before ++ told_after
    told_all =
        ap (filter_map cause_in) (own_are (order.Resume j) es k) ∙ filter_map-append cause_in (filter (is_of j) was.entries) (filter (is_of j) es)

    own_before : filter_map cause_in (own_of was) ≡ told_before
    own_before = ap (λ (n : ℕ). filter_map cause_in (filter (is_of n) was.entries)) was_number

    resumed_back : is_turned_back st.status ≡ true → was_continued st ≡ false
        → TurnedNow g h m entered name (order.Resume j) es st (cause_of st)
        ⊎ (TurnedBefore g h m entered name (order.Resume j) es st (cause_of st) ⊎ IsUntold g h m (order.Resume j) st)
    resumed_back back not_continued = by (first_in told_before) refl (first_in told_after) refl where
      Ends : Cause → Type 0
      Ends c = TurnedNow g h m entered name (order.Resume j) es st c ⊎ (TurnedBefore g h m entered name (order.Resume j) es st c ⊎ IsUntold g h m (order.Resume j) st)

      by : (first : Option Cause) → first_in told_before ≡ first → (second : Option Cause) → first_in told_after ≡ second → Ends (cause_of st)
      by (Some c) q second p =
          let told : first_in (filter_map cause_in (own_of st)) ≡ Some c = ap first_in told_all ∙ first_both told_before told_after c q in
          subst Ends (sym (told_cause (order.Resume j) es k c told)) (inr (inl (record {
            wrote = ap (λ (z : StackState). first_in (filter_map cause_in (own_of z))) was_known ∙ ap first_in own_before ∙ q;
            turned = λ tells schemas all agree.
                subst (λ (n : ℕ). TurnsBack schemas empty_world n name entered.entries c) was_number
                (turned_then tells schemas all agree was c was_here (ap first_in own_before ∙ q));
            failed = λ agreed. failed_agreed (order.Resume j) es k resumed_known agreed c (turn_own (order.Resume j) es k c told);
          })))
      by None q (Some c) p =
          let told : first_in (filter_map cause_in (own_of st)) ≡ Some c = ap first_in told_all ∙ first_second told_before told_after q ∙ p in
          let own : In (turn j c) (own_of st) = turn_own (order.Resume j) es k c told in
          let written : In (turn j c) es = elim (sides (order.Resume j) es k (turn j c) own) [
            | inl i ↦
                let known : In c told_before = to_mapped cause_in (filter (is_of j) was.entries) (turn j c) c (in_kept (is_of j) was.entries (turn j c) i (eq-eqb j j refl)) refl in
                let never : In c [] = subst (In c) (none_first told_before q) known in elim never [ ]
            | inr i ↦ i
          ] in
          let (turned, calls, with_it) = k.course.run.turns c written in
          subst Ends (sym (told_cause (order.Resume j) es k c told))
          (inl (turned, λ agreed. failed_agreed (order.Resume j) es k resumed_known agreed c own))
      by None q None p = inr (inr (none_agreed, none_told)) where
        none_told : filter_map cause_in (own_of st) ≡ []
        none_told = told_all ∙ ap (λ (l : List Cause). l ++ told_after) (none_first told_before q) ∙ none_first told_after p

        none_agreed : HaveAgreed g h m → ⊥
        none_agreed (tells, schemas, all, agree) =
            let (c, i) = back_is_told schemas (at_rest ended.entries (all_as_told (handed_in h m.handlers') all)) name st (holds tells schemas all agree) here_now back not_continued in
            let known : In c (filter_map cause_in (own_of st)) = to_mapped cause_in (own_of st) (turn st.operation c) c i refl in
            let never : In c [] = subst (In c) none_told known in elim never [ ]

    resumed_tells : HaveAgreed g h m → failed_of st ≡ k.course.over.failed
    resumed_tells (tells, schemas, all, agree) =
        tells_end (order.Resume j) es k
        (ap (λ (n : ℕ). flat_map failed_in (filter (is_of n) was.entries)) (sym was_number)
        ∙ none_then tells schemas all agree was was_here (second_so (was.operation == j) (is_in_progress was.status) (is_on j name x was k.starts.on)))

  -- A continued rollback.
  module _ (j : ℕ) (stack : List ℕ) (paths : List (List ℕ)) (es : List Entry) (k : IsRunOf (order.Begin (entry.Begin j stack (begin.Continue paths))) es) where
    abbrev goes_on : Order
    goes_on = order.Begin (entry.Begin j stack (begin.Continue paths))

    abbrev begins_on : Entry
    begins_on = entry.Begin j stack (begin.Continue paths)

    abbrev known_before : List Entry
    known_before = (known_stack name x).entries

    is_next : j ≡ x.operation + 1
    is_next = k.prepared.2.0

    is_continued : was_continued st ≡ true
    is_continued =
        any_of is_continuation (own_of st) begins_on
        (own_now goes_on es k begins_on (in_start goes_on es k begins_on (subst (In begins_on) (sym k.starts.entries) (in_back begins_on known_before (begins_on ∷ []) here))) (eq-eqb j j refl)) refl

    -- what the stack heard before is of operations before it
    none_own : HaveAgreed g h m → (e : Entry) → In e known_before → is_of j e ≡ true → ⊥
    none_own (tells, schemas, all, agree) = by (stack_at name x) refl where
      by : (o : Option StackState) → stack_at name x ≡ o → (e : Entry) → In e (unwrap_or o no_stack).entries → is_of j e ≡ true → ⊥
      by None q e i own = elim i [ ]
      by (Some s) q e i own =
          let most = numbers_then tells schemas all agree s q e i j own in
          let next = is_next in
          omega (arith, most, next)

    continued_known : HaveAgreed g h m → KnownBefore goes_on es k
    continued_known agreed e i own = elim (in_either e known_before (begins_on ∷ []) (subst (In e) k.starts.entries i)) [
      | inl q ↦ absurd (none_own agreed e q own)
      | inr q ↦ inl (ap reply_in (in_one e begins_on q))
    ]

    none_kept : (fs : List Entry) → ((e : Entry) → In e fs → is_of j e ≡ true → ⊥) → filter (is_of j) fs ≡ []
    none_kept [] none = refl
    none_kept (f ∷ fs) none = by (is_of j f) refl (none_kept fs (λ e i own. none e (there i) own)) where
      by : (b : Bool) → is_of j f ≡ b → filter (is_of j) fs ≡ [] → cond b (f ∷ filter (is_of j) fs) (filter (is_of j) fs) ≡ []
      by true q rest = absurd (none f here q)
      by false q rest = rest

    continued_tells : HaveAgreed g h m → failed_of st ≡ k.course.over.failed
    continued_tells agreed =
        tells_end goes_on es k (
        ap (λ (l : List Entry). flat_map failed_in (filter (is_of j) l)) k.starts.entries
        ∙ ap (flat_map failed_in) (filter-append (is_of j) known_before (begins_on ∷ []))
        ∙ ap (λ (l : List Entry). flat_map failed_in (l ++ filter (is_of j) (begins_on ∷ []))) (none_kept known_before (none_own agreed))
        ∙ by (is_of j begins_on)
        ) where
          by : (b : Bool) → flat_map failed_in (cond b (begins_on ∷ []) []) ≡ []
          by true = refl
          by false = refl

  -- By what was ordered.
  abbrev Rolled : Order → List Entry → Type 0
  Rolled ordered es =
      TurnedNow g h m entered name ordered es st (cause_of st) ⊎ (TurnedBefore g h m entered name ordered es st (cause_of st) ⊎ IsUntold g h m ordered st)

  rolled_back : (ordered : Order) (es : List Entry) → IsRunOf ordered es → is_turned_back st.status ≡ true → is_rolled st.status ≡ true → was_continued st ≡ false → Rolled ordered es
  rolled_back (order.Begin (entry.Begin j stack (begin.Create source))) fs k back rolled not = inl (begun_back j stack (begin.Create source) fs k k.starts.entries refl rolled)
  rolled_back (order.Begin (entry.Begin j stack (begin.Update source))) fs k back rolled not = inl (begun_back j stack (begin.Update source) fs k k.starts.entries refl rolled)
  rolled_back (order.Begin (entry.Begin j stack (begin.Delete paths))) fs k back rolled not = inl (begun_back j stack (begin.Delete paths) fs k k.starts.entries refl rolled)
  rolled_back (order.Begin (entry.Begin j stack (begin.Continue paths))) fs k back rolled not = absurd (true≢false (sym (is_continued j stack paths fs k) ∙ not))
  rolled_back (order.Resume j) fs k back rolled not = resumed_back j fs k back not
  rolled_back (order.Review e) fs k back rolled not = absurd k.on_stack
  rolled_back (order.Begin (entry.Opened epoch lanes)) fs k back rolled not = absurd k.on_stack
  rolled_back (order.Begin (entry.ChangeSet n stack source rows outputs)) fs k back rolled not = absurd k.on_stack
  rolled_back (order.Begin (entry.Kept n path physical why)) fs k back rolled not = absurd k.on_stack
  rolled_back (order.Begin (entry.Intent n token lane path request)) fs k back rolled not = absurd k.on_stack
  rolled_back (order.Begin (entry.Outcome n token answer before after)) fs k back rolled not = absurd k.on_stack
  rolled_back (order.Begin (entry.Phase n phase cause)) fs k back rolled not = absurd k.on_stack
  rolled_back (order.Begin (entry.Done n status failed)) fs k back rolled not = absurd k.on_stack

  tells_by : (ordered : Order) (es : List Entry) (k : IsRunOf ordered es) → TellsEnd g h m ordered (failed_of st) k.course.over.failed
  tells_by (order.Begin (entry.Begin j stack (begin.Create source))) fs k = begun_tells j stack (begin.Create source) fs k k.starts.entries refl
  tells_by (order.Begin (entry.Begin j stack (begin.Update source))) fs k = begun_tells j stack (begin.Update source) fs k k.starts.entries refl
  tells_by (order.Begin (entry.Begin j stack (begin.Delete paths))) fs k = λ told. begun_tells j stack (begin.Delete paths) fs k k.starts.entries refl
  tells_by (order.Begin (entry.Begin j stack (begin.Continue paths))) fs k = λ told. continued_tells j stack paths fs k told
  tells_by (order.Resume j) fs k = λ told. resumed_tells j fs k told
  tells_by (order.Review e) fs k = absurd k.on_stack
  tells_by (order.Begin (entry.Opened epoch lanes)) fs k = absurd k.on_stack
  tells_by (order.Begin (entry.ChangeSet n stack source rows outputs)) fs k = absurd k.on_stack
  tells_by (order.Begin (entry.Kept n path physical why)) fs k = absurd k.on_stack
  tells_by (order.Begin (entry.Intent n token lane path request)) fs k = absurd k.on_stack
  tells_by (order.Begin (entry.Outcome n token answer before after)) fs k = absurd k.on_stack
  tells_by (order.Begin (entry.Phase n phase cause)) fs k = absurd k.on_stack
  tells_by (order.Begin (entry.Done n status failed)) fs k = absurd k.on_stack

  known_by : (ordered : Order) (es : List Entry) (k : IsRunOf ordered es) → HaveAgreed g h m → KnownBefore ordered es k
  known_by (order.Begin (entry.Begin j stack (begin.Create source))) fs k told = begun_known j stack (begin.Create source) fs k k.starts.entries refl
  known_by (order.Begin (entry.Begin j stack (begin.Update source))) fs k told = begun_known j stack (begin.Update source) fs k k.starts.entries refl
  known_by (order.Begin (entry.Begin j stack (begin.Delete paths))) fs k told = begun_known j stack (begin.Delete paths) fs k k.starts.entries refl
  known_by (order.Begin (entry.Begin j stack (begin.Continue paths))) fs k told = continued_known j stack paths fs k told
  known_by (order.Resume j) fs k told = resumed_known j fs k
  known_by (order.Review e) fs k told = absurd k.on_stack
  known_by (order.Begin (entry.Opened epoch lanes)) fs k told = absurd k.on_stack
  known_by (order.Begin (entry.ChangeSet n stack source rows outputs)) fs k told = absurd k.on_stack
  known_by (order.Begin (entry.Kept n path physical why)) fs k told = absurd k.on_stack
  known_by (order.Begin (entry.Intent n token lane path request)) fs k told = absurd k.on_stack
  known_by (order.Begin (entry.Outcome n token answer before after)) fs k told = absurd k.on_stack
  known_by (order.Begin (entry.Phase n phase cause)) fs k told = absurd k.on_stack
  known_by (order.Begin (entry.Done n status failed)) fs k told = absurd k.on_stack

  blamed_by : (ordered : Order) (es : List Entry) (k : IsRunOf ordered es) → (HaveAgreed g h m → IsBlamed st (failed_of st)) → FailedAt g h m entered ordered es st (failed_of st)
  blamed_by ordered es k blamed agreed path i = blamed_for ordered es k (known_by ordered es k agreed) path ((blamed agreed).each path i)

  -- all of it
  module _ (r : HasRun g m.library entered ended name t) where
    abbrev run_of : IsRunOf r.ordered r.wrote.es
    run_of = record {
      on_stack = r.orders.on_stack;
      prepared = r.orders.prepared;
      start = (start r).0;
      starts = (start r).1;
      steps = steps r;
      course = runs r;
      count = has_count r;
    }

    pub because : EndsBy g h m name (wrote r) st (exit_for st)
    because = by st.status refl (runs r).ends where
      back : (b : Bool) → was_continued st ≡ b → is_turned_back st.status ≡ true → is_rolled st.status ≡ true
          → EndsBy g h m name (wrote r) st (cond b exit.Done (exit.RolledBack (cause_of st)))
      back true c turned rolled = tt
      back false c turned rolled = rolled_back r.ordered r.wrote.es run_of turned rolled c

      failed : (HaveAgreed g h m → IsBlamed st (failed_of st)) → EndsBy g h m name (wrote r) st (exit.Failed (failed_of st))
      failed blamed = (tells_by r.ordered r.wrote.es run_of, blamed_by r.ordered r.wrote.es run_of blamed)

      Blames : Status → Type 0
      Blames z = HaveAgreed g h m → (lanes : List Lane) × Promised z name (world_left ended.entries) st lanes

      kept : Blames st.status
      kept (tells, schemas, all, agree) = (all_as_told (handed_in h m.handlers') all, promised tells schemas all agree)

      by : (z : Status) → st.status ≡ z → is_end z ≡ true → EndsBy g h m name (wrote r) st (exit_by st z)
      by status.CreateComplete q e = tt
      by status.UpdateComplete q e = tt
      by status.DeleteComplete q e = tt
      by status.RollbackComplete q e = back (was_continued st) refl (ap is_turned_back q) (ap is_rolled q)
      by status.UpdateRollbackComplete q e = back (was_continued st) refl (ap is_turned_back q) (ap is_rolled q)
      by status.RollbackFailed q e = failed (λ agreed. (subst Blames q kept agreed).1)
      by status.UpdateRollbackFailed q e = failed (λ agreed. (subst Blames q kept agreed).1)
      by status.DeleteFailed q e = failed (λ agreed. (subst Blames q kept agreed).1)
      by status.CreateInProgress q e = absurd (true≢false (sym e))
      by status.RollbackInProgress q e = absurd (true≢false (sym e))
      by status.UpdateInProgress q e = absurd (true≢false (sym e))
      by status.UpdateCompleteCleanupInProgress q e = absurd (true≢false (sym e))
      by status.UpdateRollbackInProgress q e = absurd (true≢false (sym e))
      by status.UpdateRollbackCompleteCleanupInProgress q e = absurd (true≢false (sym e))
      by status.DeleteInProgress q e = absurd (true≢false (sym e))
      by status.ReviewInProgress q e = absurd (true≢false (sym e))
