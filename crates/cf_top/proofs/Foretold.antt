-- The rows of a change set that is executed tell each call that is made as the operation goes forward.
use Rattle.std.proofs.Common.{◌≡◌, ℕ, ◌+◌, ◌≤◌, Bool, true, false, cond, not, List, [], ◌∷◌, ◌++◌, Option, Some, None, filter, map, refl, sym, ◌∙◌, ap, subst, true≢false, unwrap_or, arith}
use Rattle.std.specs.Option.{option_map_or}
use Rattle.std.proofs.lemmas.List.{append-nil, append_assoc}
use Rattle.cf_tree.specs.Lists.{In}
use Rattle.cf_tree.specs.declared.request.Request.{Request}
use Rattle.cf_tree.specs.declared.row.Row.{Row}
use Rattle.cf_tree.specs.declared.source.Source.{Source}
use Rattle.cf_schema.specs.declared.described.Schema.{Schema}
use Rattle.cf_schema.specs.Kinds.{found}
use Rattle.cf_change.specs.Changes.{Changes, HeldAt, RowsFound, changes_by, changes_of}
use Rattle.cf_desired.specs.Plan.{plan_of}
use Rattle.cf_entry.proofs.Codec.{some_is}
use Rattle.cf_entry.specs.declared.entry.Begun.{Begun}
use Rattle.cf_entry.specs.declared.entry.Begun.TheVariants as begin
use Rattle.cf_entry.specs.declared.entry.Entry.{Entry}
use Rattle.cf_entry.specs.declared.entry.Entry.TheVariants as entry
use Rattle.cf_entry.specs.declared.status.Status.{Status}
use Rattle.cf_effect.specs.Begin.{source_for}
use Rattle.cf_effect.specs.Calls.{is_call}
use Rattle.cf_effect.specs.Effect.{leaving}
use Rattle.cf_effect.specs.Fold.{effect_at, fold_of, stack_for, world_after}
use Rattle.cf_effect.specs.Status.{goes_forward, is_in_progress}
use Rattle.cf_effect.specs.World.{StackState, World, empty_world, is_going, known_stack, no_stack, stack_at}
use Rattle.cf_effect.specs.declared.held.Held.{Held}
use Rattle.cf_effect.specs.declared.held.Pending.{Pending}
use Rattle.cf_stacks.proofs.Apart.{stay_apart}
use Rattle.cf_stacks.proofs.Folded.{folded_more}
use Rattle.cf_stacks.proofs.Worlds.{found_stands}
use Rattle.cf_stacks.specs.Apart.{AreApart}
use Rattle.cf_plan.proofs.Causing.{map_in}
use Rattle.cf_plan.proofs.CreatedRight.{in_filter}
use Rattle.cf_plan.proofs.CreatedStays.{found_one}
use Rattle.cf_plan.proofs.SameAccepted.{same_found}
use Rattle.cf_plan.specs.Accept.{changes_on, creates_from, exports_by, held_as, held_by, with_imports}
use Rattle.cf_plan.specs.Follow.{IsLegal, MayFollow, begins_from, lane_kinds, set_number}
use Rattle.cf_plan.specs.Life.{Life, world_of}
use Rattle.cf_core.specs.Advancing.{IsAdvancing, changes_begun}
use Rattle.cf_core.specs.Fits.{BecomesBy, IsWritten, at_opening, other, own}
use Rattle.cf_core.specs.Foretold.{AreTold, IsTold, row_at, source_begun}
use Rattle.cf_core.specs.Hiding.{AreDescribed}
use Rattle.cf_core.specs.OnCourse.{IsOnWay}
use Rattle.cf_core.specs.Theorem.{HoldsAlways}
use Rattle.cf_core.specs.Written as to
use Rattle.cf_core.specs.Written.{IsTo}
use Rattle.cf_core.proofs.AdvSteps.{begins_ahead, course_is_free, none_begins}
use Rattle.cf_core.proofs.Always.{none_on_way}
use Rattle.cf_core.proofs.Each.{next_number, none_apart}
use Rattle.cf_core.proofs.FitKept.{at_known}
use Rattle.cf_core.proofs.HidCalls.{advancing_stays}
use Rattle.cf_core.proofs.Moving.{beginning_name, numbered_so, written_is_to}
use Rattle.cf_core.proofs.NamedLanes.{advancing}
use Rattle.cf_core.proofs.Operations.{begun_operation, own_operation}
use Rattle.cf_core.proofs.Sent.{sent_by_its_row}
use Rattle.cf_core.proofs.ToldCalls.{calls_begin_told, calls_stay_told}
use Rattle.cf_core.proofs.ToldRows.{begun_told}
use Rattle.cf_prepare.proofs.Follows.{changes_same, none_first}
use Rattle.cf_prepare.specs.Orders.{IsWritten as IsGiven, kind_by}
use Rattle.cf_prepare.specs.Refusals.{execute_refusal, proposal, proposed_changes, source_refusals}
use Rattle.cf_prepare.specs.Answer.{first_of}
use Rattle.cf_lane.specs.Calling.{Granted}
use Rattle.cf_book.proofs.Told.{tells_held}
use Rattle.cf_book.specs.Granting.{IsOpenCall}
use Rattle.cf_book.specs.Lives.{DescribeLanes, NamesLanes}
use Rattle.cf_book.specs.Record.{world_left}
use Rattle.cf_book.specs.State.{BookLane}
use Rattle.cf_workers.specs.Ordering.{schemas_in}
use Rattle.cf_top.proofs.Moments.{AreWrittenBehind, IsMoment, IsWrittenBehind, first_written, written_further}

-- The last number of an operation never falls.
module _ (schemas : List Schema) where
  left_operation : (x : World) (e : Entry) (o : Option (List ℕ × StackState))
      → (option_map_or (λ (s : List ℕ × StackState). leaving s.0 (effect_at (x.place + 1) e s.1) x) o x).operation ≡ x.operation
  left_operation x e None = refl
  left_operation x e (Some s) = refl

  same_or_more : (x y : World) → y.operation ≡ x.operation → x.operation ≤ y.operation
  same_or_more x y same = omega (arith, same)

  rises : (x : World) (out : List ℕ) (e : Entry) → MayFollow schemas x out e → x.operation ≤ (world_after x e).operation
  rises x out (entry.Opened epoch lanes) may = same_or_more x (world_after x (entry.Opened epoch lanes)) refl
  rises x out (entry.Begin number name k) may = let next : number ≡ x.operation + 1 = may.0 in omega (arith, next)
  rises x out (entry.ChangeSet number name source rows outputs) may =
      same_or_more x (world_after x (entry.ChangeSet number name source rows outputs))
      (left_operation x (entry.ChangeSet number name source rows outputs) (stack_for (entry.ChangeSet number name source rows outputs) x))
  rises x out (entry.Kept n path physical w) may =
      same_or_more x (world_after x (entry.Kept n path physical w)) (left_operation x (entry.Kept n path physical w) (stack_for (entry.Kept n path physical w) x))
  rises x out (entry.Intent n token lane path r) may =
      same_or_more x (world_after x (entry.Intent n token lane path r)) (left_operation x (entry.Intent n token lane path r) (stack_for (entry.Intent n token lane path r) x))
  rises x out (entry.Outcome n token a before after) may =
      same_or_more x (world_after x (entry.Outcome n token a before after))
      (left_operation x (entry.Outcome n token a before after) (stack_for (entry.Outcome n token a before after) x))
  rises x out (entry.Phase n p c) may =
      same_or_more x (world_after x (entry.Phase n p c)) (left_operation x (entry.Phase n p c) (stack_for (entry.Phase n p c) x))
  rises x out (entry.Done n state failed) may =
      same_or_more x (world_after x (entry.Done n state failed)) (left_operation x (entry.Done n state failed) (stack_for (entry.Done n state failed) x))

  all_rise : (es : List Entry) (x : World) → IsLegal schemas x es → x.operation ≤ (fold_of x es).operation
  all_rise [] x legal = omega arith
  all_rise (e ∷ es) x ((out, may), legal) =
      let first = rises x out e may in
      let more = all_rise es (world_after x e) legal in
      omega (arith, first, more)

  apart_in : (es more : List Entry) (x : World) → AreApart x → IsLegal schemas x (es ++ more)
      → AreApart (fold_of x es) × ((fold_of x es).operation ≤ (fold_of x (es ++ more)).operation)
  apart_in [] more x apart legal = (apart, all_rise more x legal)
  apart_in (e ∷ es) more x apart ((out, may), legal) =
      apart_in es more (world_after x e) (stay_apart x e apart (next_number schemas out x e may)) legal

  -- so it is behind the first entries of a journal
  pub apart_before : (es more : List Entry) → IsLegal schemas empty_world (es ++ more)
      → AreApart (world_left es) × ((world_left es).operation ≤ (world_left (es ++ more)).operation)
  apart_before es more legal = apart_in es more empty_world none_apart legal

-- a stack that goes forward is there
forward_there : (x : World) (name : List ℕ) → goes_forward (known_stack name x).status ≡ true → stack_at name x ≡ Some (known_stack name x)
forward_there x name = by (stack_at name x) where
  by : (o : Option StackState) → goes_forward (unwrap_or o no_stack).status ≡ true → o ≡ Some (unwrap_or o no_stack)
  by None f = absurd (true≢false (sym f))
  by (Some s) f = refl

-- what is written as it goes forward leaves the number of its operation
operation_stays : {schemas : List Schema} {x : World} {out : List ℕ} {name : List ℕ} {s : StackState} {e : Entry} {t : StackState} → IsTo schemas x out name s e t
    → goes_forward s.status ≡ true → t.operation ≡ s.operation
operation_stays {x = x} {s = s} (to.step {e = e} stage at is_own may) on = own_operation (x.place + 1) s.operation e is_own s
operation_stays {s = s} (to.begins k from by) on = absurd (none_begins k s.status on from)
operation_stays (to.reviewed number source rows outputs from) on = refl
operation_stays (to.opened epoch lanes) on = refl
operation_stays to.other on = refl

-- no operation begins while one is in progress
begins_idle : (k : Begun) (a : Status) → begins_from k a ≡ true → is_in_progress a ≡ false
begins_idle k a e = grind arith

-- The rows are those of the change set by which an operation of this number began.
module _ (schemas : List Schema) (number : ℕ) (rows : List Row) where
  abbrev IsToldBy : StackState → Source → Type 0
  IsToldBy s source = AreTold schemas s source × ((changes_begun schemas s source).rows ≡ rows)

  -- Over these entries, as the operation goes forward, the rows are those of its change set, and tell all calls that it has made.
  abbrev pub AreToldOver : List Entry → Type 0
  AreToldOver es =
      (name : List ℕ) (s : StackState) (source : Source) → stack_at name (world_left es) ≡ Some s → s.operation ≡ number → goes_forward s.status ≡ true
      → IsAdvancing schemas s source → IsToldBy s source

  module _ (es : List Entry) (e : Entry) (w : IsWrittenBehind schemas es e) where
    abbrev x : World
    x = world_left es

    described : AreDescribed schemas x
    described = subst (λ ds. AreDescribed schemas (world_left ds)) w.moment.entries w.moment.holds.described

    way : (name : List ℕ) (s : StackState) → stack_at name x ≡ Some s → IsOnWay schemas name x s
    way =
        subst (λ ds. (name : List ℕ) (s : StackState) → stack_at name (world_left ds) ≡ Some s → IsOnWay schemas name (world_left ds) s) w.moment.entries
        w.moment.holds.way

    apart : AreApart x
    apart = subst (λ ds. AreApart (world_left ds)) w.moment.entries w.moment.holds.sound.orderly.apart

    writes : (name : List ℕ) (t : StackState) → stack_at name (world_left (es ++ e ∷ [])) ≡ Some t → IsWritten schemas x w.out e name (known_stack name x) t
    writes name t at = w.written name t (ap (stack_at name) (folded_more empty_world es e) ∙ at)

    same_number : (name : List ℕ) (t : StackState) → IsWritten schemas x w.out e name (known_stack name x) t → goes_forward (known_stack name x).status ≡ true
        → t.operation ≡ (known_stack name x).operation
    same_number name t written on = operation_stays (written_is_to schemas x w.out e name (known_stack name x) t written) on

    -- it goes on
    goes_on : AreToldOver es → (name : List ℕ) (t : StackState) (source : Source) → IsWritten schemas x w.out e name (known_stack name x) t → t.operation ≡ number
        → goes_forward t.status ≡ true → IsAdvancing schemas t source → goes_forward (known_stack name x).status ≡ true → IsToldBy t source
    goes_on h name t source written mine on a was =
        let s : StackState = known_stack name x in
        let here = forward_there x name was in
        let k = way name s here in
        let (from, advances) = advancing schemas name x s s.status was k.course.stage in
        let stays = advancing_stays schemas x w.out e name s t from written was on advances k.supported.ordered described in
        let same : from ≡ source = some_is from source (sym stays.advancing.going ∙ a.going) in
        let (told, its) = h name s from here (sym (same_number name t written was) ∙ mine) was advances in
        subst (IsToldBy t) same (
          calls_stay_told schemas x w.out e name s t from written was on advances k.supported.ordered described told,
          ap (λ (hs : List Held). (changes_of schemas (map held_as (filter (λ h. not h.superseded) hs)) [] [] from).rows) stays.before ∙ its,
        )

    told_on : number ≤ x.operation → AreToldOver es → AreToldOver (es ++ e ∷ [])
    told_on above h name t source at mine on a = by (goes_forward (known_stack name x).status) refl where
      s : StackState
      s = known_stack name x

      written : IsWritten schemas x w.out e name s t
      written = writes name t at

      by : (b : Bool) → goes_forward s.status ≡ b → IsToldBy t source
      by true was = goes_on h name t source written mine on a was
      by false waits =
          let (k, from, by_it, is) = begins_ahead written waits on in
          let new = begun_operation (x.place + 1) (x.operation + 1) name k s in
          let its : (effect_at (x.place + 1) (entry.Begin (x.operation + 1) name k) s).stack.operation ≡ number = ap (λ (u : StackState). u.operation) is ∙ mine in
          absurd (omega (arith, above, new, its))

    risen : number ≤ x.operation → number ≤ (world_left (es ++ e ∷ [])).operation
    risen above =
        let up = rises schemas x w.out e w.may in
        let same = ap (λ (y : World). y.operation) (folded_more empty_world es e) in
        omega (arith, above, up, same)

  -- so it is behind each of the entries that follow
  pub told_behind : (all between more es : List Entry) → AreWrittenBehind schemas all es → all ≡ es ++ (between ++ more) → number ≤ (world_left es).operation → AreToldOver es
      → AreToldOver (es ++ between)
  told_behind all [] more es w q above h = subst AreToldOver (sym (append-nil es)) h
  told_behind all (e ∷ between) more es w q above h =
      let one : IsWrittenBehind schemas es e = first_written schemas all es e (between ++ more) w q in
      subst AreToldOver (append_assoc es (e ∷ []) between)
      (told_behind all between more (es ++ e ∷ []) (written_further schemas all es e w) (q ∙ sym (append_assoc es (e ∷ []) (between ++ more)))
      (risen es e one above) (told_on es e one above h))

  -- It begins.
  module _ (es : List Entry) (stack : List ℕ) (k : Begun) (w : IsWrittenBehind schemas es (entry.Begin number stack k)) (next : number ≡ (world_left es).operation + 1)
      (its : (source : Source) → source_begun (world_left es) stack k ≡ Some source
      → (changes_on schemas stack (world_left es) (known_stack stack (world_left es)) source).rows ≡ rows) where
    abbrev y : World
    y = world_left es

    abbrev begun : StackState → StackState
    begun s = (effect_at (y.place + 1) (entry.Begin number stack k) s).stack

    becomes_so : {name : List ℕ} {s u : StackState} → BecomesBy y (entry.Begin number stack k) name s u → goes_forward s.status ≡ false → goes_forward u.status ≡ true
        → (stack ≡ name) × (begun s ≡ u)
    becomes_so {name} {s} (own f) waits on = (beginning_name schemas y w.out name s number stack k f, refl)
    becomes_so (at_opening opens) waits on = absurd (true≢false (sym opens))
    becomes_so (other new never) waits on = absurd (true≢false (sym on ∙ waits))

    goes_by : (c : Begun) (s t : StackState) (source : Source) → known_stack stack y ≡ s → (effect_at (y.place + 1) (entry.Begin number stack c) s).stack ≡ t
        → goes_forward t.status ≡ true → t.going ≡ Some source → source_begun y stack c ≡ Some source
    goes_by (begin.Create c) s t source was is on going =
        ap (λ n. Some (source_for stack n c)) (sym next) ∙ ap (λ (u : StackState). u.going) is ∙ going
    goes_by (begin.Update c) s t source was is on going =
        ap (λ (u : StackState). Some (source_for stack u.number c)) was ∙ ap (λ (u : StackState). u.going) is ∙ going
    goes_by (begin.Delete paths) s t source was is on going = absurd (true≢false (sym on ∙ ap (λ (u : StackState). goes_forward u.status) (sym is)))
    goes_by (begin.Continue paths) s t source was is on going = absurd (true≢false (sym on ∙ ap (λ (u : StackState). goes_forward u.status) (sym is)))

    starts : (t : StackState) (source : Source) → IsWritten schemas y w.out (entry.Begin number stack k) stack (known_stack stack y) t → begun (known_stack stack y) ≡ t
        → goes_forward t.status ≡ true → IsAdvancing schemas t source → IsToldBy t source
    starts t source written is on a =
        let s : StackState = known_stack stack y in
        let on_way = at_known (λ (u : StackState). IsOnWay schemas stack y u) y stack (none_on_way schemas stack y) (way es (entry.Begin number stack k) w stack) in
        let by_it = goes_by k s t source refl is on a.going in (
          calls_begin_told schemas y w.out (entry.Begin number stack k) stack s t source written (begins_idle k s.status written.may.1) on
              (course_is_free schemas stack y s on_way.course.stage),
          begun_told schemas y w.out number stack k s t source written by_it ∙ its source by_it,
        )

    pub told_begun : AreToldOver (es ++ entry.Begin number stack k ∷ [])
    told_begun name t source at mine on a = by (goes_forward (known_stack name y).status) refl where
      s : StackState
      s = known_stack name y

      written : IsWritten schemas y w.out (entry.Begin number stack k) name s t
      written = writes es (entry.Begin number stack k) w name t at

      by : (b : Bool) → goes_forward s.status ≡ b → IsToldBy t source
      by true was =
          let low = (apart es (entry.Begin number stack k) w).last name s (forward_there y name was) in
          let same = same_number es (entry.Begin number stack k) w name t written was in
          absurd (omega (arith, low, same, mine, next))
      by false waits =
          let (named, is) = becomes_so written.becomes waits on in
          subst (λ n. IsWritten schemas y w.out (entry.Begin number stack k) n (known_stack n y) t → begun (known_stack n y) ≡ t → IsToldBy t source) named
          (λ v q. starts t source v q on a) written is

  -- A call is open as its operation goes forward: the row of its path tells it.
  module _ (es : List Entry) (m : IsMoment schemas es) (h : AreToldOver es) (lane : List ℕ) (call : Granted) (opens : IsOpenCall es lane call) (mine : call.number ≡ number)
      (on : goes_forward opens.stack.status ≡ true) where
    abbrev z : World
    z = world_left es

    abbrev p : Pending
    p = record { token = call.token; path = opens.path; lane = lane; request = call.request }

    pub call_told : (n : ℕ) (path : List ℕ) → In (entry.Intent n call.token lane path call.request) es → IsTold (row_at path rows) call.request
    call_told n path intent =
        let s : StackState = opens.stack in
        let apart_at : AreApart z = subst (λ ds. AreApart (world_left ds)) m.entries m.holds.sound.orderly.apart in
        let here : stack_at opens.name z ≡ Some s = found_stands (λ (q : List ℕ × StackState). is_going call.number q.1) z.stacks (opens.name, s) apart_at.names opens.going in
        let there : stack_at opens.name (world_of m.life) ≡ Some s = ap (λ ds. stack_at opens.name (world_left ds)) m.entries ∙ here in
        let (row, found_so, of_it) = (m.holds.sound.fitted opens.name s there).rows p opens.pending in
        let (source, advances) = advancing schemas opens.name (world_of m.life) s s.status on (m.holds.way opens.name s there).course.stage in
        let (told, its) = h opens.name s source here (sym (numbered_so schemas z [] opens.name s call.number opens.going) ∙ mine) on advances in
        let sent = sent_by_its_row schemas m.life opens.name s call.token row m.holds there found_so n lane path call.request
        (subst (In (entry.Intent n call.token lane path call.request)) (sym m.entries) intent) in
        let at_row : IsTold (row_at row.path (changes_begun schemas s source).rows) row.request = told row (found_one (is_call call.token) s.ledger row found_so).0 in
        subst (λ rs. IsTold (row_at path rs) call.request) its
        (subst (λ q. IsTold (row_at q (changes_begun schemas s source).rows) call.request) sent.path_is
        (subst (λ (r : Request). IsTold (row_at row.path (changes_begun schemas s source).rows) r) sent.request_is at_row))

-- What a set's source changes by the schemas of the lanes that are handed in, it does by those of all lanes.
module _ (schemas : List Schema) (lanes : List BookLane) (life : Life) (described : DescribeLanes schemas lanes) (named : NamesLanes lanes (world_of life))
    (holds : HoldsAlways schemas life) (name : List ℕ) where
  abbrev v : World
  v = world_of life

  abbrev known : StackState
  known = known_stack name v

  held_same : (h : HeldAt) → In h (held_by known) → Unit {0} → found h.kind (schemas_in lanes) ≡ found h.kind schemas
  held_same h i u =
      let (r, j, e) = map_in held_as h (filter (λ (b : Held). not b.superseded) known.held) i in
      subst (λ (q : HeldAt). found q.kind (schemas_in lanes) ≡ found q.kind schemas) e
      (tells_held schemas lanes life described named holds name r (in_filter (λ (b : Held). not b.superseded) known.held r j).0)

  changes_alike : (source : Source) → changes_on schemas name v known source ≡ changes_on (schemas_in lanes) name v known source
  changes_alike source =
      ap (λ (f : RowsFound). changes_by (held_by known) known.outputs (exports_by name v) f (plan_of source f.seen))
      (sym (same_found (schemas_in lanes) schemas (held_by known) (λ k. Unit {0}) held_same source (λ m i. tt)))

  -- So the beginning of its operation has the rows of the set.
  module _ (source written : Source) (set_rows : List Row) (sound : execute_refusal (schemas_in lanes) v name source ≡ None)
      (same : (proposed_changes (schemas_in lanes) v name source).rows ≡ set_rows) (given : IsGiven (schemas_in lanes) v name source written) where
    begun_source : (b : Bool) → source_begun v name (cond b (begin.Create written) (begin.Update written)) ≡ Some (source_for name (cond b (v.operation + 1) known.number) written)
    begun_source true = refl
    begun_source false = refl

    worked : source_for name (set_number v known) written ≡ with_imports (proposal v name source) written.imports
    worked = ap (λ (q : Source). source_for name (set_number v known) q) given.rest

    pub rows_begun : (by_it : Source) → source_begun v name (kind_by known written) ≡ Some by_it → (changes_on schemas name v known by_it).rows ≡ set_rows
    rows_begun by_it q =
        let is : by_it ≡ with_imports (proposal v name source) written.imports =
        some_is by_it (source_for name (set_number v known) written) (sym q ∙ begun_source (creates_from known.status)) ∙ worked in
        let none = none_first (first_of (source_refusals (lane_kinds v) (schemas_in lanes) v name source)) _ sound in
        ap (λ (c : Changes). c.rows) (changes_alike by_it)
        ∙ ap (λ (w : Source). (changes_on (schemas_in lanes) name v known w).rows) is
        ∙ ap (λ (c : Changes). c.rows) (changes_same (lane_kinds v) (schemas_in lanes) v name source written.imports none given.uses) ∙ same
