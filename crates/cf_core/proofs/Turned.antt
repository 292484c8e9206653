-- An operation that has turned back had the cause that is told, as it stood then; and where that is a handler, the call that failed it is one of
-- its own.
use Rattle.std.proofs.Common.{◌≡◌, ◌⊎◌, inl, inr, ℕ, ◌+◌, ◌≤◌, true, false, List, [], ◌∷◌, ◌++◌, Option, Some, None, refl, sym, ap, subst, ◌∙◌, true≢false, arith}
use Rattle.std.specs.List.{filter_map}
use Rattle.cf_tree.specs.Lists.{first_in}
use Rattle.cf_core.proofs.Words.{Begun, Cause, EndsAs, Entry, Forward, In, IsLegal, IsOwn, IsTo, Life, MayFollowIn, MayTurn, Phase, Reason, Reply, Response, Schema, StackState, Stage, Status, World, call_under, effect_at, empty_world, entries_with, fold_of, goes_forward, here, is_of, is_opening, is_success, known_stack, no_stack, own_of, reply_in, reviewed, settled_by, stack_at, stage_of, turned, unwrap_or, world_of}
use Rattle.cf_core.proofs.Lemmas.{any_of, append_assoc, eq-eqb, eqb-true, in_end, in_filter, in_front, in_kept, in_mapped, in_one, some_is, some_of, to_mapped}
use Rattle.cf_core.proofs.Alike.{KeepsCalls, call_there, calls_anew, paths_of, same_calls, terms_stay}
use Rattle.cf_core.proofs.{AdvSteps.only_forward, AdvSteps.turned_back, BlameStays.in_opened, Each.legal_all, Failing.failing_says, Heard.heard_of}
use Rattle.cf_core.proofs.Statuses.{ended_status, intended_status, kept_status, replied_status, turned_status}
use Rattle.cf_core.specs.Turned.{BackIsTold, HasFailedFor, NoneFailedYet, TurnsBack, TurnsHadCause, cause_in, is_continuation, is_turned_back, reason_in, was_continued}
use Rattle.cf_core.specs.Theorem.{HoldsAlways}
use Rattle.cf_core.specs.Written as to
use Rattle.cf_plan.specs.Forward.{IsCause, first_failing, path_of_token}

-- While a stack goes forward, all its entries but the openings are of the operation in progress.
abbrev IsOfNow : StackState → Type 0
IsOfNow s = goes_forward s.status ≡ true → (e : Entry) → In e s.entries → (is_opening e ≡ true) ⊎ (is_of s.operation e ≡ true)

own_is_of : (n : ℕ) (e : Entry) → IsOwn n e → is_of n e ≡ true
own_is_of n (Entry.Kept m path physical w) own = eq-eqb n m (sym own)
own_is_of n (Entry.Intent m token lane path r) own = eq-eqb n m (sym own)
own_is_of n (Entry.Outcome m token a before after) own = eq-eqb n m (sym own)
own_is_of n (Entry.Phase m p c) own = eq-eqb n m (sym own)
own_is_of n (Entry.Done m state failed) own = eq-eqb n m (sym own)
own_is_of n e own = absurd own

review_forward : (z : Status) → goes_forward (reviewed z) ≡ true → goes_forward z ≡ true
review_forward Status.DeleteComplete h = absurd (true≢false (sym h))
review_forward z h = h

module _ (schemas : List Schema) (name : List ℕ) (x : World) (s : StackState) where
  -- no end goes forward
  ends_rest : (a b : Status) → EndsAs schemas name x s a b → goes_forward b ≡ false
  ends_rest Status.CreateInProgress Status.CreateComplete e = refl
  ends_rest Status.RollbackInProgress Status.RollbackComplete e = refl
  ends_rest Status.RollbackInProgress Status.RollbackFailed e = refl
  ends_rest Status.DeleteInProgress Status.DeleteComplete e = refl
  ends_rest Status.DeleteInProgress Status.DeleteFailed e = refl
  ends_rest Status.UpdateCompleteCleanupInProgress Status.UpdateComplete e = refl
  ends_rest Status.UpdateRollbackCompleteCleanupInProgress Status.UpdateRollbackComplete e = refl
  ends_rest Status.UpdateRollbackInProgress Status.UpdateRollbackFailed e = refl
  ends_rest a b e = absurd e

  -- what goes forward behind an entry of an operation went forward before it
  went_forward : (out : List ℕ) (stage : Stage) (e : Entry) → IsOwn s.operation e → MayFollowIn schemas name x out s stage e
      → goes_forward (effect_at (x.place + 1) e s).stack.status ≡ true → goes_forward s.status ≡ true
  went_forward out stage (Entry.Kept n path physical w) own may h = ap goes_forward (sym (kept_status path physical w s)) ∙ h
  went_forward out stage (Entry.Intent n token lane path r) own may h =
      ap goes_forward (sym (intended_status n (record { token = token; path = path; lane = lane; request = r }) s)) ∙ h
  went_forward out stage (Entry.Outcome n token a before after) own may h = ap goes_forward (sym (replied_status token a s)) ∙ h
  went_forward out stage (Entry.Phase n p c) own may h =
      absurd (true≢false (sym h ∙ ap goes_forward (turned_status (x.place + 1) n p s c) ∙ turned_back s.status p))
  went_forward out stage (Entry.Done n state failed) own may h =
      absurd (true≢false (sym h ∙ ap goes_forward (ended_status (x.place + 1) n state failed s) ∙ ends_rest s.status state may.2))
  went_forward out stage e own may h = absurd own

  module _ (out : List ℕ) where
    -- the operation that begins anew
    begun_now : (k : Begun) → IsOfNow (effect_at (x.place + 1) (Entry.Begin (x.operation + 1) name k) s).stack
    begun_now (Begun.Create source) goes d i =
        inr (subst (λ e. is_of (x.operation + 1) e ≡ true) (sym (in_one d (Entry.Begin (x.operation + 1) name (Begun.Create source)) i)) (eq-eqb (x.operation + 1) (x.operation + 1) refl))
    begun_now (Begun.Update source) goes d i =
        inr (subst (λ e. is_of (x.operation + 1) e ≡ true) (sym (in_one d (Entry.Begin (x.operation + 1) name (Begun.Update source)) i)) (eq-eqb (x.operation + 1) (x.operation + 1) refl))
    begun_now (Begun.Delete paths) goes d i = absurd (true≢false (sym goes))
    begun_now (Begun.Continue paths) goes d i = absurd (true≢false (sym goes))

    of_now_to : {e : Entry} {t : StackState} → IsTo schemas x out name s e t → IsOfNow s → IsOfNow t
    of_now_to (to.step {e = e} stage at own may) h goes d i =
        let k = terms_stay (x.place + 1) s.operation e s own in
        elim (heard_of (x.place + 1) s e d i) [
          | inl j ↦ subst (λ n. (is_opening d ≡ true) ⊎ (is_of n d ≡ true)) (sym k.operation) (h (went_forward out stage e own may goes) d j)
          | inr same ↦ inr (subst (λ n. is_of n d ≡ true) (sym k.operation) (subst (λ f. is_of s.operation f ≡ true) (sym same) (own_is_of s.operation e own)))
        ]
    of_now_to (to.begins k from by) h goes d i = begun_now k goes d i
    of_now_to (to.reviewed number source rows outputs from) h goes d i = h (review_forward s.status goes) d i
    of_now_to (to.opened epoch lanes) h goes d i =
        in_opened (λ e. (is_opening e ≡ true) ⊎ (is_of s.operation e ≡ true)) epoch lanes s.entries (h goes) (inl refl) d i
    of_now_to to.other h goes d i = h goes d i

of_now : (schemas : List Schema) (es : List Entry) → IsLegal schemas empty_world es → (name : List ℕ) (s : StackState) → stack_at name (fold_of empty_world es) ≡ Some s → IsOfNow s
of_now schemas = legal_all schemas (λ es name s. IsOfNow s) (λ es name goes. absurd (true≢false (sym goes)))
    (λ es e out name s t legal apart known is h. of_now_to schemas name (fold_of empty_world es) s out is h)

-- a stack on which an operation is in progress stands under its name
stands_known : (x : World) (name : List ℕ) (s : StackState) (stage : Stage) → known_stack name x ≡ s → stage_of s.status ≡ Some stage → stack_at name x ≡ Some s
stands_known x name s stage known at = by (stack_at name x) refl where
  by : (o : Option StackState) → stack_at name x ≡ o → stack_at name x ≡ Some s
  by None q = let none : no_stack ≡ s = ap (λ (p : Option StackState). unwrap_or p no_stack) (sym q) ∙ known in
      let no : ◌≡◌ {A = Option Stage} None (Some stage) = ap (λ (z : StackState). stage_of z.status) none ∙ at in
      let never : ⊥ = cc in absurd never
  by (Some t) q = q ∙ ap (λ (z : StackState). Some z) (ap (λ (p : Option StackState). unwrap_or p no_stack) (sym q) ∙ known)

abbrev turn : ℕ → Cause → Entry
turn n c = Entry.Phase n Phase.Back (Some c)

-- a turn that may be written: it is one of the operation in progress, whose forward phase has failed for its cause
module _ (schemas : List Schema) (out : List ℕ) (name : List ℕ) (x : World) (s : StackState) (n : ℕ) (c : Cause) where
  record IsTurning (stage : Stage) : Type 0 where
    pub forward : stage_of s.status ≡ Some Forward
    pub number : n ≡ s.operation
    pub is_cause : IsCause schemas name x s c

  turning_of : (stage : Stage) (e : Entry) → turn n c ≡ e → IsOwn s.operation e → MayFollowIn schemas name x out s stage e → IsTurning stage
  turning_of stage e same own may =
      let is_own : n ≡ s.operation = subst (IsOwn s.operation) (sym same) own in
      let may_turn = (subst (MayFollowIn schemas name x out s stage) (sym same) may).1 in
      record { forward = may_turn.0; number = is_own; is_cause = may_turn.2 }

-- A call of that operation failed the phase first, at the path, as the stack's ledger says, for the reason.
record FailedIn (schemas : List Schema) (was s : StackState) (n : ℕ) (path : List ℕ) (why : Reason) : Type 0 where
  pub token : ℕ
  pub answer : Reply
  pub before : ℕ
  pub after : ℕ
  pub first : first_failing schemas was ≡ Some (token, why)
  pub stands : In (Entry.Outcome n token answer before after) s.entries
  pub told : reason_in answer ≡ Some why
  pub at_path : path_of_token token s ≡ Some path

abbrev FailedFor : List Schema → StackState → StackState → ℕ → Cause → Type 0
FailedFor schemas was s n (Cause.Handler path why) = FailedIn schemas was s n path why
FailedFor schemas was s n (Cause.Plan fault) = Unit {0}
FailedFor schemas was s n (Cause.Export export) = Unit {0}

goes_so : (z : Status) → stage_of z ≡ Some Forward → goes_forward z ≡ true
goes_so Status.CreateInProgress e = refl
goes_so Status.UpdateInProgress e = refl
goes_so z e = let no : ⊥ = cc in absurd no

-- an opening joins what is there
in_heard : (epoch : ℕ) (lanes : List (List ℕ × List ℕ)) (es : List Entry) (e : Entry) → In e es → In e (entries_with (Entry.Opened epoch lanes) es)
in_heard epoch lanes [] e i = elim i [ ]
in_heard epoch lanes (d ∷ es) e i = in_front e (d ∷ es) (Entry.Opened epoch lanes ∷ []) i

-- What turned back did so for its cause, as it stood then, and a handler's is one of its own calls.
module _ (schemas : List Schema) where
  abbrev TurnedFor : List Entry → List ℕ → StackState → ℕ → Cause → Type 0
  TurnedFor es name s n c = (k : TurnsBack schemas empty_world n name es c) × FailedFor schemas k.stack s n c

  abbrev HasTurned : List Entry → List ℕ → StackState → Type 0
  HasTurned es name s = (n : ℕ) (c : Cause) → In (turn n c) s.entries → TurnedFor es name s n c

  -- it stays so where entries are only added and the calls keep their paths
  failed_still : (was s t : StackState) (n : ℕ) (c : Cause) → ((e : Entry) → In e s.entries → In e t.entries) → KeepsCalls s t → FailedFor schemas was s n c
      → FailedFor schemas was t n c
  failed_still was s t n (Cause.Handler path why) more calls k = record {
    token = k.token;
    answer = k.answer;
    before = k.before;
    after = k.after;
    first = k.first;
    stands = more (Entry.Outcome n k.token k.answer k.before k.after) k.stands;
    told = k.told;
    at_path = paths_of s t calls k.token path k.at_path;
  }
  failed_still was s t n (Cause.Plan fault) more calls k = tt
  failed_still was s t n (Cause.Export export) more calls k = tt

  later : (es : List Entry) (name : List ℕ) (s t : StackState) (n : ℕ) (c : Cause) (e : Entry) → ((d : Entry) → In d s.entries → In d t.entries) → KeepsCalls s t
      → TurnedFor es name s n c → TurnedFor (es ++ e ∷ []) name t n c
  later es name s t n c e more calls (k, failed) = (
    record {
      before = k.before;
      after = k.after ++ e ∷ [];
      at = ap (λ (fs : List Entry). fs ++ e ∷ []) k.at ∙ append_assoc k.before (turn n c ∷ k.after) (e ∷ []);
      stack = k.stack;
      here = k.here;
      is_cause = k.is_cause;
    },
    failed_still k.stack s t n c more calls failed,
  )

  module _ (es : List Entry) (out name : List ℕ) (s : StackState) (known : known_stack name (fold_of empty_world es) ≡ s) (now : IsOfNow s) (h : HasTurned es name s) where
    abbrev x : World
    x = fold_of empty_world es

    -- what fails a forward phase is of its operation
    its_own : goes_forward s.status ≡ true → (number token before after : ℕ) (a : Reply) → In (Entry.Outcome number token a before after) s.entries → number ≡ s.operation
    its_own goes number token before after a i = elim (now goes (Entry.Outcome number token a before after) i) [
      | inl opening ↦ absurd (true≢false (sym opening))
      | inr own ↦ sym (eqb-true s.operation number own)
    ]

    failing : (n : ℕ) (c : Cause) → goes_forward s.status ≡ true → n ≡ s.operation → IsCause schemas name x s c → FailedFor schemas s s n c
    failing n (Cause.Handler path why) goes of_it (token, first, at_path) =
        let (e, i, is) = failing_says token why schemas s first in
        let outcome : Entry = Entry.Outcome is.number token is.answer is.before is.after in
        let j : In outcome s.entries = subst (λ (d : Entry). In d s.entries) is.is i in
        let same : is.number ≡ n = its_own goes is.number token is.before is.after is.answer j ∙ sym of_it in
        record {
          token = token;
          answer = is.answer;
          before = is.before;
          after = is.after;
          first = first;
          stands = subst (λ (m : ℕ). In (Entry.Outcome m token is.answer is.before is.after) s.entries) same j;
          told = is.told;
          at_path = at_path;
        }
    failing n (Cause.Plan fault) goes of_it is = tt
    failing n (Cause.Export export) goes of_it is = tt

    -- an entry that is no turn
    turned_else : (e : Entry) → ((n : ℕ) (c : Cause) → turn n c ≡ e → ⊥)
        → ((d : Entry) → In d s.entries → In d (effect_at (x.place + 1) e s).stack.entries) → KeepsCalls s (effect_at (x.place + 1) e s).stack
        → HasTurned (es ++ e ∷ []) name (effect_at (x.place + 1) e s).stack
    turned_else e never more calls n c i = elim (heard_of (x.place + 1) s e (turn n c) i) [
      | inl j ↦ later es name s (effect_at (x.place + 1) e s).stack n c e more calls (h n c j)
      | inr same ↦ absurd (never n c same)
    ]

    no_turn : (n : ℕ) (c : Cause) (k : Begun) → turn n c ≡ Entry.Begin (x.operation + 1) name k → ⊥
    no_turn n c k same = cc

    -- an operation begins anew, or goes on with the calls that it had
    turned_begun : (k : Begun) → HasTurned (es ++ Entry.Begin (x.operation + 1) name k ∷ []) name (effect_at (x.place + 1) (Entry.Begin (x.operation + 1) name k) s).stack
    turned_begun (Begun.Create source) n c i = absurd (no_turn n c (Begun.Create source) (in_one (turn n c) (Entry.Begin (x.operation + 1) name (Begun.Create source)) i))
    turned_begun (Begun.Update source) n c i = absurd (no_turn n c (Begun.Update source) (in_one (turn n c) (Entry.Begin (x.operation + 1) name (Begun.Update source)) i))
    turned_begun (Begun.Delete paths) n c i = absurd (no_turn n c (Begun.Delete paths) (in_one (turn n c) (Entry.Begin (x.operation + 1) name (Begun.Delete paths)) i))
    turned_begun (Begun.Continue paths) n c i =
        let e : Entry = Entry.Begin (x.operation + 1) name (Begun.Continue paths) in
        turned_else e (λ m d same. no_turn m d (Begun.Continue paths) same) (λ d j. in_front d s.entries (e ∷ []) j) (calls_anew s (effect_at (x.place + 1) e s).stack refl) n c i

    turned_to : {e : Entry} {t : StackState} → IsTo schemas x out name s e t → HasTurned (es ++ e ∷ []) name t
    turned_to (to.step {e = e} stage at own may) n c i =
        let k = terms_stay (x.place + 1) s.operation e s own in
        let t : StackState = (effect_at (x.place + 1) e s).stack in
        let more : (d : Entry) → In d s.entries → In d t.entries = λ d j. subst (In d) (sym k.entries) (in_front d s.entries (e ∷ []) j) in
        elim (heard_of (x.place + 1) s e (turn n c) i) [
          | inl j ↦ later es name s t n c e more k.calls (h n c j)
          | inr same ↦
              let w = turning_of schemas out name x s n c stage e same own may in (
                record {
                  before = es;
                  after = [];
                  at = ap (λ (d : Entry). es ++ d ∷ []) (sym same);
                  stack = s;
                  here = stands_known x name s stage known at;
                  is_cause = w.is_cause;
                },
                failed_still s s t n c more k.calls (failing n c (goes_so s.status w.forward) w.number w.is_cause),
              )
        ]
    turned_to (to.begins k from by) n c i = turned_begun k n c i
    turned_to (to.reviewed number source rows outputs from) n c i =
        turned_else (Entry.ChangeSet number name source rows outputs) (λ m d same. cc) (λ d j. j)
        (same_calls s (effect_at (x.place + 1) (Entry.ChangeSet number name source rows outputs) s).stack refl) n c i
    turned_to (to.opened epoch lanes) n c i =
        turned_else (Entry.Opened epoch lanes) (λ m d same. cc) (in_heard epoch lanes s.entries)
        (calls_anew s (effect_at (x.place + 1) (Entry.Opened epoch lanes) s).stack refl) n c i
    turned_to (to.other {e = e}) n c i = later es name s s n c e (λ d j. j) (same_calls s s refl) (h n c i)

  now_known : (es : List Entry) → IsLegal schemas empty_world es → (name : List ℕ) (s : StackState) → known_stack name (fold_of empty_world es) ≡ s → IsOfNow s
  now_known es legal name s known goes =
      of_now schemas es legal name s (stands_known (fold_of empty_world es) name s Forward known (only_forward (λ z. stage_of z ≡ Some Forward) refl refl s.status goes)) goes

  has_turned : (es : List Entry) → IsLegal schemas empty_world es → (name : List ℕ) (s : StackState) → stack_at name (fold_of empty_world es) ≡ Some s → HasTurned es name s
  has_turned = legal_all schemas HasTurned (λ es name n c i. elim i [ ])
      (λ es e out name s t legal apart known is h. turned_to es out name s known (now_known es legal name s known) h is)

-- what failed for a reason did not succeed
fails_so : (a : Reply) (why : Reason) → reason_in a ≡ Some why → is_success (settled_by a) ≡ false
fails_so (Reply.Success physical attrs) why h = let no : ⊥ = cc in absurd no
fails_so (Reply.Failed code) why h = refl
fails_so Reply.Doubt why h = refl

pub turns_had_cause : TurnsHadCause
turns_had_cause schemas life name s c h at i = (k.0, by c k.1)
  where
    k : TurnedFor schemas life.entries name s s.operation c
    k = has_turned schemas life.entries h.sound.legal name s at s.operation c (in_filter (is_of s.operation) s.entries (turn s.operation c) i).0

    by : (d : Cause) → FailedFor schemas (k.0).stack s s.operation d → HasFailedFor schemas (k.0).stack s d
    by (Cause.Handler path why) f =
        let outcome : Entry = Entry.Outcome s.operation f.token f.answer f.before f.after in
        let own : In outcome (own_of s) = in_kept (is_of s.operation) s.entries outcome f.stands (eq-eqb s.operation s.operation refl) in
        let reply : Response = record { token = f.token; answer = f.answer; before = f.before; after = f.after } in
        let (call, found, on_path) = call_there (call_under f.token s) path f.at_path in
        record {
          token = f.token;
          answer = f.answer;
          before = f.before;
          after = f.after;
          first = f.first;
          stands = own;
          told = f.told;
          call = call;
          of_call = found;
          at_path = on_path;
          rose = (h.way name s at).course.booked.books.counted reply (to_mapped reply_in (own_of s) outcome reply own refl) (fails_so f.answer why f.told);
        }
    by (Cause.Plan fault) f = tt
    by (Cause.Export export) f = tt

pub none_failed_yet : NoneFailedYet
none_failed_yet schemas life name s h at goes = (h.way name s at).course.booked.none_failed goes

-- no entry that a stack has heard is of a later operation than the last one of all
pub heard_numbers : (schemas : List Schema) (life : Life) (name : List ℕ) (s : StackState) → HoldsAlways schemas life → stack_at name (world_of life) ≡ Some s
    → (e : Entry) → In e s.entries → (n : ℕ) → is_of n e ≡ true → n ≤ (world_of life).operation
heard_numbers schemas life name s h at e i n own =
    let most = (h.way name s at).course.booked.numbered e n i own in
    let last = h.sound.orderly.apart.last name s at in
    omega (arith, most, last)

-- the cause that a stack's own entries tell first is that of a turn among them
cause_told : (e : Entry) (c : Cause) → cause_in e ≡ Some c → (n : ℕ) × (e ≡ turn n c)
cause_told (Entry.Phase n Phase.Back cause) c h = (n, ap (Entry.Phase n Phase.Back) h)
cause_told e c h = let no : ⊥ = cc in absurd no

first_is_in : {A : Type 0} (xs : List A) (x : A) → first_in xs ≡ Some x → In x xs
first_is_in [] x h = let no : ⊥ = cc in absurd no
first_is_in (y ∷ ys) x h = subst (λ z. In z (y ∷ ys)) (some_is y x h) here

pub turn_told : (s : StackState) (c : Cause) → first_in (filter_map cause_in (own_of s)) ≡ Some c → In (turn s.operation c) (own_of s)
turn_told s c h =
    let m = in_mapped cause_in (own_of s) c (first_is_in (filter_map cause_in (own_of s)) c h) in
    let (n, same) = cause_told m.one c m.same in
    let i : In (turn n c) (own_of s) = subst (λ e. In e (own_of s)) same m.of_list in
    subst (λ k. In (turn k c) (own_of s)) (sym (eqb-true s.operation n (in_filter (is_of s.operation) s.entries (turn n c) i).1)) i

-- An operation that has turned back tells its cause among its own entries, unless it is a continued rollback.
abbrev TellsCause : StackState → Type 0
TellsCause s = (was_continued s ≡ true) ⊎ ((c : Cause) × In (turn s.operation c) (own_of s))

-- which stays so where entries are only added
own_still : (s t : StackState) → t.operation ≡ s.operation → ((d : Entry) → In d s.entries → In d t.entries) → (d : Entry) → In d (own_of s) → In d (own_of t)
own_still s t same more d i =
    let (j, own) = in_filter (is_of s.operation) s.entries d i in
    in_kept (is_of t.operation) t.entries d (more d j) (ap (λ (n : ℕ). is_of n d) same ∙ own)

tells_still : (s t : StackState) → t.operation ≡ s.operation → ((d : Entry) → In d s.entries → In d t.entries) → TellsCause s → TellsCause t
tells_still s t same more (inl w) =
    let one = some_of is_continuation (own_of s) w in
    inl (any_of is_continuation (own_of t) one.one (own_still s t same more one.one one.of_list) one.passes)
tells_still s t same more (inr (c, i)) = inr (c, subst (λ (n : ℕ). In (turn n c) (own_of t)) (sym same) (own_still s t same more (turn s.operation c) i))

review_back : (z : Status) → is_turned_back (reviewed z) ≡ true → is_turned_back z ≡ true
review_back Status.DeleteComplete h = absurd (true≢false (sym h))
review_back z h = h

module _ (schemas : List Schema) (x : World) (out name : List ℕ) (s : StackState) where
  ends_back : (a b : Status) → EndsAs schemas name x s a b → is_turned_back b ≡ true → is_turned_back a ≡ true
  ends_back Status.CreateInProgress Status.CreateComplete e h = absurd (true≢false (sym h))
  ends_back Status.RollbackInProgress Status.RollbackComplete e h = refl
  ends_back Status.RollbackInProgress Status.RollbackFailed e h = refl
  ends_back Status.DeleteInProgress Status.DeleteComplete e h = absurd (true≢false (sym h))
  ends_back Status.DeleteInProgress Status.DeleteFailed e h = absurd (true≢false (sym h))
  ends_back Status.UpdateCompleteCleanupInProgress Status.UpdateComplete e h = absurd (true≢false (sym h))
  ends_back Status.UpdateRollbackCompleteCleanupInProgress Status.UpdateRollbackComplete e h = refl
  ends_back Status.UpdateRollbackInProgress Status.UpdateRollbackFailed e h = refl
  ends_back a b e h = absurd e

  -- by an entry of the operation it turns back, or it has turned back before
  abbrev HasTurnedBy : Entry → Type 0
  HasTurnedBy e = (is_turned_back s.status ≡ true) ⊎ ((c : Cause) × (e ≡ turn s.operation c))

  turns_by : (n : ℕ) (p : Phase) (why : Option Cause) → n ≡ s.operation → MayTurn schemas name x s p why → is_turned_back (turned s.status p) ≡ true
      → HasTurnedBy (Entry.Phase n p why)
  turns_by n Phase.Back (Some c) own may h = inr (c, ap (λ (m : ℕ). turn m c) own)
  turns_by n Phase.Back None own may h = absurd may
  turns_by n Phase.Clean (Some c) own may h = absurd may
  turns_by n Phase.Clean None own may h = absurd (true≢false (sym h ∙ ap (λ (z : Status). is_turned_back (turned z Phase.Clean)) may.0))
  turns_by n Phase.BackClean (Some c) own may h = absurd may
  turns_by n Phase.BackClean None own may h = inl (ap is_turned_back may.0)

  step_back : (stage : Stage) (e : Entry) → IsOwn s.operation e → MayFollowIn schemas name x out s stage e
      → is_turned_back (effect_at (x.place + 1) e s).stack.status ≡ true → HasTurnedBy e
  step_back stage (Entry.Kept n path physical w) own may h = inl (ap is_turned_back (sym (kept_status path physical w s)) ∙ h)
  step_back stage (Entry.Intent n token lane path r) own may h =
      inl (ap is_turned_back (sym (intended_status n (record { token = token; path = path; lane = lane; request = r }) s)) ∙ h)
  step_back stage (Entry.Outcome n token a before after) own may h = inl (ap is_turned_back (sym (replied_status token a s)) ∙ h)
  step_back stage (Entry.Phase n p why) own may h = turns_by n p why own may.1 (ap is_turned_back (sym (turned_status (x.place + 1) n p s why)) ∙ h)
  step_back stage (Entry.Done n state failed) own may h =
      inl (ends_back s.status state may.2 (ap is_turned_back (sym (ended_status (x.place + 1) n state failed s)) ∙ h))
  step_back stage e own may h = absurd own

  begun_tells : (k : Begun) → is_turned_back (effect_at (x.place + 1) (Entry.Begin (x.operation + 1) name k) s).stack.status ≡ true
      → TellsCause (effect_at (x.place + 1) (Entry.Begin (x.operation + 1) name k) s).stack
  begun_tells (Begun.Create source) h = absurd (true≢false (sym h))
  begun_tells (Begun.Update source) h = absurd (true≢false (sym h))
  begun_tells (Begun.Delete paths) h = absurd (true≢false (sym h))
  begun_tells (Begun.Continue paths) h =
      let e : Entry = Entry.Begin (x.operation + 1) name (Begun.Continue paths) in
      let t : StackState = (effect_at (x.place + 1) e s).stack in
      inl (any_of is_continuation (own_of t) e (in_kept (is_of (x.operation + 1)) t.entries e (in_end e s.entries) (eq-eqb (x.operation + 1) (x.operation + 1) refl)) refl)

  tells_to : {e : Entry} {t : StackState} → IsTo schemas x out name s e t → (is_turned_back s.status ≡ true → TellsCause s) → is_turned_back t.status ≡ true → TellsCause t
  tells_to (to.step {e = e} stage at own may) h goes =
      let k = terms_stay (x.place + 1) s.operation e s own in
      let t : StackState = (effect_at (x.place + 1) e s).stack in
      elim (step_back stage e own may goes) [
        | inl went ↦ tells_still s t k.operation (λ d j. subst (In d) (sym k.entries) (in_front d s.entries (e ∷ []) j)) (h went)
        | inr (c, is) ↦
            let there_is : In e t.entries = subst (In e) (sym k.entries) (in_end e s.entries) in
            let of_it : is_of t.operation e ≡ true = ap (λ (n : ℕ). is_of n e) k.operation ∙ own_is_of s.operation e own in
            inr (c, subst (λ (d : Entry). In d (own_of t)) (is ∙ ap (λ (n : ℕ). turn n c) (sym k.operation)) (in_kept (is_of t.operation) t.entries e there_is of_it))
      ]
  tells_to (to.begins k from by) h goes = begun_tells k goes
  tells_to (to.reviewed number source rows outputs from) h goes =
      tells_still s (effect_at (x.place + 1) (Entry.ChangeSet number name source rows outputs) s).stack refl (λ d j. j) (h (review_back s.status goes))
  tells_to (to.opened epoch lanes) h goes =
      tells_still s (effect_at (x.place + 1) (Entry.Opened epoch lanes) s).stack refl (in_heard epoch lanes s.entries) (h goes)
  tells_to to.other h goes = h goes

pub back_is_told : BackIsTold
back_is_told schemas life name s h at goes new = elim (told goes) [ inl w ↦ absurd (true≢false (sym w ∙ new)) | inr k ↦ k ]
  where
    told : is_turned_back s.status ≡ true → TellsCause s
    told = legal_all schemas (λ es m z. is_turned_back z.status ≡ true → TellsCause z) (λ es m goes. absurd (true≢false (sym goes)))
        (λ es e out m z t legal apart known is k. tells_to schemas (fold_of empty_world es) out m z is k) life.entries h.sound.legal name s at
