-- What an operation writes, entry by entry: what its stack has then, and why it turned back.
use Rattle.std.proofs.Common.{◌≡◌, ◌⊎◌, inl, inr, ℕ, ◌+◌, ◌==◌, ◌&&◌, Bool, true, false, List, [], ◌∷◌, ◌++◌, Option, Some, None, refl, sym, ap, subst, ◌∙◌, append_assoc, append-nil, cond, filter, true≢false, arith}
use Rattle.std.specs.Prelude.{flat_map}
use Rattle.std.proofs.lemmas.Bool.{eq-eqb}
use Rattle.cf_tree.specs.Lists.{In}
use Rattle.cf_tree.specs.Lists.In.{here, there}
use Rattle.cf_schema.specs.declared.described.Schema.{Schema}
use Rattle.cf_entry.specs.declared.entry.Entry.{Entry}
use Rattle.cf_entry.specs.declared.entry.Entry.TheVariants as entry
use Rattle.cf_entry.specs.declared.status.Status.{Status}
use Rattle.cf_entry.specs.declared.status.Status.TheVariants as status
use Rattle.cf_entry.specs.declared.turn.Cause.{Cause}
use Rattle.cf_entry.specs.declared.turn.Phase.{Phase}
use Rattle.cf_entry.specs.declared.turn.Phase.TheVariants as phase
use Rattle.cf_effect.specs.Fold.{effect_at, fold_of, world_after}
use Rattle.cf_effect.specs.Operation.{is_of}
use Rattle.cf_effect.specs.Status.{is_in_progress, turned}
use Rattle.cf_effect.specs.World.{StackState, World, is_going, stack_at, stack_of_operation}
use Rattle.cf_plan.specs.Follow.{EndsAs, MayTurn, failed_in, is_done_entry}
use Rattle.cf_plan.specs.Run.{IsOwn}
use Rattle.cf_plan.proofs.Listed.{in_cons}
use Rattle.cf_plan.proofs.Frame.{IsOn, here_after, here_of, none_after, number_is, on_after}
use Rattle.cf_next.specs.Chosen.{IsNext, MayStart, entry_for}
use Rattle.cf_next.specs.declared.step.Next.{Next}
use Rattle.cf_next.specs.declared.step.Next.TheVariants as next
use Rattle.cf_core.proofs.Alike.{KeepsCalls, TakesEntry, calls_then, terms_stay}
use Rattle.cf_core.proofs.Statuses.{ended_status, intended_status, kept_status, replied_status, turned_status}
use Rattle.cf_workers.specs.Turning.{TurnsBack}
use Rattle.cf_workers.proofs.Wrote.{AreSteps, IsStep, own_step}

some_same : {A : Type 0} {x y : A} → Some x ≡ Some y → x ≡ y
some_same e = cc

none_some : {A : Type 0} {x : A} → None ≡ Some x → ⊥
none_some e = cc

and_false : (b : Bool) → (b && false) ≡ false
and_false true = refl
and_false false = refl

-- the last of a list
abbrev pub last_from : Entry → List Entry → Entry
last_from x [] = x
last_from x (y ∷ ys) = last_from y ys

-- the statuses in which an operation ends
abbrev pub is_end : Status → Bool
is_end status.CreateComplete = true
is_end status.RollbackComplete = true
is_end status.RollbackFailed = true
is_end status.UpdateComplete = true
is_end status.UpdateRollbackComplete = true
is_end status.UpdateRollbackFailed = true
is_end status.DeleteComplete = true
is_end status.DeleteFailed = true
is_end _ = false

-- the statuses of a rollback, and those in which one ends
abbrev pub is_rolled : Status → Bool
is_rolled status.RollbackInProgress = true
is_rolled status.RollbackComplete = true
is_rolled status.RollbackFailed = true
is_rolled status.UpdateRollbackInProgress = true
is_rolled status.UpdateRollbackCompleteCleanupInProgress = true
is_rolled status.UpdateRollbackComplete = true
is_rolled status.UpdateRollbackFailed = true
is_rolled _ = false

module _ (schemas : List Schema) (number : ℕ) (name : List ℕ) where
  -- One entry of the operation, which is the step that comes next where it stands.
  module _ (x : World) (s : StackState) (h : IsOn number name x s) where
    next_here : (m : Next) (c : IsNext schemas x [] number m) → MayStart schemas name x [] s c.2 m
    next_here m c =
        let same : ◌≡◌ {A = List ℕ × StackState} (c.0, c.1) (name, s) = some_same (sym c.3 ∙ h.going) in
        subst (λ (p : List ℕ × StackState). MayStart schemas p.0 x [] p.1 c.2 m) same c.5.may

    turns_here : (p : Phase) (c : Option Cause) → IsStep schemas number x (entry.Phase number p c) → MayTurn schemas name x s p c
    turns_here p c k = by k.0 (next_here k.0 k.1) k.2 where
      by : (m : Next) → MayStart schemas name x [] s (k.1).2 m → entry_for number m ≡ Some (entry.Phase number p c) → MayTurn schemas name x s p c
      by (next.Turn q d) may e = let at : (q ≡ p) × (d ≡ c) = (cc, cc) in subst (λ z. MayTurn schemas name x s p z) at.1 (subst (λ z. MayTurn schemas name x s z d) at.0 may.1)
      by (next.Step path lane token r true) may e = let no : ⊥ = cc in absurd no
      by (next.Step path lane token r false) may e = let no : ⊥ = cc in absurd no
      by (next.Keep path physical w) may e = let no : ⊥ = cc in absurd no
      by (next.End state failed) may e = let no : ⊥ = cc in absurd no
      by next.Wait may e = let no : ⊥ = cc in absurd no

    ends_here : (state : Status) (failed : List (List ℕ)) → IsStep schemas number x (entry.Done number state failed) → EndsAs schemas name x s s.status state
    ends_here state failed k = by k.0 (next_here k.0 k.1) k.2 where
      by : (m : Next) → MayStart schemas name x [] s (k.1).2 m → entry_for number m ≡ Some (entry.Done number state failed) → EndsAs schemas name x s s.status state
      by (next.End q d) may e = let at : q ≡ state = cc in subst (EndsAs schemas name x s s.status) at may.2
      by (next.Step path lane token r true) may e = let no : ⊥ = cc in absurd no
      by (next.Step path lane token r false) may e = let no : ⊥ = cc in absurd no
      by (next.Keep path physical w) may e = let no : ⊥ = cc in absurd no
      by (next.Turn p cause) may e = let no : ⊥ = cc in absurd no
      by next.Wait may e = let no : ⊥ = cc in absurd no

    abbrev after : Entry → StackState
    after e = (effect_at (x.place + 1) e s).stack

    -- it rolls back where it did before, or turns back
    abbrev TurnsNow : Entry → Type 0
    TurnsNow e = (is_rolled s.status ≡ true) ⊎ ((c : Cause) × (e ≡ entry.Phase number phase.Back (Some c)))

    stays : (e : Entry) → (after e).status ≡ s.status → is_rolled (after e).status ≡ true → TurnsNow e
    stays e same q = inl (sym (ap is_rolled same) ∙ q)

    turned_on : (p : Phase) (c : Option Cause) → MayTurn schemas name x s p c → is_rolled (turned s.status p) ≡ true → TurnsNow (entry.Phase number p c)
    turned_on phase.Back (Some c) may q = inr (c, refl)
    turned_on phase.Back None may q = absurd may
    turned_on phase.Clean None may q =
        let no : false ≡ true = sym (ap (λ (z : Status). is_rolled (turned z phase.Clean)) may.0) ∙ q in absurd (true≢false (sym no))
    turned_on phase.Clean (Some c) may q = absurd may
    turned_on phase.BackClean None may q = inl (ap is_rolled may.0)
    turned_on phase.BackClean (Some c) may q = absurd may

    ended_on : (was state : Status) → EndsAs schemas name x s was state → is_rolled state ≡ true → is_rolled was ≡ true
    ended_on was state ends q = grind (arith, q)

    turns_now : (e : Entry) → IsStep schemas number x e → is_rolled (after e).status ≡ true → TurnsNow e
    turns_now (entry.Kept n path physical w) k q = stays (entry.Kept n path physical w) (kept_status path physical w s) q
    turns_now (entry.Intent n token lane path r) k q =
        stays (entry.Intent n token lane path r) (intended_status n (record { token = token; path = path; lane = lane; request = r }) s) q
    turns_now (entry.Outcome n token a before after') k q = stays (entry.Outcome n token a before after') (replied_status token a s) q
    turns_now (entry.Phase n p c) k q = by n (own_step schemas number x (entry.Phase n p c) k) k q where
      by : (m : ℕ) → m ≡ number → IsStep schemas number x (entry.Phase m p c) → is_rolled (after (entry.Phase m p c)).status ≡ true → TurnsNow (entry.Phase m p c)
      by m own d r =
          subst (λ (i : ℕ). TurnsNow (entry.Phase i p c)) (sym own)
          (turned_on p c (turns_here p c (subst (λ (i : ℕ). IsStep schemas number x (entry.Phase i p c)) own d))
          (sym (ap is_rolled (turned_status (x.place + 1) m p s c)) ∙ r))
    turns_now (entry.Done n state failed) k q = by n (own_step schemas number x (entry.Done n state failed) k) k q where
      by : (m : ℕ) → m ≡ number → IsStep schemas number x (entry.Done m state failed) → is_rolled (after (entry.Done m state failed)).status ≡ true → TurnsNow (entry.Done m state failed)
      by m own d r =
          inl (ended_on s.status state (ends_here state failed (subst (λ (i : ℕ). IsStep schemas number x (entry.Done i state failed)) own d))
          (sym (ap is_rolled (ended_status (x.place + 1) m state failed s)) ∙ r))
    turns_now (entry.Opened epoch lanes) k q = absurd (own_step schemas number x (entry.Opened epoch lanes) k)
    turns_now (entry.Begin n stack b) k q = absurd (own_step schemas number x (entry.Begin n stack b) k)
    turns_now (entry.ChangeSet n stack from rows outputs) k q = absurd (own_step schemas number x (entry.ChangeSet n stack from rows outputs) k)

  -- What a stack has behind entries of its operation.
  pub record IsRun (x : World) (s : StackState) (es : List Entry) (t : StackState) : Type 0 where
    pub here : stack_at name (fold_of x es) ≡ Some t
    pub operation : t.operation ≡ number
    pub going : t.going ≡ s.going
    pub before : t.before ≡ s.before
    pub entries : t.entries ≡ s.entries ++ es
    pub calls : KeepsCalls s t
    pub turns : (c : Cause) → In (entry.Phase number phase.Back (Some c)) es → (turn : TurnsBack schemas x number name es c) × KeepsCalls turn.stack t
        × (turn.stack.entries ≡ s.entries ++ turn.before)
    pub rolls : is_rolled t.status ≡ true → is_rolled s.status ≡ false → (c : Cause) × In (entry.Phase number phase.Back (Some c)) es

  -- nothing comes next where no operation is in progress
  step_goes : (x : World) (e : Entry) → IsStep schemas number x e → stack_of_operation number x ≡ None → ⊥
  step_goes x (entry.Outcome n token a before after) (own, other, s, at) none = none_some (sym none ∙ at)
  step_goes x (entry.Kept n path physical w) k none = none_some (sym none ∙ (k.1).3)
  step_goes x (entry.Intent n token lane path r) k none = none_some (sym none ∙ (k.1).3)
  step_goes x (entry.Phase n p c) k none = none_some (sym none ∙ (k.1).3)
  step_goes x (entry.Done n state failed) k none = none_some (sym none ∙ (k.1).3)
  step_goes x (entry.Opened epoch lanes) k none = none_some (sym none ∙ (k.1).3)
  step_goes x (entry.Begin n stack b) k none = none_some (sym none ∙ (k.1).3)
  step_goes x (entry.ChangeSet n stack from rows outputs) k none = none_some (sym none ∙ (k.1).3)

  in_one : (d e : Entry) → In d (e ∷ []) → d ≡ e
  in_one d e here = refl
  in_one d e (there i) = elim i [ ]

  module _ (x : World) (s : StackState) (h : IsOn number name x s) (e : Entry) (step : IsStep schemas number x e) where
    abbrev y : World
    y = world_after x e

    abbrev t : StackState
    t = (effect_at (x.place + 1) e s).stack

    own : IsOwn number e
    own = own_step schemas number x e step

    took : TakesEntry e s t
    took = terms_stay (x.place + 1) number e s own

    -- it turns back here
    turned_here : (es : List Entry) (u : StackState) → KeepsCalls s u → (c : Cause) → e ≡ entry.Phase number phase.Back (Some c)
        → (turn : TurnsBack schemas x number name (e ∷ es) c) × KeepsCalls turn.stack u × (turn.stack.entries ≡ s.entries ++ turn.before)
    turned_here es u calls c q = (
      record {
        before = [];
        after = es;
        at = ap (λ (d : Entry). d ∷ es) q;
        stack = s;
        here = here_of number name x s h;
        is_cause = (turns_here x s h phase.Back (Some c) (subst (IsStep schemas number x) q step)).2;
      },
      calls,
      sym (append-nil s.entries),
    )

    pub one : IsRun x s (e ∷ []) t
    one = record {
      here = here_after number name x s h e own;
      operation = took.operation ∙ number_is number name x s h;
      going = took.going;
      before = took.before;
      entries = took.entries;
      calls = took.calls;
      turns = λ c i. turned_here [] t took.calls c (sym (in_one (entry.Phase number phase.Back (Some c)) e i));
      rolls = λ rolled not. rolls rolled not;
    } where
      rolls : is_rolled t.status ≡ true → is_rolled s.status ≡ false → (c : Cause) × In (entry.Phase number phase.Back (Some c)) (e ∷ [])
      rolls rolled not = elim (turns_now x s h e step rolled) [
        | inl was ↦ absurd (true≢false (sym was ∙ not))
        | inr k ↦ (k.0, subst (λ (d : Entry). In d (e ∷ [])) k.1 here)
      ]

    -- where another entry follows, the operation goes on
    goes : (f : Entry) → IsStep schemas number y f → IsOn number name y t
    goes f next = by (is_going number t) refl where
      by : (b : Bool) → is_going number t ≡ b → IsOn number name y t
      by true q = on_after number name x s h e own q
      by false q = absurd (step_goes y f next (none_after number name x s h e own q))

    pub more : (es : List Entry) (u : StackState) → IsRun y t es u → IsRun x s (e ∷ es) u
    more es u r = record {
      here = r.here;
      operation = r.operation;
      going = r.going ∙ took.going;
      before = r.before ∙ took.before;
      entries = r.entries ∙ ap (λ (l : List Entry). l ++ es) took.entries ∙ append_assoc s.entries (e ∷ []) es;
      calls = calls;
      turns = λ c i. turns c i;
      rolls = λ rolled not. rolls rolled not;
    } where
      calls : KeepsCalls s u
      calls = calls_then s t u took.calls r.calls

      turned_later : (c : Cause) → In (entry.Phase number phase.Back (Some c)) es → (turn : TurnsBack schemas x number name (e ∷ es) c) × KeepsCalls turn.stack u
          × (turn.stack.entries ≡ s.entries ++ turn.before)
      turned_later c i =
          let (later, kept, heard) = r.turns c i in (
            record {
              before = e ∷ later.before;
              after = later.after;
              at = ap (λ (l : List Entry). e ∷ l) later.at;
              stack = later.stack;
              here = later.here;
              is_cause = later.is_cause;
            },
            kept,
            heard ∙ ap (λ (l : List Entry). l ++ later.before) took.entries ∙ append_assoc s.entries (e ∷ []) later.before,
          )

      turns : (c : Cause) → In (entry.Phase number phase.Back (Some c)) (e ∷ es) → (turn : TurnsBack schemas x number name (e ∷ es) c) × KeepsCalls turn.stack u
          × (turn.stack.entries ≡ s.entries ++ turn.before)
      turns c i = elim (in_cons i) [ inl q ↦ turned_here es u calls c q | inr k ↦ turned_later c k ]

      rolls : is_rolled u.status ≡ true → is_rolled s.status ≡ false → (c : Cause) × In (entry.Phase number phase.Back (Some c)) (e ∷ es)
      rolls rolled not = by (is_rolled t.status) refl where
        by : (b : Bool) → is_rolled t.status ≡ b → (c : Cause) × In (entry.Phase number phase.Back (Some c)) (e ∷ es)
        by false q = let (c, i) = r.rolls rolled q in (c, there i)
        by true q = elim (turns_now x s h e step q) [
          | inl was ↦ absurd (true≢false (sym was ∙ not))
          | inr k ↦ (k.0, subst (λ (d : Entry). In d (e ∷ es)) k.1 here)
        ]

  -- The entries of a run, of which there is one at least.
  pub run : (e : Entry) (es : List Entry) (x : World) (s : StackState) → IsOn number name x s → AreSteps schemas number x (e ∷ es) → (t : StackState) × IsRun x s (e ∷ es) t
  run e [] x s h k = ((effect_at (x.place + 1) e s).stack, one x s h e k.0)
  run e (f ∷ es) x s h k =
      let (u, r) = run f es (world_after x e) (effect_at (x.place + 1) e s).stack (goes x s h e k.0 f k.1.0) k.1 in
      (u, more x s h e k.0 (f ∷ es) u r)

  -- what is left by a last entry that is an end
  pub run_ends : (e : Entry) (es : List Entry) (x : World) (s : StackState) → IsOn number name x s → AreSteps schemas number x (e ∷ es) → is_done_entry (last_from e es) ≡ true
      → (t : StackState) → stack_at name (fold_of x (e ∷ es)) ≡ Some t → is_end t.status ≡ true
  run_ends e (f ∷ es) x s h k done t found =
      run_ends f es (world_after x e) (effect_at (x.place + 1) e s).stack (goes x s h e k.0 f k.1.0) k.1 done t found
  run_ends e [] x s h k done t found =
      subst (λ (z : StackState). is_end z.status ≡ true) (some_same (sym (here_after number name x s h e (own x s h e k.0)) ∙ found)) (by e k.0 done)
    where
      ends : (was state : Status) → EndsAs schemas name x s was state → is_end state ≡ true
      ends was state is = grind (arith, is)

      by : (d : Entry) → IsStep schemas number x d → is_done_entry d ≡ true → is_end (effect_at (x.place + 1) d s).stack.status ≡ true
      by (entry.Done n state failed) step q = by_number n (own_step schemas number x (entry.Done n state failed) step) step where
        by_number : (m : ℕ) → m ≡ number → IsStep schemas number x (entry.Done m state failed) → is_end (effect_at (x.place + 1) (entry.Done m state failed) s).stack.status ≡ true
        by_number m own d =
            ap is_end (ended_status (x.place + 1) m state failed s)
            ∙ ends s.status state (ends_here x s h state failed (subst (λ (i : ℕ). IsStep schemas number x (entry.Done i state failed)) own d))
      by d step q = let no : ⊥ = cc in absurd no

  -- The paths that a run tells as failed are those of its end: behind an end no entry follows.
  pub run_fails : (e : Entry) (es : List Entry) (x : World) (s : StackState) → IsOn number name x s → AreSteps schemas number x (e ∷ es)
      → (state : Status) (failed : List (List ℕ)) → last_from e es ≡ entry.Done number state failed → flat_map failed_in (filter (is_of number) (e ∷ es)) ≡ failed
  run_fails e [] x s h k state failed last =
      ap (λ (d : Entry). flat_map failed_in (filter (is_of number) (d ∷ []))) last
      ∙ ap (λ (b : Bool). flat_map failed_in (cond b (entry.Done number state failed ∷ []) [])) (eq-eqb number number refl) ∙ append-nil failed
  run_fails e (f ∷ es) x s h k state failed last =
      none_here (is_of number e) ∙ run_fails f es (world_after x e) (effect_at (x.place + 1) e s).stack (goes x s h e k.0 f k.1.0) k.1 state failed last
    where
      rest : List Entry
      rest = filter (is_of number) (f ∷ es)

      no_end : (d : Entry) → d ≡ e → failed_in d ≡ []
      no_end (entry.Done n status paths) same = absurd (step_goes (world_after x e) f k.1.0 none) where
        own_number : n ≡ number
        own_number = own_step schemas number x (entry.Done n status paths) (subst (IsStep schemas number x) (sym same) k.0)

        is : entry.Done number status paths ≡ e
        is = ap (λ (m : ℕ). entry.Done m status paths) (sym own_number) ∙ same

        over : EndsAs schemas name x s s.status status
        over = ends_here x s h status paths (subst (IsStep schemas number x) (sym is) k.0)

        never : (was state' : Status) → EndsAs schemas name x s was state' → is_in_progress state' ≡ false
        never was state' ends = grind (arith, ends)

        rests : is_in_progress (effect_at (x.place + 1) e s).stack.status ≡ false
        rests =
            subst (λ (d : Entry). is_in_progress (effect_at (x.place + 1) d s).stack.status ≡ false) is
            (ap is_in_progress (ended_status (x.place + 1) number status paths s) ∙ never s.status status over)

        stopped : is_going number (effect_at (x.place + 1) e s).stack ≡ false
        stopped = ap (λ (b : Bool). ((effect_at (x.place + 1) e s).stack.operation == number) && b) rests ∙ and_false ((effect_at (x.place + 1) e s).stack.operation == number)

        none : stack_of_operation number (world_after x e) ≡ None
        none = none_after number name x s h e (own x s h e k.0) stopped
      no_end (entry.Opened epoch lanes) same = refl
      no_end (entry.Begin n stack b) same = refl
      no_end (entry.Kept n path physical w) same = refl
      no_end (entry.Intent n token lane path r) same = refl
      no_end (entry.Outcome n token a before after) same = refl
      no_end (entry.Phase n p c) same = refl
      no_end (entry.ChangeSet n stack from rows outputs) same = refl

      none_here : (b : Bool) → flat_map failed_in (cond b (e ∷ rest) rest) ≡ flat_map failed_in rest
      none_here true = ap (λ (ps : List (List ℕ)). ps ++ flat_map failed_in rest) (no_end e refl)
      none_here false = refl
