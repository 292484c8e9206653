-- What is due, and what is chosen, on the stack of an operation is so in the operation.
use Rattle.std.specs.Prelude.{Result, Ok, Err, IfOk}
use Rattle.std.proofs.Common.{◌≡◌, ℕ, true, false, List, Some, ap, sym, ◌∙◌, subst}
use Rattle.cf_tree.specs.declared.request.Request.{Request}
use Rattle.cf_tree.specs.declared.request.Request.TheVariants as request
use Rattle.cf_schema.specs.declared.described.Schema.{Schema}
use Rattle.cf_entry.proofs.Codec.{some_is}
use Rattle.cf_entry.specs.declared.entry.Entry.{Entry}
use Rattle.cf_effect.specs.World.{StackState, World, stack_of_operation}
use Rattle.cf_effect.specs.Status.{Stage, stage_of}
use Rattle.cf_next.specs.declared.step.Next.{Next}
use Rattle.cf_next.specs.declared.step.Next.TheVariants as next
use Rattle.cf_plan.specs.Follow.{MayFollow, MayIntend}
use Rattle.cf_next.specs.declared.chosen.NextFault.{NextFault}
use Rattle.cf_next.specs.declared.chosen.NextFault.TheVariants.{NoStep}
use Rattle.cf_next.specs.Chosen.{HasNoStep, IsInProgress, IsNext, MayStart, MayStartOn, entry_for}
use Rattle.cf_next.specs.Taking.{Chooses}
use Rattle.cf_next.proofs.Followed.{next_follows}
use Rattle.cf_next.specs.Due.{AreDue, AreDueIn, AreDueOn, IsCallDue, IsCallDueIn, IsDue, IsDueIn}

module _ (schemas : List Schema) (x : World) (out : List ℕ) (number : ℕ) where
  abbrev On : (List ℕ → StackState → Stage → Type 0) → Type 0
  On P = (name : List ℕ) × (s : StackState) × (stage : Stage) × (stack_of_operation number x ≡ Some (name, s)) × (stage_of s.status ≡ Some stage) × P name s stage

  module _ (name : List ℕ) (s : StackState) (stage : Stage) (going : stack_of_operation number x ≡ Some (name, s))
      (in_stage : stage_of s.status ≡ Some stage) where
    from : (P : List ℕ → StackState → Stage → Type 0) → On P → P name s stage
    from P (name', s', stage', going', in_stage', w) = by stage' in_stage' w
      where
        same : ◌≡◌ {A = List ℕ × StackState} (name', s') (name, s)
        same = some_is (name', s') (name, s) (sym going' ∙ going)

        by : (t : Stage) → stage_of s'.status ≡ Some t → P name' s' t → P name s stage
        by t at v =
            let stages : t ≡ stage =
            some_is t stage (sym at ∙ (ap (λ (u : List ℕ × StackState). stage_of u.1.status) same ∙ in_stage)) in
            subst (λ (u : List ℕ × StackState). P u.0 u.1 stage) same (subst (P name' s') stages v)

    call_to : (path lane : List ℕ) (token : ℕ) (r : Request) → IsCallDueIn schemas name x out s stage path lane token r
        → IsCallDue schemas x out number path lane token r
    call_to path lane token (request.Create k props) (none, home, w) = (none, home, (name, s, stage, going, in_stage, w))
    call_to path lane token (request.Update id props) w = (name, s, stage, going, in_stage, w)
    call_to path lane token (request.Delete id) w = (name, s, stage, going, in_stage, w)

    call_from : (path lane : List ℕ) (token : ℕ) (r : Request) → IsCallDue schemas x out number path lane token r
        → IsCallDueIn schemas name x out s stage path lane token r
    call_from path lane token (request.Create k props) (none, home, w) =
        (none, home, from (λ n t g. MayIntend schemas n x out t g token home path (request.Create k props)) w)
    call_from path lane token (request.Update id props) w =
        from (λ n t g. IsDueIn schemas n x out t g (next.Step path lane token (request.Update id props) false)) w
    call_from path lane token (request.Delete id) w = from (λ n t g. IsDueIn schemas n x out t g (next.Step path lane token (request.Delete id) false)) w

    due_to : (n : Next) → IsDueIn schemas name x out s stage n → IsDue schemas x out number n
    due_to (next.Step path lane token r true) w = (name, s, stage, going, in_stage, w)
    due_to (next.Step path lane token r false) w = call_to path lane token r w
    due_to (next.Keep path id k) w = (name, s, stage, going, in_stage, w)
    due_to (next.Turn p c) w = (name, s, stage, going, in_stage, w)
    due_to (next.End state failed) w = (name, s, stage, going, in_stage, w)
    due_to next.Wait w = w

    due_from : (n : Next) → IsDue schemas x out number n → IsDueIn schemas name x out s stage n
    due_from (next.Step path lane token r true) w = from (λ n t g. IsDueIn schemas n x out t g (next.Step path lane token r true)) w
    due_from (next.Step path lane token r false) w = call_from path lane token r w
    due_from (next.Keep path id k) w = from (λ n t g. IsDueIn schemas n x out t g (next.Keep path id k)) w
    due_from (next.Turn p c) w = from (λ n t g. IsDueIn schemas n x out t g (next.Turn p c)) w
    due_from (next.End state failed) w = from (λ n t g. IsDueIn schemas n x out t g (next.End state failed)) w
    due_from next.Wait w = w

    -- these are all on its stack, and all in the operation
    pub dues_in : (dues : List Next) → AreDue schemas x out number dues → AreDueIn schemas name x out s stage dues
    dues_in dues are = record { due = λ n i. due_from n (are.due n i); all = λ n w. are.all n (due_to n w); once = are.once; ordered = are.ordered }

    dues_from : (dues : List Next) → AreDueIn schemas name x out s stage dues → AreDue schemas x out number dues
    dues_from dues are = record { due = λ n i. due_to n (are.due n i); all = λ n w. are.all n (due_from n w); once = are.once; ordered = are.ordered }

    starts_from : (n : Next) → MayStartOn schemas x out number n → MayStart schemas name x out s stage n
    starts_from n = from (λ k t g. MayStart schemas k x out t g n)

  pub dues_are : (dues : List Next) (t : List ℕ × StackState) → stack_of_operation number x ≡ Some t → IsInProgress x number
      → AreDueOn schemas t.0 x out t.1 dues → AreDue schemas x out number dues
  dues_are dues t going (name, s, stage, going', in_stage) are =
      let same : ◌≡◌ {A = List ℕ × StackState} (name, s) t = some_is (name, s) t (sym going' ∙ going) in
      dues_from t.0 t.1 stage going (subst (λ (u : List ℕ × StackState). stage_of u.1.status ≡ Some stage) same in_stage) dues
      (are stage (subst (λ (u : List ℕ × StackState). stage_of u.1.status ≡ Some stage) same in_stage))

  -- What is taken on the stack of the operation is taken in it.
  module _ (t : List ℕ × StackState) (on : stack_of_operation number x ≡ Some t) (going : IsInProgress x number) where
    stage_there : (stage : Stage) × (stage_of t.1.status ≡ Some stage)
    stage_there =
        let (name, s, stage, on', in_stage) = going in
        let same : ◌≡◌ {A = List ℕ × StackState} (name, s) t = some_is (name, s) t (sym on' ∙ on) in
        (stage, subst (λ (u : List ℕ × StackState). stage_of u.1.status ≡ Some stage) same in_stage)

    pub next_is : (r : Result Next NextFault) → Chooses schemas t.0 x out t.1 r → IfOk r (λ n. IsNext schemas x out number n)
    next_is (Ok n) w = let (stage, in_stage) = stage_there in (t.0, t.1, stage, on, in_stage, w stage in_stage)
    next_is (Err fault) w = tt

    none_may : Chooses schemas t.0 x out t.1 (Err NoStep) → HasNoStep schemas x out number
    none_may (idle, none) =
        let (stage, in_stage) = stage_there in
        record { idle = idle; none = λ n w. none stage in_stage n (starts_from t.0 t.1 stage on in_stage n w) }

    pub no_step : (r : Result Next NextFault) → Chooses schemas t.0 x out t.1 r → r ≡ Err NoStep → HasNoStep schemas x out number
    no_step r w e = none_may (subst (Chooses schemas t.0 x out t.1) e w)

  pub next_may : (r : Result Next NextFault) → IfOk r (λ n. IsNext schemas x out number n)
      → IfOk r (λ n. (e : Entry) → entry_for number n ≡ Some e → MayFollow schemas x out e)
  next_may (Ok n) w = λ e q. next_follows schemas x out number n e w q
  next_may (Err fault) w = tt
