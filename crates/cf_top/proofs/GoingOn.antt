-- What goes on with an operation, and what a change set orders: wishes that rest on no library.
use Rattle.std.proofs.Common.{◌≡◌, ℕ, ◌<◌, Bool, true, List, Option, Some, None, Result, Ok, Err, refl, sym, ap, ◌∙◌, subst, arith}
use Rattle.std.specs.Bool.{IsTrue}
use Rattle.std.specs.Prelude.{IfOk, is_some, unwrap_or}
use Rattle.cf_schema.specs.declared.described.Schema.{Schema}
use Rattle.cf_effect.specs.Status.{Stage, is_in_progress, stage_of}
use Rattle.cf_effect.specs.World.{StackState, World, known_stack, no_stack, stack_at, stack_of_operation}
use Rattle.cf_stacks.specs.Apart.{AreApart}
use Rattle.cf_effect.specs.declared.held.KeptSet.{KeptSet}
use Rattle.cf_prepare.specs.Prepare.{ExecutesAs, ExecutesFound, OrderFollows, PreparesAs}
use Rattle.cf_prepare.specs.Refusals.{set_of, set_refusal}
use Rattle.cf_prepare.specs.declared.wish.Order.{Order}
use Rattle.cf_prepare.specs.declared.wish.Order.TheVariants as order
use Rattle.cf_prepare.specs.declared.wish.PrepareFault.{PrepareFault}
use Rattle.cf_prepare.specs.declared.wish.PrepareFault.TheVariants as fault
use Rattle.cf_prepare.specs.declared.wish.Wish.TheVariants as wish
use Rattle.cf_book.specs.Beginning.{IsPrepared}
use Rattle.cf_face.specs.declared.exit.Exit.{Exit}
use Rattle.cf_face.specs.declared.words.Task.TheVariants as task
use Rattle.cf_core.proofs.Operations.{going_here}
use Rattle.cf_top.proofs.Ordered.{continues_prepared, executes_prepared}
use Rattle.cf_top.specs.Refusals.{IsUnasked, LibraryUse}
use Rattle.cf_top.specs.Tasks.{ExecutesBy, FindsOrder, GoesOnBy, IsNumbered, PreparesWish}
use Rattle.cf_workers.specs.Ordering.{IsOrderOn}

module _ (schemas : List Schema) (x : World) (name : List ℕ) (ordered : Order) where
  -- where memory is short, or the operation has no number of its own, it does not go on
  pub goes_on : (result : Result Order Exit) → PreparesWish schemas x (wish.Resume name) (Ok ordered) → GoesOnBy ordered result → PreparesWish schemas x (wish.Resume name) result
  goes_on (Ok same) p g = subst (λ (d : Order). PreparesWish schemas x (wish.Resume name) (Ok d)) (sym g.0) p
  goes_on (Err e) p g = (fault.NoMemory, tt, g)

pub numbered_so : (ordered : Order) (result : Result Order Exit) → GoesOnBy ordered result → IfOk result IsNumbered
numbered_so ordered (Ok same) g = subst IsNumbered (sym g.0) g.1
numbered_so ordered (Err e) g = tt

module _ (o : LibraryUse) (schemas : List Schema) (x : World) (name : List ℕ) (unasked : IsUnasked o) where
  pub continued : (paths : List (List ℕ)) (result : Result Order Exit) → PreparesWish schemas x (wish.Continue name paths) result
      → FindsOrder o schemas x name (task.Continue paths) result
  continued paths (Ok ordered) (p, f) = ((p.0, p.1, unasked), λ apart opened. continues_prepared schemas x name paths ordered p.1 f opened)
  continued paths (Err e) r = (r, unasked)

  -- a stack on which an operation is in progress is there
  going_there : (found : Option StackState) → is_in_progress (unwrap_or found no_stack).status ≡ true → found ≡ Some (unwrap_or found no_stack)
  going_there None q = let no : ⊥ = cc in absurd no
  going_there (Some s) q = refl

  staged_by : (found : Option Stage) → is_some found ≡ true → (stage : Stage) × (found ≡ Some stage)
  staged_by None q = let no : ⊥ = cc in absurd no
  staged_by (Some stage) q = (stage, refl)

  is_true : (b : Bool) → IsTrue b → b ≡ true
  is_true b t = t

  pub resumes : (ordered : Order) → PreparesAs schemas x (wish.Resume name) (Ok ordered) → OrderFollows schemas x (wish.Resume name) ordered → IsNumbered ordered → AreApart x
      → IsPrepared schemas x ordered × IsOrderOn name x ordered
  resumes ordered p f numbered apart = by ordered f numbered p.2 where
    s : StackState
    s = known_stack name x

    by : (d : Order) → OrderFollows schemas x (wish.Resume name) d → IsNumbered d → d ≡ order.Resume s.operation → IsPrepared schemas x d × IsOrderOn name x d
    by (order.Begin e) f above q = let no : ⊥ = cc in absurd no
    by (order.Review e) f above q = let no : ⊥ = cc in absurd no
    by (order.Resume n) (same, going) above q =
        let works : is_in_progress s.status ≡ true = is_true (is_in_progress s.status) going in
        let there : stack_at name x ≡ Some s = going_there (stack_at name x) works in
        let found : stack_of_operation n x ≡ Some (name, s) =
        ap (λ (m : ℕ). stack_of_operation m x) same ∙ going_here x name s apart (subst (λ (m : ℕ). 0 < m) same above) there works in
        let (stage, at) = staged_by (stage_of s.status) works in ((name, s, stage, found, at), (above, s, found))

  pub resumed : (result : Result Order Exit) → PreparesWish schemas x (wish.Resume name) result → ((ordered : Order) → result ≡ Ok ordered → IsNumbered ordered)
      → FindsOrder o schemas x name task.Resume result
  resumed (Ok ordered) (p, f) numbered = ((p, unasked), λ apart opened. resumes ordered p f (numbered ordered refl) apart)
  resumed (Err e) r numbered = (r, unasked)

-- A change set that is executed is there, and has the rows of now.
module _ (schemas : List Schema) (x : World) (name : List ℕ) (number : ℕ) (ordered : Order) where
  executes_found : set_refusal x name number ≡ None → (k : Option KeptSet) → set_of number (known_stack name x) ≡ k → ExecutesFound schemas x name number k (Ok ordered)
      → ExecutesBy schemas x name number ordered
  executes_found free (Some k) at (sound, same, deploys) = record {
    free = free;
    set = k;
    kept = at;
    sound = sound;
    same_rows = same;
    deploys = deploys;
  }
  executes_found free None at p = let never : ⊥ = grind (arith, free, at) in absurd never

  executes_by : (o : Option PrepareFault) → set_refusal x name number ≡ o → ExecutesAs o schemas x name number (Ok ordered) → ExecutesBy schemas x name number ordered
  executes_by None free p = executes_found free (set_of number (known_stack name x)) refl p
  executes_by (Some f) q p = let is : Some f ≡ None = p.0 in let never : ⊥ = cc in absurd never

  pub executes : PreparesAs schemas x (wish.Execute name number) (Ok ordered) → ExecutesBy schemas x name number ordered
  executes p = executes_by (set_refusal x name number) refl p

pub executed : (o : LibraryUse) (schemas : List Schema) (x : World) (name : List ℕ) → IsUnasked o → (number : ℕ) (result : Result Order Exit)
    → PreparesWish schemas x (wish.Execute name number) result → FindsOrder o schemas x name (task.Execute number) result
executed o schemas x name unasked number (Ok ordered) (p, f) =
    let d = executes schemas x name number ordered p in
    ((d, unasked), λ apart opened. executes_prepared schemas x name number d.set.source ordered d.deploys f)
executed o schemas x name unasked number (Err e) r = (r, unasked)
