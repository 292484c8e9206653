-- What is found out of a task, over the world that a book's entries leave.
use Rattle.std.proofs.Common.{◌≡◌, ℕ, true, false, List, Option, Some, None, Result, Ok, refl, sym, ap, ◌∙◌, subst, arith}
use Rattle.std.specs.Bool.{IsTrue}
use Rattle.std.specs.Prelude.{unwrap_or}
use Rattle.cf_schema.specs.declared.described.Schema.{Schema}
use Rattle.cf_effect.specs.World.{StackState, World, known_stack, no_stack, stack_at}
use Rattle.cf_stacks.specs.Apart.{AreApart}
use Rattle.cf_plan.specs.Accept.{creates_from}
use Rattle.cf_plan.specs.Follow.{continues_from, is_opened_since}
use Rattle.cf_prepare.specs.Refusals.{continue_refusal}
use Rattle.cf_prepare.specs.declared.wish.Order.{Order}
use Rattle.cf_prepare.specs.declared.wish.PrepareFault.TheVariants as fault
use Rattle.cf_book.specs.Record.{world_left}
use Rattle.cf_book.specs.State.{BookNow}
use Rattle.cf_face.specs.declared.exit.Exit.{Exit}
use Rattle.cf_face.specs.declared.exit.Exit.TheVariants as exit
use Rattle.cf_face.specs.Words.{load_choice}
use Rattle.cf_face.specs.declared.words.Task.{Task}
use Rattle.cf_face.specs.declared.words.Task.TheVariants as task
use Rattle.cf_workers.specs.Ordering.{IsJustOpened}
use Rattle.cf_top.specs.Refusals.{IsUnasked, LibraryUse, RefusesChoice}
use Rattle.cf_top.specs.Tasks.{FindsOrder, IsOpenedFor, IsOrdered, OrdersTask, RefusesTask, early_refusal, load_library}
use Rattle.cf_top.specs.declared.planning.Purpose.TheVariants as purpose
use Rattle.cf_top.proofs.Ordered.{short_wish}
use Rattle.cf_prepare.specs.declared.wish.Wish.TheVariants as wish
use Rattle.cf_core.proofs.Heard.{opened_since}

-- over the schemas of the book's lanes and the world that its entries leave
pub found_over : (o : LibraryUse) (schemas lanes : List Schema) (x y : World) (name : List ℕ) (t : Task) (result : Result Order Exit) → schemas ≡ lanes → x ≡ y
    → FindsOrder o schemas x name t result → FindsOrder o lanes y name t result
found_over o schemas lanes x y name t result p q f = subst (λ z. FindsOrder o lanes z name t result) q (subst (λ z. FindsOrder o z x name t result) p f)

-- a rollback that may go on failed on a stack that is there
module _ (x : World) (name : List ℕ) (paths : List (List ℕ)) (free : continue_refusal x name paths ≡ None) where
  there : (found : Option StackState) → stack_at name x ≡ found → (s : StackState) × (stack_at name x ≡ Some s)
  there None q = let no : ⊥ = grind (arith, q, free) in absurd no
  there (Some s) q = (s, q)

  failed : continues_from (known_stack name x).status ≡ true
  failed = grind (arith, free)

continues_no_create : (s : StackState) → continues_from s.status ≡ true → creates_from s.status ≡ false
continues_no_create s q = grind (arith, q)

-- what a task orders may be begun where an opening is the last entry
module _ {D : Type 0} (o : LibraryUse) (b : BookNow D) (schemas : List Schema) (name : List ℕ) (t : Task) (ordered : Order) (apart : AreApart (world_left b.entries)) (opened : IsJustOpened b.entries) where
  abbrev x : World
  x = world_left b.entries

  opened_for : (u : Task) → OrdersTask o schemas x name u ordered → IsOpenedFor x name u
  opened_for (task.Deploy choice) d = tt
  opened_for task.Resume d = tt
  opened_for (task.Execute number) d = tt
  opened_for (task.Load count) d = tt
  opened_for (task.Continue paths) d = by (there x name paths d.0 (stack_at name x) refl) opened where
    by : (s : StackState) × (stack_at name x ≡ Some s) → IsJustOpened b.entries → IsTrue (is_opened_since (known_stack name x))
    by (s, at) (front, epoch, lanes, q) =
        let known : known_stack name x ≡ s = ap (λ f. unwrap_or f no_stack) at in
        subst (λ (z : StackState). IsTrue (is_opened_since z)) (sym known)
        (opened_since front epoch lanes name s (ap (λ es. stack_at name (world_left es)) (sym q) ∙ at)
        (continues_no_create s (ap (λ (z : StackState). continues_from z.status) (sym known) ∙ failed x name paths d.0)))

  pub may_start : FindsOrder o schemas x name t (Ok ordered) → IsOrdered o schemas x name t ordered
  may_start f = let can = f.1 apart (opened_for t f.0) in record { apart = apart; orders = f.0; prepared = can.0; on_stack = can.1 }

-- want of memory refuses each task
pub short_of : (o : LibraryUse) (schemas : List Schema) (x : World) (name : List ℕ) (t : Task) → early_refusal name x t ≡ None → IsUnasked o → RefusesTask o schemas x name t exit.NoMemory
short_of o schemas x name (task.Deploy choice) free unasked = subst (λ b. RefusesChoice o purpose.Deploy schemas x name choice b exit.NoMemory) (sym free) tt
short_of o schemas x name (task.Continue paths) free unasked = ((fault.NoMemory, tt, refl), unasked)
short_of o schemas x name task.Resume free unasked = ((fault.NoMemory, tt, refl), unasked)
short_of o schemas x name (task.Execute number) free unasked = ((fault.NoMemory, short_wish schemas x (wish.Execute name number), refl), unasked)
short_of o schemas x name (task.Load count) free unasked =
    (subst (λ b. RefusesChoice (load_library count) purpose.Deploy schemas x name (load_choice count) b exit.NoMemory) (sym free) tt, unasked)

-- a deployment or a load that is refused for its stack's status
pub barred : (o : LibraryUse) (schemas : List Schema) (x : World) (name : List ℕ) (t : Task) (e : Exit) → early_refusal name x t ≡ Some e → IsUnasked o → RefusesTask o schemas x name t e
barred o schemas x name (task.Deploy choice) e q unasked = subst (λ b. RefusesChoice o purpose.Deploy schemas x name choice b e) (sym q) (refl, unasked)
barred o schemas x name (task.Continue paths) e q unasked = let no : ⊥ = cc in absurd no
barred o schemas x name task.Resume e q unasked = let no : ⊥ = cc in absurd no
barred o schemas x name (task.Execute number) e q unasked = let no : ⊥ = cc in absurd no
barred o schemas x name (task.Load count) e q unasked =
    (subst (λ b. RefusesChoice (load_library count) purpose.Deploy schemas x name (load_choice count) b e) (sym q) (refl, (refl, refl)), unasked)
