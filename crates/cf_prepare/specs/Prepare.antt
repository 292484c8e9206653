-- What preparing a wish answers, and that what it orders may follow (User Guide: change sets; the answers are this project's own).
use Rattle.std.specs.Prelude.{◌≡◌, ◌≢◌, ⊤, ℕ, List, None, Option, Some, IsTrue, Result, Ok, Err}
use Rattle.cf_tree.specs.declared.row.Row.{Row}
use Rattle.cf_tree.specs.declared.template.Template.{Template}
use Rattle.cf_schema.specs.declared.described.Schema.{Schema}
use Rattle.cf_desired.specs.Templates.{templates_of}
use Rattle.cf_entry.specs.declared.entry.Entry.{Entry}
use Rattle.cf_effect.specs.declared.held.KeptSet.{KeptSet}
use Rattle.cf_effect.specs.Status.{is_in_progress}
use Rattle.cf_effect.specs.World.{World, known_stack}
use Rattle.cf_plan.specs.Follow.{MayFollow, is_opened_since}
use Rattle.cf_prepare.specs.Answer.{TestsAs}
use Rattle.cf_prepare.specs.Orders.{IsContinuation, IsDeletion, IsDeployment, IsReview}
use Rattle.cf_prepare.specs.Refusals.{continue_refusal, delete_refusal, deploy_refusal, execute_refusal, proposed_changes, resume_refusal, review_refusal, set_of, set_refusal}
use Rattle.cf_plan.specs.Follow.{lane_kinds}
use Rattle.cf_prepare.specs.Resuming.{ResumesAs}
use Rattle.cf_prepare.specs.declared.wish.Order.{Order}
use Rattle.cf_prepare.specs.declared.wish.Order.TheVariants as order
use Rattle.cf_prepare.specs.declared.wish.PrepareFault.{PrepareFault}
use Rattle.cf_prepare.specs.declared.wish.PrepareFault.TheVariants as fault
use Rattle.cf_prepare.specs.declared.wish.StackFault.TheVariants as stack
use Rattle.cf_prepare.specs.declared.wish.Wish.{Wish}
use Rattle.cf_prepare.specs.declared.wish.Wish.TheVariants as wish

-- Executing a change set does what its source says, unless what that changes now differs from what was kept.
abbrev pub ExecutesSet : Option PrepareFault → ℕ → List Row → List Row → (Order → Type 0) → Result Order PrepareFault → Type 0
ExecutesSet o number now kept P (Ok r) = (o ≡ None) × (now ≡ kept) × P r
ExecutesSet o number now kept P (Err (fault.Stack (stack.Outdated n))) = (o ≡ None) × (n ≡ number) × (now ≢ kept)
ExecutesSet o number now kept P (Err f) = TestsAs o P (Err f)

abbrev pub ExecutesFound : List Schema → World → List ℕ → ℕ → Option KeptSet → Result Order PrepareFault → Type 0
ExecutesFound schemas x name number (Some k) r =
    ExecutesSet (execute_refusal schemas x name k.source) number (proposed_changes schemas x name k.source).rows k.rows
    (IsDeployment schemas x name k.source) r
ExecutesFound schemas x name number None r = ⊤

abbrev pub ExecutesAs : Option PrepareFault → List Schema → World → List ℕ → ℕ → Result Order PrepareFault → Type 0
ExecutesAs (Some f) schemas x name number r = TestsAs (Some f) (λ o. ⊤) r
ExecutesAs None schemas x name number r = ExecutesFound schemas x name number (set_of number (known_stack name x)) r

-- the answer to a wish
abbrev pub PreparesAs : List Schema → World → Wish → Result Order PrepareFault → Type 0
PreparesAs schemas x (wish.Deploy name source) r = TestsAs (deploy_refusal schemas x name source) (IsDeployment schemas x name source) r
PreparesAs schemas x (wish.Review name source) r = TestsAs (review_refusal schemas x name source) (IsReview schemas x name source) r
PreparesAs schemas x (wish.Execute name number) r = ExecutesAs (set_refusal x name number) schemas x name number r
PreparesAs schemas x (wish.Delete name paths) r = TestsAs (delete_refusal x name paths) (IsDeletion x name paths) r
PreparesAs schemas x (wish.Continue name paths) r = TestsAs (continue_refusal x name paths) (IsContinuation x name paths) r
PreparesAs schemas x (wish.Resume name) r = ResumesAs (resume_refusal x name) (lane_kinds x) (known_stack name x) r

-- the templates are those of the source that is looked at
abbrev pub HasTemplates : World → Wish → List (List ℕ × Template) → Type 0
HasTemplates x (wish.Deploy name source) ts = ts ≡ templates_of source
HasTemplates x (wish.Review name source) ts = ts ≡ templates_of source
HasTemplates x (wish.Execute name number) ts = (k : KeptSet) → set_of number (known_stack name x) ≡ Some k → ts ≡ templates_of k.source
HasTemplates x _ ts = ⊤

-- a rollback goes on only in an opening after the one in which it failed
abbrev pub IsOpened : World → Wish → Type 0
IsOpened x (wish.Continue name paths) = IsTrue (is_opened_since (known_stack name x))
IsOpened x _ = ⊤

-- what is ordered may follow, whatever leases are out; an operation that goes on is the one in progress on the stack
abbrev pub MayFollowNow : List Schema → World → Entry → Type 0
MayFollowNow schemas x e = (out : List ℕ) → MayFollow schemas x out e

abbrev pub stack_named : Wish → List ℕ
stack_named (wish.Deploy name source) = name
stack_named (wish.Review name source) = name
stack_named (wish.Execute name number) = name
stack_named (wish.Delete name paths) = name
stack_named (wish.Continue name paths) = name
stack_named (wish.Resume name) = name

abbrev pub OrderFollows : List Schema → World → Wish → Order → Type 0
OrderFollows schemas x w (order.Begin e) = IsOpened x w → MayFollowNow schemas x e
OrderFollows schemas x w (order.Review e) = MayFollowNow schemas x e
OrderFollows schemas x w (order.Resume number) =
    (number ≡ (known_stack (stack_named w) x).operation) × IsTrue (is_in_progress (known_stack (stack_named w) x).status)
