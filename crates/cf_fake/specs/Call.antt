-- A call of the handler in memory: which one it is, what the plan has for it, the table's answer, and the count (this project's own).
use Rattle.std.specs.Prelude.{◌≡◌, ℕ, ◌<◌, ◌≤◌, ◌⊎◌, ◌&&◌, Bool, not, nat_le, if◌then◌else◌, List, Option, Some, is_some}
use Rattle.cf_tree.specs.declared.request.Request.{Request}
use Rattle.cf_tree.specs.declared.request.Answer.{Answer}
use Rattle.cf_tree.specs.declared.request.Answer.TheVariants as answer
use Rattle.cf_schema.specs.declared.described.Schema.{Schema}
use Rattle.cf_handler.specs.declared.settled.Settled.{Settled}
use Rattle.cf_handler.specs.Lane.{settlement_of}
use Rattle.cf_handler.specs.declared.fence.FenceAnswer.{FenceAnswer}
use Rattle.cf_handler.specs.declared.fence.FenceAnswer.TheVariants.{Raised, Ahead, Fault}
use Rattle.cf_fake.specs.declared.planned.Break.{Break}
use Rattle.cf_fake.specs.declared.planned.Break.TheVariants.{FaultBefore, FaultLater}
use Rattle.cf_fake.specs.declared.planned.Planned.{Planned}
use Rattle.cf_fake.specs.declared.waiting.Waiting.{Waiting}
use Rattle.cf_fake.specs.Plan.{break_at, breaks_fence, counted, new_entry, next_number, IsWorked}
use Rattle.cf_fake.specs.Late.{due_after, late_settled, late_waiting, put_aside}

-- what a handler in memory is: its name, its schema, its plan, whether its fence was raised once, how many calls it had, its count of
-- faults, its fence, what was settled, and what waits
pub record Kept : Type 0 where
  pub name : List ℕ
  pub schema : Schema
  pub plan : List Planned
  pub has_fenced : Bool
  pub calls : ℕ
  pub faults : ℕ
  pub fence : ℕ
  pub settled : List Settled
  pub waiting : List Waiting

-- a call, and what it may be told
abbrev pub IsTold : Option Break → Schema → List ℕ → ℕ → ℕ → ℕ → Request → List Settled → List Waiting → List Settled → List Waiting
    → Answer → Type 0
IsTold (Some FaultBefore) g name number epoch token request settled waiting settled' waiting' result =
    (result ≡ answer.Fault) × (settled' ≡ settled) × (waiting' ≡ waiting)
IsTold (Some (FaultLater later)) g name number epoch token request settled waiting settled' waiting' result =
    (result ≡ answer.Fault) × (settled' ≡ settled)
    × (waiting' ≡ put_aside (settlement_of token settled)
    (record { due = due_after number later; epoch = epoch; token = token; request = request }) waiting)
IsTold b g name number epoch token request settled waiting settled' waiting' result =
    IsWorked b (settlement_of token settled) (new_entry b g name token request settled) settled settled' result × (waiting' ≡ waiting)

-- The calls that are due act first, then the call is answered by the table and by what is planned for its number.
abbrev pub AnswersByTable : Option Break → Schema → List ℕ → ℕ → ℕ → ℕ → ℕ → Request → List Settled → List Waiting → List Settled → List Waiting
    → Answer → Type 0
AnswersByTable b g name number fence epoch token request settled waiting settled' waiting' result =
    IsTold b g name number epoch token request (late_settled g name number fence waiting settled)
    (late_waiting g name number fence waiting settled) settled' waiting' result

-- A call that the fence lets through has the next number. It is counted where it is refused, faulty or broken by plan. Where memory was
-- wanting, nothing is said of what acted late.
pub record IsAnswered (before : Kept) (epoch token : ℕ) (request : Request) (after : Kept) (result : Answer) : Type 0 where
  pub number : after.calls ≡ next_number before.calls
  pub table : (result ≡ answer.NoMemory)
      ⊎ AnswersByTable (break_at (next_number before.calls) before.plan) before.schema before.name (next_number before.calls) before.fence
      epoch token request before.settled before.waiting after.settled after.waiting result
  pub count : after.faults ≡ counted (is_some (break_at (next_number before.calls) before.plan)) result before.faults
  pub name : after.name ≡ before.name
  pub schema : after.schema ≡ before.schema
  pub plan : after.plan ≡ before.plan
  pub has_fenced : after.has_fenced ≡ before.has_fenced
  pub fence : after.fence ≡ before.fence

-- A call before the fence is stale; every other one is answered.
abbrev pub CallAnswers : Kept → ℕ → ℕ → Request → Kept → Answer → Type 0
CallAnswers before epoch token request after result =
    ((epoch < before.fence) × (result ≡ answer.Stale before.fence) × (after ≡ before))
    ⊎ ((before.fence ≤ epoch) × IsAnswered before epoch token request after result)

-- what the raising of the fence answers: it is ahead where it is not below the epoch; the first other one fails where the plan says so
abbrev pub fence_answer : Kept → ℕ → FenceAnswer
fence_answer k epoch =
    if nat_le epoch k.fence then Ahead k.fence else (if not k.has_fenced && breaks_fence k.plan then Fault else Raised)
