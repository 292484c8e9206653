-- Faults by plan: what becomes of the call of a number (this project's own).
use Rattle.std.specs.Prelude.{◌≡◌, ℕ, ◌+◌, ◌-◌, ◌^◌, ◌==◌, min, Bool, true, false, if◌then◌else◌, List, [], ◌∷◌, ◌++◌, Option, Some, None, find, option_map}
use Rattle.std.specs.List.{list_any}
use Rattle.cf_tree.specs.declared.request.Request.{Request}
use Rattle.cf_tree.specs.declared.request.Answer.{Answer}
use Rattle.cf_tree.specs.declared.request.Answer.TheVariants as answer
use Rattle.cf_schema.specs.declared.described.Schema.{Schema}
use Rattle.cf_handler.specs.declared.settled.Settlement.{Settlement}
use Rattle.cf_handler.specs.declared.settled.Settlement.TheVariants.{Failed}
use Rattle.cf_handler.specs.declared.settled.Settled.{Settled}
use Rattle.cf_handler.specs.Lane.{live_of}
use Rattle.cf_handler.specs.Answered.{answer_of}
use Rattle.cf_fake.specs.declared.planned.Break.{Break}
use Rattle.cf_fake.specs.declared.planned.Break.TheVariants.{Refuse, FaultBefore, FaultAfter, FaultLater, FenceFault}
use Rattle.cf_fake.specs.declared.planned.Planned.{Planned}
use Rattle.cf_fake.specs.Sound.{lane_of}
use Rattle.cf_answers.specs.Table.{answer_to}

abbrev pub is_fence_fault : Break → Bool
is_fence_fault FenceFault = true
is_fence_fault break_ = false

abbrev pub is_call : ℕ → Planned → Bool
is_call call p = call == p.call

-- what is planned for the call of a number
abbrev pub break_at : ℕ → List Planned → Option Break
break_at call plan = option_map (λ p. p.break_) (find (is_call call) plan)

-- whether the first raising of the fence is broken
abbrev pub is_of_fence : Planned → Bool
is_of_fence p = is_fence_fault p.break_

abbrev pub breaks_fence : List Planned → Bool
breaks_fence plan = list_any is_of_fence plan

-- what a new token is settled with: the code of a refusal, or else the table's answer
abbrev pub settled_by : Option Break → Settlement → Settlement
settled_by (Some (Refuse code)) s = Failed code
settled_by _ s = s

-- what is told of a token that is settled so
abbrev pub told_by : Option Break → Settlement → Answer
told_by (Some FaultBefore) s = answer.Fault
told_by (Some FaultAfter) s = answer.Fault
told_by (Some (FaultLater later)) s = answer.Fault
told_by _ s = answer_of s

-- A call that is worked: a settled token answers its settled answer again and changes nothing, a new one is settled.
abbrev pub IsWorked : Option Break → Option Settlement → Settled → List Settled → List Settled → Answer → Type 0
IsWorked b (Some earlier) new before after result = (result ≡ told_by b earlier) × (after ≡ before)
IsWorked b None new before after result = (result ≡ told_by b new.settlement) × (after ≡ before ++ new ∷ [])

-- what a call of a token settles: the answer of the table over what is live, where the plan does not refuse it
abbrev pub new_entry : Option Break → Schema → List ℕ → ℕ → Request → List Settled → Settled
new_entry b g name token request before =
    record { token = token; request = request; settlement = settled_by b (answer_to g name token (live_of (lane_of before)) request) }

-- the next number, where there is one
abbrev pub next_number : ℕ → ℕ
next_number n = min (n + 1) (2 ^ 64 - 1)

-- the count of refusals and faults after an answer: each of them raises it, and each call that is broken by plan
abbrev pub counted : Bool → Answer → ℕ → ℕ
counted is_broken (answer.Success physical attrs) n = if is_broken then next_number n else n
counted is_broken (answer.Failed code) n = next_number n
counted is_broken answer.Fault n = next_number n
counted is_broken (answer.Stale fence) n = n
counted is_broken answer.NoMemory n = n
