-- The third doubt of a call is told by its row and by the number of those before it.
use Rattle.std.proofs.Common.{◌≡◌, ◌==◌, ◌&&◌, ℕ, Bool, true, false, List, Some, None, refl, sym, ◌∙◌, if◌then◌else◌}
use Rattle.std.specs.Prelude.{is_some}
use Rattle.cf_entry.specs.declared.entry.Entry.{Entry}
use Rattle.cf_entry.specs.declared.entry.Entry.TheVariants as entry
use Rattle.cf_entry.specs.declared.entry.Reply.{Reply}
use Rattle.cf_entry.specs.declared.entry.Reply.TheVariants as reply
use Rattle.cf_entry.specs.declared.turn.Reason.TheVariants as reason
use Rattle.cf_effect.specs.Calls.{call_under}
use Rattle.cf_effect.specs.Operation.{doubts_in}
use Rattle.cf_effect.specs.World.{StackState}
use Rattle.cf_plan.specs.Forward.{doubting}
use Rattle.cf_plan.proofs.failing.doubting.Goals as goal

third :
    (s : StackState) (earlier : List Entry) (e : Entry) (n t : ℕ) (a : Reply) (b f : ℕ) → e ≡ entry.Outcome n t a b f → a ≡ reply.Doubt → (x : Bool) →
    x ≡ (is_some (call_under t s) && doubts_in t earlier == 2) → doubting s earlier e ≡ (if x then Some (t, reason.Fault) else None)
third s earlier e n t a b f k d x h = rw k (rw d (rw h refl))

pub returns-then-is_third_doubt : goal.returns-then-is_third_doubt
returns-then-is_third_doubt c =
    sym (third c.args.stack.now.stack c.args.earlier.now c.args.entry.now c.in-Outcome.number c.in-Outcome.token c.in-Outcome.answer c.in-Outcome.before
    c.in-Outcome.after c.in-Outcome.is c.in-Doubt.is true (sym c.if-is_third_doubt.true ∙ c.is_third_doubt.ensures))

pub returns-else-is_third_doubt : goal.returns-else-is_third_doubt
returns-else-is_third_doubt c =
    sym (third c.args.stack.now.stack c.args.earlier.now c.args.entry.now c.in-Outcome.number c.in-Outcome.token c.in-Outcome.answer c.in-Outcome.before
    c.in-Outcome.after c.in-Outcome.is c.in-Doubt.is false (sym c.if-is_third_doubt.false ∙ c.is_third_doubt.ensures))
