use Rattle.std.proofs.Common.{sym, ◌∙◌}
use Rattle.std.proofs.lemmas.Result.{IfOk-weaker}
use Rattle.cf_plan.specs.Follow.{none_in_flight}
use Rattle.cf_plan.proofs.Members.{not_both}
use Rattle.cf_next.proofs.Followed.{none_is}
use Rattle.cf_next.proofs.chosen.last_in.Goals as goal

pub returns-then-none_in_flight : goal.returns-then-none_in_flight
returns-then-none_in_flight c =
    let idle = sym c.none_in_flight.ensures ∙ c.if-none_in_flight.true in
    IfOk-weaker c.last_of.result _ _
    (λ last w stage in_stage n. let is = w stage in_stage n in (λ l. is.0 l.1, λ e. (idle, is.1 e)))
    c.last_of.ensures

pub returns-else-none_in_flight : goal.returns-else-none_in_flight
returns-else-none_in_flight c = λ stage in_stage n. (
  λ l. absurd (not_both (none_in_flight c.args.out.now c.args.stack.now.stack) l.0 (sym c.none_in_flight.ensures ∙ c.if-none_in_flight.false)),
  λ e. none_is n e,
)
