use Rattle.std.proofs.Common.{List, ap, sym, ◌∙◌, subst}
use Rattle.std.proofs.lemmas.Result.{IfOk-weaker}
use Rattle.cf_next.specs.declared.step.Next.{Next}
use Rattle.cf_next.specs.Due.{AreDueIn}
use Rattle.cf_next.specs.Joining.{with_last}
use Rattle.cf_next.proofs.AllDue.{idle_due, running_due}
use Rattle.cf_next.proofs.stage.dues_by.Goals as goal

pub returns-then-not-none_in_flight : goal.returns-then-not-none_in_flight
returns-then-not-none_in_flight c = λ stage in_stage.
    let x = c.args.world.now.world in
    let s = c.args.stack.now.stack in
    subst (AreDueIn c.args.schemas.now c.args.name.now x c.args.out.now s stage) (sym c.in_ok-begun.ensures)
    (running_due c.args.schemas.now c.args.name.now x c.args.out.now s stage c.args.offer.now (c.requires.offer stage in_stage)
    (sym c.none_in_flight.ensures ∙ c.if-not-none_in_flight.true))

pub returns : goal.returns
returns c =
    let x = c.args.world.now.world in
    let s = c.args.stack.now.stack in
    IfOk-weaker c.with_last.result _ _
    (λ dues e stage in_stage.
    subst (AreDueIn c.args.schemas.now c.args.name.now x c.args.out.now s stage)
    (sym (e ∙ ap (λ (ns : List Next). with_last ns c.in_ok-last.last) c.in_ok-begun.ensures))
    (idle_due c.args.schemas.now c.args.name.now x c.args.out.now s stage c.args.offer.now (c.requires.offer stage in_stage)
    (sym c.none_in_flight.ensures ∙ c.if-not-none_in_flight.false) c.in_ok-last.last (c.in_ok-last.ensures stage in_stage)))
    c.with_last.ensures
