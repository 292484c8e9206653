use Rattle.std.proofs.Common.{ap, sym, ◌∙◌}
use Rattle.std.specs.Prelude.{option_map}
use Rattle.std.specs.Option.{option_copied}
use Rattle.cf_stacks.specs.Standing.{stack_in}
use Rattle.cf_next.proofs.Followed.{none_is}
use Rattle.cf_next.proofs.OnStack.{next_is, no_step}
use Rattle.cf_next.proofs.chosen.next_in.Goals as goal

pub unreachable-requires : goal.unreachable-requires
unreachable-requires c =
    let (name, s, stage, going, in_stage) = c.requires in
    none_is (name, s) (sym (ap (λ o. option_map stack_in (option_copied o)) c.in-None.is) ∙ c.stack_of_operation.ensures ∙ going)

pub returns-clause-chosen : goal.returns-clause-chosen
returns-clause-chosen c =
    next_is c.args.schemas.now c.args.world.now.world c.args.out.now c.args.number (stack_in c.in-Some.going.now)
    (sym c.stack_of_operation.ensures ∙ ap (λ o. option_map stack_in (option_copied o)) c.in-Some.is) c.requires c.next_on.result c.next_on.ensures

pub returns-clause-no_step : goal.returns-clause-no_step
returns-clause-no_step c =
    no_step c.args.schemas.now c.args.world.now.world c.args.out.now c.args.number (stack_in c.in-Some.going.now)
    (sym c.stack_of_operation.ensures ∙ ap (λ o. option_map stack_in (option_copied o)) c.in-Some.is) c.requires c.next_on.result c.next_on.ensures
