use Rattle.std.proofs.Common.{ap, sym, ◌∙◌}
use Rattle.std.specs.Prelude.{option_map}
use Rattle.std.specs.Option.{option_copied}
use Rattle.cf_stacks.specs.Standing.{stack_in}
use Rattle.std.proofs.lemmas.Result.{IfOk-weaker}
use Rattle.cf_next.proofs.Followed.{none_is}
use Rattle.cf_next.proofs.OnStack.{dues_are}
use Rattle.cf_next.proofs.stage.due_in.Goals as goal

pub unreachable-requires : goal.unreachable-requires
unreachable-requires c =
    let (name, s, stage, going, in_stage) = c.requires in
    none_is (name, s) (sym (ap (λ o. option_map stack_in (option_copied o)) c.in-None.is) ∙ c.stack_of_operation.ensures ∙ going)

pub returns : goal.returns
returns c =
    IfOk-weaker c.dues_on.result _ _
    (λ dues w.
    dues_are c.args.schemas.now c.args.world.now.world c.args.out.now c.args.number dues (stack_in c.in-Some.going.now)
    (sym c.stack_of_operation.ensures ∙ ap (λ o. option_map stack_in (option_copied o)) c.in-Some.is) c.requires w)
    c.dues_on.ensures
