use Rattle.std.proofs.Common.{◌≡◌, ap, map, ◌∙◌}
use Rattle.cf_stacks.specs.Standing.{awaits_on, calls_in, stack_in}
use Rattle.cf_stacks.proofs.Awaiting.{same_order_stacks}
use Rattle.cf_stacks.proofs.Places.{on_err, on_ok}
use Rattle.cf_stacks.proofs.standing.Fields.await_again.Goals as goal

pub from_vec-requires : goal.from_vec-requires
from_vec-requires c = same_order_stacks c.await_on-awaited.new.pairs.items c.into_vec-pairs.result.items c.await_on-awaited.ensures.stacks c.into_vec-pairs.ensures.in_order

pub returns-clause-stacks : goal.returns-clause-stacks
returns-clause-stacks c = ap (map stack_in) c.from_vec.ensures ∙ c.await_on-awaited.ensures.stacks ∙ ap (map stack_in) (c.into_vec-pairs.ensures.value ∙ c.replace.ensures.value)

pub returns-clause-ok : goal.returns-clause-ok
returns-clause-ok c =
    on_ok c.await_on-awaited.result c.await_on-awaited.ensures.ok
    (λ h. ap (map calls_in) c.from_vec.ensures ∙ h ∙ ap (awaits_on c.args.token) (c.into_vec-pairs.ensures.value ∙ c.replace.ensures.value))

pub returns-clause-err : goal.returns-clause-err
returns-clause-err c =
    on_err c.await_on-awaited.result c.await_on-awaited.ensures.err
    (λ h. ap (map calls_in) c.from_vec.ensures ∙ h ∙ ap (map calls_in) (c.into_vec-pairs.ensures.value ∙ c.replace.ensures.value))
