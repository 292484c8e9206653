use Rattle.std.proofs.Common.{◌∙◌, length, refl}
use Rattle.cf_effect.specs.State.{state_of}
use Rattle.cf_effect.proofs.GivenBack.{restoring_made}
use Rattle.cf_effect.proofs.restoring.restoring_by.Goals as goal

pub returns : goal.returns
returns c =
    restoring_made (state_of c.args.state.now) c.args.before.now c.args.ids.now c.as_slice.result.now
    (record { paths = c.args.paths; ranks = c.in_ok-ranks.ranks; awaited = c.in_ok-awaited.awaited }) c.args.state.now.operation
    (length c.args.before.now) c.as_slice-calls.result.now c.as_slice-2.result.now c.as_slice-3.result.now c.in_order.ensures c.as_slice.ensures.value refl refl
    c.as_slice-calls.ensures.value (c.as_slice-2.ensures.value ∙ c.in_ok-changed.ensures) (c.as_slice-3.ensures.value ∙ c.in_ok-returned.ensures)
    c.in_ok-awaited.ensures.count c.in_ok-awaited.ensures.flags
