use Rattle.std.proofs.Common.{◌∙◌}
use Rattle.cf_next.proofs.Opening.{open_chosen}
use Rattle.cf_next.proofs.opens.open_by.Goals as goal

pub returns-in-Some : goal.returns-in-Some
returns-in-Some c =
    open_chosen c.args.out.now c.args.world.now.world c.args.stack.now.stack c.args.schemas.now c.args.layout.now c.args.states.now c.args.done.now
    c.as_slice-lanes.result.now c.as_slice-names.result.now c.in-Some.start c.new_call.result c.requires.forward c.requires.idle c.requires.layout c.requires.states
    c.requires.done c.requires.enough c.as_slice-names.ensures.in_order c.as_slice-names.ensures.value (c.as_slice-lanes.ensures ∙ c.in_ok-homes.ensures) c.in-Some.ensures c.new_call.ensures
