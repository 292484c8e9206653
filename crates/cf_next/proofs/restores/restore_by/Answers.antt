use Rattle.std.proofs.Common.{◌∙◌}
use Rattle.cf_next.proofs.GivingBack.{restore_taken}
use Rattle.cf_next.proofs.restores.restore_by.Goals as goal

pub returns-in-Some : goal.returns-in-Some
returns-in-Some c =
    restore_taken c.args.out.now c.args.world.now.world c.args.stack.now.stack c.args.restoring.now c.as_slice-lanes.result.now c.in-Some.start c.new_call.result
    c.requires.restoring c.requires.idle (c.as_slice-lanes.ensures ∙ c.in_ok-homes.ensures) c.in-Some.ensures c.new_call.ensures
