use Rattle.std.proofs.Common.{◌≡◌, ◌∙◌, subst, true}
use Rattle.cf_tree.specs.Keys.{ascends}
use Rattle.cf_effect.specs.declared.layout.Layout.{Layout}
use Rattle.cf_next.proofs.RollingBack.{deletion_taken}
use Rattle.cf_next.proofs.rollback.deletion_by.Goals as goal

pub returns-in-Some : goal.returns-in-Some
returns-in-Some c =
    deletion_taken c.args.out.now c.args.world.now.world c.args.stack.now.stack c.args.undoing.now c.as_slice-lanes.result.now c.in-Some.start c.new_call.result
    c.requires.undoing c.requires.idle (subst (λ (l : Layout). ascends l.places ≡ true) c.deref.ensures c.in_order.ensures) (c.as_slice-lanes.ensures ∙ c.in_ok-homes.ensures)
    c.in-Some.ensures c.new_call.ensures
