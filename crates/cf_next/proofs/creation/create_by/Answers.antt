use Rattle.std.proofs.Common.{◌≡◌, sym, ◌∙◌, subst, true}
use Rattle.cf_tree.specs.Keys.{ascends}
use Rattle.cf_effect.specs.declared.layout.Layout.{Layout}
use Rattle.cf_next.proofs.Creating.{create_taken}
use Rattle.cf_next.proofs.creation.create_by.Goals as goal

pub returns-in-Some : goal.returns-in-Some
returns-in-Some c =
    create_taken c.args.out.now c.args.world.now.world c.args.stack.now.stack c.args.findings.now c.args.ahead.now c.as_slice-lanes.result.now c.in-Some.start c.new_call.result
    c.requires.ahead c.requires.findings c.requires.sound c.requires.idle (subst (λ (l : Layout). ascends l.places ≡ true) c.deref.ensures c.in_order.ensures) (c.as_slice-lanes.ensures ∙ c.in_ok-homes.ensures)
    (sym c.first_create.ensures ∙ c.in-Some.is) c.new_call.ensures
