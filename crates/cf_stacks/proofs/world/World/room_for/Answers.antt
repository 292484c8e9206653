use Rattle.std.proofs.Common.{◌≡◌, ◌∙◌}
use Rattle.cf_stacks.proofs.Places.{err_so, on_err, on_ok}
use Rattle.cf_stacks.proofs.Stood.{kept_after, kept_before, made_ready}
use Rattle.cf_stacks.proofs.world.World.room_for.Goals as goal

pub returns-clause-ok : goal.returns-clause-ok
returns-clause-ok c =
    on_ok c.prepare.result c.prepare.ensures.ok
    (λ h. h ∙ made_ready c.args.entry.now c.args.self.now c.give_up.new.self c.await_again.new.self c.give_up.ensures c.in_ok-await_again.ensures.ok)

pub returns-clause-err : goal.returns-clause-err
returns-clause-err c =
    on_err c.prepare.result c.prepare.ensures.err
    (λ h. kept_after c.args.entry.now c.args.self.now c.give_up.new.self c.await_again.new.self c.prepare.new.self c.give_up.ensures c.in_ok-await_again.ensures.ok h)

pub returns-in_err-await_again-clause-err : goal.returns-in_err-await_again-clause-err
returns-in_err-await_again-clause-err c =
    err_so c.from_residual.result (kept_before c.args.entry.now c.args.self.now c.give_up.new.self c.await_again.new.self c.give_up.ensures c.in_err-await_again.ensures.err)
