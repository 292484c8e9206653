use Rattle.cf_book.specs.Record.{world_left}
use Rattle.cf_top.specs.Tasks.{number_for}
use Rattle.cf_top.proofs.Meeting.{printing, used}
use Rattle.cf_top.proofs.Over.{does_over, is_there}
use Rattle.cf_top.proofs.top.do_over.Goals as goal

pub tell_outcome-exit-requires : goal.tell_outcome-exit-requires
tell_outcome-exit-requires g c =
    is_there c.do_task-done.new.book c.args.stack.now (number_for (world_left c.args.book.entries) c.args.stack.now c.args.task.now) c.do_task-done.result c.world.result.now.world
    c.world.ensures.world c.do_task-done.ensures.stack

pub returns-clause-tells : goal.returns-clause-tells
returns-clause-tells g c =
    does_over g.D.Disk g.H.Handler (used g.L.Library c.args.library.now c.do_task-done.new.library) (printing g.K.Sink c.args.out.now c.tell_outcome-exit.new.out)
    c.args.book c.do_task-done.new.book c.close-disk.result.0 c.close-disk.result.1.items c.args.stack.now c.args.task.now c.do_task-done.result c.world.result.now.world
    c.tell_outcome-exit.result c.do_task-done.ensures.tells c.do_task-done.ensures.stack c.do_task-done.ensures.never_ahead c.do_task-done.ensures.home
    c.do_task-done.ensures.rest c.do_task-done.ensures.stretch c.world.ensures.world c.tell_outcome-exit.ensures c.close-disk.ensures.disk c.close-disk.ensures.handlers
    c.do_task-done.ensures.known c.close-disk.ensures.lasts
