use Rattle.std.proofs.Common.{Ok, Err, sym, subst}
use Rattle.cf_book.specs.State.{NoneOut}
use Rattle.cf_workers.proofs.Carried.{beginning, is_cut, is_over, is_placed, not_begun, not_placed}
use Rattle.cf_top.proofs.Carried.{cut_short, driven}
use Rattle.cf_top.proofs.doing.run.Goals as goal

pub begin-requires : goal.begin-requires
begin-requires g c = c.requires.prepared

pub drive_alone-requires-clause-begun : goal.drive_alone-requires-clause-begun
drive_alone-requires-clause-begun g c = c.in-Ok.ensures.begun

pub drive_alone-requires-clause-home : goal.drive_alone-requires-clause-home
drive_alone-requires-clause-home g c = subst (λ ls. NoneOut ls) (sym c.in-Ok.ensures.lanes) c.requires.rest.none_out

pub exit_for-requires : goal.exit_for-requires
exit_for-requires g c =
    is_placed g.D.Disk c.args.book.now c.begin.new.self c.args.ordered c.requires.rest c.in-Ok.number
    (beginning g.D.Disk c.args.book.now c.begin.new.self c.args.ordered (Ok c.in-Ok.number) c.in-Ok.ensures.lanes c.in-Ok.ensures.stopped c.in-Ok.ensures.begins c.in-Ok.ensures.disk c.in-Ok.ensures.moments c.in-Ok.ensures.known
    c.in-Ok.ensures.moves)
    c.drive_alone.new.book c.in-Stopped.fault c.in-Stopped.ensures.drives

pub exit_for-requires-in-Err : goal.exit_for-requires-in-Err
exit_for-requires-in-Err g c =
    not_placed g.D.Disk c.args.book.now c.begin.new.self c.args.ordered c.requires.rest c.in-Err.fault
    (beginning g.D.Disk c.args.book.now c.begin.new.self c.args.ordered (Err c.in-Err.fault) c.in-Err.ensures.lanes c.in-Err.ensures.stopped c.in-Err.ensures.begins c.in-Err.ensures.disk c.in-Err.ensures.moments c.in-Err.ensures.known
    c.in-Err.ensures.moves)

pub returns-in-Over : goal.returns-in-Over
returns-in-Over g c =
    driven g.D.Disk c.args.book.now c.drive_alone.new.book c.args.ordered c.in-Over.status
    (is_over g.D.Disk c.args.book.now c.begin.new.self c.args.ordered c.requires.rest c.in-Ok.number
    (beginning g.D.Disk c.args.book.now c.begin.new.self c.args.ordered (Ok c.in-Ok.number) c.in-Ok.ensures.lanes c.in-Ok.ensures.stopped c.in-Ok.ensures.begins c.in-Ok.ensures.disk c.in-Ok.ensures.moments c.in-Ok.ensures.known
    c.in-Ok.ensures.moves)
    c.drive_alone.new.book c.in-Over.status c.in-Over.ensures.drives c.in-Over.ensures.home c.in-Over.ensures.known c.requires.apart c.requires.opened
    c.requires.prepared)

pub returns-in-Stopped : goal.returns-in-Stopped
returns-in-Stopped g c =
    cut_short g.D.Disk c.args.book.now c.drive_alone.new.book c.args.ordered c.in-Stopped.fault c.exit_for.result c.exit_for.ensures
    (is_cut g.D.Disk c.args.book.now c.begin.new.self c.args.ordered c.requires.rest c.in-Ok.number
    (beginning g.D.Disk c.args.book.now c.begin.new.self c.args.ordered (Ok c.in-Ok.number) c.in-Ok.ensures.lanes c.in-Ok.ensures.stopped c.in-Ok.ensures.begins c.in-Ok.ensures.disk c.in-Ok.ensures.moments c.in-Ok.ensures.known
    c.in-Ok.ensures.moves)
    c.drive_alone.new.book c.in-Stopped.fault c.in-Stopped.ensures.drives c.in-Stopped.ensures.home
    c.in-Stopped.ensures.known)

pub returns-in-Err : goal.returns-in-Err
returns-in-Err g c =
    cut_short g.D.Disk c.args.book.now c.begin.new.self c.args.ordered c.in-Err.fault c.exit_for-in-Err.result c.exit_for-in-Err.ensures
    (not_begun g.D.Disk c.args.book.now c.begin.new.self c.args.ordered c.requires.rest c.in-Err.fault
    (beginning g.D.Disk c.args.book.now c.begin.new.self c.args.ordered (Err c.in-Err.fault) c.in-Err.ensures.lanes c.in-Err.ensures.stopped c.in-Err.ensures.begins c.in-Err.ensures.disk c.in-Err.ensures.moments c.in-Err.ensures.known
    c.in-Err.ensures.moves))
