use Rattle.std.proofs.Common.{◌∙◌, ap, refl, subst}
use Rattle.cf_book.specs.Fences.{handed_in}
use Rattle.cf_face.specs.Exit.{ending_text}
use Rattle.cf_face.specs.Print.{PrintTells}
use Rattle.cf_face.specs.declared.exit.Exit.{Exit}
use Rattle.cf_workers.proofs.Along.{along_entered, along_refused}
use Rattle.cf_top.proofs.Meeting.{outside, printing, used}
use Rattle.cf_top.proofs.Along.{leaves_next}
use Rattle.cf_top.proofs.Over.{does_on, just_opened, none_out, refused_on}
use Rattle.cf_top.proofs.top.recover_and_do.Goals as goal

pub do_over-requires-clause-running : goal.do_over-requires-clause-running
do_over-requires-clause-running g c = c.in-Ok.ensures.enters.2.running

pub do_over-requires-clause-home : goal.do_over-requires-clause-home
do_over-requires-clause-home g c = none_out c.in-Ok.ensures.enters.0 (handed_in g.H.Handler c.args.lanes.items) c.in-Ok.book c.in-Ok.ensures.enters.2

pub do_over-requires-clause-opened : goal.do_over-requires-clause-opened
do_over-requires-clause-opened g c = just_opened c.in-Ok.ensures.enters.0 (handed_in g.H.Handler c.args.lanes.items) c.in-Ok.book c.in-Ok.ensures.enters.2

pub do_over-requires-clause-few : goal.do_over-requires-clause-few
do_over-requires-clause-few g c = c.requires.few

pub returns-in-Ok-clause-room : goal.returns-in-Ok-clause-room
returns-in-Ok-clause-room g c =
    ap g.D.Disk.room_of c.do_over.ensures.tells.disk_is ∙ c.do_over.ensures.tells.stretch.disk.room ∙ c.in-Ok.ensures.disk.room

pub returns-in-Ok-clause-any_moment : goal.returns-in-Ok-clause-any_moment
returns-in-Ok-clause-any_moment g c told =
    along_entered g.D.Disk g.H.Handler c.args.disk c.do_over.result.disk c.args.lanes.items c.do_over.result.lanes.items told c.in-Ok.ensures.enters.0 c.in-Ok.book
    c.do_over.ensures.tells.ended (c.in-Ok.ensures.enters.1.0.found told) c.in-Ok.ensures.enters.2 c.do_over.ensures.tells.stretch.grown c.do_over.ensures.tells.disk_is
    c.do_over.ensures.tells.known (leaves_next g.D.Disk (used g.L.Library c.args.library.now c.do_over.new.library) c.in-Ok.book c.do_over.ensures.tells.ended c.args.stack.now c.args.task.now c.do_over.ensures.tells.outcome c.in-Ok.ensures.enters.2.certain
    c.do_over.ensures.tells.leaves) (g.met.D.Disk.seen_may_stay c.args.disk told) (c.in-Ok.ensures.moments told) c.do_over.ensures.tells.stretch.grows

pub returns-in-Ok-clause-tells : goal.returns-in-Ok-clause-tells
returns-in-Ok-clause-tells g c =
    does_on g.D.Disk g.H.Handler (λ d told. g.met.D.Disk.seen_may_stay d told) (outside (used g.L.Library c.args.library.now c.do_over.new.library) c.args.disk c.do_over.result.disk c.args.lanes.items c.do_over.result.lanes.items)
    c.in-Ok.ensures.enters.0 c.in-Ok.book c.in-Ok.ensures.enters.1 c.in-Ok.ensures.enters.2 c.in-Ok.ensures.known c.in-Ok.ensures.disk c.in-Ok.ensures.moments (printing g.K.Sink c.args.out.now c.do_over.new.out)
    c.args.stack.now c.args.task.now c.do_over.result.exit c.do_over.ensures.tells

pub returns-in-Err-clause-room : goal.returns-in-Err-clause-room
returns-in-Err-clause-room g c = c.in-Err.ensures.disk.room

pub returns-in-Err-clause-any_moment : goal.returns-in-Err-clause-any_moment
returns-in-Err-clause-any_moment g c told =
    along_refused g.D.Disk g.H.Handler c.args.disk c.in-Err.field-0.disk c.args.lanes.items c.in-Err.field-0.lanes.items told (g.met.D.Disk.seen_may_stay c.args.disk told)
    c.in-Err.field-0.fault c.in-Err.ensures.enters (c.in-Err.ensures.moments told)

pub returns-in-Err-clause-tells : goal.returns-in-Err-clause-tells
returns-in-Err-clause-tells g c =
    refused_on g.D.Disk g.H.Handler (λ d told. g.met.D.Disk.seen_may_stay d told) (outside (used g.L.Library c.args.library.now c.args.library.now) c.args.disk c.in-Err.field-0.disk c.args.lanes.items c.in-Err.field-0.lanes.items)
    (printing g.K.Sink c.args.out.now c.print_exit-exit.new.out)
    c.args.stack.now c.args.task.now c.in-Err.field-0.fault c.print_exit-exit.result c.in-Err.ensures.enters (refl, refl)
    (subst (λ (e : Exit). PrintTells (g.K.Sink.held c.args.out.now) (g.K.Sink.held c.print_exit-exit.new.out) (g.K.Sink.count c.args.out.now) (g.K.Sink.count c.print_exit-exit.new.out)
    (ending_text e) e c.print_exit-exit.result) c.exit_of.ensures c.print_exit-exit.ensures.tells)
