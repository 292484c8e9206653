use Rattle.std.proofs.Common.{Ok, Err, ap, refl, ◌∙◌}
use Rattle.cf_book.specs.Record.{world_left}
use Rattle.cf_workers.specs.Ordering.{schemas_in}
use Rattle.cf_top.specs.Tasks.{early_refusal}
use Rattle.cf_top.proofs.Meeting.{used}
use Rattle.cf_top.proofs.Carried.{carried_out, not_done}
use Rattle.cf_top.proofs.Finding.{found_over, may_start, short_of}
use Rattle.cf_top.proofs.doing.do_now.Goals as goal

pub order_of-ordered-requires : goal.order_of-ordered-requires
order_of-ordered-requires g c = record { free = ap (λ x. early_refusal c.args.stack.now x c.args.task.now) c.world.ensures.world ∙ c.requires.free; few = c.requires.few }

pub run-requires-clause-rest : goal.run-requires-clause-rest
run-requires-clause-rest g c = c.requires.rest

pub run-requires-clause-apart : goal.run-requires-clause-apart
run-requires-clause-apart g c = c.requires.apart

pub run-requires-clause-opened : goal.run-requires-clause-opened
run-requires-clause-opened g c = c.requires.opened

pub run-requires-clause-prepared : goal.run-requires-clause-prepared
run-requires-clause-prepared g c =
    (may_start (used g.L.Library c.args.library.now c.order_of-ordered.new.library) c.args.book.now (schemas_in c.args.book.now.lanes) c.args.stack.now c.args.task.now c.in-Ok-ordered.ordered c.requires.apart c.requires.opened
    (found_over (used g.L.Library c.args.library.now c.order_of-ordered.new.library) c.in-Ok.schemas (schemas_in c.args.book.now.lanes) c.world.result.now.world (world_left c.args.book.now.entries)
    c.args.stack.now c.args.task.now (Ok c.in-Ok-ordered.ordered) c.in-Ok.ensures c.world.ensures.world c.in-Ok-ordered.ensures.finds)).prepared

pub returns-in-Ok-ordered-clause-performs : goal.returns-in-Ok-ordered-clause-performs
returns-in-Ok-ordered-clause-performs g c =
    let started = may_start (used g.L.Library c.args.library.now c.order_of-ordered.new.library) c.args.book.now (schemas_in c.args.book.now.lanes) c.args.stack.now c.args.task.now c.in-Ok-ordered.ordered c.requires.apart c.requires.opened
    (found_over (used g.L.Library c.args.library.now c.order_of-ordered.new.library) c.in-Ok.schemas (schemas_in c.args.book.now.lanes) c.world.result.now.world (world_left c.args.book.now.entries)
    c.args.stack.now c.args.task.now (Ok c.in-Ok-ordered.ordered) c.in-Ok.ensures c.world.ensures.world c.in-Ok-ordered.ensures.finds) in
    carried_out g.D.Disk c.args.book.now c.run.new.book (used g.L.Library c.args.library.now c.order_of-ordered.new.library) c.args.stack.now c.args.task.now c.in-Ok-ordered.ordered c.run.result started c.run.ensures

pub returns-in-Err-clause-performs : goal.returns-in-Err-clause-performs
returns-in-Err-clause-performs g c =
    not_done g.D.Disk (λ d f told left. g.met.D.Disk.only_now d f told left) c.args.book.now c.requires.rest (used g.L.Library c.args.library.now c.order_of-ordered.new.library) c.args.stack.now c.args.task.now c.in-Err.exit
    (found_over (used g.L.Library c.args.library.now c.order_of-ordered.new.library) c.in-Ok.schemas (schemas_in c.args.book.now.lanes) c.world.result.now.world (world_left c.args.book.now.entries)
    c.args.stack.now c.args.task.now (Err c.in-Err.exit) c.in-Ok.ensures c.world.ensures.world c.in-Err.ensures.finds)

pub returns-in_default-clause-performs : goal.returns-in_default-clause-performs
returns-in_default-clause-performs g c =
    not_done g.D.Disk (λ d f told left. g.met.D.Disk.only_now d f told left) c.args.book.now c.requires.rest (used g.L.Library c.args.library.now c.args.library.now) c.args.stack.now c.args.task.now
    _ (short_of (used g.L.Library c.args.library.now c.args.library.now) (schemas_in c.args.book.now.lanes) (world_left c.args.book.now.entries) c.args.stack.now c.args.task.now c.requires.free (refl, refl))
