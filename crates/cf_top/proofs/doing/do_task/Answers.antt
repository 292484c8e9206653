use Rattle.std.proofs.Common.{ap, refl, sym, ◌∙◌}
use Rattle.cf_book.specs.Record.{world_left}
use Rattle.cf_workers.specs.Ordering.{schemas_in}
use Rattle.cf_top.specs.Tasks.{early_refusal}
use Rattle.cf_top.proofs.Meeting.{used}
use Rattle.cf_top.proofs.Carried.{not_done}
use Rattle.cf_top.proofs.Finding.{barred}
use Rattle.cf_workers.proofs.Runs.{rested}
use Rattle.cf_top.proofs.doing.do_task.Goals as goal

pub do_now-requires-clause-rest : goal.do_now-requires-clause-rest
do_now-requires-clause-rest g c = rested g.D.Disk c.args.book.now c.requires.running c.requires.home (c.world.ensures.steady c.requires.running)

pub do_now-requires-clause-apart : goal.do_now-requires-clause-apart
do_now-requires-clause-apart g c = (c.world.ensures.steady c.requires.running).apart

pub do_now-requires-clause-opened : goal.do_now-requires-clause-opened
do_now-requires-clause-opened g c = c.requires.opened

pub do_now-requires-clause-free : goal.do_now-requires-clause-free
do_now-requires-clause-free g c = ap (λ x. early_refusal c.args.stack.now x c.args.task.now) (sym c.world.ensures.world) ∙ sym c.early_refusal.ensures ∙ c.in-None.is

pub returns-in-None-clause-tells : goal.returns-in-None-clause-tells
returns-in-None-clause-tells g c = c.do_now.ensures.performs.tells

pub returns-in-Some-clause-tells : goal.returns-in-Some-clause-tells
returns-in-Some-clause-tells g c =
    (not_done g.D.Disk (λ d f told left. g.met.D.Disk.only_now d f told left) c.args.book.now
    (rested g.D.Disk c.args.book.now c.requires.running c.requires.home (c.world.ensures.steady c.requires.running)) (used g.L.Library c.args.library.now c.args.library.now) c.args.stack.now c.args.task.now c.in-Some.exit
    (barred (used g.L.Library c.args.library.now c.args.library.now) (schemas_in c.args.book.now.lanes) (world_left c.args.book.now.entries) c.args.stack.now c.args.task.now c.in-Some.exit
    (ap (λ x. early_refusal c.args.stack.now x c.args.task.now) (sym c.world.ensures.world) ∙ sym c.early_refusal.ensures ∙ c.in-Some.is) (refl, refl))).tells

pub returns-in-None-clause-stack : goal.returns-in-None-clause-stack
returns-in-None-clause-stack g c = c.do_now.ensures.performs.leaves.stack

pub returns-in-Some-clause-stack : goal.returns-in-Some-clause-stack
returns-in-Some-clause-stack g c =
    (not_done g.D.Disk (λ d f told left. g.met.D.Disk.only_now d f told left) c.args.book.now
    (rested g.D.Disk c.args.book.now c.requires.running c.requires.home (c.world.ensures.steady c.requires.running)) (used g.L.Library c.args.library.now c.args.library.now) c.args.stack.now c.args.task.now c.in-Some.exit
    (barred (used g.L.Library c.args.library.now c.args.library.now) (schemas_in c.args.book.now.lanes) (world_left c.args.book.now.entries) c.args.stack.now c.args.task.now c.in-Some.exit
    (ap (λ x. early_refusal c.args.stack.now x c.args.task.now) (sym c.world.ensures.world) ∙ sym c.early_refusal.ensures ∙ c.in-Some.is) (refl, refl))).leaves.stack

pub returns-in-None-clause-stretch : goal.returns-in-None-clause-stretch
returns-in-None-clause-stretch g c = c.do_now.ensures.performs.leaves.stretch

pub returns-in-Some-clause-stretch : goal.returns-in-Some-clause-stretch
returns-in-Some-clause-stretch g c =
    (not_done g.D.Disk (λ d f told left. g.met.D.Disk.only_now d f told left) c.args.book.now
    (rested g.D.Disk c.args.book.now c.requires.running c.requires.home (c.world.ensures.steady c.requires.running)) (used g.L.Library c.args.library.now c.args.library.now) c.args.stack.now c.args.task.now c.in-Some.exit
    (barred (used g.L.Library c.args.library.now c.args.library.now) (schemas_in c.args.book.now.lanes) (world_left c.args.book.now.entries) c.args.stack.now c.args.task.now c.in-Some.exit
    (ap (λ x. early_refusal c.args.stack.now x c.args.task.now) (sym c.world.ensures.world) ∙ sym c.early_refusal.ensures ∙ c.in-Some.is) (refl, refl))).leaves.stretch

pub returns-in-None-clause-never_ahead : goal.returns-in-None-clause-never_ahead
returns-in-None-clause-never_ahead g c = c.do_now.ensures.performs.leaves.never_ahead

pub returns-in-Some-clause-never_ahead : goal.returns-in-Some-clause-never_ahead
returns-in-Some-clause-never_ahead g c =
    (not_done g.D.Disk (λ d f told left. g.met.D.Disk.only_now d f told left) c.args.book.now
    (rested g.D.Disk c.args.book.now c.requires.running c.requires.home (c.world.ensures.steady c.requires.running)) (used g.L.Library c.args.library.now c.args.library.now) c.args.stack.now c.args.task.now c.in-Some.exit
    (barred (used g.L.Library c.args.library.now c.args.library.now) (schemas_in c.args.book.now.lanes) (world_left c.args.book.now.entries) c.args.stack.now c.args.task.now c.in-Some.exit
    (ap (λ x. early_refusal c.args.stack.now x c.args.task.now) (sym c.world.ensures.world) ∙ sym c.early_refusal.ensures ∙ c.in-Some.is) (refl, refl))).leaves.never_ahead

pub returns-in-None-clause-home : goal.returns-in-None-clause-home
returns-in-None-clause-home g c = c.do_now.ensures.performs.leaves.home

pub returns-in-Some-clause-home : goal.returns-in-Some-clause-home
returns-in-Some-clause-home g c =
    (not_done g.D.Disk (λ d f told left. g.met.D.Disk.only_now d f told left) c.args.book.now
    (rested g.D.Disk c.args.book.now c.requires.running c.requires.home (c.world.ensures.steady c.requires.running)) (used g.L.Library c.args.library.now c.args.library.now) c.args.stack.now c.args.task.now c.in-Some.exit
    (barred (used g.L.Library c.args.library.now c.args.library.now) (schemas_in c.args.book.now.lanes) (world_left c.args.book.now.entries) c.args.stack.now c.args.task.now c.in-Some.exit
    (ap (λ x. early_refusal c.args.stack.now x c.args.task.now) (sym c.world.ensures.world) ∙ sym c.early_refusal.ensures ∙ c.in-Some.is) (refl, refl))).leaves.home

pub returns-in-None-clause-known : goal.returns-in-None-clause-known
returns-in-None-clause-known g c = c.do_now.ensures.performs.leaves.known

pub returns-in-Some-clause-known : goal.returns-in-Some-clause-known
returns-in-Some-clause-known g c =
    (not_done g.D.Disk (λ d f told left. g.met.D.Disk.only_now d f told left) c.args.book.now
    (rested g.D.Disk c.args.book.now c.requires.running c.requires.home (c.world.ensures.steady c.requires.running)) (used g.L.Library c.args.library.now c.args.library.now) c.args.stack.now c.args.task.now c.in-Some.exit
    (barred (used g.L.Library c.args.library.now c.args.library.now) (schemas_in c.args.book.now.lanes) (world_left c.args.book.now.entries) c.args.stack.now c.args.task.now c.in-Some.exit
    (ap (λ x. early_refusal c.args.stack.now x c.args.task.now) (sym c.world.ensures.world) ∙ sym c.early_refusal.ensures ∙ c.in-Some.is) (refl, refl))).leaves.known

pub returns-in-None-clause-rest : goal.returns-in-None-clause-rest
returns-in-None-clause-rest g c = c.do_now.ensures.performs.leaves.rest

pub returns-in-Some-clause-rest : goal.returns-in-Some-clause-rest
returns-in-Some-clause-rest g c =
    (not_done g.D.Disk (λ d f told left. g.met.D.Disk.only_now d f told left) c.args.book.now
    (rested g.D.Disk c.args.book.now c.requires.running c.requires.home (c.world.ensures.steady c.requires.running)) (used g.L.Library c.args.library.now c.args.library.now) c.args.stack.now c.args.task.now c.in-Some.exit
    (barred (used g.L.Library c.args.library.now c.args.library.now) (schemas_in c.args.book.now.lanes) (world_left c.args.book.now.entries) c.args.stack.now c.args.task.now c.in-Some.exit
    (ap (λ x. early_refusal c.args.stack.now x c.args.task.now) (sym c.world.ensures.world) ∙ sym c.early_refusal.ensures ∙ c.in-Some.is) (refl, refl))).leaves.rest
