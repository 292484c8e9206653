use Rattle.std.proofs.Common.{refl, sym, ◌∙◌, subst}
use Rattle.cf_workers.specs.declared.drive.Drove.TheVariants.{Stopped}
use Rattle.cf_workers.specs.Leading.{DrivesAs}
use Rattle.cf_workers.proofs.Runs.{back_home, rested}
use Rattle.cf_workers.proofs.drive.drive_alone.Goals as goal

pub drive-requires-clause-begun : goal.drive-requires-clause-begun
drive-requires-clause-begun g c = c.requires.begun

pub drive-requires-clause-rest : goal.drive-requires-clause-rest
drive-requires-clause-rest g c =
    let running = sym c.stopped.ensures.value ∙ c.in-None.is in
    rested g.D.Disk c.args.book.now running c.requires.home (c.stopped.ensures.steady running)

pub returns-in-Some-clause-drives : goal.returns-in-Some-clause-drives
returns-in-Some-clause-drives g c =
    subst (λ o. DrivesAs g.D.Disk c.args.number c.args.book.now c.args.book.now o (Stopped c.in-Some.fault)) (sym c.in-Some.is ∙ c.stopped.ensures.value)
    (refl, refl)

pub returns-in-Some-clause-home : goal.returns-in-Some-clause-home
returns-in-Some-clause-home g c = c.requires.home

pub returns-in-Some-clause-known : goal.returns-in-Some-clause-known
returns-in-Some-clause-known g c = c.stopped.ensures.known

pub returns-in-None-clause-drives : goal.returns-in-None-clause-drives
returns-in-None-clause-drives g c =
    subst (λ o. DrivesAs g.D.Disk c.args.number c.args.book.now c.drive.new.book o c.drive.result) (sym c.in-None.is ∙ c.stopped.ensures.value) c.drive.ensures

pub returns-in-None-clause-home : goal.returns-in-None-clause-home
returns-in-None-clause-home g c = (back_home g.D.Disk c.args.number c.args.book.now c.drive.new.book c.drive.result c.drive.ensures.tells).0

pub returns-in-None-clause-known : goal.returns-in-None-clause-known
returns-in-None-clause-known g c = (back_home g.D.Disk c.args.number c.args.book.now c.drive.new.book c.drive.result c.drive.ensures.tells).1
