use Rattle.cf_workers.proofs.Runs.{all_of_it, goes_on, smaller, starts}
use Rattle.cf_workers.proofs.drive.drive.Goals as goal

pub rounds-init : goal.rounds-init
rounds-init g c = starts g.D.Disk (λ d f told left. g.met.D.Disk.only_now d f told left) c.args.number c.args.book.now c.requires.rest c.requires.begun

pub go_on-requires-clause-begun : goal.go_on-requires-clause-begun
go_on-requires-clause-begun g c = c.rounds.invariant.begun

pub go_on-requires-clause-rest : goal.go_on-requires-clause-rest
go_on-requires-clause-rest g c = c.rounds.invariant.rest

pub rounds-smaller : goal.rounds-smaller
rounds-smaller g c = smaller g.D.Disk c.args.number c.rounds.book c.go_on.new.book c.in-None.ensures.bounded c.in-None.ensures.tells

pub rounds-preserved : goal.rounds-preserved
rounds-preserved g c =
    goes_on g.D.Disk c.args.number c.args.book.now c.rounds.book c.go_on.new.book c.rounds.invariant c.in-None.ensures.stretch c.in-None.ensures.tells

pub returns-in-Some : goal.returns-in-Some
returns-in-Some g c =
    all_of_it g.D.Disk c.args.number c.args.book.now c.rounds.book c.go_on.new.book c.rounds.invariant c.in-Some.ensures.stretch c.requires.rest c.in-Some.drove
    c.in-Some.ensures.tells
