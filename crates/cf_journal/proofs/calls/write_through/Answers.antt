use Rattle.cf_journal.proofs.Moments.{kept_run}
use Rattle.cf_journal.proofs.calls.write_through.Goals as goal

pub returns-clause-moments : goal.returns-clause-moments
returns-clause-moments g c told =
    let disk = g.D.Disk in
    kept_run disk.moment disk.left_since disk.seen disk.may_leave (λ d f left. g.met.D.Disk.only_now d f told left) c.args.disk.now c.write_at.new.self c.sync.new.self c.args.at _
    (c.requires.durable told) (c.write_at.ensures.crash told) (c.sync.ensures.crash told) (c.write_at.ensures.time told) (c.sync.ensures.time told)
