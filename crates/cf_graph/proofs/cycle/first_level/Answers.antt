use Rattle.std.proofs.Common.{arith}
use Rattle.cf_graph.proofs.Walks.{first_made}
use Rattle.cf_graph.proofs.cycle.first_level.Goals as goal

pub returns : goal.returns
returns c =
    first_made c.args.all.now c.args.rows.now.entries c.args.start.now c.requires c.loop-row.level c.loop-row.row-index (omega (arith, c.loop-row-test.false))
    c.loop-row.invariant
