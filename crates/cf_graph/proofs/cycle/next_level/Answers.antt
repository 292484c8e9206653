use Rattle.std.proofs.Common.{arith}
use Rattle.cf_graph.proofs.Walks.{next_from}
use Rattle.cf_graph.proofs.cycle.next_level.Goals as goal

pub returns : goal.returns
returns c = λ start n o b.
    next_from c.args.all.now c.args.rows.now.entries start c.requires.alike c.loop-row.next c.loop-row.row-index (omega (arith, c.loop-row-test.false)) c.args.level.now n
    o c.loop-row.invariant b
