use Rattle.cf_next.proofs.Tallying.{told_tallies}
use Rattle.cf_next.proofs.tallies.tallies.Goals as goal
use Rattle.std.proofs.Common.{◌∙◌}

pub returns : goal.returns
returns c =
    told_tallies c.args.stack.now.stack c.operation.result c.as_slice.result.now c.tallies_of.result c.operation.ensures (c.as_slice.ensures.value ∙ c.ledger.ensures)
    c.tallies_of.ensures
