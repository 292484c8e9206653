use Rattle.std.proofs.Common.{◌≡◌, drop}
use Rattle.cf_handler.specs.Lane.{settlement_of}
use Rattle.cf_handler.proofs.settled.settlement_of.Given as goal

abbrev pub invariant-loop-entry : goal.invariant-loop-entry
invariant-loop-entry l = settlement_of l.token l.entries ≡ settlement_of l.token (drop l.entry-index l.entries)
