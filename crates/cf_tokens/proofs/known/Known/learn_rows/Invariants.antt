use Rattle.std.proofs.Common.{length}
use Rattle.cf_tokens.proofs.known.Known.learn_rows.Given as goal

abbrev pub decreases-loop-rest : goal.decreases-loop-rest
decreases-loop-rest l = length l.rest
