use Rattle.std.proofs.Common.{◌≡◌, drop}
use Rattle.cf_answers.specs.Live.{lives}
use Rattle.cf_answers.specs.Table.{is_taken}
use Rattle.cf_answers.proofs.live.is_taken.Given as goal

abbrev pub invariant-loop-resource : goal.invariant-loop-resource
invariant-loop-resource l = is_taken l.schema l.props (lives l.live) ≡ is_taken l.schema l.props (lives (drop l.resource-index l.live))
