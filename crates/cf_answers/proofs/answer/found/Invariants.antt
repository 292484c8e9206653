use Rattle.std.proofs.Common.{◌≡◌, drop, find}
use Rattle.cf_answers.specs.Live.{lives}
use Rattle.cf_answers.specs.Table.{is_of_id}
use Rattle.cf_answers.proofs.answer.found.Given as goal

abbrev pub invariant-loop-resource : goal.invariant-loop-resource
invariant-loop-resource l = find (is_of_id l.id) (lives l.live) ≡ find (is_of_id l.id) (lives (drop l.resource-index l.live))
