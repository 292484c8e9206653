-- What settles a token, and the answer that repeats it (this project's own).
use Rattle.std.specs.Prelude.{Option, Some, None}
use Rattle.cf_tree.specs.declared.request.Answer.{Answer}
use Rattle.cf_tree.specs.declared.request.Answer.TheVariants as answer
use Rattle.cf_handler.specs.declared.settled.Settlement.{Settlement}
use Rattle.cf_handler.specs.declared.settled.Settlement.TheVariants.{Success, Failed}

abbrev pub answer_of : Settlement → Answer
answer_of (Success physical attrs) = answer.Success physical attrs
answer_of (Failed code) = answer.Failed code

-- the answer for good, where it is one
abbrev pub settlement_in : Answer → Option Settlement
settlement_in (answer.Success physical attrs) = Some (Success physical attrs)
settlement_in (answer.Failed code) = Some (Failed code)
settlement_in answer.Fault = None
settlement_in (answer.Stale fence) = None
settlement_in answer.NoMemory = None
