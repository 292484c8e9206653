-- What a lane may answer, whatever it holds: an id and attributes within their limits, and for what was made an id of the lane (this
-- project's own).
use Rattle.std.specs.Prelude.{ℕ, List}
use Rattle.cf_tree.specs.Datum.{Data}
use Rattle.cf_tree.specs.declared.request.Request.{Request}
use Rattle.cf_tree.specs.declared.request.Answer.{Answer}
use Rattle.cf_tree.specs.declared.request.Answer.TheVariants as answer
use Rattle.cf_handler.specs.Move.{IsShort, CreatesInLane}

abbrev pub FitsLane : List ℕ → Request → Answer → Type 0
FitsLane name request a = IsShort a × CreatesInLane name request a

-- the same of a success
abbrev pub SucceedsInLane : List ℕ → Request → List ℕ → List (List ℕ × Data) → Type 0
SucceedsInLane name request id attrs = FitsLane name request (answer.Success id attrs)
