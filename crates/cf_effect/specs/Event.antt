-- The lines that `events` prints of a stack, one for each entry that concerns it (DescribeStackEvents; the form of a line is this
-- project's own).
use Rattle.std.specs.Prelude.{ℕ, List, [], ◌∷◌, ◌++◌, Option, Some, None, codes, if◌then◌else◌}
use Rattle.std.specs.Fmt.{decimal}
use Rattle.cf_tree.specs.Codes.{name_of}
use Rattle.cf_tree.specs.declared.request.Request.{Request}
use Rattle.cf_tree.specs.declared.request.Request.TheVariants as request
use Rattle.cf_tree.specs.declared.code.Code.TheVariants as code
use Rattle.cf_entry.specs.declared.entry.Entry.{Entry}
use Rattle.cf_entry.specs.declared.entry.Reply.{Reply}
use Rattle.cf_entry.specs.Status.{status_name}
use Rattle.cf_entry.specs.declared.turn.Why.{Why}
use Rattle.cf_effect.specs.World.{StackState}
use Rattle.cf_effect.specs.declared.held.Pending.{Pending}
use Rattle.cf_entry.specs.declared.entry.Entry.TheVariants as entry
use Rattle.cf_entry.specs.declared.entry.Reply.TheVariants as reply
use Rattle.cf_entry.specs.declared.turn.Why.TheVariants as why
use Rattle.cf_effect.specs.Status.{begun, turned, is_deleted}
use Rattle.cf_effect.specs.Words.{pending_of}

-- what a request does to a resource
abbrev pub action_name : Request → List ℕ
action_name (request.Create kind props) = codes "CREATE"
action_name (request.Update physical props) = codes "UPDATE"
action_name (request.Delete physical) = codes "DELETE"

-- `event PLACE SUBJECT WHAT`
abbrev pub event_line : ℕ → List ℕ → List ℕ → List ℕ
event_line place subject what = codes "event " ++ decimal place ++ codes " " ++ subject ++ codes " " ++ what

-- what came of a call; a deletion that finds nothing is complete
abbrev pub reply_name : Request → Reply → List ℕ
reply_name r (reply.Success physical attrs) = action_name r ++ codes "_COMPLETE"
reply_name (request.Delete physical) (reply.Failed code.NotFound) = codes "DELETE_COMPLETE"
reply_name r (reply.Failed c) = action_name r ++ codes "_FAILED " ++ name_of c
reply_name r reply.Doubt = action_name r ++ codes "_FAILED Fault"

-- a resource that is kept was passed over, or could not be deleted
abbrev pub kept_name : Why → List ℕ
kept_name why.Retained = codes "DELETE_SKIPPED"
kept_name _ = codes "DELETE_FAILED"

abbrev pub reply_line : ℕ → Reply → Option Pending → List (List ℕ)
reply_line place answer None = []
reply_line place answer (Some p) = event_line place p.path (reply_name p.request answer) ∷ []

-- a line that is there or not, as a list
abbrev pub line_in : Option (List ℕ) → List (List ℕ)
line_in None = []
line_in (Some line) = line ∷ []

-- the line of the entry at this place, over the stack as it was before it; a change set has one where it makes its stack
abbrev pub lines_of : ℕ → Entry → StackState → List (List ℕ)
lines_of place (entry.Begin number stack kind) s = event_line place (codes "-") (status_name (begun kind)) ∷ []
lines_of place (entry.Kept number path physical why) s = event_line place path (kept_name why) ∷ []
lines_of place (entry.Intent number token lane path request) s = event_line place path (action_name request ++ codes "_IN_PROGRESS") ∷ []
lines_of place (entry.Outcome number token answer before after) s = reply_line place answer (pending_of token s)
lines_of place (entry.Phase number phase cause) s = event_line place (codes "-") (status_name (turned s.status phase)) ∷ []
lines_of place (entry.Done number status failed) s = event_line place (codes "-") (status_name status) ∷ []
lines_of place (entry.ChangeSet number stack source rows outputs) s =
    if is_deleted s.status then event_line place (codes "-") (codes "REVIEW_IN_PROGRESS") ∷ [] else []
lines_of place (entry.Opened epoch lanes) s = []
