-- The ledger of a stack: one row for each call that an intent wrote down, with what came of it. Each question about the
-- calls of a stack is a look-up in it (this project's own).
use Rattle.std.specs.Prelude.{ℕ, ◌+◌, ◌==◌, Bool, true, false, ◌&&◌, not, nat_lt, List, ◌∷◌, [], Option, Some, None, find, filter, map, count_by, if◌then◌else◌}
use Rattle.std.specs.List.{list_any}
use Rattle.std.specs.Option.{option_map_or}
use Rattle.cf_tree.specs.declared.request.Request.{Request}
use Rattle.cf_tree.specs.declared.request.Request.TheVariants as request
use Rattle.cf_tree.specs.declared.code.Code.TheVariants as code
use Rattle.cf_entry.specs.declared.entry.Reply.{Reply}
use Rattle.cf_entry.specs.declared.entry.Reply.TheVariants as reply
use Rattle.cf_entry.specs.declared.status.Status.{Status}
use Rattle.cf_effect.specs.declared.call.Call.{Call}
use Rattle.cf_effect.specs.declared.call.Settled.{Settled}
use Rattle.cf_effect.specs.declared.call.Settled.TheVariants as settled
use Rattle.cf_effect.specs.declared.held.Pending.{Pending}
use Rattle.cf_effect.specs.Status.{goes_back, goes_forward}
use Rattle.cf_effect.specs.Words.{deletes, has_token, updates}
use Rattle.cf_effect.specs.World.{StackState}

-- the row of a call that goes out for the first time, while its stack has this status
abbrev pub new_call : ℕ → Status → Pending → Call
new_call number state p = record {
  number = number;
  token = p.token;
  lane = p.lane;
  path = p.path;
  request = p.request;
  status = state;
  fresh = true;
  doubts = 0;
  answer = None;
}

-- a phase or an opening begins: no call is new in it, and none is in doubt yet
abbrev pub anew : Call → Call
anew c = record c { fresh = false; doubts = 0 }

-- a call is tried three times in a phase and opening, so more doubts than three are not told apart
abbrev pub one_more : ℕ → ℕ
one_more n = if nat_lt n 3 then n + 1 else n

abbrev pub answered_call : Reply → Call → Call
answered_call (reply.Success physical attrs) c = record c { answer = Some settled.Success }
answered_call (reply.Failed k) c = record c { answer = Some (settled.Failed k) }
answered_call reply.Doubt c = record c { doubts = one_more c.doubts }

abbrev pub is_call : ℕ → Call → Bool
is_call token c = token == c.token

abbrev pub where_call : ℕ → (Call → Call) → List Call → List Call
where_call token change cs = map (λ c. if is_call token c then change c else c) cs

-- the call is open
abbrev pub is_open_call : List Pending → Call → Bool
is_open_call ps c = list_any (has_token c.token) ps

-- the call of a token
abbrev pub call_under : ℕ → StackState → Option Call
call_under token s = find (is_call token) s.ledger

-- how often it was in doubt in this phase and opening
abbrev pub doubts_of : ℕ → StackState → ℕ
doubts_of token s = option_map_or (λ c. c.doubts) (call_under token s) 0

-- the call gives a resource back what it had: it went out in the rollback
abbrev pub is_restore : ℕ → StackState → Bool
is_restore token s = option_map_or (λ c. goes_back c.status) (call_under token s) false

-- the call was refused; a deletion that finds nothing is no refusal
abbrev pub is_refusal : Request → Option Settled → Bool
is_refusal (request.Delete physical) (Some (settled.Failed code.NotFound)) = false
is_refusal r (Some (settled.Failed c)) = true
is_refusal r _ = false

abbrev pub was_refused : Call → Bool
was_refused c = is_refusal c.request c.answer

abbrev pub is_success : Option Settled → Bool
is_success (Some settled.Success) = true
is_success _ = false

abbrev pub succeeded : Call → Bool
succeeded c = is_success c.answer

-- the calls of the stack's last operation
abbrev pub own_calls : StackState → List Call
own_calls s = filter (λ c. c.number == s.operation) s.ledger

-- the operation's deletions of a resource, and how many of them were refused
abbrev pub deletions_of : List ℕ → StackState → List Call
deletions_of physical s = filter (λ c. deletes physical c.request) (own_calls s)

abbrev pub refusals_of : List ℕ → StackState → ℕ
refusals_of physical s = count_by was_refused (deletions_of physical s)

-- the resource was updated in place since the update began: by a call that went out in the forward phase
abbrev pub was_updated : List ℕ → StackState → Bool
was_updated physical s = list_any (λ c. goes_forward c.status && (updates physical c.request && succeeded c)) s.ledger

-- it was given back its earlier properties: by a call that went out in the rollback
abbrev pub was_restored : List ℕ → StackState → Bool
was_restored physical s = list_any (λ c. goes_back c.status && (updates physical c.request && succeeded c)) s.ledger
