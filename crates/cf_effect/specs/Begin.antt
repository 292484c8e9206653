-- How an operation begins on its stack, and how a change set joins it (User Guide: creating, updating and deleting a stack,
-- continuing an update rollback, change sets).
use Rattle.std.specs.Prelude.{ℕ, Bool, true, false, not, List, [], ◌∷◌, ◌++◌, Option, Some, None, map, filter, flat_map, find, if◌then◌else◌}
use Rattle.cf_tree.specs.Lists.{is_among}
use Rattle.cf_tree.specs.declared.source.Source.{Source}
use Rattle.cf_entry.specs.declared.entry.Begun.{Begun}
use Rattle.cf_entry.specs.declared.entry.Begun.TheVariants as begin
use Rattle.cf_entry.specs.declared.turn.Why.TheVariants as why
use Rattle.cf_desired.specs.Seeing.{Seen, SeenAt, by_names}
use Rattle.cf_desired.specs.Whole.{export_names_of}
use Rattle.cf_effect.specs.declared.call.Call.{Call}
use Rattle.cf_effect.specs.declared.held.Held.{Held}
use Rattle.cf_effect.specs.declared.held.HeldStatus.TheVariants as held
use Rattle.cf_effect.specs.declared.held.Leftover.{Leftover}
use Rattle.cf_effect.specs.declared.held.Pending.{Pending}
use Rattle.cf_effect.specs.declared.held.GivenUp.{GivenUp}
use Rattle.cf_effect.specs.declared.held.KeptSet.{KeptSet}
use Rattle.cf_effect.specs.Status.{begun, is_deleted, reviewed}
use Rattle.cf_effect.specs.World.{StackState}
use Rattle.cf_effect.specs.Words.{has_physical, is_create_at, unknown_id}
use Rattle.cf_effect.specs.Calls.{anew, is_open_call}
use Rattle.cf_effect.specs.Listed.{NamesAfter, Same, Also, Only, import_names}
use Rattle.cf_effect.specs.Effect.{Effect}

-- A source is written without the name of its stack and the number of the operation that made it.
abbrev pub source_for : List ℕ → ℕ → Source → Source
source_for name number source = record source { stack = name; number = number }

-- what a list of resources shows of its paths, by path: of two at one path the first one
abbrev pub seen_as_held : Held → SeenAt
seen_as_held h = record { physical = Some h.physical; attrs = Some h.attrs }

abbrev pub shown_under : Held → List ℕ × SeenAt
shown_under h = (h.path, seen_as_held h)

abbrev pub seen_in : List Held → Seen
seen_in hs = by_names (map shown_under (filter (λ h. not h.superseded) hs))

-- A change set joins the others of its stack.
abbrev pub number_reviewed : StackState → ℕ
number_reviewed s = if is_deleted s.status then 0 else s.number

abbrev pub with_set : KeptSet → StackState → StackState
with_set set s = record s { status = reviewed s.status; number = number_reviewed s; sets = s.sets ++ set ∷ [] }

-- A create and an update keep what is held as `before`, have made nothing and work by their source.
abbrev pub creating_number : Begun → ℕ → StackState → ℕ
creating_number (begin.Create source) number s = number
creating_number _ number s = s.number

abbrev pub working_by : Source → StackState → StackState
working_by source s = record s { before = s.held; made = []; going = Some source }

-- A continued rollback gives up the open calls at the paths that it skips, by path and then in the order of the calls: a
-- create may have made something. What is held at these paths counts as it was before, is UPDATE_COMPLETE and unsure.
abbrev pub lost_create : Pending → Leftover
lost_create p = record { path = p.path; physical = unknown_id; why = why.Doubt }

abbrev pub given_up : Pending → GivenUp
given_up p = record { token = p.token; path = p.path }

abbrev pub creates_at : List Pending → List ℕ → List Pending
creates_at ps path = filter (is_create_at path) ps

abbrev pub skipped_creates : List (List ℕ) → List Pending → List Pending
skipped_creates paths ps = flat_map (creates_at ps) paths

abbrev pub as_before : Option Held → Held → Held
as_before None h = record h { status = held.UpdateComplete; unsure = true }
as_before (Some b) h = record h { props = b.props; attrs = b.attrs; status = held.UpdateComplete; unsure = true }

abbrev pub skipped_in : List (List ℕ) → List Held → Held → Held
skipped_in paths before h = if is_among h.path paths then as_before (find (has_physical h.physical) before) h else h

abbrev pub skipping : List (List ℕ) → StackState → StackState
skipping paths s = record s {
  tokens = filter (λ p. not (is_among p.path paths)) s.tokens;
  held = map (skipped_in paths s.before) s.held;
  leftovers = s.leftovers ++ map lost_create (skipped_creates paths s.tokens);
  abandoned = s.abandoned ++ map given_up (skipped_creates paths s.tokens);
}

-- what each kind does to the stack's resources
abbrev pub set_off : List ℕ → ℕ → Begun → StackState → StackState
set_off name number (begin.Create source) s = working_by (source_for name number source) s
set_off name number (begin.Update source) s = working_by (source_for name s.number source) s
set_off name number (begin.Delete paths) s = record s { outputs = [] }
set_off name number (begin.Continue paths) s = skipping paths s

-- A continued rollback goes on in the entries and calls of its update. Every other operation begins with no entry, and
-- with the calls that are still open.
abbrev pub continues : Begun → Bool
continues (begin.Continue paths) = true
continues _ = false

abbrev pub calls_kept : Begun → StackState → List Call
calls_kept k s = map anew (if continues k then s.ledger else filter (is_open_call s.tokens) s.ledger)

abbrev pub beginning : List ℕ → ℕ → Begun → StackState → StackState
beginning name number k s = set_off name number k (record s {
  status = begun k;
  number = creating_number k number s;
  operation = number;
  sets = [];
  entries = if continues k then s.entries else [];
  ledger = calls_kept k s;
})

-- what an operation pins and claims as it begins: its imports, beside those pinned already, and the names that it means to export
abbrev pub pins_begun : Begun → NamesAfter
pins_begun (begin.Create source) = Also (import_names (Some source))
pins_begun (begin.Update source) = Also (import_names (Some source))
pins_begun _ = Same

abbrev pub names_claimed : Option Source → Seen → NamesAfter
names_claimed None seen = Same
names_claimed (Some source) seen = Only (export_names_of source seen)

abbrev pub claims_begun : Begun → StackState → NamesAfter
claims_begun (begin.Create source) s = names_claimed s.going (seen_in s.before)
claims_begun (begin.Update source) s = names_claimed s.going (seen_in s.before)
claims_begun _ s = Same

abbrev pub exports_begun : Begun → Option (List (List ℕ × List ℕ))
exports_begun (begin.Delete paths) = Some []
exports_begun _ = None

-- s is the stack as the operation has begun on it
abbrev pub begun_effect : Begun → StackState → Effect
begun_effect k s = record { stack = s; exports = exports_begun k; pins = pins_begun k; claims = claims_begun k s }
