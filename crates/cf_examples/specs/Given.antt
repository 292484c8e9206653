-- What the worked runs share: the two shipped types, and the parts of their entries (this project's own).
use Rattle.std.specs.Prelude.{ℕ, List, [], ◌∷◌, codes, pos, Bool, true, false, ◌==◌, ◌||◌, ◌&&◌, if◌then◌else◌, map, filter, find, fold, reverse, ◌++◌}
use Rattle.std.specs.Option.{option_map_or}
use Rattle.std.specs.Str.{bytes_eq}
use Rattle.cf_tree.specs.Keys.{bytes_lt}
use Rattle.cf_tree.specs.Datum.{Data, text, whole}
use Rattle.cf_tree.specs.declared.source.Source.{Source}
use Rattle.cf_tree.specs.Lists.{insert_by}
use Rattle.cf_export.specs.declared.Output.{Output}
use Rattle.cf_entry.specs.declared.entry.Entry.{Entry}
use Rattle.cf_entry.specs.declared.status.Status.{Status}
use Rattle.cf_entry.specs.declared.status.Status.TheVariants as status
use Rattle.cf_effect.specs.declared.held.Held.{Held}
use Rattle.cf_effect.specs.declared.held.HeldStatus.{HeldStatus}
use Rattle.cf_effect.specs.declared.held.Leftover.{Leftover}
use Rattle.cf_effect.specs.World.{StackState, World, empty_world, known_stack}
use Rattle.cf_plan.specs.Accept.{exports_by}
use Rattle.cf_plan.specs.Follow.{IsLegal, failed_in, is_done_entry}
use Rattle.cf_plan.specs.Lanes.{Lane}
use Rattle.cf_handler.specs.declared.settled.Settled.{Settled}
use Rattle.cf_handler.specs.Fence.{Flying}
use Rattle.cf_handler.specs.Shipped.{file_schema, record_schema}
use Rattle.cf_schema.specs.declared.described.Schema.{Schema}

-- a file, of which another path needs a new one
abbrev pub file : List ℕ
file = codes "Local::Files::File"

-- a record, of which another key needs a new one, and another class may
abbrev pub note : List ℕ
note = codes "Local::Records::Record"

abbrev pub schemas : List Schema
schemas = file_schema ∷ record_schema ∷ []

-- the properties of a file and of a record, and the attributes that their handlers give
abbrev pub file_props : List ℕ → List ℕ → List (List ℕ × Data)
file_props path content = (codes "Content", text content) ∷ (codes "Path", text path) ∷ []

abbrev pub file_attrs : List ℕ → ℕ → List ℕ → List ℕ → List (List ℕ × Data)
file_attrs id length path content =
    (codes "Content", text content) ∷ (codes "Id", text id) ∷ (codes "Length", whole (pos length)) ∷ (codes "Path", text path) ∷ []

abbrev pub note_props : List ℕ → List ℕ → List (List ℕ × Data)
note_props key value = (codes "Key", text key) ∷ (codes "Value", text value) ∷ []

abbrev pub note_attrs : List ℕ → ℕ → List ℕ → List ℕ → List (List ℕ × Data)
note_attrs id length key value =
    (codes "Id", text id) ∷ (codes "Key", text key) ∷ (codes "Length", whole (pos length)) ∷ (codes "Value", text value) ∷ []

-- a source of one template
abbrev pub source_of : List ℕ → List ℕ → List ℕ → Source
source_of stack name bytes = record { root = name; texts = (name, bytes) ∷ []; given = []; imports = []; stack = stack; number = 0 }

-- a lane with its type
abbrev pub lane_pair : List ℕ → List ℕ → List ℕ × List ℕ
lane_pair name k = (name, k)

-- What a report shows of a stack: its status and number; of each resource, by path and then by physical id, the path, the
-- type, the id, the status and whether it is unsure, and beside that the recorded properties; the parameters that were given
-- to the source that was completed last (the template has those that were not), outputs, leftovers, and the
-- paths that failed when an operation ended last; and what the reports of exports show of it, and the exports that it pins.
-- What the operation made and does not hold yet is not printed, and told here beside it.
pub record Line : Type 0 where
  pub path : List ℕ
  pub kind : List ℕ
  pub physical : List ℕ
  pub status : HeldStatus
  pub unsure : Bool
  pub props : List (List ℕ × Data)

pub record Report : Type 0 where
  pub status : Status
  pub number : ℕ
  pub resources : List Line
  pub made : List Line
  pub given : List (List ℕ × List ℕ)
  pub outputs : List Output
  pub leftovers : List Leftover
  pub failed : List (List ℕ)
  pub exports : List (List ℕ × List ℕ)
  pub pins : List (List ℕ)

-- a stack of which there is nothing else to show
abbrev pub bare : Status → ℕ → Report
bare s n =
    record {
      status = s;
      number = n;
      resources = [];
      made = [];
      given = [];
      outputs = [];
      leftovers = [];
      failed = [];
      exports = [];
      pins = [];
    }

abbrev pub line : Held → Line
line h = record { path = h.path; kind = h.kind; physical = h.physical; status = h.status; unsure = h.unsure; props = h.props }

abbrev pub is_line_before : Line → Line → Bool
is_line_before a b = bytes_lt a.path b.path || (bytes_eq a.path b.path && bytes_lt a.physical b.physical)

-- the paths of the last end since the stack's last operation began that is no continued rollback
abbrev pub last_failed : StackState → List (List ℕ)
last_failed s = option_map_or failed_in (find is_done_entry (reverse s.entries)) []

-- The source whose parameters are told: the one that was completed last, where it is this stack's and not that of one that
-- had the name before; none once all was taken back or deleted (DescribeStacks).
abbrev pub tells_parameters : Status → Bool
tells_parameters status.RollbackComplete = false
tells_parameters status.DeleteComplete = false
tells_parameters _ = true

abbrev pub given_by : StackState → Source → List (List ℕ × List ℕ)
given_by s source = if source.number == s.number && tells_parameters s.status then source.given else []

abbrev pub report_from : List ℕ → World → StackState → Report
report_from name x s = record {
  status = s.status;
  number = s.number;
  resources = fold (insert_by is_line_before) [] (map line s.held);
  made = map line s.made;
  given = option_map_or (given_by s) s.source [];
  outputs = s.outputs;
  leftovers = s.leftovers;
  failed = last_failed s;
  exports = exports_by name x;
  pins = map (λ p. p.name) (filter (λ p. bytes_eq name p.stack) x.pins);
}

abbrev pub report_of : List ℕ → World → Report
report_of name x = report_from name x (known_stack name x)

-- a list in which this entry stands behind these is refused, whatever stands behind it
abbrev pub IsRefusedAfter : List Entry → Entry → Type 0
IsRefusedAfter before e = (rest : List Entry) → ¬ IsLegal schemas empty_world (before ++ e ∷ rest)

-- a lane with what is settled on it, what may act later, and its fence; nothing was live there before
abbrev pub lane_with : List ℕ → List ℕ → List Settled → List Flying → ℕ → Lane
lane_with name k settled flying fence =
    record { name = name; kind = k; state = record { state = record { base = []; settled = settled }; flying = flying; fence = fence } }
