-- The reports on a stack, on one of the load mode, on what became of a stack, and on all stacks (this project's own; that on a change set
-- is in `SetReport`).
use Rattle.std.specs.Prelude.{ℕ, ◌==◌, Bool, true, false, ◌&&◌, ◌||◌, List, [], ◌∷◌, ◌++◌, Option, Some, None, fold, length, decimal, codes, option_and_then, if◌then◌else◌}
use Rattle.std.specs.List.{flat_map}
use Rattle.std.specs.Option.{option_or, option_map_or, unwrap_or}
use Rattle.std.specs.Str.{bytes_eq}
use Rattle.cf_funcs.specs.Pieces.{members_of}
use Rattle.cf_tree.specs.Keys.{bytes_lt, value_at}
use Rattle.cf_tree.specs.declared.source.Source.{Source}
use Rattle.cf_tree.specs.declared.template.Kind.{Kind}
use Rattle.cf_tree.specs.declared.template.Kind.TheVariants.{Text, Number, Numbers, Commas}
use Rattle.cf_tree.specs.declared.template.Param.{Param}
use Rattle.cf_tree.specs.Lists.{insert_by}
use Rattle.cf_desired.specs.Templates.{template_named}
use Rattle.cf_export.specs.declared.Output.{Output}
use Rattle.cf_entry.specs.Status.{status_name}
use Rattle.cf_entry.specs.declared.status.Status.{Status}
use Rattle.cf_entry.specs.declared.status.Status.TheVariants as status
use Rattle.cf_entry.specs.declared.entry.Entry.{Entry}
use Rattle.cf_entry.specs.declared.entry.Entry.TheVariants.{Done}
use Rattle.cf_entry.specs.declared.turn.Why.{Why}
use Rattle.cf_entry.specs.declared.turn.Why.TheVariants as why
use Rattle.cf_effect.specs.declared.held.Held.{Held}
use Rattle.cf_effect.specs.declared.held.HeldStatus.{HeldStatus}
use Rattle.cf_effect.specs.declared.held.HeldStatus.TheVariants as held
use Rattle.cf_effect.specs.declared.held.Leftover.{Leftover}
use Rattle.cf_effect.specs.Status.{is_deleted}
use Rattle.cf_effect.specs.World.{StackState}
use Rattle.cf_face.specs.declared.exit.Exit.{Exit}
use Rattle.cf_face.specs.Exit.{exit_line}
use Rattle.cf_face.specs.Line.{line_of, text_word, texts_word}

-- the line of a stack, with the number of the operation that created it
abbrev pub stack_line : List ℕ → List ℕ → ℕ → List ℕ
stack_line name status number = line_of (codes "stack") (name ∷ status ∷ decimal number ∷ [])

-- the text of a parameter: what is given for it, or else its default
abbrev pub text_for : List (List ℕ × List ℕ) → Param → Option (List ℕ)
text_for given p = option_or (value_at p.name given) p.default

-- the value of a parameter as compact JSON: its text, or the list of the members
abbrev pub value_word : Kind → List ℕ → List ℕ
value_word Text t = text_word t
value_word Number t = text_word t
value_word Numbers t = texts_word (members_of t)
value_word Commas t = texts_word (members_of t)

-- the value as it is told: one that may not be echoed is hidden (template reference: NoEcho)
abbrev pub told_word : Param → List ℕ → List ℕ
told_word p t = if p.no_echo then codes "\"****\"" else value_word p.kind t

-- the line of a parameter
abbrev pub parameter_line : List (List ℕ × List ℕ) → Param → List ℕ
parameter_line given p = option_map_or (λ t. line_of (codes "parameter") (p.name ∷ told_word p t ∷ [])) (text_for given p) []

-- the lines of the parameters of what a stack was made from, by name
abbrev pub parameter_lines : Option Source → List ℕ
parameter_lines None = []
parameter_lines (Some source) = option_map_or (λ t. flat_map (parameter_line source.given) t.params) (template_named source.root source) []

-- The source whose parameters are told: the one that was completed last, where it is this stack's and not that of one that
-- had the name before; none once all was taken back or deleted (DescribeStacks).
abbrev pub tells_parameters : Status → Bool
tells_parameters status.RollbackComplete = false
tells_parameters status.DeleteComplete = false
tells_parameters _ = true

abbrev pub own_source : StackState → Source → Option Source
own_source s source = if source.number == s.number && tells_parameters s.status then Some source else None

abbrev pub told_source : StackState → Option Source
told_source s = option_and_then (own_source s) s.source

-- the status of a resource (User Guide, resource status codes)
abbrev pub held_status_name : HeldStatus → List ℕ
held_status_name held.CreateComplete = codes "CREATE_COMPLETE"
held_status_name held.UpdateComplete = codes "UPDATE_COMPLETE"
held_status_name held.UpdateFailed = codes "UPDATE_FAILED"
held_status_name held.DeleteFailed = codes "DELETE_FAILED"

-- the line of a resource, which says where its live properties are not known
abbrev pub unsure_words : Bool → List (List ℕ)
unsure_words unsure = if unsure then codes "unsure" ∷ [] else []

abbrev pub held_line : Held → List ℕ
held_line h = line_of (codes "resource") (h.path ∷ h.kind ∷ h.physical ∷ held_status_name h.status ∷ unsure_words h.unsure)

-- what is held, by path and then by physical id, in byte order
abbrev pub is_held_before : Held → Held → Bool
is_held_before a b = bytes_lt a.path b.path || (bytes_eq a.path b.path && bytes_lt a.physical b.physical)

abbrev pub held_in_order : List Held → List Held
held_in_order hs = fold (insert_by is_held_before) [] hs

-- the line of an output: its value, and where it is exported the name of the export, as compact JSON
abbrev pub export_words : Option (List ℕ) → List (List ℕ)
export_words None = []
export_words (Some name) = codes "export" ∷ text_word name ∷ []

abbrev pub output_line : Output → List ℕ
output_line o = line_of (codes "output") (o.name ∷ text_word o.value ∷ export_words o.export)

-- the line of a leftover, with why it is one
abbrev pub leftover_why : Why → List ℕ
leftover_why why.Retained = codes "retained"
leftover_why why.Failed = codes "failed"
leftover_why why.Doubt = codes "doubt"

abbrev pub leftover_line : Leftover → List ℕ
leftover_line l = line_of (codes "leftover") (l.path ∷ l.physical ∷ leftover_why l.why ∷ [])

-- the paths that failed in the last operation that ended: those that its end names
abbrev pub failed_in : Entry → Option (List (List ℕ))
failed_in (Done number status paths) = Some paths
failed_in _ = None

abbrev pub last_failed : List Entry → List (List ℕ)
last_failed entries = fold (λ failed e. unwrap_or (failed_in e) failed) [] entries

-- the line of a path that failed
abbrev pub failed_line : List ℕ → List ℕ
failed_line path = line_of (codes "failed") (path ∷ [])

-- the report on a stack: its status and number, its parameters, what it holds, its outputs and leftovers, the paths that
-- failed in its last operation that ended, and how the command ended
abbrev pub stack_report : List ℕ → StackState → Exit → List ℕ
stack_report name s e =
    stack_line name (status_name s.status) s.number
    ++ (parameter_lines (told_source s)
    ++ (flat_map held_line (held_in_order s.held)
    ++ (flat_map output_line s.outputs
    ++ (flat_map leftover_line s.leftovers
    ++ (flat_map failed_line (last_failed s.entries)
    ++ exit_line e)))))

-- the line of the output `Last`, which a stack of the load mode has: its value as compact JSON
abbrev pub last_line : Output → List ℕ
last_line o = if bytes_eq (codes "Last") o.name then line_of (codes "last") (text_word o.value ∷ []) else []

-- The report on a stack of the load mode with so many records: its status, how many resources it holds, the output `Last`, where it is
-- there, and how the command ended.
abbrev pub load_report : ℕ → List ℕ → StackState → Exit → List ℕ
load_report count name s e =
    line_of (codes "load") (decimal count ∷ [])
    ++ (line_of (codes "stack") (name ∷ status_name s.status ∷ [])
    ++ (line_of (codes "resources") (decimal (length s.held) ∷ [])
    ++ (flat_map last_line s.outputs
    ++ exit_line e)))

-- The report on what became of a stack: the lines that it keeps (`lines_of`), one for each entry that concerns it, the earliest first, and
-- how the command ended.
abbrev pub event_line : List ℕ → List ℕ
event_line line = line ++ 10 ∷ []

abbrev pub events_report : StackState → Exit → List ℕ
events_report s e = flat_map event_line s.events ++ exit_line e

-- The report on all stacks: the line of each by name, but that of one that is deleted (DescribeStacks), and how the command ended.
abbrev pub listed_line : List ℕ × StackState → List ℕ
listed_line s = if is_deleted s.1.status then [] else stack_line s.0 (status_name s.1.status) s.1.number

abbrev pub list_report : List (List ℕ × StackState) → Exit → List ℕ
list_report stacks e = flat_map listed_line stacks ++ exit_line e
