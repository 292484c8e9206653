-- What a new template changes of what a stack holds (User Guide: change sets; DescribeChangeSet). What counts as
-- unknown, and so which details are Dynamic and which replacements Conditional, is this project's own.
use Rattle.std.specs.Prelude.{◌≡◌, ⊤, ℕ, Bool, true, false, ◌&&◌, ◌||◌, not, List, [], ◌∷◌, ◌++◌, Option, Some, None, Result, Ok, Err, find, filter, flat_map, fold, map, is_some, if◌then◌else◌}
use Rattle.cf_change.specs.declared.set.ChangeFault.{ChangeFault}
use Rattle.cf_change.specs.declared.set.ChangeFault.TheVariants as fault
use Rattle.cf_change.specs.declared.set.ChangeSet.{ChangeSet}
use Rattle.cf_desired.specs.Desired.{fault_of}
use Rattle.std.specs.List.{list_all, list_any}
use Rattle.std.specs.Option.{option_map_or}
use Rattle.std.specs.Str.{bytes_eq}
use Rattle.cf_tree.specs.Datum.{Data}
use Rattle.cf_tree.specs.Keys.{value_at, put, bytes_lt}
use Rattle.cf_tree.specs.declared.row.Row.{Row}
use Rattle.cf_tree.specs.declared.row.Detail.{Detail}
use Rattle.cf_tree.specs.declared.row.Action.TheVariants as action
use Rattle.cf_tree.specs.declared.row.Replacement.{Replacement}
use Rattle.cf_tree.specs.declared.row.Replacement.TheVariants as replacement
use Rattle.cf_tree.specs.declared.row.Attribute.{Attribute}
use Rattle.cf_tree.specs.declared.row.Attribute.TheVariants as attribute
use Rattle.cf_tree.specs.declared.row.Recreation.{Recreation}
use Rattle.cf_tree.specs.declared.row.Recreation.TheVariants as recreation
use Rattle.cf_tree.specs.declared.row.Evaluation.{Evaluation}
use Rattle.cf_tree.specs.declared.row.Evaluation.TheVariants as evaluation
use Rattle.cf_tree.specs.declared.source.Source.{Source}
use Rattle.cf_tree.specs.declared.template.Deletion.{Deletion}
use Rattle.cf_tree.specs.declared.template.Deletion.TheVariants as deletion
use Rattle.cf_tree.specs.declared.template.Replace.{Replace}
use Rattle.cf_tree.specs.declared.template.Replace.TheVariants as replace
use Rattle.cf_tree.specs.Lists.{first_in, insert_by, is_among, least_by}
use Rattle.cf_change.specs.declared.found.Found as kept_found
use Rattle.cf_change.specs.declared.held.HeldAt as kept_held
use Rattle.cf_export.specs.declared.Output.{Output}
use Rattle.cf_schema.specs.declared.described.Schema.{Schema}
use Rattle.cf_schema.specs.Change.{value_differs}
use Rattle.cf_schema.specs.Kinds.{found}
use Rattle.cf_desired.specs.declared.wanted.Evaluated.TheVariants.{Flawed as flawed, Known as evaluated}
use Rattle.cf_desired.specs.declared.wanted.Exporting.{Exporting}
use Rattle.cf_desired.specs.declared.wanted.Exporting.TheVariants as exporting
use Rattle.cf_desired.specs.declared.flaw.Flaw.{Flaw}
use Rattle.cf_desired.specs.declared.refusal.DesiredFault.{DesiredFault}
use Rattle.cf_desired.specs.declared.refusal.DesiredFault.TheVariants as unwanted
use Rattle.cf_desired.specs.Seeing.{SeenAt}
use Rattle.cf_desired.specs.declared.wanted.Evaluated.{Evaluated}
use Rattle.cf_desired.specs.declared.wanted.Plan.{Plan}
use Rattle.cf_desired.specs.declared.wanted.Wanted.{Wanted}
use Rattle.cf_desired.specs.declared.wanted.WantedOutput.{WantedOutput}
use Rattle.cf_desired.specs.Plan.{plan_of, props_at, wanted_of}
use Rattle.cf_desired.specs.Seeing.{Seen, by_names}
use Rattle.cf_desired.specs.Shape.{in_order, shape_of}
use Rattle.cf_desired.specs.Valued.{resources_in}
use Rattle.cf_desired.specs.Work.{Member, Shape}

-- a resource as a stack holds it
abbrev pub HeldAt : Type 0
HeldAt = kept_held.HeldAt

abbrev pub resource_held : List ℕ → List HeldAt → Option HeldAt
resource_held path hs = find (λ h. bytes_eq path h.path) hs

-- whether a change of the property replaces the resource
abbrev pub recreation_by : Schema → List ℕ → Recreation
recreation_by g name =
    if is_among name g.create_only then recreation.Always else if is_among name g.conditional then recreation.Conditionally
    else recreation.Never

abbrev pub recreation_of : Option Schema → List ℕ → Recreation
recreation_of None name = recreation.Never
recreation_of (Some g) name = recreation_by g name

-- A property whose new value is not known yet has a Dynamic detail. Any other has a Static one where it differs: in its value, or since it
-- stands on one side alone.
abbrev pub static_if : Bool → Option Evaluation
static_if does = if does then Some evaluation.Static else None

abbrev pub evaluation_of : Option Data → Option (Option Data) → Option Evaluation
evaluation_of old (Some None) = Some evaluation.Dynamic
evaluation_of old (Some (Some new)) = static_if (value_differs old (Some new))
evaluation_of old None = static_if (value_differs old None)

abbrev pub property_detail : Option Schema → List (List ℕ × Data) → List (List ℕ × Option Data) → List ℕ → List Detail
property_detail g old new name =
    option_map_or (λ e. record { attribute = attribute.Properties; name = name; recreation = recreation_of g name; evaluation = e } ∷ [])
    (evaluation_of (value_at name old) (value_at name new)) []

-- the names on either side, each once, in byte order
abbrev pub names_on_either : List (List ℕ × Data) → List (List ℕ × Option Data) → List (List ℕ)
names_on_either old new = in_order (map (λ p. p.0) old ++ map (λ p. p.0) new)

abbrev pub property_details : Option Schema → List (List ℕ × Data) → List (List ℕ × Option Data) → List Detail
property_details g old new = flat_map (property_detail g old new) (names_on_either old new)

-- a changed policy is a detail that never replaces
abbrev pub same_deletion : Deletion → Deletion → Bool
same_deletion deletion.Delete deletion.Delete = true
same_deletion deletion.Retain deletion.Retain = true
same_deletion deletion.RetainExceptOnCreate deletion.RetainExceptOnCreate = true
same_deletion _ _ = false

abbrev pub same_replace : Replace → Replace → Bool
same_replace replace.Delete replace.Delete = true
same_replace replace.Retain replace.Retain = true
same_replace _ _ = false

abbrev pub policy_details : HeldAt → Wanted → List Detail
policy_details h w =
    (if same_deletion h.deletion w.deletion then []
    else record { attribute = attribute.DeletionPolicy; name = []; recreation = recreation.Never; evaluation = evaluation.Static } ∷ [])
    ++ (if same_replace h.replace w.replace then []
    else record { attribute = attribute.UpdateReplacePolicy; name = []; recreation = recreation.Never; evaluation = evaluation.Static }
    ∷ [])

-- Replacement: True where a create-only property has a Static detail; else Conditional where one has a Dynamic detail or a conditional one
-- has any; else False.
abbrev pub is_always_static : Recreation → Evaluation → Bool
is_always_static recreation.Always evaluation.Static = true
is_always_static _ _ = false

abbrev pub is_never : Recreation → Bool
is_never recreation.Never = true
is_never _ = false

abbrev pub replacement_of : List Detail → Replacement
replacement_of ds =
    if list_any (λ d. is_always_static d.recreation d.evaluation) ds then replacement.True
    else if list_any (λ d. not (is_never d.recreation)) ds then replacement.Conditional
    else replacement.False

abbrev pub props_or_none : Evaluated → List (List ℕ × Option Data)
props_or_none (flawed f) = []
props_or_none (evaluated ps) = ps

abbrev pub is_empty : {A : Type 0} → List A → Bool
is_empty [] = true
is_empty (a ∷ rest) = false

-- the row of a path that is in both: it is there exactly where something changes, or the resource is unsure
abbrev pub modify_row : HeldAt → Wanted → List Detail → Option Row
modify_row h w ds =
    if is_empty ds && not h.unsure then None
    else Some (record {
      action = action.Modify;
      path = w.path;
      kind = w.kind;
      replacement = Some (replacement_of ds);
      unsure = h.unsure;
      details = ds;
    })

abbrev pub details_for : List Schema → HeldAt → Wanted → List Detail
details_for schemas h w = property_details (found w.kind schemas) h.props (props_or_none w.props) ++ policy_details h w

abbrev pub row_for : List Schema → Option HeldAt → Wanted → Option Row
row_for schemas None w =
    Some (record { action = action.Add; path = w.path; kind = w.kind; replacement = None; unsure = false; details = [] })
row_for schemas (Some h) w = modify_row h w (details_for schemas h w)

-- What of a resource is seen by those that need it: unknown are the id of one that is added or may be replaced, and the
-- attributes of one that is added, has a property detail or is unsure.
abbrev pub is_property_attribute : Attribute → Bool
is_property_attribute attribute.Properties = true
is_property_attribute _ = false

abbrev pub is_property : Detail → Bool
is_property d = is_property_attribute d.attribute

abbrev pub keeps_id : Option Replacement → Bool
keeps_id (Some replacement.False) = true
keeps_id _ = false

abbrev pub seen_held : HeldAt → Option Row → SeenAt
seen_held h None = record { physical = Some h.physical; attrs = Some h.attrs }
seen_held h (Some r) = record {
  physical = if keeps_id r.replacement then Some h.physical else None;
  attrs = if list_any is_property r.details || h.unsure then None else Some h.attrs;
}

abbrev pub seen_after : Option HeldAt → Option Row → SeenAt
seen_after None row = record { physical = None; attrs = None }
seen_after (Some h) row = seen_held h row

-- The rows are found along the needs: each path is evaluated over what is seen of the paths before it. Where the shape over what
-- is seen at the end has no flaw it is the shape over what is held (a law: ShapeIsHeld).
abbrev pub RowsFound : Type 0
RowsFound = kept_found.Found

abbrev pub row_list : Option Row → List Row
row_list None = []
row_list (Some r) = r ∷ []

abbrev pub is_other_kind : Option HeldAt → Wanted → Bool
is_other_kind None w = false
is_other_kind (Some h) w = not (bytes_eq h.kind w.kind)

abbrev pub found_with : List Schema → List HeldAt → RowsFound → Wanted → RowsFound
found_with schemas held f w =
    if is_other_kind (resource_held w.path held) w
    then record f { clash = f.clash ++ w.path ∷ []; seen = put w.path (seen_after (resource_held w.path held) None) f.seen }
    else record f {
      rows = f.rows ++ row_list (row_for schemas (resource_held w.path held) w);
      seen = put w.path (seen_after (resource_held w.path held) (row_for schemas (resource_held w.path held) w)) f.seen;
    }

-- a resource of the shape, over what is seen of those before it
abbrev pub found_next : List Schema → List HeldAt → Source → Shape → RowsFound → Member → RowsFound
found_next schemas held source shape f m =
    option_map_or (λ v. found_with schemas held f (wanted_of (m, v))) (props_at source shape f.seen m.path) f

abbrev pub found_by : List Schema → List HeldAt → Source → Shape → RowsFound
found_by schemas held source shape =
    fold (found_next schemas held source shape) (record { rows = []; seen = []; clash = [] }) (resources_in shape)

-- what is seen of what is held: of two resources at one path the first one
abbrev pub held_at : HeldAt → List ℕ × SeenAt
held_at h = (h.path, seen_held h None)

abbrev pub held_seen : List HeldAt → Seen
held_seen held = by_names (map held_at held)

-- along the shape that the source has over what is held
abbrev pub found_of : List Schema → List HeldAt → Source → RowsFound
found_of schemas held source = found_by schemas held source (shape_of source (held_seen held))

-- what is held and not wanted any more is removed
abbrev pub removed_row : HeldAt → Row
removed_row h = record { action = action.Remove; path = h.path; kind = h.kind; replacement = None; unsure = false; details = [] }

abbrev pub removed_rows : List HeldAt → Seen → List Row
removed_rows held seen = map removed_row (filter (λ h. not (is_some (value_at h.path seen))) held)

-- by path
abbrev pub is_row_before : Row → Row → Bool
is_row_before a b = bytes_lt a.path b.path

-- whether the evaluated outputs and exports differ from those that are held, or may
abbrev pub is_same_text : List ℕ → Option (List ℕ) → Bool
is_same_text t (Some v) = bytes_eq t v
is_same_text t None = false

abbrev pub is_same_export : Option (List ℕ) → Exporting → Bool
is_same_export None exporting.Nothing = true
is_same_export (Some a) (exporting.Named b) = bytes_eq a b
is_same_export _ _ = false

abbrev pub is_same_output : Output → WantedOutput → Bool
is_same_output h w = bytes_eq h.name w.name && (is_same_text h.value w.value && is_same_export h.export w.export)

abbrev pub are_same_outputs : List Output → List WantedOutput → Bool
are_same_outputs [] [] = true
are_same_outputs (h ∷ hs) (w ∷ ws) = is_same_output h w && are_same_outputs hs ws
are_same_outputs _ _ = false

abbrev pub is_kept_export : List (List ℕ × Option (List ℕ)) → List ℕ × List ℕ → Bool
is_kept_export new e = list_any (λ n. bytes_eq e.0 n.0 && is_same_text e.1 n.1) new

abbrev pub is_old_export : List (List ℕ × List ℕ) → List ℕ × Option (List ℕ) → Bool
is_old_export old n = list_any (λ e. bytes_eq e.0 n.0 && is_same_text e.1 n.1) old

abbrev pub are_same_exports : List (List ℕ × List ℕ) → List (List ℕ × Option (List ℕ)) → Bool
are_same_exports old new = list_all (is_kept_export new) old && list_all (is_old_export old) new

-- what changes: rows by path, whether the outputs differ or may, the paths that are held with another type, and the flaws of the template
pub record Changes : Type 0 where
  pub rows : List Row
  pub outputs_differ : Bool
  pub clash : List (List ℕ)
  pub flaws : List Flaw

abbrev pub changes_by : List HeldAt → List Output → List (List ℕ × List ℕ) → RowsFound → Plan → Changes
changes_by held outputs exports f p = record {
  rows = fold (insert_by is_row_before) [] (f.rows ++ removed_rows held f.seen);
  outputs_differ = not (are_same_outputs outputs p.outputs && are_same_exports exports p.exports);
  clash = f.clash;
  flaws = p.flaws;
}

abbrev pub changes_of : List Schema → List HeldAt → List Output → List (List ℕ × List ℕ) → Source → Changes
changes_of schemas held outputs exports source =
    let f = found_of schemas held source in changes_by held outputs exports f (plan_of source f.seen)

-- The answer: the first flaw; else the least path that is held with another type; else that nothing changes; else the set.
abbrev pub least_of : List (List ℕ) → Option (List ℕ)
least_of paths = fold (least_by (λ path. path)) None paths

abbrev pub refusal_by : Option Flaw → Option (List ℕ) → Bool → Option ChangeFault
refusal_by (Some f) clash same = Some (fault.Plan (fault_of f))
refusal_by None (Some path) same = Some (fault.TypeChanged path)
refusal_by None None true = Some fault.NoChanges
refusal_by None None false = None

-- nothing changes: there is no row, and no output differs
abbrev pub is_unchanged : Changes → Bool
is_unchanged c = is_empty c.rows && not c.outputs_differ

abbrev pub refusal_of : Changes → Option ChangeFault
refusal_of c = refusal_by (first_in c.flaws) (least_of c.clash) (is_unchanged c)

-- why there is no plan, as a refusal of the change set
abbrev pub refused : DesiredFault → ChangeFault
refused unwanted.NoMemory = fault.NoMemory
refused f = fault.Plan f

-- the set, where nothing refuses it; or why; of want of memory nothing is said
abbrev pub Changed : Changes → Result ChangeSet ChangeFault → Type 0
Changed c (Ok set) = (refusal_of c ≡ None) × (set ≡ record { rows = c.rows; outputs_differ = c.outputs_differ })
Changed c (Err fault.NoMemory) = ⊤
Changed c (Err f) = refusal_of c ≡ Some f
