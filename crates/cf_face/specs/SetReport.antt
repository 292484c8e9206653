-- The report on a change set (this project's own; its words are those of DescribeChangeSet).
use Rattle.std.specs.Prelude.{ℕ, Bool, List, [], ◌∷◌, ◌++◌, Option, Some, None, decimal, codes, if◌then◌else◌}
use Rattle.std.specs.List.{flat_map}
use Rattle.cf_tree.specs.declared.row.Action.{Action}
use Rattle.cf_tree.specs.declared.row.Action.TheVariants as action
use Rattle.cf_tree.specs.declared.row.Attribute.{Attribute}
use Rattle.cf_tree.specs.declared.row.Attribute.TheVariants as attribute
use Rattle.cf_tree.specs.declared.row.Detail.{Detail}
use Rattle.cf_tree.specs.declared.row.Evaluation.{Evaluation}
use Rattle.cf_tree.specs.declared.row.Evaluation.TheVariants as evaluation
use Rattle.cf_tree.specs.declared.row.Recreation.{Recreation}
use Rattle.cf_tree.specs.declared.row.Recreation.TheVariants as recreation
use Rattle.cf_tree.specs.declared.row.Replacement.{Replacement}
use Rattle.cf_tree.specs.declared.row.Replacement.TheVariants as replacement
use Rattle.cf_tree.specs.declared.row.Row.{Row}
use Rattle.cf_face.specs.declared.exit.Exit.{Exit}
use Rattle.cf_face.specs.Exit.{exit_line}
use Rattle.cf_face.specs.Line.{line_of}
use Rattle.cf_face.specs.Report.{unsure_words}

-- the words of DescribeChangeSet: what is done with a resource, whether it is replaced, what of it changes, whether that replaces it, and
-- whether the new value is known
abbrev pub action_name : Action → List ℕ
action_name action.Add = codes "Add"
action_name action.Modify = codes "Modify"
action_name action.Remove = codes "Remove"

abbrev pub replacement_name : Replacement → List ℕ
replacement_name replacement.True = codes "True"
replacement_name replacement.False = codes "False"
replacement_name replacement.Conditional = codes "Conditional"

abbrev pub attribute_name : Attribute → List ℕ
attribute_name attribute.Properties = codes "Properties"
attribute_name attribute.DeletionPolicy = codes "DeletionPolicy"
attribute_name attribute.UpdateReplacePolicy = codes "UpdateReplacePolicy"

abbrev pub recreation_name : Recreation → List ℕ
recreation_name recreation.Never = codes "Never"
recreation_name recreation.Conditionally = codes "Conditionally"
recreation_name recreation.Always = codes "Always"

abbrev pub evaluation_name : Evaluation → List ℕ
evaluation_name evaluation.Static = codes "Static"
evaluation_name evaluation.Dynamic = codes "Dynamic"

-- the line of a detail: a property by its name, and `-` in the place of one for a policy
abbrev pub detail_name : Attribute → List ℕ → List ℕ
detail_name attribute.Properties name = name
detail_name attribute.DeletionPolicy name = codes "-"
detail_name attribute.UpdateReplacePolicy name = codes "-"

abbrev pub detail_line : Detail → List ℕ
detail_line d =
    line_of (codes "detail")
    (attribute_name d.attribute ∷ detail_name d.attribute d.name ∷ recreation_name d.recreation ∷ evaluation_name d.evaluation ∷ [])

-- the lines of a row: that of the change, which says of a resource that is modified whether it is replaced and whether its live properties
-- are not known, and those of its details
abbrev pub replacement_words : Option Replacement → List (List ℕ)
replacement_words None = []
replacement_words (Some r) = replacement_name r ∷ []

abbrev pub change_line : Row → List ℕ
change_line r =
    line_of (codes "change") (action_name r.action ∷ r.path ∷ r.kind ∷ replacement_words r.replacement ++ unsure_words r.unsure)

abbrev pub row_lines : Row → List ℕ
row_lines r = change_line r ++ flat_map detail_line r.details

-- the line that says whether outputs differ or may
abbrev pub outputs_line : Bool → List ℕ
outputs_line differ = line_of (codes "outputs") ((if differ then codes "changed" else codes "same") ∷ [])

-- the report on the change set of a number: the lines of its rows in their order, of its outputs, and how the command ended
abbrev pub set_line : List ℕ → ℕ → List ℕ
set_line name number = line_of (codes "change-set") (name ∷ decimal number ∷ [])

abbrev pub set_report : List ℕ → ℕ → List Row → Bool → Exit → List ℕ
set_report name number rows outputs e =
    set_line name number ++ (flat_map row_lines rows ++ (outputs_line outputs ++ exit_line e))
