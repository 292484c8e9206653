-- Whether two rows of change sets are the same (this project's own).
use Rattle.std.specs.Prelude.{Bool, true, false, ◌&&◌}
use Rattle.std.specs.Bool.{beq}
use Rattle.std.specs.Cmp.Lexicographic.{pointwise}
use Rattle.std.specs.Str.{bytes_eq}
use Rattle.cf_tree.specs.declared.row.Action.{Action}
use Rattle.cf_tree.specs.declared.row.Action.TheVariants as action
use Rattle.cf_tree.specs.declared.row.Attribute.{Attribute}
use Rattle.cf_tree.specs.declared.row.Attribute.TheVariants as attribute
use Rattle.cf_tree.specs.declared.row.Detail.{Detail}
use Rattle.cf_tree.specs.declared.row.Evaluation.{Evaluation}
use Rattle.cf_tree.specs.declared.row.Evaluation.TheVariants as evaluation
use Rattle.cf_tree.specs.declared.row.Recreation.{Recreation}
use Rattle.cf_tree.specs.declared.row.Recreation.TheVariants as recreation
use Rattle.cf_tree.specs.declared.row.Replacement.{Replacement}
use Rattle.cf_tree.specs.declared.row.Replacement.TheVariants as replacement
use Rattle.cf_tree.specs.declared.row.Row.{Row}
use Rattle.cf_prepare.specs.Same.{same_option}

abbrev pub same_action : Action → Action → Bool
same_action action.Add action.Add = true
same_action action.Modify action.Modify = true
same_action action.Remove action.Remove = true
same_action _ _ = false

abbrev pub same_replacement : Replacement → Replacement → Bool
same_replacement replacement.True replacement.True = true
same_replacement replacement.False replacement.False = true
same_replacement replacement.Conditional replacement.Conditional = true
same_replacement _ _ = false

abbrev pub same_attribute : Attribute → Attribute → Bool
same_attribute attribute.Properties attribute.Properties = true
same_attribute attribute.DeletionPolicy attribute.DeletionPolicy = true
same_attribute attribute.UpdateReplacePolicy attribute.UpdateReplacePolicy = true
same_attribute _ _ = false

abbrev pub same_recreation : Recreation → Recreation → Bool
same_recreation recreation.Never recreation.Never = true
same_recreation recreation.Conditionally recreation.Conditionally = true
same_recreation recreation.Always recreation.Always = true
same_recreation _ _ = false

abbrev pub same_evaluation : Evaluation → Evaluation → Bool
same_evaluation evaluation.Static evaluation.Static = true
same_evaluation evaluation.Dynamic evaluation.Dynamic = true
same_evaluation _ _ = false

abbrev pub same_detail : Detail → Detail → Bool
same_detail a b =
    same_attribute a.attribute b.attribute
    && (bytes_eq a.name b.name && (same_recreation a.recreation b.recreation && same_evaluation a.evaluation b.evaluation))

abbrev pub same_row : Row → Row → Bool
same_row a b =
    same_action a.action b.action && (bytes_eq a.path b.path && (bytes_eq a.kind b.kind
    && (same_option same_replacement a.replacement b.replacement && (beq a.unsure b.unsure && pointwise same_detail a.details b.details))))
