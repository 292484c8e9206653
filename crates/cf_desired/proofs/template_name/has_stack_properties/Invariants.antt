use Rattle.std.proofs.Common.{◌≡◌, drop}
use Rattle.std.specs.List.{list_all}
use Rattle.cf_tree.specs.Form.{fields_in}
use Rattle.cf_desired.specs.Shape.{is_stack_property}
use Rattle.cf_desired.proofs.template_name.has_stack_properties.Given as goal

abbrev pub invariant-loop-pair : goal.invariant-loop-pair
invariant-loop-pair l = list_all (λ p. is_stack_property p.0) l.props ≡ list_all (λ p. is_stack_property p.0) (fields_in (drop l.pair-index l.pair-items))
