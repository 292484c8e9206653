use Rattle.std.proofs.Common.{◌≡◌, drop}
use Rattle.cf_tree.specs.Form.{fields_in}
use Rattle.cf_tree.specs.Keys.{value_at}
use Rattle.cf_desired.proofs.template_name.property.Given as goal

abbrev pub invariant-loop-pair : goal.invariant-loop-pair
invariant-loop-pair l = value_at l.name l.props ≡ value_at l.name (fields_in (drop l.pair-index l.pair-items))
