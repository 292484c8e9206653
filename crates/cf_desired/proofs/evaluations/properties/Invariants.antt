use Rattle.std.proofs.Common.{◌≡◌, drop}
use Rattle.cf_tree.specs.Form.{fields_in}
use Rattle.cf_eval.specs.Env.{scope_in}
use Rattle.cf_eval.specs.Value.{props_of}
use Rattle.cf_desired.proofs.Ordered.{InOrder}
use Rattle.cf_desired.proofs.Properties.{props_after}
use Rattle.cf_desired.proofs.evaluations.properties.Given as goal

abbrev pub invariant-loop-prop : goal.invariant-loop-prop
invariant-loop-prop l =
    (props_of (scope_in l.env) l.props ≡ props_after (scope_in l.env) (fields_in (drop l.prop-index l.prop-items)) l.known)
    × InOrder l.known (fields_in (drop l.prop-index l.prop-items))
