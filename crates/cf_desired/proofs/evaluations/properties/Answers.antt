use Rattle.std.proofs.Common.{◌≡◌, ◌∙◌, ℕ, List, ◌∷◌, [], ◌++◌, ◌+◌, None, drop, ap, sym, subst}
use Rattle.std.specs.Bool.{IsTrue}
use Rattle.std.proofs.lemmas.List.{drop_more}
use Rattle.cf_tree.specs.Form.{field_of, fields_in}
use Rattle.cf_tree.specs.Keys.{ascends}
use Rattle.cf_tree.specs.declared.expr.ExprPair.{ExprPair}
use Rattle.cf_eval.specs.Env.{scope_in}
use Rattle.cf_desired.specs.Kept.{prop_taken}
use Rattle.cf_eval.specs.Value.{props_of}
use Rattle.cf_desired.proofs.Ordered.{InOrder, known_in_order, one_taken, prop_step}
use Rattle.cf_desired.proofs.Properties.{props_after}
use Rattle.cf_desired.proofs.evaluations.properties.Goals as goal

pub add_prop-requires : goal.add_prop-requires
add_prop-requires c =
    let items = c.as_slice-prop-items.result.now in
    let i = c.loop-prop.prop-index in
    let left : List ExprPair = drop (i + 1) items in
    let split : drop i items ≡ c.prop-item.result ∷ left = drop_more items i c.prop-item.result c.loop-prop-test.true ∙ ap (λ (p : ExprPair). p ∷ left) (sym c.prop-item.is) in
    let ordered = subst (λ (ps : List ExprPair). InOrder c.loop-prop.known (fields_in ps)) split c.loop-prop.invariant.1 in
    subst (λ (name : List ℕ). IsTrue (ascends (c.loop-prop.known ++ (name, None) ∷ []))) (sym c.in_ok-try_clone-in-Ok.ensures)
    (known_in_order (c.loop-prop.known ++ (c.prop-item.result.name, None) ∷ []) (fields_in left) (one_taken c.loop-prop.known (field_of c.prop-item.result) (fields_in left) None ordered))

pub loop-prop-preserved : goal.loop-prop-preserved
loop-prop-preserved c =
    let items = c.as_slice-prop-items.result.now in
    let i = c.loop-prop.prop-index in
    let left : List ExprPair = drop (i + 1) items in
    let split : drop i items ≡ c.prop-item.result ∷ left = drop_more items i c.prop-item.result c.loop-prop-test.true ∙ ap (λ (p : ExprPair). p ∷ left) (sym c.prop-item.is) in
    let s = scope_in c.args.env.now in
    prop_step s c.loop-prop.known c.add_prop.new.known (field_of c.prop-item.result) (fields_in left) c.in-Ok.got (props_of s c.args.props.now) c.in-Ok.ensures
    (c.loop-prop.invariant.0 ∙ ap (λ (ps : List ExprPair). props_after s (fields_in ps) c.loop-prop.known) split)
    (subst (λ (ps : List ExprPair). InOrder c.loop-prop.known (fields_in ps)) split c.loop-prop.invariant.1)
    (c.in_ok-add_prop-in-Ok.ensures ∙ ap (λ (name : List ℕ). c.loop-prop.known ++ prop_taken name c.in-Ok.got) c.in_ok-try_clone-in-Ok.ensures)
