use Rattle.std.proofs.Common.{◌++◌, ◌∙◌, ap, map}
use Rattle.std.specs.Option.{option_copied}
use Rattle.cf_tree.specs.Form.{fields_in}
use Rattle.cf_tree.specs.Forms.{forms_of, fields_of}
use Rattle.cf_eval.specs.Value.{forms_found, fields_found, form_found}
use Rattle.cf_eval.specs.Gives.{got_found, member_found}
use Rattle.cf_eval.specs.ScopeOf.{scope_of}
use Rattle.cf_eval.proofs.Gots.{all_stop, bindings_all_stop, drop_item}
use Rattle.cf_eval.proofs.value.+value.Goals as goal

pub values-returns-in-Err : goal.values-returns-in-Err
values-returns-in-Err t c =
    let s = scope_of c.args.scope.now in
    let around = option_copied c.args.around in
    let left = drop_item c.as_slice-item-items.result.now c.loop-item.item-index c.item-item.result c.loop-item-test.true c.item-item.is in
    all_stop _ c.loop-item.gots.items (form_found s around c.item-item.result) _ c.in-Err.stop
    (c.loop-item.invariant ∙ ap (λ es. map got_found c.loop-item.gots.items ++ forms_found s around (forms_of es)) left) c.in-Err.ensures

pub bindings-returns-in-Err : goal.bindings-returns-in-Err
bindings-returns-in-Err t c =
    let s = scope_of c.args.scope.now in
    let around = option_copied c.args.around in
    let left = drop_item c.as_slice-pair-items.result.now c.loop-pair.pair-index c.pair-item.result c.loop-pair-test.true c.pair-item.is in
    bindings_all_stop _ c.loop-pair.bound.items c.pair-item.result.name (form_found s around c.pair-item.result.value) _ c.in-Err.stop
    (c.loop-pair.invariant ∙ ap (λ ps. map member_found c.loop-pair.bound.items ++ fields_found s around (fields_of (fields_in ps))) left) c.in-Err.ensures

pub node_value-returns-in-Sub : goal.node_value-returns-in-Sub
node_value-returns-in-Sub t c = rw c.in-Sub.is c.sub_value.ensures
