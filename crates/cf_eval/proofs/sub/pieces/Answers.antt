use Rattle.std.proofs.Common.{◌++◌, ◌∙◌, ap, map}
use Rattle.cf_eval.specs.Functions.{piece_found}
use Rattle.cf_eval.specs.Gives.{got_found, member_found}
use Rattle.cf_eval.specs.ScopeOf.{scope_of}
use Rattle.cf_eval.proofs.Gots.{all_stop, drop_item}
use Rattle.cf_eval.proofs.sub.pieces.Goals as goal

pub returns-in-Err : goal.returns-in-Err
returns-in-Err c =
    let piece = piece_found (scope_of c.args.scope.now) c.args.at.now (map member_found c.args.own.now) in
    let left = drop_item c.as_slice-part-items.result.now c.loop-part.part-index c.part-item.result c.loop-part-test.true c.part-item.is in
    all_stop _ c.loop-part.pieces.items (piece c.part-item.result) _ c.in-Err.stop
    (c.loop-part.invariant ∙ ap (λ ps. map got_found c.loop-part.pieces.items ++ map piece ps) left) (c.in-Err.ensures)
