use Rattle.std.proofs.Common.{◌≡◌, ◌++◌, map, drop}
use Rattle.cf_eval.specs.Functions.{piece_found}
use Rattle.cf_eval.specs.Gives.{got_found, member_found}
use Rattle.cf_eval.specs.ScopeOf.{scope_of}
use Rattle.cf_eval.proofs.sub.pieces.Given as goal

abbrev pub invariant-loop-part : goal.invariant-loop-part
invariant-loop-part l = map (piece_found (scope_of l.scope) l.at (map member_found l.own)) l.parts ≡ map got_found l.pieces.items ++ map (piece_found (scope_of l.scope) l.at (map member_found l.own)) (drop l.part-index l.part-items)
