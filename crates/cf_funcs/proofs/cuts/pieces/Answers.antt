use Rattle.std.proofs.Common.{sym, rules}
use Rattle.cf_funcs.proofs.Parts.{cut_shorter, piece_more}
use Rattle.cf_funcs.proofs.cuts.pieces.Goals as goal

pub loop-piece-smaller : goal.loop-piece-smaller
loop-piece-smaller c = cut_shorter _ _ (c.in-Some.piece.now, c.in-Some.after.now) c.requires (sym c.in-Some.ensures)

pub loop-piece-preserved : goal.loop-piece-preserved
loop-piece-preserved c = record {
  is_text = search rules;
  so_far = piece_more _ _ _ _ _ (c.in-Some.piece.now, c.in-Some.after.now) c.requires c.in-Some.ensures c.loop-piece.invariant.so_far c.in_ok-push_text.ensures;
}
