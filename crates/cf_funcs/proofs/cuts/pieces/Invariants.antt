use Rattle.std.proofs.Common.{◌≡◌, ◌++◌, length, map, string_bytes}
use denote.Text.{Utf8}
use denote.Shadow.{shadow}
use Rattle.cf_funcs.specs.Pieces.{pieces_of}
use Rattle.cf_funcs.proofs.cuts.pieces.Given as goal

-- the pieces so far, and those of what is left, are the text's
abbrev pub invariant-loop-piece : goal.invariant-loop-piece
invariant-loop-piece l = record {
  is_text : shadow (Utf8 l.rest);
  so_far : pieces_of l.delimiter l.text ≡ map string_bytes l.pieces.items ++ pieces_of l.delimiter l.rest;
}

abbrev pub decreases-loop-piece : goal.decreases-loop-piece
decreases-loop-piece l = length l.rest
