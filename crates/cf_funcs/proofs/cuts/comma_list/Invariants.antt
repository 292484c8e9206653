use Rattle.std.proofs.Common.{◌≡◌, [], ◌∷◌, ◌++◌, length, map, string_bytes}
use denote.Text.{Utf8}
use denote.Shadow.{shadow}
use Rattle.cf_funcs.specs.Pieces.{members_of, pieces_of, without_spaces}
use Rattle.cf_funcs.proofs.cuts.comma_list.Given as goal

-- the members so far, and those of what is left, are the text's
abbrev pub invariant-loop-member : goal.invariant-loop-member
invariant-loop-member l = record {
  is_text : shadow (Utf8 l.rest);
  so_far : members_of l.text ≡ map string_bytes l.members.items ++ map without_spaces (pieces_of (44 ∷ []) l.rest);
}

abbrev pub decreases-loop-member : goal.decreases-loop-member
decreases-loop-member l = length l.rest
