use Rattle.std.proofs.Common.{◌≡◌, ◌++◌, length, slice_index, string_bytes}
use denote.Text.{Utf8}
use denote.Shadow.{shadow}
use Rattle.cf_template.specs.Places.{replaced}
use Rattle.cf_template.proofs.path.push_replaced.Given as goal

-- what was added, and what is left with the word in place of each byte, is the name so
abbrev pub invariant-loop-before : goal.invariant-loop-before
invariant-loop-before l = record {
  is_text : shadow (Utf8 l.rest);
  so_far : string_bytes l.fn.text ++ replaced (slice_index l.byte 0) l.word l.name ≡ string_bytes l.text ++ replaced (slice_index l.byte 0) l.word l.rest;
}

abbrev pub decreases-loop-before : goal.decreases-loop-before
decreases-loop-before l = length l.rest
