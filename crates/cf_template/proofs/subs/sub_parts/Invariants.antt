use Rattle.std.proofs.Common.{◌≡◌, ◌+◌, length}
use denote.Text.{Utf8}
use denote.Shadow.{shadow}
use Rattle.cf_template.specs.Subs.{in_front, parts_of}
use Rattle.cf_template.proofs.Holes.{parts_at}
use Rattle.cf_template.proofs.subs.sub_parts.Given as goal

-- the parts so far, and those of what is left, are the text's
abbrev pub invariant-loop-plain : goal.invariant-loop-plain
invariant-loop-plain l = record {
  is_text : shadow (Utf8 l.rest);
  place : l.at + length l.rest ≡ length l.text;
  so_far : parts_of l.text ≡ in_front l.parts (parts_at l.at l.rest);
}

abbrev pub decreases-loop-plain : goal.decreases-loop-plain
decreases-loop-plain l = length l.rest
