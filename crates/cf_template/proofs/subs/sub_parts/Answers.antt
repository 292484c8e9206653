use Rattle.std.proofs.Common.{rules, inr, arith, ◌<◌, ◌+◌, ◌++◌, ◌∷◌, [], length, sym, ap, ◌∙◌}
use Rattle.cf_template.specs.Subs.{in_front}
use Rattle.cf_template.proofs.Holes.{unclosed, passed, parts_at, opened_length, closed_length}
use Rattle.cf_template.proofs.subs.sub_parts.Goals as goal

pub returns-in-None : goal.returns-in-None
returns-in-None c =
    inr (unclosed _ c.loop-plain.parts c.loop-plain.at c.loop-plain.rest.now c.loop-plain.invariant.so_far (c.in-Some.plain.now, c.in-Some.opened.now) c.in-Some.ensures c.in-None.ensures)

pub loop-plain-smaller : goal.loop-plain-smaller
loop-plain-smaller c =
    let open_length = opened_length c.loop-plain.rest.now c.in-Some.plain.now c.in-Some.opened.now c.in-Some.ensures in
    let close_length = closed_length c.in-Some.opened.now c.in-Some-cut.pieces.0.now c.in-Some-cut.pieces.1.now c.in-Some-cut.ensures in
    let shorter : length c.in-Some-cut.pieces.1.now < length c.loop-plain.rest.now = omega (arith, open_length, close_length) in
    shorter

pub loop-plain-preserved : goal.loop-plain-preserved
loop-plain-preserved c = record {
  is_text = search rules;
  place = omega (arith, opened_length c.loop-plain.rest.now c.in-Some.plain.now c.in-Some.opened.now c.in-Some.ensures, closed_length c.in-Some.opened.now c.in-Some-cut.pieces.0.now c.in-Some-cut.pieces.1.now c.in-Some-cut.ensures, c.loop-plain.invariant.place);
  so_far =
      passed _ c.loop-plain.parts c.loop-plain.at c.loop-plain.rest.now c.loop-plain.invariant.so_far (c.in-Some.plain.now, c.in-Some.opened.now) c.in-Some.ensures (c.in-Some-cut.pieces.0.now, c.in-Some-cut.pieces.1.now) c.in-Some-cut.ensures c.in_ok-hole.hole c.in_ok-hole.ensures
      ∙ ap (λ ps. in_front ps (parts_at (c.loop-plain.at + length c.in-Some.plain.now + length c.in-Some-cut.pieces.0.now + 3) c.in-Some-cut.pieces.1.now)) (sym (c.in_ok-push.ensures.ok ∙ ap (λ ps. ps ++ c.in_ok-hole.hole ∷ []) c.in_ok-push_plain.ensures));
}
