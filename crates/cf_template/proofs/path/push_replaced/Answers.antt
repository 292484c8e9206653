use Rattle.std.proofs.Common.{rules, arith, sym}
use Rattle.cf_funcs.proofs.Parts.{cut_shorter}
use Rattle.cf_template.proofs.Escapes.{grown}
use Rattle.cf_template.proofs.path.push_replaced.Goals as goal

pub loop-before-smaller : goal.loop-before-smaller
loop-before-smaller c =
    cut_shorter _ _ (c.in-Some.before.now, c.in-Some.after.now) (omega (arith, c.requires)) (sym c.in-Some.ensures)

pub loop-before-preserved : goal.loop-before-preserved
loop-before-preserved c = record {
  is_text = search rules;
  so_far = grown _ _ _ _ _ _ _ (c.in-Some.before.now, c.in-Some.after.now) c.requires c.in-Some.ensures c.loop-before.invariant.so_far c.in_ok-push_str.ensures.bytes c.in_ok-push_str-2.ensures.bytes;
}
