use Rattle.std.proofs.Common.{◌≡◌, ◌∙◌, sym, arith}
use Rattle.cf_param.specs.Pattern.{matches_whole}
use Rattle.cf_param.proofs.PatternLemmas.{matches_whole-reads}
use Rattle.cf_param.proofs.Usable.{usable, unmatched_here, matched_on}
use Rattle.cf_param.proofs.patterns.unmatched.Goals as goal

pub returns-then-not-is_matched : goal.returns-then-not-is_matched
returns-then-not-is_matched c =
    let pattern = c.args.pattern.now in
    let part = c.part-item.result in
    let made = c.in_ok-regex.ensures in
    let told : c.is_matched.result ≡ matches_whole pattern part =
    rw (c.is_matched.ensures.found, c.loop-part.invariant.searches, c.in-Ok-matcher.ensures.pattern, ← c.as_str-in-loop-part.ensures)
    (matches_whole-reads _ c.as_str-in-loop-part.result.now _ _ (rw (made.source, made.config, c.as_str.ensures.value, c.in-Ok.ensures) at made.read) c.is_matched.ensures.bytes) in (
      usable pattern c.in_ok-alone.ensures.ok (rw (c.as_str.ensures.value, c.in-Ok.ensures) at made.ok),
      sym (c.loop-part.invariant.so_far ∙ unmatched_here pattern c.args.parts.now c.loop-part.part-index part (omega arith) c.part-item.is (sym told ∙ c.if-not-is_matched.true)),
    )

pub loop-part-preserved : goal.loop-part-preserved
loop-part-preserved c =
    let pattern = c.args.pattern.now in
    let part = c.part-item.result in
    let made = c.in_ok-regex.ensures in
    let told : c.is_matched.result ≡ matches_whole pattern part =
    rw (c.is_matched.ensures.found, c.loop-part.invariant.searches, c.in-Ok-matcher.ensures.pattern, ← c.as_str-in-loop-part.ensures)
    (matches_whole-reads _ c.as_str-in-loop-part.result.now _ _ (rw (made.source, made.config, c.as_str.ensures.value, c.in-Ok.ensures) at made.read) c.is_matched.ensures.bytes) in
    record {
      searches = c.is_matched.ensures.same ∙ c.loop-part.invariant.searches;
      so_far = c.loop-part.invariant.so_far ∙ matched_on pattern c.args.parts.now c.loop-part.part-index part (omega arith) c.part-item.is (sym told ∙ c.if-not-is_matched.false);
    }
