use Rattle.std.proofs.Common.{◌∙◌}
use Rattle.cf_next.proofs.Repeating.{told_repeats}
use Rattle.cf_next.proofs.repeats.repeats_in.Goals as goal

pub returns : goal.returns
returns c =
    told_repeats c.args.retained.now c.args.out.now c.args.stack.now.stack c.as_slice.result.now c.repeats_of.result
    (c.as_slice.ensures.value ∙ c.tokens.ensures) c.repeats_of.ensures
