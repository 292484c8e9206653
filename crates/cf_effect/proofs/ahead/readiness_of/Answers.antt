use Rattle.std.proofs.Common.{◌∙◌}
use Rattle.cf_effect.proofs.Readied.{all_ready}
use Rattle.cf_effect.proofs.ahead.readiness_of.Goals as goal

pub returns : goal.returns
returns c =
    all_ready c.args.way c.args.layout.now c.args.made.now c.args.found.now c.len-count.result c.as_slice.result.now c.in_ok-readiness.readiness c.touch_below.new.readiness
    (c.len-count.ensures ∙ c.args.layout.now.rows.ok.0) c.as_slice.ensures.value c.as_slice.ensures.in_order c.in_ok-readiness.ensures.shaped c.in_ok-readiness.ensures.met
    c.touch_below.ensures
