use Rattle.std.proofs.Common.{◌∙◌, option_map, ap}
use Rattle.cf_eval.specs.Env.{scope_in}
use Rattle.cf_desired.specs.Kept.{flaw_of_blame}
use Rattle.cf_desired.specs.Seeing.{output_stop}
use Rattle.cf_desired.proofs.Blames.{some_blamed}
use Rattle.cf_desired.proofs.outputs.output_over.Goals as goal

pub returns : goal.returns
returns c = λ i. record {
  name = c.in_ok-name.ensures i;
  value = c.in_ok-value.ensures.value i;
  export = c.in_ok-value.ensures.export i;
  fault = (c.some_flaw_by.ensures ∙ ap (option_map flaw_of_blame) c.in_ok-value.ensures.blame ∙ some_blamed c.args.env.now.stack.now (output_stop c.args.conds.now (scope_in c.args.env.now) c.args.output.now)) i;
}
