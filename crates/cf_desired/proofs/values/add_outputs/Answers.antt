use Rattle.std.proofs.Common.{◌∙◌, List, ap}
use Rattle.cf_eval.specs.Scope.{Scope}
use Rattle.cf_desired.specs.declared.wanted.WantedOutput.{WantedOutput}
use Rattle.cf_desired.specs.Kept.{kept_entry_in, kept_stack_in}
use Rattle.cf_desired.specs.Met.{outputs_wanted}
use Rattle.cf_desired.specs.Turns.{with_exports, with_roots}
use Rattle.cf_desired.proofs.values.add_outputs.Goals as goal

pub returns : goal.returns
returns c =
    let f = c.args.frame.now in
    let os = c.in_ok-outputs.ensures ∙ ap (λ (s : Scope). outputs_wanted (kept_stack_in f.stack.now) f.conds.now s) c.env_on-env.ensures.scope in
    let plan = c.in_ok-add_exports.ensures ∙ ap (λ (xs : List WantedOutput). with_exports c.args.plan.now xs) (c.as_slice.ensures ∙ os) in
    c.add_roots.ensures ∙ (λ j. with_roots (plan j) (kept_entry_in f.entry.now) (os j))
