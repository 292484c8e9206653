use Rattle.std.proofs.Common.{◌≡◌, drop}
use Rattle.cf_template.specs.Functions.{is_declared}
use Rattle.cf_template.proofs.function.is_declared.Given as goal

abbrev pub invariant-loop-param : goal.invariant-loop-param
invariant-loop-param l = is_declared l.params l.name ≡ is_declared (drop l.param-index l.params) l.name
