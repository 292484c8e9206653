use Rattle.std.proofs.Common.{◌≡◌, [], drop}
use Rattle.cf_param.specs.Binding.{settings_of}
use Rattle.cf_param.proofs.binding.settings.Given as goal

abbrev pub invariant-loop-param : goal.invariant-loop-param
invariant-loop-param l = settings_of l.param-items l.given [] ≡ settings_of (drop l.param-index l.param-items) l.given l.bound
