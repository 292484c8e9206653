use Rattle.std.proofs.Common.{◌≡◌, ◌++◌, take, string_bytes}
use Rattle.std.specs.List.{flat_map}
use Rattle.cf_face.specs.Report.{parameter_line}
use Rattle.cf_face.proofs.parameters.push_settings.Given as goal

abbrev pub invariant-loop-param : goal.invariant-loop-param
invariant-loop-param l =
    string_bytes l.report ≡ string_bytes l.fn.report ++ flat_map (parameter_line l.given) (take l.param-index l.params)
