use Rattle.std.proofs.Common.{◌≡◌, ◌++◌, take, string_bytes}
use Rattle.std.specs.List.{flat_map}
use Rattle.cf_face.specs.Report.{last_line}
use Rattle.cf_face.proofs.load.push_lasts.Given as goal

abbrev pub invariant-loop-output : goal.invariant-loop-output
invariant-loop-output l =
    string_bytes l.report ≡ string_bytes l.fn.report ++ flat_map last_line (take l.output-index l.outputs)
