use Rattle.std.proofs.Common.{◌≡◌, ◌++◌, map, take, string_bytes}
use Rattle.std.specs.List.{flat_map}
use Rattle.cf_stacks.specs.Standing.{stack_in}
use Rattle.cf_face.specs.Report.{listed_line}
use Rattle.cf_face.proofs.overview.push_stacks.Given as goal

abbrev pub invariant-loop-stack : goal.invariant-loop-stack
invariant-loop-stack l =
    string_bytes l.report ≡ string_bytes l.fn.report ++ flat_map listed_line (map stack_in (take l.stack-index l.stacks))
