use Rattle.std.proofs.Common.{◌≡◌, take}
use Rattle.std.specs.Option.{option_copied}
use Rattle.cf_next.specs.First.{first_start}
use Rattle.cf_next.proofs.first.first_start.Given as goal

abbrev pub invariant-loop-start : goal.invariant-loop-start
invariant-loop-start l = option_copied l.first ≡ first_start l.homes (take l.start-index l.starts)
