use Rattle.std.proofs.Common.{◌≡◌, ◌++◌, take}
use Rattle.cf_next.proofs.lookups.lend_all.Given as goal

abbrev pub invariant-loop-name : goal.invariant-loop-name
invariant-loop-name l = l.lents ≡ l.fn.lents ++ take l.name-index l.names
