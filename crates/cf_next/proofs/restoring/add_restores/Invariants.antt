use Rattle.std.proofs.Common.{◌≡◌, ◌++◌, take}
use Rattle.cf_next.specs.Restoring.{restores}
use Rattle.cf_next.proofs.restoring.add_restores.Given as goal

abbrev pub invariant-loop-held : goal.invariant-loop-held
invariant-loop-held l = l.starts ≡ l.fn.starts ++ restores l.stack.stack (take l.held-index l.helds)
