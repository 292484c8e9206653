use Rattle.std.proofs.Common.{◌≡◌, ◌++◌, map, take}
use Rattle.cf_effect.specs.Begin.{given_up, lost_create, skipped_creates}
use Rattle.cf_effect.proofs.begin.give_up_creates.Given as goal

abbrev pub invariant-loop-path : goal.invariant-loop-path
invariant-loop-path l = record {
  leftovers : l.leftovers.items ≡ l.fn.leftovers.items ++ map lost_create (skipped_creates (take l.path-index l.paths) l.tokens);
  abandoned : l.abandoned.items ≡ l.fn.abandoned.items ++ map given_up (skipped_creates (take l.path-index l.paths) l.tokens);
}
