use Rattle.std.proofs.Common.{◌≡◌, [], take, fold}
use Rattle.cf_next.specs.Tallies.{with_call}
use Rattle.cf_next.proofs.tallies.tallies_of.Given as goal

abbrev pub invariant-loop-call : goal.invariant-loop-call
invariant-loop-call l = l.tallies ≡ fold (with_call l.number) [] (take l.call-index l.calls)
