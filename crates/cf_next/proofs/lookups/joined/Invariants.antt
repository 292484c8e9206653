use Rattle.std.proofs.Common.{◌≡◌, [], take, fold}
use Rattle.cf_next.specs.Lookups.{with_first}
use Rattle.cf_next.proofs.lookups.joined.Given as goal

abbrev pub invariant-loop-name : goal.invariant-loop-name
invariant-loop-name l = l.set ≡ fold (λ all name. with_first name tt all) [] (take l.name-index l.names)
