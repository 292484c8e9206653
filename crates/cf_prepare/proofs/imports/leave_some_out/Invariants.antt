use Rattle.std.proofs.Common.{drop, map}
use Rattle.cf_prepare.proofs.Leaving.{TriedSome}
use Rattle.cf_prepare.proofs.imports.leave_some_out.Given as goal

abbrev pub invariant-loop-name : goal.invariant-loop-name
invariant-loop-name l =
    TriedSome l.seen l.wanted l.fn.source l.source (drop l.name-index l.name-items) (map (λ i. i.0) l.fn.source.imports) l.left_out
