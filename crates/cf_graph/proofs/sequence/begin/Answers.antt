use Rattle.std.proofs.Common.{sym, subst, ℕ, List}
use Rattle.cf_graph.specs.UnderWay.{MissingAreCounted}
use Rattle.cf_graph.proofs.Steps.{counted_first}
use Rattle.cf_graph.proofs.sequence.begin.Goals as goal

pub returns-clause-under_way : goal.returns-clause-under_way
returns-clause-under_way c =
    subst (λ (ps : List (List ℕ × List (List ℕ))). MissingAreCounted c.args.all.now ps c.in_ok-counts.field-0.items c.in_ok-first_ready.field-0) (sym c.new.ensures.empty)
    (counted_first c.args.all.now c.in_ok-counts.field-0.items c.in_ok-first_ready.field-0 c.in_ok-counts.ensures c.in_ok-first_ready.ensures)
