use Rattle.std.proofs.Common.{◌∙◌, sym, ap, Ok, ℕ, List, Option}
use Rattle.cf_graph.specs.Needs.{order_of}
use Rattle.cf_graph.proofs.Acyclic.{acyclic}
use Rattle.cf_graph.proofs.graph.order_of.Goals as goal

pub returns-then-needs_first : goal.returns-then-needs_first
returns-then-needs_first c =
    ap (λ (o : Option (List (List ℕ))). order_of c.args.all.now o) (acyclic c.in_ok-needs.needs.entries c.args.all.now (sym c.if-needs_first.ensures))
    ∙ sym (ap (λ (rows : List (List ℕ × List (List ℕ))). Ok rows) c.in_ok-needs.ensures)
