use Rattle.std.proofs.Common.{◌++◌, ◌∷◌, [], List, ℕ, sym, subst, take}
use Rattle.cf_graph.specs.Cycles.{StandAlike}
use Rattle.cf_graph.proofs.Alike.{take_more}
use Rattle.cf_graph.proofs.cycle.rows_of.Goals as goal

pub loop-row-preserved : goal.loop-row-preserved
loop-row-preserved c =
    subst (StandAlike c.append_first.new.rows.entries) (sym (take_more c.args.all.now c.loop-row.row-index c.row-item.result c.loop-row-test.true))
    (subst (λ (r : List ℕ × List (List ℕ)). StandAlike c.append_first.new.rows.entries (take c.loop-row.row-index c.args.all.now ++ r ∷ [])) c.row-item.is
    (c.in_ok-append_first.ensures (take c.loop-row.row-index c.args.all.now) c.loop-row.invariant))
