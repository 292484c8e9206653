use Rattle.std.proofs.Common.{◌∙◌, ◌++◌, ◌∷◌, [], ℕ, List, ap, sym, length, option_copied}
use Rattle.cf_tree.specs.Lists.{first_in}
use Rattle.cf_graph.specs.Needs.{walks}
use Rattle.cf_graph.proofs.Back.{not_lost, goes_further}
use Rattle.cf_graph.proofs.cycle.walk_back.Goals as goal

pub unreachable-requires : goal.unreachable-requires
unreachable-requires c =
    not_lost c.args.all.now c.args.rows.now.entries c.args.start.now c.requires.alike c.args.levels.now c.requires.levels c.loop-at.at c.loop-at-test.true c.loop-at.invariant.0
    c.index-levels-at.result c.index-levels-at.is c.loop-at.current.now c.needed_by.result.now c.needed_by.ensures c.loop-at.invariant.1
    (sym c.first_leading.ensures ∙ ap option_copied c.in-None.is)

pub loop-at-preserved : goal.loop-at-preserved
loop-at-preserved c =
    goes_further c.args.all.now c.args.rows.now.entries c.args.start.now c.requires.alike c.args.levels.now c.requires.levels c.loop-at.at c.loop-at-test.true c.loop-at.invariant.0
    c.index-levels-at.result c.index-levels-at.is (first_in (walks c.args.all.now c.args.start.now (length c.args.levels.now) c.args.start.now)) c.loop-at.current.now
    c.in-Some.next.now c.needed_by.result.now c.loop-at.walk c.push.new.self c.needed_by.ensures (sym c.first_leading.ensures ∙ ap option_copied c.in-Some.is) (c.in_ok-push.ensures.ok ∙ ap (λ (k : List ℕ). c.loop-at.walk ++ k ∷ []) c.in_ok-try_clone.ensures)
    c.loop-at.invariant.2
