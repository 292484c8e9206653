use Rattle.std.proofs.Common.{◌≡◌, ◌+◌, ◌∙◌, Some, List, ℕ, length, sym, subst}
use Rattle.std.specs.BTreeSet.{BTreeSet}
use Rattle.cf_tree.specs.Lists.{first_in}
use Rattle.cf_graph.specs.Cycles.{IsLevel, AreLevels}
use Rattle.cf_graph.specs.Needs.{walks}
use Rattle.cf_graph.proofs.Back.{levels_joined, one_more_level, none_yet, found_now}
use Rattle.cf_graph.proofs.cycle.shortest.Goals as goal

pub walk_back-requires-clause-levels : goal.walk_back-requires-clause-levels
walk_back-requires-clause-levels c =
    subst (AreLevels c.args.all.now c.args.start.now 1) (sym c.as_slice-then-leads.ensures.value)
    (levels_joined c.args.all.now c.args.start.now c.loop-row.levels.items c.push.new.self.items c.in_ok-level.level c.loop-row._row-index c.loop-row.invariant.0 c.loop-row.invariant.1
    (subst (λ (ls : List (BTreeSet (List ℕ))). IsLevel c.args.all.now c.args.start.now (length ls + 1) c.in_ok-level.level) c.as_slice.ensures.value c.in_ok-level.ensures) c.in_ok-push.ensures.items)

pub returns-then-leads : goal.returns-then-leads
returns-then-leads c =
    sym (found_now c.args.all.now c.args.start.now c.loop-row.levels.items c.push.new.self.items c.in_ok-level.level c.loop-row._row-index c.loop-row.invariant.0 c.loop-row.invariant.1
    (subst (λ (ls : List (BTreeSet (List ℕ))). IsLevel c.args.all.now c.args.start.now (length ls + 1) c.in_ok-level.level) c.as_slice.ensures.value c.in_ok-level.ensures) c.in_ok-push.ensures.items
    c.loop-row.invariant.2 c.in_ok-walk_back.field-0
    (subst (λ (ls : List (BTreeSet (List ℕ))). first_in (walks c.args.all.now c.args.start.now (length ls) c.args.start.now) ≡ Some c.in_ok-walk_back.field-0) c.as_slice-then-leads.ensures.value c.in_ok-walk_back.ensures)
    (length c.args.all.now) c.loop-row-test.true)

pub loop-row-preserved : goal.loop-row-preserved
loop-row-preserved c =
    let b = subst (λ (ls : List (BTreeSet (List ℕ))). IsLevel c.args.all.now c.args.start.now (length ls + 1) c.in_ok-level.level) c.as_slice.ensures.value c.in_ok-level.ensures in (
      levels_joined c.args.all.now c.args.start.now c.loop-row.levels.items c.push.new.self.items c.in_ok-level.level c.loop-row._row-index c.loop-row.invariant.0 c.loop-row.invariant.1 b c.in_ok-push.ensures.items,
      one_more_level c.args.all.now c.args.start.now c.loop-row.levels.items c.push.new.self.items c.in_ok-level.level c.loop-row._row-index c.loop-row.invariant.0 c.loop-row.invariant.1 b c.in_ok-push.ensures.items,
      none_yet c.args.all.now c.args.start.now c.loop-row.levels.items c.push.new.self.items c.in_ok-level.level c.loop-row._row-index c.loop-row.invariant.0 c.loop-row.invariant.1 b c.in_ok-push.ensures.items c.loop-row.invariant.2
          (sym c.contains-leads.ensures ∙ c.if-leads.false),
    )
