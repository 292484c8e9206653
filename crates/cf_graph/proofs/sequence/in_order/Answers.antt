use Rattle.std.proofs.Common.{◌≡◌, ◌∙◌, ◌-◌, ap, sym, length, [], arith}
use Rattle.cf_graph.specs.declared.sequence.Progress.{Progress}
use Rattle.cf_graph.specs.Needs.{ordered}
use Rattle.cf_graph.proofs.Steps.{goes_on, stops, is_whole}
use Rattle.cf_graph.proofs.sequence.in_order.Goals as goal
use Rattle.cf_graph.proofs.sequence.in_order.Goals.{else-loop-entry-test, then-loop-entry-test+in_ok-place_next+then-not-branch}

pub loop-entry-init : goal.loop-entry-init
loop-entry-init c = record {
  under_way = c.in_ok-progress.ensures.under_way;
  so_far =
      let all = c.args.all.now in
      let none : length all ≡ length all - 0 = omega arith in
      ap (λ n. ordered n all []) none ∙ sym (ap (ordered (length all - 0) all) c.in_ok-progress.ensures.empty);
}

pub loop-entry-preserved : goal.loop-entry-preserved
loop-entry-preserved c = record {
  under_way = c.in_ok-place_next.ensures.under_way;
  so_far =
      let all = c.args.all.now in
      goes_on all c.loop-entry.progress.placed.entries (ordered (length all) all []) c.loop-entry._entry-index c.place_next.new.progress.placed.entries c.in_ok-place_next.field-0
      c.loop-entry-test.true c.loop-entry.invariant.so_far c.in_ok-place_next.ensures.more c.if-not-branch.false c.in_ok-place_next.ensures.placed;
}

pub returns : goal.returns
returns c =
    let all = c.args.all.now in
    let whole = ordered (length all) all [] in
    elim c.loop-entry-test.branch [
      | else-loop-entry-test w ↦ ap (λ (p : Progress). p.placed.entries) w.progress-is ∙ is_whole all c.loop-entry.progress.placed.entries whole c.loop-entry._entry-index w.loop-entry-test.false c.loop-entry.invariant.so_far
      | then-loop-entry-test+in_ok-place_next+then-not-branch w ↦ ap (λ (p : Progress). p.placed.entries) w.progress-is
          ∙ stops all c.loop-entry.progress.placed.entries whole c.loop-entry._entry-index w.place_next.new.progress.placed.entries w.in_ok-place_next.field-0 c.loop-entry.invariant.so_far w.in_ok-place_next.ensures.more w.if-not-branch.true w.in_ok-place_next.ensures.placed
    ]
