use Rattle.std.proofs.Common.{◌∙◌, ap, sym, [], cond, nat_eq, ◌+◌, ℕ, List, take}
use Rattle.std.proofs.lemmas.List.{get_or_read}
use Rattle.cf_graph.specs.Waiting.{times, row_needs}
use Rattle.cf_graph.proofs.Copies.{times_more}
use Rattle.cf_graph.proofs.sequence.waiting_for.Goals as goal

pub loop-at-preserved : goal.loop-at-preserved
loop-at-preserved c = λ q p.
    let all = c.args.all.now in
    let at = c.loop-at.at in
    let entry = get_or_read all at c.index-all-at.result c.loop-at-test.true c.index-all-at.is ([], []) in
    c.in_ok-wait.ensures q p ∙ ap (λ n. n + cond (nat_eq at p) (times q c.index-all-at.result.1) 0) (c.loop-at.invariant q p)
    ∙ ap (λ (r : List ℕ × List (List ℕ)). times q (row_needs (take at all) p) + cond (nat_eq at p) (times q r.1) 0) entry ∙ sym (times_more q all at p c.loop-at-test.true)
