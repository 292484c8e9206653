use Rattle.std.proofs.Common.{arith, ◌<◌, get_or}
use Rattle.std.proofs.lemmas.List.{get_or_default}
use Rattle.cf_graph.proofs.Copies.{copies_below, in_range}
use Rattle.cf_graph.proofs.sequence.release.Goals as goal

pub index_mut-requires : goal.index_mut-requires
index_mut-requires c =
    let at = get_or c.args.behind.now c.loop-at.at-index 0 in
    omega (arith, in_range c.loop-at.missing.items at (omega (arith, copies_below c.args.behind.now c.loop-at.at-index c.loop-at-test.true, c.requires at, c.loop-at.invariant.counted at)), c.loop-at.missing.ok.0)

pub overflow_sub-index_mut : goal.overflow_sub-index_mut
overflow_sub-index_mut c =
    let at = get_or c.args.behind.now c.loop-at.at-index 0 in
    let some : 0 < get_or c.loop-at.missing.items at 0 =
    omega (arith, copies_below c.args.behind.now c.loop-at.at-index c.loop-at-test.true, c.requires at, c.loop-at.invariant.counted at) in
    omega (arith, some, get_or_default c.loop-at.missing.items at c.index_mut.result.now 0 (in_range c.loop-at.missing.items at some), c.index_mut.ensures.value)

pub index-requires : goal.index-requires
index-requires c =
    let at = get_or c.args.behind.now c.loop-at.at-index 0 in
    omega (arith, in_range c.loop-at.missing.items at (omega (arith, copies_below c.args.behind.now c.loop-at.at-index c.loop-at-test.true, c.requires at, c.loop-at.invariant.counted at)), c.loop-at.missing.ok.0)
