use Rattle.std.proofs.Common.{◌∙◌, length, ◌<◌}
use Rattle.cf_graph.proofs.Readiness.{next_place, still_fewer, still_others}
use Rattle.cf_graph.proofs.Lookups.{come_is, not_come}
use Rattle.cf_graph.proofs.sequence.next.Goals as goal

pub returns-then-not-contains_key : goal.returns-then-not-contains_key
returns-then-not-contains_key c =
    let below : c.in-Some.at < length c.args.all.now = c.requires c.in-Some.at (c.loop-at.invariant.fewer c.in-Some.at c.in-Some.ensures.member) in
    next_place c.args.all.now c.args.placed.now.entries c.args.ready.now c.loop-at.ready c.pop_first.new.self c.loop-at.invariant.fewer c.loop-at.invariant.others c.in-Some.at
    c.in-Some.ensures.updates c.in-Some.ensures.member c.in-Some.ensures.least
    (not_come c.args.all.now c.args.placed.now.entries c.in-Some.at c.index-all-at.result below c.index-all-at.is c.contains_key.result c.contains_key.ensures c.if-not-contains_key.true)

pub loop-at-preserved : goal.loop-at-preserved
loop-at-preserved c =
    let below : c.in-Some.at < length c.args.all.now = c.requires c.in-Some.at (c.loop-at.invariant.fewer c.in-Some.at c.in-Some.ensures.member) in
    record {
      fewer = still_fewer c.args.all.now c.args.placed.now.entries c.args.ready.now c.loop-at.ready c.pop_first.new.self c.loop-at.invariant.fewer c.loop-at.invariant.others c.in-Some.at c.in-Some.ensures.updates;
      others = still_others c.args.all.now c.args.placed.now.entries c.args.ready.now c.loop-at.ready c.pop_first.new.self c.loop-at.invariant.fewer c.loop-at.invariant.others c.in-Some.at c.in-Some.ensures.updates
          (come_is c.args.all.now c.args.placed.now.entries c.in-Some.at c.index-all-at.result below c.index-all-at.is c.contains_key.result c.contains_key.ensures ∙ c.if-not-contains_key.false);
    }
