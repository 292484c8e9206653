use Rattle.std.proofs.Common.{arith}
use Rattle.cf_tree.proofs.Lookups.{entry_in}
use Rattle.cf_stacks.specs.Standing.{stack_called}
use Rattle.cf_stacks.proofs.Places.{calls_place}
use Rattle.cf_stacks.proofs.standing.call_at.Goals as goal

pub index_mut-requires : goal.index_mut-requires
index_mut-requires c =
    let inside = entry_in c.args.name.now c.args.pairs.now.items c.args.at c.requires.order c.requires.place in
    omega (arith, inside, c.args.pairs.now.ok.0)

pub returns : goal.returns
returns c =
    calls_place c.args.name.now c.args.pairs.now.items c.requires.order (stack_called c.args.parts c.args.entry) c.args.at c.index_mut.result.now c.call.new.self c.requires.place c.index_mut.ensures.value c.call.ensures
