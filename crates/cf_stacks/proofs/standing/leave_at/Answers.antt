use Rattle.std.proofs.Common.{Option, ap, sym, ◌∙◌}
use Rattle.cf_tree.specs.Keys.{put}
use Rattle.cf_stacks.specs.Room.{StackStanding}
use Rattle.cf_stacks.specs.Standing.{left_as}
use Rattle.cf_stacks.proofs.Places.{found_there, puts_at}
use Rattle.cf_stacks.proofs.standing.leave_at.Goals as goal

pub returns : goal.returns
returns c =
    puts_at c.args.name.now c.args.pairs.now.items c.requires.order c.args.at c.index_mut.result.now c.change.new.stack c.requires.place c.index_mut.ensures.value
    ∙ ap (λ (v : StackStanding). put c.args.name.now v c.args.pairs.now.items) c.change.ensures
    ∙ ap (λ (o : Option StackStanding). put c.args.name.now (left_as c.args.entry.now c.args.state o) c.args.pairs.now.items)
    (sym (found_there c.args.name.now c.args.pairs.now.items c.requires.order c.args.at c.index_mut.result.now c.requires.place c.index_mut.ensures.value))
