use Rattle.cf_stacks.proofs.Leaving.{ok_left}
use Rattle.cf_stacks.proofs.standing.Fields.leave_into.Goals as goal

pub returns : goal.returns
returns c =
    ok_left c.list-listed.result c.args.place c.args.entry.now c.args.name.now c.in_ok-lists.lists c.fill.new.state c.list-listed.new.left c.args.self.now c.requires.intent c.requires.place
    c.in_ok-lists.ensures.effect c.in_ok-lists.ensures.spare c.list-listed.ensures.state c.list-listed.ensures.exports c.list-listed.ensures.pins c.list-listed.ensures.claims c.list-listed.ensures.empty
    c.list-listed.ensures.room
