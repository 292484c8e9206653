use Rattle.cf_stacks.proofs.Worlds.{opened_ascend}
use Rattle.cf_stacks.proofs.standing.open_all.Goals as goal

pub from_vec-requires : goal.from_vec-requires
from_vec-requires c = rw c.open_each.ensures (opened_ascend c.args.place c.args.entry.now c.into_vec-pairs.result.items c.into_vec-pairs.ensures.in_order)
