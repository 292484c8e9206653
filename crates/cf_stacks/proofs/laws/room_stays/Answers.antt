use Rattle.cf_stacks.proofs.Awaited.{room_stays}
use Rattle.cf_stacks.proofs.laws.room_stays.Goals as goal

pub returns : goal.returns
returns c = room_stays
