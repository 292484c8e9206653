use Rattle.std.proofs.Common.{◌+◌, arith}
use Rattle.cf_stacks.proofs.Calling.{short_spelling}
use Rattle.cf_effect.proofs.Spares.{spare_so}
use Rattle.cf_stacks.proofs.room.take_outcome.Goals as goal

pub keep-heard-requires-clause-small : goal.keep-heard-requires-clause-small
keep-heard-requires-clause-small c = let short = short_spelling c.args.room.token c.args.entry c.requires.outcome in omega (arith, short)

pub keep-heard-requires-clause-room : goal.keep-heard-requires-clause-room
keep-heard-requires-clause-room c = let short = short_spelling c.args.room.token c.args.entry c.requires.outcome in omega (arith, short, c.requires.room.spelled)

pub hear-requires : goal.hear-requires
hear-requires c = c.take_answer.ensures.spare 1 c.requires.spare

pub returns-clause-spare : goal.returns-clause-spare
returns-clause-spare c = λ n h. c.hear.ensures.spare n (c.take_answer.ensures.spare (n + 1) (spare_so (n + 1 + 1) (n + 2) c.args.state.now (omega arith) h))
