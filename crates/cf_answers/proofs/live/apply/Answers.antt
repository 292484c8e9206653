use Rattle.std.proofs.Common.{◌∙◌, ap}
use Rattle.cf_answers.specs.Live.{lives}
use Rattle.cf_answers.proofs.Changes.{filtered}
use Rattle.cf_answers.proofs.live.apply.Goals as goal

pub returns-in-Delete-clause-ok : goal.returns-in-Delete-clause-ok
returns-in-Delete-clause-ok c = rw c.in-Success.is (rw c.in-Delete.is (ap lives c.take_away.ensures ∙ filtered c.in-Delete.id c.args.live.now.items))
