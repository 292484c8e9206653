use Rattle.cf_top.proofs.reviewing.keep_set.Goals as goal

pub returns-clause-keeps : goal.returns-clause-keeps
returns-clause-keeps g c es held = (c.write_set-wrote.result, c.write_set-wrote.ensures.writes es held, c.tell_wrote-exit.ensures.tells)
