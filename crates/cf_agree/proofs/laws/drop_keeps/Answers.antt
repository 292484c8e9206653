use Rattle.cf_agree.proofs.{Keeps.drop_keeps, laws.drop_keeps.Goals.returns as goal}

pub returns : goal
returns c = drop_keeps
