use Rattle.cf_agree.proofs.{Keeps.return_keeps, laws.return_keeps.Goals.returns as goal}

pub returns : goal
returns c = return_keeps
