use Rattle.cf_agree.proofs.{Keeps.opening_keeps, laws.opening_keeps.Goals.returns as goal}

pub returns : goal
returns c = opening_keeps
