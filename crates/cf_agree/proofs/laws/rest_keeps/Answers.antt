use Rattle.cf_agree.proofs.{Keeps.rest_keeps, laws.rest_keeps.Goals.returns as goal}

pub returns : goal
returns c = rest_keeps
