use Rattle.cf_agree.proofs.{Keeps.call_keeps, laws.call_keeps.Goals.returns as goal}

pub returns : goal
returns c = call_keeps
