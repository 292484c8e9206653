use Rattle.cf_agree.proofs.{Keeps.late_keeps, laws.late_keeps.Goals.returns as goal}

pub returns : goal
returns c = late_keeps
