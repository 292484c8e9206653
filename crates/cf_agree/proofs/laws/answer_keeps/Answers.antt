use Rattle.cf_agree.proofs.{Keeps.answer_keeps, laws.answer_keeps.Goals.returns as goal}

pub returns : goal
returns c = answer_keeps
