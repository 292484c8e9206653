use Rattle.cf_agree.proofs.{Keeps.intent_keeps, laws.intent_keeps.Goals.returns as goal}

pub returns : goal
returns c = intent_keeps
