use Rattle.cf_agree.proofs.{Keeps.fence_keeps, laws.fence_keeps.Goals.returns as goal}

pub returns : goal
returns c = fence_keeps
