pub returns : Rattle.cf_core.proofs.more.start_is_once.Goals.returns
returns c = Rattle.cf_core.proofs.MoreLives.start_is_once
