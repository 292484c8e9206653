pub returns : Rattle.cf_core.proofs.more.settles_once_stays.Goals.returns
returns c = Rattle.cf_core.proofs.MoreLives.settles_once_stays
