pub returns : Rattle.cf_core.proofs.more.leases_once_stays.Goals.returns
returns c = Rattle.cf_core.proofs.MoreLives.leases_once_stays
