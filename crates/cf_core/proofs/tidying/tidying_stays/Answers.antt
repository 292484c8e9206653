pub returns : Rattle.cf_core.proofs.tidying.tidying_stays.Goals.returns
returns c = Rattle.cf_core.proofs.Cleanups.tidying_stays
