pub returns : Rattle.cf_core.proofs.tidying.told_stays.Goals.returns
returns c = Rattle.cf_core.proofs.GoingTold.told_stays
