pub returns : Rattle.cf_core.proofs.tidying.told_begins.Goals.returns
returns c = Rattle.cf_core.proofs.GoingTold.told_begins
