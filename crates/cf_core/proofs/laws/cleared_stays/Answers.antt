pub returns : Rattle.cf_core.proofs.laws.cleared_stays.Goals.returns
returns c = Rattle.cf_core.proofs.Always.cleared_stays
