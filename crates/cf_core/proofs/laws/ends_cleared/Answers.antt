pub returns : Rattle.cf_core.proofs.laws.ends_cleared.Goals.returns
returns c = Rattle.cf_core.proofs.Always.ends_cleared
