pub returns : Rattle.cf_core.proofs.theorem.starts_hold.Goals.returns
returns c = Rattle.cf_core.proofs.Always.starts_hold
