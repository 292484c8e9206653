pub returns : Rattle.cf_core.proofs.theorem.events_hold.Goals.returns
returns c = Rattle.cf_core.proofs.Always.events_hold
