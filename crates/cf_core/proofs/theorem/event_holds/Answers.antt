pub returns : Rattle.cf_core.proofs.theorem.event_holds.Goals.returns
returns c = Rattle.cf_core.proofs.Always.event_holds
