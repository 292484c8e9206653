pub returns : Rattle.cf_core.proofs.theorem.holds_keeps_promises.Goals.returns
returns c = Rattle.cf_core.proofs.Always.holds_keeps_promises
