pub returns : Rattle.cf_core.proofs.theorem.lives_keep_promises.Goals.returns
returns c = Rattle.cf_core.proofs.Always.lives_keep_promises
