pub returns : Rattle.cf_core.proofs.foretold.completed_is_told.Goals.returns
returns c = Rattle.cf_core.proofs.ToldDone.completed_told
