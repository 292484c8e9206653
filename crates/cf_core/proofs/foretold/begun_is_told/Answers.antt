pub returns : Rattle.cf_core.proofs.foretold.begun_is_told.Goals.returns
returns c = Rattle.cf_core.proofs.ToldRows.begun_told
