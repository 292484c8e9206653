pub returns : Rattle.cf_core.proofs.theorem.back_is_told.Goals.returns
returns c = Rattle.cf_core.proofs.Turned.back_is_told
