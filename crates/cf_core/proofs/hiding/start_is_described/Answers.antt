pub returns : Rattle.cf_core.proofs.hiding.start_is_described.Goals.returns
returns c = Rattle.cf_core.proofs.Always.start_described
