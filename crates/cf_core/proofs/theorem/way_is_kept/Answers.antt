pub returns : Rattle.cf_core.proofs.theorem.way_is_kept.Goals.returns
returns c = Rattle.cf_core.proofs.Always.way_kept
