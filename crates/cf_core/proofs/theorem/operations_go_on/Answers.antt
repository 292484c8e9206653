pub returns : Rattle.cf_core.proofs.theorem.operations_go_on.Goals.returns
returns c = Rattle.cf_core.proofs.Always.operations_go_on
