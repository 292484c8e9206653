pub returns : Rattle.cf_core.proofs.returning.updates_go_back.Goals.returns
returns c = Rattle.cf_core.proofs.BackLaws.updates_back
