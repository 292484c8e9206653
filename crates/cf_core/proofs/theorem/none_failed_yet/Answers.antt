pub returns : Rattle.cf_core.proofs.theorem.none_failed_yet.Goals.returns
returns c = Rattle.cf_core.proofs.Turned.none_failed_yet
