pub returns : Rattle.cf_core.proofs.theorem.turns_had_cause.Goals.returns
returns c = Rattle.cf_core.proofs.Turned.turns_had_cause
