pub returns : Rattle.cf_core.proofs.moves.kept_may.Goals.returns
returns c = Rattle.cf_core.proofs.Outcomes.kept_may
