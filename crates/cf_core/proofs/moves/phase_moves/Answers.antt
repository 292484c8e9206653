pub returns : Rattle.cf_core.proofs.moves.phase_moves.Goals.returns
returns c = Rattle.cf_core.proofs.Outcomes.phase_moves
