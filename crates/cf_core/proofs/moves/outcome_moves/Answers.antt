pub returns : Rattle.cf_core.proofs.moves.outcome_moves.Goals.returns
returns c = Rattle.cf_core.proofs.Outcomes.outcome_moves
