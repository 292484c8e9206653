pub returns : Rattle.cf_core.proofs.moves.kept_moves.Goals.returns
returns c = Rattle.cf_core.proofs.Outcomes.kept_moves
