pub returns : Rattle.cf_core.proofs.moves.done_moves.Goals.returns
returns c = Rattle.cf_core.proofs.Outcomes.done_moves
