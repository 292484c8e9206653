pub returns : Rattle.cf_core.proofs.moves.doubt_moves.Goals.returns
returns c = Rattle.cf_core.proofs.Outcomes.doubt_moves
