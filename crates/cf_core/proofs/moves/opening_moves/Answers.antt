pub returns : Rattle.cf_core.proofs.moves.opening_moves.Goals.returns
returns c = Rattle.cf_core.proofs.Stacks.opening_moves
