pub returns : Rattle.cf_core.proofs.moves.intent_moves.Goals.returns
returns c = Rattle.cf_core.proofs.Stacks.intent_moves
