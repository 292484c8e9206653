pub returns : Rattle.cf_core.proofs.moves.one_is_put.Goals.returns
returns c = Rattle.cf_core.proofs.Stacks.one_is_put
