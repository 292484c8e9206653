pub returns : Rattle.cf_core.proofs.moves.own_kept.Goals.returns
returns c = Rattle.cf_core.proofs.Stacks.own_kept
