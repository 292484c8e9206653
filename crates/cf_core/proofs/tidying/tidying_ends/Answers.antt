pub returns : Rattle.cf_core.proofs.tidying.tidying_ends.Goals.returns
returns c = Rattle.cf_core.proofs.Cleanups.tidying_ends
