pub returns : Rattle.cf_core.proofs.tidying.back_tidying_begins.Goals.returns
returns c = Rattle.cf_core.proofs.Cleanups.back_tidying_begins
