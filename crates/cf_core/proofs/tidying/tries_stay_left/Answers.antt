pub returns : Rattle.cf_core.proofs.tidying.tries_stay_left.Goals.returns
returns c = Rattle.cf_core.proofs.Tries.tries_stay_left
