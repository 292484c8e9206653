pub returns : Rattle.cf_core.proofs.tidying.cleanup_goes_on.Goals.returns
returns c = Rattle.cf_core.proofs.Cleanups.cleanup_goes_on
