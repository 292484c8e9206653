pub returns : Rattle.cf_core.proofs.tidying.rollback_goes_on.Goals.returns
returns c = Rattle.cf_core.proofs.GoingOn.rollback_goes_on
