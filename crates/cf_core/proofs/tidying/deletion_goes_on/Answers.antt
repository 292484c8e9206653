pub returns : Rattle.cf_core.proofs.tidying.deletion_goes_on.Goals.returns
returns c = Rattle.cf_core.proofs.GoingOn.deletion_goes_on
