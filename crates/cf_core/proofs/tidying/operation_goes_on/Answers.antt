pub returns : Rattle.cf_core.proofs.tidying.operation_goes_on.Goals.returns
returns c = Rattle.cf_core.proofs.GoingOn.operation_goes_on
