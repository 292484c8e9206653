pub returns : Rattle.cf_core.proofs.tidying.forward_goes_on.Goals.returns
returns c = Rattle.cf_core.proofs.GoingOn.forward_goes_on
