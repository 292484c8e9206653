pub returns : Rattle.cf_core.proofs.advancing.advancing_goes_on.Goals.returns
returns c = Rattle.cf_core.proofs.AdvSteps.advancing_goes_on
