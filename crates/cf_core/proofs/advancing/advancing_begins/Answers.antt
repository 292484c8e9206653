pub returns : Rattle.cf_core.proofs.advancing.advancing_begins.Goals.returns
returns c = Rattle.cf_core.proofs.AdvSteps.advancing_begins
