pub returns : Rattle.cf_core.proofs.advancing.advancing_stays.Goals.returns
returns c = Rattle.cf_core.proofs.HidCalls.advancing_stays
