pub returns : Rattle.cf_core.proofs.hiding.rest_stays_seen.Goals.returns
returns c = Rattle.cf_core.proofs.HidCalls.rest_stays
