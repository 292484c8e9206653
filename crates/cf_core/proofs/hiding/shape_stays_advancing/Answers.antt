pub returns : Rattle.cf_core.proofs.hiding.shape_stays_advancing.Goals.returns
returns c = Rattle.cf_core.proofs.HidSeen.shape_stays
