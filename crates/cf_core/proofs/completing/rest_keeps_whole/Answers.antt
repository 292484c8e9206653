pub returns : Rattle.cf_core.proofs.completing.rest_keeps_whole.Goals.returns
returns c = Rattle.cf_core.proofs.WholeKept.rest_keeps_whole
