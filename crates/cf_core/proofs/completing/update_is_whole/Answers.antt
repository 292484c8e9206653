pub returns : Rattle.cf_core.proofs.completing.update_is_whole.Goals.returns
returns c = Rattle.cf_core.proofs.WholeKept.update_is_whole
