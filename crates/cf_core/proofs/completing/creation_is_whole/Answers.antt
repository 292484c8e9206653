pub returns : Rattle.cf_core.proofs.completing.creation_is_whole.Goals.returns
returns c = Rattle.cf_core.proofs.WholeKept.creation_is_whole
