pub returns : Rattle.cf_core.proofs.completing.cleanup_keeps_whole.Goals.returns
returns c = Rattle.cf_core.proofs.WholeKept.cleanup_keeps_whole
