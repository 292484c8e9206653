pub returns : Rattle.cf_core.proofs.completing.whole_is_complete.Goals.returns
returns c = Rattle.cf_core.proofs.WholeKept.whole_is_complete
