pub returns : Rattle.cf_core.proofs.completing.back_is_restored.Goals.returns
returns c = Rattle.cf_core.proofs.WholeKept.back_is_restored
