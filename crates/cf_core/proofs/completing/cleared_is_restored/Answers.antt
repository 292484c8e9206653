pub returns : Rattle.cf_core.proofs.completing.cleared_is_restored.Goals.returns
returns c = Rattle.cf_core.proofs.WholeKept.cleared_is_restored
