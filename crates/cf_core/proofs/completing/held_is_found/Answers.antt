pub returns : Rattle.cf_core.proofs.completing.held_is_found.Goals.returns
returns c = Rattle.cf_core.proofs.WholeKept.held_is_found
