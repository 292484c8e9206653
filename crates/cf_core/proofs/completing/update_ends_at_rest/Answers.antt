pub returns : Rattle.cf_core.proofs.completing.update_ends_at_rest.Goals.returns
returns c = Rattle.cf_core.proofs.WholeKept.update_ends_at_rest
