pub returns : Rattle.cf_core.proofs.completing.stays_at_rest.Goals.returns
returns c = Rattle.cf_core.proofs.WholeKept.stays_at_rest
