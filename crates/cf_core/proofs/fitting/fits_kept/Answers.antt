pub returns : Rattle.cf_core.proofs.fitting.fits_kept.Goals.returns
returns c = Rattle.cf_core.proofs.FitKept.fits_kept
