pub returns : Rattle.cf_core.proofs.fitting.each_is_written.Goals.returns
returns c = Rattle.cf_core.proofs.FitKept.each_is_written
