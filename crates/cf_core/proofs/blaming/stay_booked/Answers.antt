pub returns : Rattle.cf_core.proofs.blaming.stay_booked.Goals.returns
returns c = Rattle.cf_core.proofs.BlameStays.stays_booked
