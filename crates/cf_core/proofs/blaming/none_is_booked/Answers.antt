pub returns : Rattle.cf_core.proofs.blaming.none_is_booked.Goals.returns
returns c = Rattle.cf_core.proofs.BlameStays.none_booked
