pub returns : Rattle.cf_core.proofs.beginnings.event_writes.Goals.returns
returns c = Rattle.cf_core.proofs.KeepSound.event_writes
