pub returns : Rattle.cf_core.proofs.more.leases_stay_open.Goals.returns
returns c = Rattle.cf_core.proofs.InFlight.leases_stay_open
