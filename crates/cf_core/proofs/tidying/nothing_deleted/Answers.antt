pub returns : Rattle.cf_core.proofs.tidying.nothing_deleted.Goals.returns
returns c = Rattle.cf_core.proofs.Cleanups.nothing_deleted
