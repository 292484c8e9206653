pub returns : Rattle.cf_core.proofs.returning.back_stays_in_cleanup.Goals.returns
returns c = Rattle.cf_core.proofs.BackLaws.cleanup_stays
