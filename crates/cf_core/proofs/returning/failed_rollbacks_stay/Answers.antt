pub returns : Rattle.cf_core.proofs.returning.failed_rollbacks_stay.Goals.returns
returns c = Rattle.cf_core.proofs.BackLaws.failed_stay
