pub returns : Rattle.cf_core.proofs.returning.back_stays_at_rest.Goals.returns
returns c = Rattle.cf_core.proofs.BackLaws.rest_stays
