pub returns : Rattle.cf_core.proofs.returning.updates_skip_none.Goals.returns
returns c = Rattle.cf_core.proofs.BackSteps.updates_skip
