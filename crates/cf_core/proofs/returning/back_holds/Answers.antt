pub returns : Rattle.cf_core.proofs.returning.back_holds.Goals.returns
returns c = Rattle.cf_core.proofs.BackLaws.back_holds
