pub returns : Rattle.cf_core.proofs.blaming.failed_are_blamed.Goals.returns
returns c = Rattle.cf_core.proofs.BlameFailed.failed_blamed
