pub returns : Rattle.cf_core.proofs.laws.written_is_to.Goals.returns
returns c = Rattle.cf_core.proofs.Moving.written_is_to
