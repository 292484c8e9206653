pub returns : Rattle.cf_core.proofs.tokens.one_is_open.Goals.returns
returns c = Rattle.cf_core.proofs.FewCalls.one_is_open
