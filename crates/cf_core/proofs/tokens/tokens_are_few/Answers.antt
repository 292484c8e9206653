pub returns : Rattle.cf_core.proofs.tokens.tokens_are_few.Goals.returns
returns c = Rattle.cf_core.proofs.FewCalls.tokens_are_few
