pub returns : Rattle.cf_core.proofs.more.lists_given_up_stays.Goals.returns
returns c = Rattle.cf_core.proofs.MoreStacks.lists_given_up_stays
