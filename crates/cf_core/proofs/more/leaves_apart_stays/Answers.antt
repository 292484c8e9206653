pub returns : Rattle.cf_core.proofs.more.leaves_apart_stays.Goals.returns
returns c = Rattle.cf_core.proofs.MoreApart.leaves_apart_stays
