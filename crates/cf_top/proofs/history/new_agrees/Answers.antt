pub returns : Rattle.cf_top.proofs.history.new_agrees.Goals.returns
returns g c = Rattle.cf_top.proofs.Histories.new_agrees g.D.Disk
