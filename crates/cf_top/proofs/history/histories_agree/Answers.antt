pub returns : Rattle.cf_top.proofs.history.histories_agree.Goals.returns
returns g c = Rattle.cf_top.proofs.Histories.histories_agree g.D.Disk g.H.Handler (λ d told. g.met.D.Disk.seen_may_stay d told)
