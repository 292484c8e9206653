use Rattle.std.proofs.Common.{◌∙◌, ◌++◌, [], ap, List, ℕ}
use Rattle.std.specs.List.{cons_option}
use Rattle.cf_next.proofs.Followed.{leases_more}
use Rattle.cf_next.proofs.home.leases_of.Goals as goal

pub loop-home-preserved : goal.loop-home-preserved
loop-home-preserved c =
    c.in_ok-add_lease.ensures
    ∙ (ap (λ (ts : List ℕ). ts ++ cons_option c.home-item.result.out []) c.loop-home.invariant
    ∙ leases_more c.args.homes.now c.as_slice-home-items.result.now c.loop-home.home-index c.home-item.result c.as_slice-home-items.ensures c.loop-home-test.true c.home-item.is)
