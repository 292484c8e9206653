use Rattle.std.proofs.Common.{List, subst}
use Rattle.cf_effect.specs.declared.layout.Layout.{Layout}
use Rattle.cf_effect.specs.declared.layout.Placed.{Placed}
use Rattle.cf_effect.specs.Laying.{AreUsers}
use Rattle.cf_effect.proofs.Rowed.{laid_rows}
use Rattle.cf_effect.proofs.layout.lay_out.Goals as goal

pub returns : goal.returns
returns c =
    λ ms is first.
    let l : Layout = record { rows = c.in_ok-rows.rows; users = c.in_ok-users.users; places = c.in_ok-places.places } in
    laid_rows l c.args.all.now c.in_ok-places.ensures c.in_ok-rows.ensures
    (subst (λ (rs : List Placed). AreUsers rs c.in_ok-users.users.items) c.as_slice.ensures.value c.in_ok-users.ensures) ms is first
