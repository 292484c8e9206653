-- How a resource is held that a whole map wants (User Guide: a stack's resources are as its template has them).
use Rattle.std.specs.Prelude.{◌≡◌}
use Rattle.cf_effect.specs.declared.held.Held.{Held}
use Rattle.cf_desired.specs.Whole.{Right}

-- a resource is held as it is wanted
pub record IsHeldAs (w : Right) (r : Held) : Type 0 where
  pub kind : r.kind ≡ w.kind
  pub props : r.props ≡ w.props
  pub needs : r.needs ≡ w.needs
  pub deletion : r.deletion ≡ w.deletion
  pub replace : r.replace ≡ w.replace
