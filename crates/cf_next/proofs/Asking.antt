-- What is made of a call by whether it creates a resource.
use Rattle.std.proofs.Common.{◌≡◌, ℕ, Bool, true, false, List, refl, sym, true≢false}
use Rattle.cf_tree.specs.declared.request.Request.{Request}
use Rattle.cf_tree.specs.declared.request.Request.TheVariants as request
use Rattle.cf_effect.specs.Words.{is_create}
use Rattle.cf_effect.specs.World.{World}
use Rattle.cf_next.specs.declared.step.Next.{Next}
use Rattle.cf_next.specs.Joining.{with_calls_on, with_create, with_new_call}

module _ (out : List ℕ) (x : World) (path : List ℕ) (dues : List Next) where
  pub offered_create : (r : Request) → is_create r ≡ true → with_create out x path r dues ≡ with_new_call out x path dues r
  offered_create (request.Create k props) e = refl
  offered_create (request.Update id props) e = absurd (true≢false (sym e))
  offered_create (request.Delete id) e = absurd (true≢false (sym e))

  pub offered_other : (r : Request) → is_create r ≡ false → with_calls_on out x path r dues ≡ with_new_call out x path dues r
  offered_other (request.Create k props) e = absurd (true≢false e)
  offered_other (request.Update id props) e = refl
  offered_other (request.Delete id) e = refl
