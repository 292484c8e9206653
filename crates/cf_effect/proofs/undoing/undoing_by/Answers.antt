use Rattle.std.proofs.Common.{List, [], ℕ, Option, ap, map, refl, sym, ◌∙◌, subst}
use Rattle.cf_effect.specs.declared.ahead.Way.TheVariants.{Back}
use Rattle.cf_effect.specs.declared.layout.Layout.{Layout}
use Rattle.cf_effect.specs.Ahead.{IsReadiness}
use Rattle.cf_effect.specs.Index.{ArePlacesOf, is_path}
use Rattle.cf_effect.specs.Layout.{AreRows, source_members}
use Rattle.cf_effect.specs.State.{state_of}
use Rattle.cf_effect.specs.Undoing.{AreFirst, gone_if}
use Rattle.cf_effect.proofs.Undone.{undoing_made}
use Rattle.cf_effect.proofs.undoing.undoing_by.Goals as goal

pub returns : goal.returns
returns c =
    undoing_made (state_of c.args.state.now) c.in_ok-places.places
    (record { layout = c.args.layout; ids = c.args.ids; gone = c.in_ok-gone.gone; tried = c.in_ok-tried.tried; readiness = c.in_ok-readiness.readiness })
    c.args.state.now.operation c.len.result c.as_slice-3.result.now
    (subst (λ (ids : List (Option (List ℕ))). ArePlacesOf is_path ids c.in_ok-places.places) c.as_slice.ensures.value c.in_ok-places.ensures)
    (subst (λ (ids : List (Option (List ℕ))). AreFirst ids c.in_ok-places.places) c.as_slice-2.ensures.value (c.are_first.ensures c.if-not-are_first.false))
    refl c.as_slice-3.ensures.value (c.len.ensures ∙ c.args.ids.ok.0) c.in_ok-tried.ensures (c.in_ok-gone.ensures ∙ ap (map gone_if) c.as_slice-4.ensures.value)
    (λ t rows.
    subst (λ (os : List (Option ℕ)). IsReadiness Back c.args.layout os [] c.in_ok-readiness.readiness) c.as_slice-5.ensures.value
    (subst (λ (l : Layout). IsReadiness Back l c.as_slice-5.result.now [] c.in_ok-readiness.readiness) c.deref.ensures
    (c.in_ok-readiness.ensures t (subst (λ (l : Layout). AreRows (source_members t) l) (sym c.deref.ensures) rows))))
