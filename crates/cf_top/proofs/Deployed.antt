-- What a deployment or a review orders, from what was found in the library.
use Rattle.std.proofs.Common.{◌≡◌, inl, inr, ℕ, Bool, cond, List, option_map, Some, None, Result, Ok, Err, refl, sym, ap, subst}
use Rattle.cf_tree.specs.Counts.{HasRisen}
use Rattle.cf_schema.specs.declared.described.Schema.{Schema}
use Rattle.cf_io.specs.Library.{StandsUnder}
use Rattle.cf_desired.specs.declared.flaw.Flaw.TheVariants.{TemplateMissing}
use Rattle.cf_effect.specs.World.{World}
use Rattle.cf_prepare.specs.declared.wish.Order.{Order}
use Rattle.cf_face.specs.declared.words.Choice.{Choice}
use Rattle.cf_face.specs.Words.{load_choice, load_name}
use Rattle.cf_face.specs.declared.words.Task.TheVariants.{Deploy, Load}
use Rattle.cf_face.specs.declared.exit.Exit.{Exit}
use Rattle.cf_face.specs.declared.exit.Exit.TheVariants as exit
use Rattle.cf_face.specs.declared.exit.Refusal.TheVariants as refusal
use Rattle.cf_load.specs.Text.{load_text}
use Rattle.cf_plan.proofs.Listed.{same_bytes}
use Rattle.cf_top.specs.Refusals.{IsRefusedFor, IsUnasked, LibraryUse, RefusesChoice, RefusesTemplate, TestsTemplate, chosen_refusal, deployed_source}
use Rattle.cf_top.specs.Tasks.{FindsChoice, FindsOrder, IsOrderOf, load_library, status_refusal}
use Rattle.cf_top.specs.declared.planning.Purpose.{Purpose}
use Rattle.cf_top.specs.declared.planning.Purpose.TheVariants as purpose
use Rattle.cf_top.proofs.Early.{asked}
use Rattle.cf_top.proofs.Ordered.{deploys_prepared}
use Rattle.cf_top.proofs.Tested.{told_or_short}

module _ (o : LibraryUse) (p : Purpose) (schemas : List Schema) (x : World) (stack : List ℕ) (choice : Choice) where
  tested : (bytes : List ℕ) (e : Exit) → StandsUnder o.texts choice.template (Some bytes)
      → TestsTemplate (chosen_refusal p schemas x stack choice (Some bytes)) (IsOrderOf p schemas x stack choice bytes) (Err e)
      → IsRefusedFor o p schemas x stack choice e
  tested bytes (exit.TemplateRefused fault) st t = (Some bytes, st, t, tt)
  tested bytes (exit.StackRefused fault) st t = (Some bytes, st, t, tt)
  tested bytes exit.NoMemory st t = tt
  tested bytes exit.LibraryFault st t = absurd (asked p schemas x stack choice (Some bytes) exit.LibraryFault t)
  tested bytes exit.Done st t = (Some bytes, st, t, tt)
  tested bytes exit.BadWords st t = (Some bytes, st, t, tt)
  tested bytes (exit.RolledBack cause) st t = (Some bytes, st, t, tt)
  tested bytes (exit.Failed blamed) st t = (Some bytes, st, t, tt)
  tested bytes exit.DiskFault st t = (Some bytes, st, t, tt)
  tested bytes exit.SinkFault st t = (Some bytes, st, t, tt)
  tested bytes (exit.NotAJournal offset) st t = (Some bytes, st, t, tt)
  tested bytes (exit.LaneMissing lane) st t = (Some bytes, st, t, tt)
  tested bytes (exit.LaneTwice lane) st t = (Some bytes, st, t, tt)
  tested bytes (exit.LaneAhead lane fence epoch) st t = (Some bytes, st, t, tt)
  tested bytes (exit.LaneFault lane) st t = (Some bytes, st, t, tt)
  tested bytes (exit.Full long need room) st t = (Some bytes, st, t, tt)

  -- what was found there is tested
  pub fetched : (bytes : List ℕ) (result : Result Order Exit) → StandsUnder o.texts choice.template (Some bytes)
      → TestsTemplate (chosen_refusal p schemas x stack choice (Some bytes)) (IsOrderOf p schemas x stack choice bytes) result
      → FindsChoice o p schemas x stack choice result
  fetched bytes (Ok ordered) st t = record { bytes = bytes; stands = st; sound = t.0; is_order = t.1 }
  fetched bytes (Err e) st t = tested bytes e st t

  -- the library holds none of the name
  pub missed : (e : Exit) → StandsUnder o.texts choice.template None → HasRisen o.misses o.misses' → RefusesTemplate (refusal.Plan (TemplateMissing choice.template)) e
      → FindsChoice o p schemas x stack choice (Err e)
  missed e st r f =
      elim (told_or_short (refusal.Plan (TemplateMissing choice.template)) e f) [
        | inl t ↦ subst (IsRefusedFor o p schemas x stack choice) (sym t) (None, st, refl, r)
        | inr t ↦ subst (IsRefusedFor o p schemas x stack choice) (sym t) tt
      ]

-- a deployment whose stack's status does not refuse it
pub deployed : (o : LibraryUse) (schemas : List Schema) (x : World) (stack : List ℕ) (choice : Choice) → status_refusal stack x ≡ None → (result : Result Order Exit)
    → FindsChoice o purpose.Deploy schemas x stack choice result → FindsOrder o schemas x stack (Deploy choice) result
deployed o schemas x stack choice free (Ok ordered) d = (
  record { free = free; bytes = d.bytes; stands = d.stands; sound = d.sound; deploys = (d.is_order).0 },
  λ apart opened. deploys_prepared schemas x stack (deployed_source stack choice d.bytes) ordered (d.is_order).0 (d.is_order).1,
)
deployed o schemas x stack choice free (Err e) r = subst (λ b. RefusesChoice o purpose.Deploy schemas x stack choice b e) (sym free) r

-- the template of the load mode stands under its name
pub load_stands : (count : ℕ) → StandsUnder (load_library count).texts (load_name count) (Some (load_text count))
load_stands count =
    sym (ap (λ (b : Bool). option_map (λ (t : List ℕ × List ℕ). t.1) (cond b (Some (load_name count, load_text count)) None)) (same_bytes (load_name count)))

-- what a load finds over its own library is all that it finds
pub loaded : (o : LibraryUse) (schemas : List Schema) (x : World) (stack : List ℕ) → IsUnasked o → (count : ℕ) (result : Result Order Exit)
    → FindsOrder (load_library count) schemas x stack (Deploy (load_choice count)) result → FindsOrder o schemas x stack (Load count) result
loaded o schemas x stack unasked count (Ok ordered) f = ((f.0, unasked), f.1)
loaded o schemas x stack unasked count (Err e) r = (r, unasked)
