-- Whether two plans without a flaw are the same (this project's own).
use Rattle.std.specs.Prelude.{ℕ, ◌==◌, Bool, true, false, ◌&&◌, List, Option, Some, None}
use Rattle.std.specs.Cmp.Lexicographic.{pointwise}
use Rattle.std.specs.Str.{bytes_eq}
use Rattle.cf_tree.specs.Datum.{Data}
use Rattle.cf_tree.specs.Same.{same_data}
use Rattle.cf_change.specs.Changes.{is_empty, same_deletion, same_replace}
use Rattle.cf_desired.specs.Props.{prop_of}
use Rattle.cf_desired.specs.declared.props.Prop.{Prop}
use Rattle.cf_desired.specs.declared.wanted.Evaluated.{Evaluated}
use Rattle.cf_desired.specs.declared.wanted.Evaluated.TheVariants.{Known as evaluated}
use Rattle.cf_desired.specs.declared.wanted.Exporting.{Exporting}
use Rattle.cf_desired.specs.declared.wanted.Exporting.TheVariants as exporting
use Rattle.cf_desired.specs.declared.wanted.Inner.{Inner}
use Rattle.cf_desired.specs.declared.wanted.Plan.{Plan}
use Rattle.cf_desired.specs.declared.wanted.Wanted.{Wanted}
use Rattle.cf_desired.specs.declared.wanted.WantedOutput.{WantedOutput}

abbrev pub same_option : {A : Type 0} → (A → A → Bool) → Option A → Option A → Bool
same_option same None None = true
same_option same (Some a) (Some b) = same a b
same_option same _ _ = false

-- properties, each known or not known yet
abbrev pub same_prop : List ℕ × Option Data → List ℕ × Option Data → Bool
same_prop a b = bytes_eq a.0 b.0 && same_option same_data a.1 b.1

abbrev pub same_kept : Prop → Prop → Bool
same_kept a b = same_prop (prop_of a) (prop_of b)

-- what is at fault is the same as nothing
abbrev pub same_evaluated : Evaluated → Evaluated → Bool
same_evaluated (evaluated ps) (evaluated qs) = pointwise same_prop ps qs
same_evaluated _ _ = false

abbrev pub same_wanted : Wanted → Wanted → Bool
same_wanted a b =
    bytes_eq a.path b.path && (bytes_eq a.kind b.kind && (same_deletion a.deletion b.deletion && (same_replace a.replace b.replace
    && (pointwise bytes_eq a.needs b.needs && same_evaluated a.props b.props))))

abbrev pub same_exporting : Exporting → Exporting → Bool
same_exporting exporting.Nothing exporting.Nothing = true
same_exporting exporting.Fault exporting.Fault = true
same_exporting (exporting.Named a) (exporting.Named b) = bytes_eq a b
same_exporting _ _ = false

abbrev pub is_none : {A : Type 0} → Option A → Bool
is_none None = true
is_none (Some a) = false

abbrev pub same_output : WantedOutput → WantedOutput → Bool
same_output a b =
    bytes_eq a.name b.name && (same_option bytes_eq a.value b.value && (same_exporting a.export b.export
    && (is_none a.fault && is_none b.fault)))

abbrev pub same_inner : Inner → Inner → Bool
same_inner a b = bytes_eq a.path b.path && (pointwise bytes_eq a.needs b.needs && (is_none a.fault && is_none b.fault))

abbrev pub same_export : List ℕ × Option (List ℕ) → List ℕ × Option (List ℕ) → Bool
same_export a b = bytes_eq a.0 b.0 && same_option bytes_eq a.1 b.1

abbrev pub same_plan : Plan → Plan → Bool
same_plan a b =
    (is_empty a.flaws && is_empty b.flaws)
    && (pointwise same_wanted a.wanted b.wanted && (pointwise same_output a.outputs b.outputs && (pointwise same_inner a.nested b.nested
    && (pointwise bytes_eq a.unmade b.unmade && (pointwise same_export a.exports b.exports
    && (a.templates == b.templates && a.members == b.members))))))
