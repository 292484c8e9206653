-- When a source is accepted before anything is called: its plan has no flaw, and so each text that the plan meets is a template; its
-- types have lanes, its imports are just those that it uses, no export is taken, and something changes (User Guide: change sets,
-- exports that are in use; which names are taken is this project's own). Texts that the plan does not meet are not read.
use Rattle.std.specs.Prelude.{◌≡◌, ◌≢◌, ℕ, ◌⊎◌, Bool, true, false, ◌&&◌, ◌||◌, not, List, [], Some, IsTrue, filter, map}
use Rattle.std.specs.List.{list_any, list_all}
use Rattle.std.specs.Str.{bytes_eq}
use Rattle.cf_tree.specs.Keys.{value_at}
use Rattle.cf_tree.specs.declared.row.Row.{Row}
use Rattle.cf_tree.specs.declared.source.Source.{Source}
use Rattle.cf_export.specs.declared.Export.{Export}
use Rattle.cf_export.specs.Export.{pins_name}
use Rattle.cf_schema.specs.declared.described.Schema.{Schema}
use Rattle.cf_entry.specs.declared.status.Status.{Status}
use Rattle.cf_entry.specs.declared.status.Status.TheVariants as status
use Rattle.cf_effect.specs.declared.held.Held.{Held}
use Rattle.cf_effect.specs.World.{StackState, World}
use Rattle.cf_effect.specs.Words.{is_pinned}
use Rattle.cf_tree.specs.Named.{all_differ}
use Rattle.cf_tree.specs.Lists.{is_among}
use Rattle.cf_change.specs.Changes.{HeldAt, Changes, changes_of, found_of, is_unchanged}
use Rattle.cf_desired.specs.Seeing.{Seen, by_names}
use Rattle.cf_desired.specs.Plan.{plan_of}

-- What a stack holds, as a change set compares it: the resource of each path, and none that is superseded.
abbrev pub held_as : Held → HeldAt
held_as h =
    record {
      path = h.path;
      kind = h.kind;
      physical = h.physical;
      props = h.props;
      attrs = h.attrs;
      deletion = h.deletion;
      replace = h.replace;
      unsure = h.unsure;
    }

abbrev pub held_by : StackState → List HeldAt
held_by s = map held_as (filter (λ h. not h.superseded) s.held)

-- the exports of a stack
abbrev pub exports_in : List ℕ → World → List Export
exports_in name x = filter (λ e. bytes_eq name e.stack) x.exports

-- each name once, in byte order
abbrev pub exports_by : List ℕ → World → List (List ℕ × List ℕ)
exports_by name x = by_names (map (λ e. (e.name, e.value)) (exports_in name x))

abbrev pub changes_on : List Schema → List ℕ → World → StackState → Source → Changes
changes_on schemas name x s source = changes_of schemas (held_by s) s.outputs (exports_by name x) source

-- what is seen before anything is called: of each path what its row leaves known
abbrev pub seen_before : List Schema → StackState → Source → Seen
seen_before schemas s source = (found_of schemas (held_by s) source).seen

-- Imports: each is an export of another stack with its value of now; with all of these the source would come to the same; without one of
-- them it would not.
abbrev pub exports_of_others : List ℕ → World → List (List ℕ × List ℕ)
exports_of_others name x = by_names (map (λ e. (e.name, e.value)) (filter (λ e. not (bytes_eq name e.stack)) x.exports))

abbrev pub with_imports : Source → List (List ℕ × List ℕ) → Source
with_imports source imports = record source { imports = imports }

abbrev pub without_import : List ℕ → List (List ℕ × List ℕ) → List (List ℕ × List ℕ)
without_import name imports = filter (λ i. not (bytes_eq name i.0)) imports

pub record ImportsWhatItUses (name : List ℕ) (x : World) (source : Source) (seen : Seen) : Type 0 where
  pub are_exports : (n v : List ℕ) → value_at n source.imports ≡ Some v → value_at n (exports_of_others name x) ≡ Some v
  pub enough : plan_of source seen ≡ plan_of (with_imports source (exports_of_others name x)) seen
  pub all_used :
      (n v : List ℕ) → value_at n source.imports ≡ Some v
      → plan_of (with_imports source (without_import n source.imports)) seen ≢ plan_of source seen

-- A name is taken where another stack exports or claims it, or where two outputs export it.
abbrev pub is_exported_elsewhere : List ℕ → World → List ℕ → Bool
is_exported_elsewhere name x export =
    list_any (λ e. bytes_eq export e.name && not (bytes_eq name e.stack)) x.exports || list_any (pins_name export name) x.claims

abbrev pub are_free : List ℕ → World → List (List ℕ) → Bool
are_free name x exports = all_differ bytes_eq exports && not (list_any (is_exported_elsewhere name x) exports)

-- An export of this stack is taken away where another stack pins it and the new outputs no longer export its name (User
-- Guide, "Get exported outputs from a deployed stack").
abbrev pub is_taken_away : List ℕ → World → List (List ℕ) → Export → Bool
is_taken_away name x kept e = is_pinned name x e && not (is_among e.name kept)

-- a creation, of a stack that is none yet or has a change set alone
abbrev pub creates_from : Status → Bool
creates_from status.DeleteComplete = true
creates_from status.ReviewInProgress = true
creates_from _ = false

-- The source is accepted where these are the types that there are.
pub record IsAccepted (schemas : List Schema) (kinds : List (List ℕ)) (name : List ℕ) (x : World) (s : StackState) (source : Source) : Type
    0 where
  pub no_flaw : (changes_on schemas name x s source).flaws ≡ []
  pub known_types : IsTrue (list_all (λ w. is_among w.kind kinds) (plan_of source (seen_before schemas s source)).wanted)
  pub same_types : (changes_on schemas name x s source).clash ≡ []
  pub imports : ImportsWhatItUses name x source (seen_before schemas s source)
  pub free : IsTrue (are_free name x (map (λ e. e.0) (plan_of source (seen_before schemas s source)).exports))
  pub not_in_use : list_any (is_taken_away name x (map (λ e. e.0) (plan_of source (seen_before schemas s source)).exports)) x.exports
      ≡ false
  pub changing : IsTrue (creates_from s.status) ⊎ (is_unchanged (changes_on schemas name x s source) ≡ false)

-- the types that have a schema
abbrev pub schema_kinds : List Schema → List (List ℕ)
schema_kinds schemas = map (λ g. g.kind) schemas

-- A change set is kept where its source is accepted over all known types, and has just the rows that it has now.
pub record IsReviewed (schemas : List Schema) (name : List ℕ) (x : World) (s : StackState) (source : Source) (rows : List Row)
    (outputs : Bool) : Type 0 where
  pub accepted : IsAccepted schemas (schema_kinds schemas) name x s source
  pub changing : is_unchanged (changes_on schemas name x s source) ≡ false
  pub rows_are : rows ≡ (changes_on schemas name x s source).rows
  pub outputs_are : outputs ≡ (changes_on schemas name x s source).outputs_differ
