-- What a create or an update set out with, and what is read of it once (this project's own).
use Rattle.std.specs.Prelude.{◌≡◌, ℕ, List, Option, Some, None, is_some, if◌then◌else◌}
use Rattle.cf_tree.specs.Keys.{put, value_at}
use Rattle.cf_tree.specs.declared.source.Source.{Source}
use Rattle.cf_desired.specs.declared.shape.Terms as desired
use Rattle.cf_desired.specs.declared.shape.Shape.{Shape}
use Rattle.cf_desired.specs.Kept.{IsShape}
use Rattle.cf_desired.specs.Plan.{plan_of}
use Rattle.cf_desired.specs.Seeing.{Seen}
use Rattle.cf_desired.specs.Shape.{shape_of}
use Rattle.cf_desired.specs.Templates.{templates_of}
use Rattle.cf_desired.specs.Valued.{resources_in}
use Rattle.cf_desired.specs.Whole.{wanted_at}
use Rattle.cf_effect.specs.declared.held.Held.{Held}
use Rattle.cf_effect.specs.declared.layout.Layout.{Layout}
use Rattle.cf_effect.specs.declared.outset.Ground.{Ground}
use Rattle.cf_effect.specs.declared.outset.Reading.{Reading}
use Rattle.cf_effect.specs.declared.terms.Terms.{Terms}
use Rattle.cf_effect.specs.Begin.{seen_in}
use Rattle.cf_effect.specs.Layout.{AreRows}
use Rattle.cf_effect.specs.Reply.{terms_of}

pub record Outset : Type 0 where
  pub before : List Held
  pub source : Source

abbrev pub outset_of : Ground → Outset
outset_of g = record { before = g.before.items; source = g.source }

-- the policies and needs of a path, of which the first of one path count
abbrev pub without_kind : desired.Terms → Terms
without_kind t = record { needs = t.needs; deletion = t.deletion; replace = t.replace }

abbrev pub put_terms : List (List ℕ × Terms) → List ℕ × desired.Terms → List (List ℕ × Terms)
put_terms all p = if is_some (value_at p.0 all) then all else put p.0 (without_kind p.1) all

abbrev pub given_terms : Option Terms → Terms
given_terms None = terms_of None
given_terms (Some t) = t

-- the policies and needs are those of each path, whatever source the shape is of
abbrev pub HaveTerms : Shape → List (List ℕ × Terms) → Type 0
HaveTerms shape terms =
    (source : Source) (seen : Seen) → IsShape shape (shape_of source seen)
    → (path : List ℕ) → given_terms (value_at path terms) ≡ terms_of (wanted_at path (plan_of source seen))

-- the layout is that of the resources in the order of work, whatever source the shape is of
abbrev pub IsLaidBy : Shape → Layout → Type 0
IsLaidBy shape layout =
    (source : Source) (seen : Seen) → IsShape shape (shape_of source seen) → AreRows (resources_in (shape_of source seen)) layout

-- the templates are those of the source, and over what was held the shape is its own, as the policies and
-- needs and the layout are
pub record IsReading (source : Source) (before : List Held) (r : Reading) : Type 0 where
  pub templates : r.templates ≡ templates_of source
  pub shape : IsShape r.shape (shape_of source (seen_in before))
  pub terms : HaveTerms r.shape r.terms
  pub layout : IsLaidBy r.shape r.layout

abbrev pub IsGround : Ground → Type 0
IsGround g = IsReading g.source g.before.items g.read
