-- What of a shape rests on what is seen: where nothing hinders it, nothing that more knowledge changes (this project's own laws).
use Rattle.std.specs.Prelude.{◌≡◌, ℕ, List, Bool, false, None, map, if◌then◌else◌, [], ⊤}
use Rattle.cf_tree.specs.declared.source.Source.{Source}
use Rattle.cf_eval.specs.Knows.{StaysKnown}
use Rattle.cf_desired.specs.Seeing.{SeenAt, Seen}
use Rattle.cf_desired.specs.Stays.{SeesMore, id_seen, attrs_seen}
use Rattle.cf_desired.specs.Plan.{plan_by}
use Rattle.cf_desired.specs.Shape.{shape_of}
use Rattle.cf_desired.specs.Work.{Work, Inside, Body, Shape, no_work, resource, nested, shut, barred, halted, opened}
use Rattle.cf_desired.specs.Work as inside

-- all conditions are decided, all names of nested templates are known, and no template hinders the work
abbrev mutual
  pub IsClearAlong : Work → Type 0
  IsClearAlong no_work = ⊤
  IsClearAlong (resource m w) = IsClearAlong w
  IsClearAlong (nested n i w) = IsClearInside i × IsClearAlong w

  pub IsClearInside : Inside → Type 0
  IsClearInside (shut f) = ⊥
  IsClearInside (inside.given_by form b) = IsClear b

  pub IsClear : Body → Type 0
  IsClear (barred f) = ⊥
  IsClear (halted t f) = ⊥
  IsClear (opened t conds w) = IsClearAlong w

-- what is clear over some that is seen is the same over all that shows at least as much
abbrev pub ShapeStays : Type 0
ShapeStays = (source : Source) (a b : Seen) → SeesMore a b → IsClear (shape_of source a) → shape_of source b ≡ shape_of source a

-- An update sees at its beginning what it won't change. What was seen before it and what is seen in it both show this, so they
-- give the same shape, also where attributes have changed.
abbrev pub UpdateStays : Type 0
UpdateStays =
    (source : Source) (kept before now : Seen) → IsClear (shape_of source kept) → SeesMore kept before → SeesMore kept now
    → shape_of source now ≡ shape_of source before

-- a plan without a flaw is one of a clear shape
abbrev pub FlawlessIsClear : Type 0
FlawlessIsClear = (source : Source) (shape : Shape) (seen : Seen) → (plan_by source shape seen).flaws ≡ [] → IsClear shape

-- what is seen, with the ids of some paths and the attributes of some hidden
abbrev pub hidden_one : (List ℕ → Bool) → (List ℕ → Bool) → List ℕ × SeenAt → List ℕ × SeenAt
hidden_one ids attrs s = (s.0, record { physical = if ids s.0 then None else s.1.physical; attrs = if attrs s.0 then None else s.1.attrs })

abbrev pub hidden_of : (List ℕ → Bool) → (List ℕ → Bool) → Seen → Seen
hidden_of ids attrs seen = map (hidden_one ids attrs) seen

-- An update hides at its beginning the ids and attributes that it may change. If what is left makes all clear, and this stays
-- as it was, then the shape is that before the update.
abbrev pub HidingServes : Type 0
HidingServes =
    (source : Source) (before now : Seen) (ids attrs : List ℕ → Bool) → IsClear (shape_of source (hidden_of ids attrs before))
    → ((path : List ℕ) → ids path ≡ false → StaysKnown (id_seen path before) (id_seen path now))
    → ((path : List ℕ) → attrs path ≡ false → StaysKnown (attrs_seen path before) (attrs_seen path now))
    → shape_of source now ≡ shape_of source before

-- What the one shows the other shows as well, but for what is hidden: so an operation goes forward, whose change set hid what it
-- may change.
abbrev pub KeepsRest : (List ℕ → Bool) → (List ℕ → Bool) → Seen → Seen → Type 0
KeepsRest ids attrs a b =
    (path : List ℕ) → (ids path ≡ false → StaysKnown (id_seen path a) (id_seen path b))
    × (attrs path ≡ false → StaysKnown (attrs_seen path a) (attrs_seen path b))
