-- What is held shows all that is seen with the rows.
use Rattle.std.proofs.Common.{◌≡◌, ◌∙◌, ℕ, List, [], ◌∷◌, ◌++◌, Bool, true, false, ◌||◌, Option, Some, None, fold, map, option_map, refl, sym, ap, subst, ◌⊎◌, inl, inr}
use Rattle.std.specs.Prelude.{cond, option_and_then}
use Rattle.std.specs.List.{list_any}
use Rattle.std.specs.Option.{option_map_or}
use Rattle.std.specs.Str.{bytes_eq}
use Rattle.std.proofs.lemmas.Slice.Eq.{bytes_eq-Decides}
use Rattle.cf_tree.specs.Keys.{value_at, put}
use Rattle.cf_tree.specs.declared.row.Row.{Row}
use Rattle.cf_tree.specs.declared.source.Source.{Source}
use Rattle.cf_schema.specs.declared.described.Schema.{Schema}
use Rattle.cf_desired.specs.Seeing.{SeenAt}
use Rattle.cf_desired.specs.declared.wanted.Evaluated.{Evaluated}
use Rattle.cf_desired.specs.declared.wanted.Wanted.{Wanted}
use Rattle.cf_desired.specs.Plan.{props_at, wanted_of}
use Rattle.cf_desired.specs.Seeing.{Seen}
use Rattle.cf_desired.specs.Shape.{shape_of}
use Rattle.cf_desired.specs.Stays.{SeesMore, attrs_seen, id_seen}
use Rattle.cf_desired.specs.Valued.{resources_in}
use Rattle.cf_desired.specs.Work.{Member, Shape}
use Rattle.cf_desired.proofs.Flawless.{flawless_clear}
use Rattle.cf_desired.proofs.Puts.{kept_self, value_names, value_put}
use Rattle.cf_desired.proofs.ShapeStays.{shape_stays}
use Rattle.cf_change.specs.Changes.{RowsFound, HeldAt, found_next, found_of, found_with, held_at, held_seen, is_other_kind, is_property, keeps_id, resource_held, row_for, row_list, seen_after, seen_held}
use Rattle.cf_change.specs.Hidden.{HeldShowsMore, ShapeIsHeld}

-- nothing is seen, or what is held
abbrev AtMost : {A : Type 0} → Option A → Option A → Type 0
AtMost o p = (o ≡ None) ⊎ (o ≡ p)

abbrev IsAtMost : SeenAt → Option SeenAt → Type 0
IsAtMost v o = AtMost v.physical (option_and_then (λ s. s.physical) o) × AtMost v.attrs (option_and_then (λ s. s.attrs) o)

abbrev ShowsLess : Seen → Seen → Type 0
ShowsLess a b = (path : List ℕ) → AtMost (id_seen path a) (id_seen path b) × AtMost (attrs_seen path a) (attrs_seen path b)

less_more : (a b : Seen) → ShowsLess a b → SeesMore a b
less_more a b h path = (
  elim (h path).0 [ inl e ↦ rw e tt | inr e ↦ rw e (kept_self (id_seen path b)) ],
  elim (h path).1 [ inl e ↦ rw e tt | inr e ↦ rw e (kept_self (attrs_seen path b)) ],
)

first_held : (path : List ℕ) (hs : List HeldAt) → value_at path (map held_at hs) ≡ option_map (λ h. seen_held h None) (resource_held path hs)
first_held path [] = refl
first_held path (h ∷ hs) = by_name (bytes_eq path h.path) (first_held path hs) where
  by_name : (b : Bool) → value_at path (map held_at hs) ≡ option_map (λ x. seen_held x None) (resource_held path hs)
      → cond b (Some (seen_held h None)) (value_at path (map held_at hs)) ≡ option_map (λ x. seen_held x None) (cond b (Some h) (resource_held path hs))
  by_name true rest = refl
  by_name false rest = rest

pub held_there : (path : List ℕ) (hs : List HeldAt) → value_at path (held_seen hs) ≡ option_map (λ h. seen_held h None) (resource_held path hs)
held_there path hs = value_names path (map held_at hs) ∙ first_held path hs

kept_if : {A : Type 0} (b : Bool) (a : A) → AtMost (cond b (Some a) None) (Some a)
kept_if true a = inr refl
kept_if false a = inl refl

kept_unless : {A : Type 0} (b : Bool) (a : A) → AtMost (cond b None (Some a)) (Some a)
kept_unless true a = inl refl
kept_unless false a = inr refl

at_most : (o : Option HeldAt) (row : Option Row) → IsAtMost (seen_after o row) (option_map (λ h. seen_held h None) o)
at_most None row = (inl refl, inl refl)
at_most (Some h) None = (inr refl, inr refl)
at_most (Some h) (Some r) = (kept_if (keeps_id r.replacement) h.physical, kept_unless (list_any is_property r.details || h.unsure) h.attrs)

module _ (held : List HeldAt) where
  shown_put : (path : List ℕ) (row : Option Row) (seen : Seen) → ShowsLess seen (held_seen held) → ShowsLess (put path (seen_after (resource_held path held) row) seen) (held_seen held)
  shown_put path row seen h q = subst (λ (o : Option SeenAt). Most o) (sym (value_put q path (seen_after (resource_held path held) row) seen)) (by_name (bytes_eq q path) refl) where
    Most : Option SeenAt → Type 0
    Most o =
        AtMost (option_and_then (λ s. s.physical) o) (option_and_then (λ s. s.physical) (value_at q (held_seen held)))
        × AtMost (option_and_then (λ s. s.attrs) o) (option_and_then (λ s. s.attrs) (value_at q (held_seen held)))

    by_name : (b : Bool) → bytes_eq q path ≡ b → Most (cond b (Some (seen_after (resource_held path held) row)) (value_at q seen))
    by_name true e =
        subst (λ (o : Option SeenAt). IsAtMost (seen_after (resource_held path held) row) o)
        (sym (ap (λ p. value_at p (held_seen held)) ((bytes_eq-Decides q path).0 e) ∙ held_there path held)) (at_most (resource_held path held) row)
    by_name false e = h q

  module _ (schemas : List Schema) (source : Source) (shape : Shape) where
    shown_with : (f : RowsFound) (w : Wanted) → ShowsLess f.seen (held_seen held) → ShowsLess (found_with schemas held f w).seen (held_seen held)
    shown_with f w h = by_kind (is_other_kind (resource_held w.path held) w) where
      by_kind : (b : Bool) → ShowsLess (cond b
          (record f { clash = f.clash ++ w.path ∷ []; seen = put w.path (seen_after (resource_held w.path held) None) f.seen })
          (record f { rows = f.rows ++ row_list (row_for schemas (resource_held w.path held) w); seen = put w.path (seen_after (resource_held w.path held) (row_for schemas (resource_held w.path held) w)) f.seen })).seen (held_seen held)
      by_kind true = shown_put w.path None f.seen h
      by_kind false = shown_put w.path (row_for schemas (resource_held w.path held) w) f.seen h

    shown_next : (f : RowsFound) (m : Member) → ShowsLess f.seen (held_seen held) → ShowsLess (found_next schemas held source shape f m).seen (held_seen held)
    shown_next f m h = by_value (props_at source shape f.seen m.path) where
      by_value : (o : Option Evaluated) → ShowsLess (option_map_or (λ v. found_with schemas held f (wanted_of (m, v))) o f).seen (held_seen held)
      by_value None = h
      by_value (Some v) = shown_with f (wanted_of (m, v)) h

    shown_along : (f : RowsFound) (ms : List Member) → ShowsLess f.seen (held_seen held) → ShowsLess (fold (found_next schemas held source shape) f ms).seen (held_seen held)
    shown_along f [] h = h
    shown_along f (m ∷ ms) h = shown_along (found_next schemas held source shape f m) ms (shown_next f m h)

pub held_shows_more : HeldShowsMore
held_shows_more schemas held source =
    less_more (found_of schemas held source).seen (held_seen held)
    (shown_along held schemas source (shape_of source (held_seen held)) (record { rows = []; seen = []; clash = [] }) (resources_in (shape_of source (held_seen held))) (λ path. (inl refl, inl refl)))

pub shape_is_held : ShapeIsHeld
shape_is_held schemas held source none =
    let seen = (found_of schemas held source).seen in
    sym (shape_stays source seen (held_seen held) (held_shows_more schemas held source) (flawless_clear source (shape_of source seen) seen none))
