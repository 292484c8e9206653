-- What a change set compares is what was held before, and so the shape stays as the operation goes forward.
use Rattle.std.proofs.Common.{arith, ◌≡◌, ◌∙◌, ℕ, List, ◌∷◌, Bool, not, filter, map, option_map, refl, sym, []}
use Rattle.cf_core.proofs.Words.{Held, IsAdvancing, KeepsRest, Schema, Seen, ShapeStaysAdvancing, Source, StackState, attrs_seen, changes_begun, cond, current_at, held_as, held_before_as, held_seen, hides_attrs, hides_id, id_seen, resource_held, seen_in, seen_now, shape_of, value_at}
use Rattle.cf_core.proofs.Lemmas.{held_there, kept_self, shown_at, stays_forward}

map_if : (b : Bool) (h : Held) (hs : List Held) → map held_as (cond b (h ∷ hs) hs) ≡ cond b (held_as h ∷ map held_as hs) (map held_as hs)
map_if b h hs = grind arith

pub same_found : (path : List ℕ) (hs : List Held) → resource_held path (map held_as (filter (λ h. not h.superseded) hs)) ≡ option_map held_as (current_at path hs)
same_found path [] = refl
same_found path (h ∷ hs) = grind (arith, same_found path hs, map_if)

-- what is compared shows what was held before
pub same_seen : (s : StackState) (path : List ℕ) → value_at path (held_seen (held_before_as s)) ≡ value_at path (seen_in s.before)
same_seen s path = grind (arith, held_there, same_found, shown_at)

module _ (ids attrs : List ℕ → Bool) (s : StackState) where
  pub compared_rest : (now : Seen) → KeepsRest ids attrs (seen_in s.before) now → KeepsRest ids attrs (held_seen (held_before_as s)) now
  compared_rest now rest path = grind (arith, same_seen)

  pub rest_itself : (seen : Seen) → KeepsRest ids attrs seen seen
  rest_itself seen path = (λ e. kept_self (id_seen path seen), λ e. kept_self (attrs_seen path seen))

module _ (schemas : List Schema) (s : StackState) (source : Source) (a : IsAdvancing schemas s source) where
  abbrev ids : List ℕ → Bool
  ids = hides_id (changes_begun schemas s source).rows

  abbrev attrs : List ℕ → Bool
  attrs = hides_attrs (changes_begun schemas s source).rows

  -- over what is compared, what was held before, and what is seen now
  pub shape_before : shape_of source (seen_in s.before) ≡ shape_of source (held_seen (held_before_as s))
  shape_before = stays_forward schemas (held_before_as s) [] [] source (seen_in s.before) a.no_flaw a.no_clash (compared_rest ids attrs s (seen_in s.before) (rest_itself ids attrs s (seen_in s.before)))

  pub shape_now : shape_of source (seen_now s) ≡ shape_of source (held_seen (held_before_as s))
  shape_now = stays_forward schemas (held_before_as s) [] [] source (seen_now s) a.no_flaw a.no_clash (compared_rest ids attrs s (seen_now s) a.rest)

pub shape_stays : ShapeStaysAdvancing
shape_stays schemas s source a = shape_now schemas s source a ∙ sym (shape_before schemas s source a)
