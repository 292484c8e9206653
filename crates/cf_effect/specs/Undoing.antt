-- A creation that is rolled back, and which of its resources may be deleted, as is kept beside its stack (this project's own).
use Rattle.std.specs.Prelude.{◌≡◌, ℕ, ◌==◌, ◌&&◌, Bool, true, false, List, [], ◌∷◌, ◌++◌, Option, Some, None, IfSome, length, map, set, slice_index_or, if◌then◌else◌}
use Rattle.std.specs.List.{list_any, slice_get}
use Rattle.std.specs.Option.{option_and_then, option_map_or}
use Rattle.cf_tree.specs.Keys.{value_at}
use Rattle.cf_tree.specs.Lists.{In}
use Rattle.cf_tree.specs.declared.code.Code.TheVariants as code
use Rattle.cf_tree.specs.declared.request.Request.{Request}
use Rattle.cf_tree.specs.declared.request.Request.TheVariants as request
use Rattle.cf_tree.specs.declared.template.Deletion.TheVariants as deletion
use Rattle.cf_entry.specs.declared.entry.Reply.{Reply}
use Rattle.cf_entry.specs.declared.entry.Reply.TheVariants as reply
use Rattle.cf_entry.specs.declared.status.Status.TheVariants as status
use Rattle.cf_effect.specs.declared.ahead.Way.TheVariants.{Back}
use Rattle.cf_effect.specs.declared.call.Call.{Call}
use Rattle.cf_effect.specs.declared.held.Held.{Held}
use Rattle.cf_effect.specs.declared.held.Pending.{Pending}
use Rattle.cf_effect.specs.declared.layout.Layout.{Layout}
use Rattle.cf_effect.specs.declared.undoing.Undoing.{Undoing}
use Rattle.cf_effect.specs.Ahead.{IsReadiness, Touches, waiting_for}
use Rattle.cf_effect.specs.Following.{with_place}
use Rattle.cf_effect.specs.Layout.{AreRows, is_place, source_members}
use Rattle.cf_effect.specs.Words.{deletes, has_token}
use Rattle.cf_effect.specs.World.{StackState}

-- a call of an operation that deletes a resource
abbrev pub is_deletion_of : ℕ → List ℕ → Call → Bool
is_deletion_of number physical c = c.number == number && deletes physical c.request

-- the physical id that is kept at a place; where none is, nothing of the path is left
abbrev pub id_at : List (Option (List ℕ)) → ℕ → Option (List ℕ)
id_at ids at = option_and_then (λ id. id) (slice_get ids at)

abbrev pub gone_if : Option (List ℕ) → Option ℕ
gone_if None = Some 0
gone_if (Some id) = None

-- the resource is that of its path, and not to be retained
pub record IsPlain (h : Held) : Type 0 where
  pub current : h.superseded ≡ false
  pub deleted : h.deletion ≡ deletion.Retain → ⊥

-- each resource is plain, and stands by its id at the place of its path; nothing else does
pub record AreIds (made : List Held) (l : Layout) (ids : List (Option (List ℕ))) : Type 0 where
  pub count : length ids ≡ length l.rows.items
  pub plain : (h : Held) → In h made → IsPlain h
  pub there : (h : Held) → In h made → (at : ℕ) × (value_at h.path l.places ≡ Some at) × (id_at ids at ≡ Some h.physical)
  pub stands : (at : ℕ) (id : List ℕ) → id_at ids at ≡ Some id → (h : Held) × In h made × (h.physical ≡ id) × (value_at h.path l.places ≡ Some at)

abbrev pub AreApart : List (Option (List ℕ)) → Type 0
AreApart ids = (at other : ℕ) (id : List ℕ) → id_at ids at ≡ Some id → id_at ids other ≡ Some id → at ≡ other

-- the place of its path is free for a plain resource; and its id is put there
pub record IsFreeFor (l : Layout) (ids : List (Option (List ℕ))) (h : Held) (at : ℕ) : Type 0 where
  pub plain : IsPlain h
  pub place : value_at h.path l.places ≡ Some at
  pub free : slice_get ids at ≡ Some None

abbrev pub PutsId : Layout → Held → List (Option (List ℕ)) → List (Option (List ℕ)) → Type 0
PutsId l h old new = (at : ℕ) × IsFreeFor l old h at × (new ≡ set old at (Some h.physical))

-- an id is found first at its place
abbrev pub is_first : List (List ℕ × ℕ) → ℕ → Option (List ℕ) → Bool
is_first places at None = true
is_first places at (Some id) = option_map_or (λ first. first == at) (value_at id places) false

abbrev pub AreFirst : List (Option (List ℕ)) → List (List ℕ × ℕ) → Type 0
AreFirst ids places = (at : ℕ) (id : List ℕ) → id_at ids at ≡ Some id → value_at id places ≡ Some at

-- where a resource stands it is marked just where one of these calls of an operation deletes it
abbrev pub AreTried : ℕ → List Call → List (Option (List ℕ)) → List Bool → Type 0
AreTried number calls ids tried =
    (at : ℕ) (id : List ℕ) → id_at ids at ≡ Some id → slice_index_or tried at false ≡ list_any (is_deletion_of number id) calls

-- it is marked where the resource stands that a call of an operation deletes
abbrev pub with_request : List (List ℕ × ℕ) → List Bool → Request → List Bool
with_request places tried (request.Delete id) = option_map_or (λ at. set tried at true) (value_at id places) tried
with_request places tried r = tried

abbrev pub with_call : ℕ → List (List ℕ × ℕ) → List Bool → Call → List Bool
with_call number places tried c = if c.number == number then with_request places tried c.request else tried

-- a creation is rolled back that holds nothing from before; and what is kept of it
pub record RollsBack (s : StackState) : Type 0 where
  pub back : s.status ≡ status.RollbackInProgress
  pub held : s.held ≡ []

pub record IsUndoing (s : StackState) (u : Undoing) : Type 0 where
  pub rolls : RollsBack s
  pub rows : AreRows (source_members s) u.layout
  pub ids : AreIds s.made u.layout u.ids.items
  pub apart : AreApart u.ids.items
  pub marks : length u.tried.items ≡ length u.ids.items
  pub tried : AreTried s.operation s.ledger u.ids.items u.tried.items
  pub gone : u.gone.items ≡ map gone_if u.ids.items
  pub ready : IsReadiness Back u.layout u.gone.items [] u.readiness

-- an id stands at the place of a path
pub record StandsAt (u : Undoing) (path id : List ℕ) (at : ℕ) : Type 0 where
  pub place : value_at path u.layout.places ≡ Some at
  pub stands : id_at u.ids.items at ≡ Some id

-- a request deletes what stands at the place of a path
pub record DeletesAt (u : Undoing) (path : List ℕ) (r : Request) (at : ℕ) : Type 0 where
  pub id : List ℕ
  pub asked : r ≡ request.Delete id
  pub stands : StandsAt u path id at

-- the operation's deletion of what stands at the place of its path is to go out, under a token of its own
pub record IsTriedAt (number : ℕ) (p : Pending) (s : StackState) (u : Undoing) (at : ℕ) : Type 0 where
  pub own : (number == s.operation) ≡ true
  pub fresh : list_any (has_token p.token) s.tokens ≡ false
  pub deletes : DeletesAt u p.path p.request at

-- the resource at a place is deleted
pub record TakesOff (at : ℕ) (old new : Undoing) : Type 0 where
  pub layout : new.layout ≡ old.layout
  pub ids : new.ids.items ≡ set old.ids.items at None
  pub gone : new.gone.items ≡ with_place at 0 old.gone.items
  pub tried : new.tried ≡ old.tried
  pub ready : Touches Back old.layout new.gone.items [] (λ k. is_place k (waiting_for Back old.layout at ++ at ∷ []) ≡ true) old.readiness new.readiness

-- an answer completes a deletion
abbrev pub completes_deletion : Reply → Bool
completes_deletion (reply.Success named attrs) = true
completes_deletion (reply.Failed code.NotFound) = true
completes_deletion answer = false

abbrev pub TakesOffIf : Bool → ℕ → Undoing → Undoing → Type 0
TakesOffIf true at old new = TakesOff at old new
TakesOffIf false at old new = new ≡ old

-- an answer to the deletion of what stands at the place of its path: that stays after a refusal and a doubt
pub record Undoes (p : Pending) (answer : Reply) (old new : Undoing) : Type 0 where
  pub at : ℕ
  pub deletes : DeletesAt old p.path p.request at
  pub left : TakesOffIf (completes_deletion answer) at old new
