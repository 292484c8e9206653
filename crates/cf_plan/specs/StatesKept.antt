-- What is known of each path, as it is read off the layout of a source, the findings that its stack keeps, and the calls of its
-- operation (this project's own).
use Rattle.std.specs.Prelude.{◌≡◌, ℕ, ◌==◌, Bool, true, false, ◌&&◌, List, [], ◌∷◌, Option, Some, None, ⊤, fold, is_some, option_and_then, option_map, replicate, set, suc, if◌then◌else◌}
use Rattle.std.specs.List.{slice_get}
use Rattle.std.specs.Option.{option_copied}
use Rattle.cf_tree.specs.Datum.{Data}
use Rattle.cf_tree.specs.Keys.{value_at}
use Rattle.cf_desired.specs.declared.wanted.Evaluated.{Evaluated}
use Rattle.cf_desired.specs.declared.wanted.Evaluated.TheVariants as result
use Rattle.cf_effect.specs.declared.call.Call.{Call}
use Rattle.cf_effect.specs.declared.findings.Findings.{Findings}
use Rattle.cf_effect.specs.declared.findings.Found.{Found}
use Rattle.cf_effect.specs.declared.held.Held.{Held}
use Rattle.cf_effect.specs.declared.layout.Placed.{Placed}
use Rattle.cf_effect.specs.Words.{is_update}
use Rattle.cf_plan.specs.Done.{is_good_update}
use Rattle.cf_plan.specs.Forward.{Finding, Bad, known_or_later}
use Rattle.cf_plan.specs.PathStates.{finding_in, is_done_at}
use Rattle.cf_plan.specs.declared.path_state.PathState.{PathState}

-- Which paths an operation updated, by place: those whose update succeeded, or those whose update was answered.
abbrev pub is_marking : Bool → Call → Bool
is_marking true c = is_good_update c
is_marking false c = is_update c.request && is_some c.answer

abbrev pub marked_at : List Bool → Option ℕ → List Bool
marked_at marks None = marks
marked_at marks (Some place) = set marks place true

abbrev pub with_mark : List (List ℕ × ℕ) → Bool → ℕ → List Bool → Call → List Bool
with_mark places good number marks c =
    if c.number == number && is_marking good c then marked_at marks (value_at c.path places) else marks

-- the place of an update of an operation that was answered
abbrev pub updated_place : List (List ℕ × ℕ) → ℕ → Call → Option ℕ
updated_place places number c = if c.number == number && is_marking false c then value_at c.path places else None

abbrev pub marks_of : ℕ → List (List ℕ × ℕ) → Bool → ℕ → List Call → List Bool
marks_of count places good number calls = fold (with_mark places good number) (replicate count false) calls

-- what is kept at a place
abbrev pub at_place : {A : Type 0} → List (Option A) → ℕ → Option A
at_place xs place = option_and_then (λ x. x) (slice_get xs place)

-- what properties come to, as it is kept
abbrev pub finding_from : List ℕ → Evaluated → Option (List (List ℕ × Data)) → Finding
finding_from kind (result.Flawed flaw) known = Bad flaw
finding_from kind (result.Known props) known = known_or_later kind known

abbrev pub finding_kept : List ℕ → Option Found → Option Finding
finding_kept kind o = option_map (λ e. finding_from kind e.evaluated e.known) o

-- what is read of a row
pub record IsRead (f : Findings) (good told : List Bool) (helds : List Held) (at : ℕ) (row : Placed) (p : PathState) : Type 0 where
  pub path : p.path.now ≡ row.path
  pub place : p.place ≡ at
  pub needs : p.needs.now ≡ row.needs.items
  pub made : p.is_made ≡ is_some (at_place f.made.items at)
  pub updated : p.is_updated ≡ is_done_at good at
  pub answered : p.is_answered ≡ is_done_at told at
  pub held : option_copied p.held ≡ option_and_then (slice_get helds) (at_place f.held.items at)
  pub found : finding_in p.found ≡ finding_kept row.kind (at_place f.found.items at)

-- and of rows from a place on
abbrev pub AreRead : Findings → List Bool → List Bool → List Held → ℕ → List Placed → List PathState → Type 0
AreRead f updated answered held place [] [] = ⊤
AreRead f updated answered held place (row ∷ rows) (p ∷ ps) =
    IsRead f updated answered held place row p × AreRead f updated answered held (suc place) rows ps
AreRead f updated answered held place _ _ = ⊥
