-- The create that is found by places is the one that comes next while a creation goes forward.
use Rattle.std.proofs.Common.{◌≡◌, ℕ, zero, suc, ◌+◌, ◌==◌, ◌<◌, arith, Bool, true, false, ◌&&◌, ◌||◌, not, List, [], ◌∷◌, ◌++◌, Option, Some, None, Result, Ok, Err, IfOk, append_assoc, cond, fold, flat_map, get_or, length, option_map, replicate, refl, ap, sym, ◌∙◌, subst, true≢false}
use Rattle.std.specs.Prelude.{⊤, option_and_then}
use Rattle.std.specs.List.{AllByRecursion, filter_map, list_all, list_any, slice_get}
use Rattle.std.specs.Option.{option_copied, option_map_or}
use Rattle.std.proofs.lemmas.List.{append-nil}
use Rattle.std.proofs.lemmas.Option.{slice_get_within}
use Rattle.cf_tree.specs.Datum.{Data}
use Rattle.cf_tree.specs.Keys.{ascends, value_at}
use Rattle.cf_tree.specs.Lists.{In, here}
use Rattle.cf_schema.specs.declared.described.Schema.{Schema}
use Rattle.cf_desired.specs.declared.flaw.Flaw.{Flaw}
use Rattle.cf_desired.specs.declared.wanted.Evaluated.{Evaluated}
use Rattle.cf_desired.specs.declared.wanted.Evaluated.TheVariants as evaluated
use Rattle.cf_entry.proofs.Codec.{some_is}
use Rattle.cf_effect.specs.declared.call.Call.{Call}
use Rattle.cf_effect.specs.declared.findings.Findings.{Findings}
use Rattle.cf_effect.specs.declared.findings.Found.{Found}
use Rattle.cf_effect.specs.declared.held.Held.{Held}
use Rattle.cf_effect.specs.declared.layout.Layout.{Layout}
use Rattle.cf_effect.specs.declared.layout.Placed.{Placed}
use Rattle.cf_effect.specs.declared.ahead.Ahead.{Ahead}
use Rattle.cf_effect.specs.Ahead.{IsAhead, is_right, is_sound, is_update_of}
use Rattle.cf_effect.specs.Findings.{AreFindings}
use Rattle.cf_effect.specs.Layout.{IsLayoutOf}
use Rattle.cf_effect.specs.Status.{Forward, stage_of}
use Rattle.cf_effect.specs.Words.{is_update}
use Rattle.cf_effect.specs.World.{StackState, World}
use Rattle.cf_plan.specs.Causes.{IsFailureOf, or_path}
use Rattle.cf_plan.specs.Failed.{least}
use Rattle.cf_plan.specs.Follow.{is_free}
use Rattle.cf_plan.specs.Forward.{AllDone, HasFailed}
use Rattle.cf_plan.specs.PathStates.{AreStatesOf, are_done_at, are_enough, create_of, done_by_places, finding_in, flaw_seen, is_as_wanted, is_done_at, is_done_by, is_enough, is_read, ready_flaw, starts_from, update_of, with_done}
use Rattle.cf_plan.specs.Start.{Start}
use Rattle.cf_plan.specs.Starts.{AreOpen, start_of}
use Rattle.cf_plan.specs.StatesKept.{AreRead, IsRead, at_place, finding_from, finding_kept, marked_at, marks_of, with_mark}
use Rattle.cf_plan.specs.declared.cause.Failure.TheVariants.{Nothing}
use Rattle.cf_plan.specs.declared.path_state.PathFinding.{PathFinding}
use Rattle.cf_plan.specs.declared.path_state.PathFinding.TheVariants as it
use Rattle.cf_plan.specs.declared.path_state.PathState.{PathState}
use Rattle.cf_plan.proofs.Calm.{none_fails}
use Rattle.cf_plan.proofs.NoneNested.{none_by}
use Rattle.cf_plan.proofs.Members.{in_none}
use Rattle.cf_plan.proofs.StatesOpen.{are_open_by, failed_on_the_way}
use Rattle.cf_plan.proofs.StatesRead.{read_so}
use Rattle.cf_next.specs.declared.step.Next.{Next}
use Rattle.cf_next.specs.Chosen.{IsChosen}
use Rattle.cf_next.specs.Creation.{GoesAhead, are_made, are_sound, create_at, creates_of_rows, creates_of, first_named, found_at, is_made_at, is_sound_row, known_at}
use Rattle.cf_next.specs.Repeats.{AreRepeatsBut}
use Rattle.cf_next.specs.First.{call_in, fits_one, homes_now, is_start_before}
use Rattle.cf_next.specs.Rollback.{IsTaken}
use Rattle.cf_next.proofs.Advancing.{is_going}
use Rattle.cf_next.proofs.FirstBegun.{new_chosen}
use Rattle.cf_next.proofs.FirstNamed.{first_by_name}
use Rattle.cf_next.proofs.Firsts.{IsFirst, starts_in_order}
use denote.Ref.{Bor}

-- What is read of a path by its place.
abbrev lent : {A : Type 0} → A → Bor A
lent a = record { ref_ptr = (0, 0); now = a }

abbrev finding_by : List ℕ → Evaluated → Option (List (List ℕ × Data)) → PathFinding
finding_by kind (evaluated.Flawed flaw) known = it.Bad (lent flaw)
finding_by kind (evaluated.Known props) None = it.Later
finding_by kind (evaluated.Known props) (Some known) = it.Known (lent kind) (lent known)

abbrev finding_at : List ℕ → Option Found → PathFinding
finding_at kind None = it.Unread
finding_at kind (Some e) = finding_by kind e.evaluated e.known

kept_by : (kind : List ℕ) (e : Evaluated) (known : Option (List (List ℕ × Data))) → finding_in (finding_by kind e known) ≡ Some (finding_from kind e known)
kept_by kind (evaluated.Flawed flaw) known = refl
kept_by kind (evaluated.Known props) None = refl
kept_by kind (evaluated.Known props) (Some known) = refl

kept_so : (kind : List ℕ) (o : Option Found) → finding_in (finding_at kind o) ≡ finding_kept kind o
kept_so kind None = refl
kept_so kind (Some e) = kept_by kind e.evaluated e.known

copied_lent : {A : Type 0} (o : Option A) → option_copied (option_map lent o) ≡ o
copied_lent None = refl
copied_lent (Some a) = refl

-- a path whose properties are sound where it is ready: it is read, has no flaw, and the create of what is known
abbrev IsSoundOr : Bool → Option Found → Type 0
IsSoundOr ready o = (not ready || is_sound o) ≡ true

read_by : (kind : List ℕ) (e : Evaluated) (known : Option (List (List ℕ × Data))) → is_read (finding_by kind e known) ≡ true
read_by kind (evaluated.Flawed flaw) known = refl
read_by kind (evaluated.Known props) None = refl
read_by kind (evaluated.Known props) (Some known) = refl

or_not : (a : Bool) → a ≡ true → (b : Bool) → (a || b) ≡ true
or_not a e b = rw e refl

row_read : (kind : List ℕ) (ready : Bool) (o : Option Found) → IsSoundOr ready o → (is_read (finding_at kind o) || not ready) ≡ true
row_read kind ready None t = none ready t where
  none : (r : Bool) → (not r || false) ≡ true → not r ≡ true
  none true e = absurd (true≢false (sym e))
  none false e = refl
row_read kind ready (Some e) t = or_not (is_read (finding_by kind e.evaluated e.known)) (read_by kind e.evaluated e.known) (not ready)

no_flaw_by : (kind : List ℕ) (e : Evaluated) (known : Option (List (List ℕ × Data))) → is_right e ≡ true → flaw_seen (finding_by kind e known) ≡ None
no_flaw_by kind (evaluated.Flawed flaw) known t = absurd (true≢false (sym t))
no_flaw_by kind (evaluated.Known props) None t = refl
no_flaw_by kind (evaluated.Known props) (Some known) t = refl

no_flaw : (path kind : List ℕ) (ready : Bool) (o : Option Found) → IsSoundOr ready o
    → cond ready (option_map {U = List ℕ × Flaw} (λ (f : Flaw). (path, f)) (flaw_seen (finding_at kind o))) None ≡ None
no_flaw path kind false o t = refl
no_flaw path kind true None t = refl
no_flaw path kind true (Some e) t = ap (λ (o : Option Flaw). option_map {U = List ℕ × Flaw} (λ (f : Flaw). (path, f)) o) (no_flaw_by kind e.evaluated e.known t)

module _ (schemas : List Schema) (s : StackState) (path kind : List ℕ) (answered : Bool) where
  abbrev starts_over : PathFinding → Option Held → List Start
  starts_over found held = start_of path (create_of schemas s found held) ++ start_of path (update_of schemas found answered held)

  create_by : (e : Evaluated) (known : Option (List (List ℕ × Data))) → is_right e ≡ true → starts_over (finding_by kind e known) None ≡ create_at path kind known
  create_by (evaluated.Flawed flaw) known t = absurd (true≢false (sym t))
  create_by (evaluated.Known props) None t = refl
  create_by (evaluated.Known props) (Some known) t = refl

  row_creates : (held : Option Held) → held ≡ None → (made done ready free : Bool) → done ≡ made → (o : Option Found) → IsSoundOr ready o
      → cond (not done && (ready && free)) (starts_over (finding_at kind o) held) [] ≡ cond (not made && (ready && free)) (create_at path kind (option_and_then (λ e. e.known) o)) []
  row_creates held none made done ready free same o t =
      ap (λ h. cond (not done && (ready && free)) (starts_over (finding_at kind o) h) []) none
      ∙ ap (λ d. cond (not d && (ready && free)) (starts_over (finding_at kind o) None) []) same ∙ by made ready free o t where
        by : (made ready free : Bool) (o : Option Found) → IsSoundOr ready o
            → cond (not made && (ready && free)) (starts_over (finding_at kind o) None) [] ≡ cond (not made && (ready && free)) (create_at path kind (option_and_then (λ e. e.known) o)) []
        by true ready free o t = refl
        by false false free o t = refl
        by false true false o t = refl
        by false true true None t = refl
        by false true true (Some e) t = create_by e.evaluated e.known t

-- what holds at each row, the first of which has a place
abbrev HoldsFrom : (ℕ → Placed → Type 0) → ℕ → List Placed → Type 0
HoldsFrom P at [] = ⊤
HoldsFrom P at (row ∷ rows) = P at row × HoldsFrom P (suc at) rows

everywhere : (P : ℕ → Placed → Type 0) (rows : List Placed) (first : ℕ) → ((k : ℕ) (row : Placed) → slice_get rows k ≡ Some row → P (first + k) row) → HoldsFrom P first rows
everywhere P [] first h = tt
everywhere P (row ∷ rows) first h = (
  subst (λ k. P k row) (let e : first + 0 ≡ first = omega arith in e) (h 0 row refl),
  everywhere P rows (suc first) (λ k r e. subst (λ j. P j r) (let n : first + suc k ≡ suc first + k = omega arith in n) (h (suc k) r e)),
)

module _ (s : StackState) (l : Layout) (f : Findings) (layout : IsLayoutOf s (Some l)) (finds : AreFindings s f) where
  abbrev rows : List Placed
  rows = l.rows.items

  abbrev updated : List Bool
  updated = marks_of (length l.rows.items) l.places true s.operation s.ledger

  abbrev answered : List Bool
  answered = marks_of (length l.rows.items) l.places false s.operation s.ledger

  abbrev state_at : ℕ → Placed → PathState
  state_at at row = record {
    path = lent row.path;
    place = at;
    needs = lent row.needs.items;
    is_made = is_made_at f at;
    is_updated = is_done_at updated at;
    is_answered = is_done_at answered at;
    held = option_map lent (option_and_then (slice_get s.held) (at_place f.held.items at));
    found = finding_at row.kind (found_at f at);
  }

  abbrev states_from : ℕ → List Placed → List PathState
  states_from at [] = []
  states_from at (row ∷ rest) = state_at at row ∷ states_from (suc at) rest

  row_is : (at : ℕ) (row : Placed) → IsRead f updated answered s.held at row (state_at at row)
  row_is at row = record {
    path = refl;
    place = refl;
    needs = refl;
    made = refl;
    updated = refl;
    answered = refl;
    held = copied_lent (option_and_then (slice_get s.held) (at_place f.held.items at));
    found = kept_so row.kind (found_at f at);
  }

  rows_are : (rest : List Placed) (at : ℕ) → AreRead f updated answered s.held at rest (states_from at rest)
  rows_are [] at = tt
  rows_are (row ∷ rest) at = (row_is at row, rows_are rest (suc at))

  abbrev states : List PathState
  states = states_from 0 l.rows.items

  are : AreStatesOf s states
  are = read_so s l f s.operation s.ledger updated answered s.held l.rows.items states layout finds refl refl refl refl refl refl (rows_are l.rows.items 0)

  abbrev done : List Bool
  done = done_by_places states

  module _ (out : List ℕ) (goes : GoesAhead out s) where
    -- no path is updated, and nothing is held
    no_marks : (cs : List Call) → list_any (is_update_of s.operation) cs ≡ false → (marks : List Bool)
        → fold (with_mark l.places true s.operation) marks cs ≡ marks
    no_marks [] h marks = refl
    no_marks (c ∷ cs) h marks =
        ap (λ ms. fold (with_mark l.places true s.operation) ms cs) (unmarked (c.number == s.operation) (is_update c.request) _ (parts (is_update_of s.operation c) _ h).0)
        ∙ no_marks cs (parts (is_update_of s.operation c) _ h).1 marks
      where
        parts : (a b : Bool) → (a || b) ≡ false → (a ≡ false) × (b ≡ false)
        parts true b e = absurd (true≢false e)
        parts false b e = (refl, e)

        unmarked : (a u g : Bool) → (a && u) ≡ false → cond (a && (u && g)) (marked_at marks (value_at c.path l.places)) marks ≡ marks
        unmarked true true g e = absurd (true≢false e)
        unmarked true false g e = refl
        unmarked false u g e = refl

    none_marked : (n k : ℕ) → is_done_at (replicate n false) k ≡ false
    none_marked zero k = refl
    none_marked (suc n) zero = refl
    none_marked (suc n) (suc k) = none_marked n k

    not_updated : (at : ℕ) → is_done_at updated at ≡ false
    not_updated at =
        ap (λ ms. is_done_at ms at) (no_marks s.ledger goes.forth.updates (replicate (length l.rows.items) false)) ∙ none_marked (length l.rows.items) at

    none_held : (o : Option ℕ) → option_copied (option_map lent (option_and_then (slice_get s.held) o)) ≡ None
    none_held o = copied_lent (option_and_then (slice_get s.held) o) ∙ ap (λ hs. option_and_then (slice_get hs) o) goes.forth.held ∙ by o where
      by : (o : Option ℕ) → option_and_then (slice_get (let none : List Held = [] in none)) o ≡ None
      by None = refl
      by (Some k) = refl

    -- so a path is done where it is made
    done_made : (marks : List Bool) (at : ℕ) (row : Placed) → is_done_by marks (state_at at row) ≡ is_made_at f at
    done_made marks at row =
        by (is_made_at f at) (is_done_at updated at) (are_done_at marks row.needs.items) (is_as_wanted (finding_at row.kind (found_at f at)) (option_copied (state_at at row).held))
        (not_updated at) (ap (is_as_wanted (finding_at row.kind (found_at f at))) (none_held (at_place f.held.items at)))
      where
        by : (m u d w : Bool) → u ≡ false → w ≡ false → (m || (u || (d && w))) ≡ m
        by true u d w e g = refl
        by false u true w e g = rw (e, g) refl
        by false u false w e g = rw e refl

    abbrev made_from : ℕ → List Placed → List Bool
    made_from at [] = []
    made_from at (row ∷ rest) = is_made_at f at ∷ made_from (suc at) rest

    passed : (rest : List Placed) (at : ℕ) (marks : List Bool) → fold with_done marks (states_from at rest) ≡ marks ++ made_from at rest
    passed [] at marks = sym (append-nil marks)
    passed (row ∷ rest) at marks =
        passed rest (suc at) (with_done marks (state_at at row))
        ∙ ap (λ b. (marks ++ b ∷ []) ++ made_from (suc at) rest) (done_made marks at row)
        ∙ append_assoc marks (is_made_at f at ∷ []) (made_from (suc at) rest)

    made_within : (rest : List Placed) (at k : ℕ) → k < length rest → is_done_at (made_from at rest) k ≡ is_made_at f (at + k)
    made_within [] at k h = absurd (omega (arith, h))
    made_within (row ∷ rest) at zero h = ap (is_made_at f) (let e : at ≡ at + 0 = omega arith in e)
    made_within (row ∷ rest) at (suc k) h =
        made_within rest (suc at) k (omega (arith, h)) ∙ ap (is_made_at f) (let e : suc at + k ≡ at + suc k = omega arith in e)

    done_at : (k : ℕ) → k < length l.rows.items → is_done_at done k ≡ is_made_at f k
    done_at k h = ap (λ marks. is_done_at marks k) (passed l.rows.items 0 []) ∙ made_within l.rows.items 0 k h ∙ ap (is_made_at f) (let e : 0 + k ≡ k = omega arith in e)

    record IsSame (at : ℕ) (row : Placed) : Type 0 where
      made : is_done_at done at ≡ is_made_at f at
      needs : are_done_at done row.needs.items ≡ are_made f row.needs.items

    same_needs : (at : ℕ) → at < length l.rows.items → (js : List ℕ) → AllByRecursion (λ k. k < at) js → are_done_at done js ≡ are_made f js
    same_needs at h [] e = refl
    same_needs at h (j ∷ js) e =
        let less = e.0 in
        ap (λ b. b && are_done_at done js) (done_at j (omega (arith, less, h))) ∙ ap (λ b. is_made_at f j && b) (same_needs at h js e.1)

    same_at : (at : ℕ) (row : Placed) → slice_get l.rows.items at ≡ Some row → IsSame at row
    same_at at row is =
        let within = slice_get_within l.rows.items at row is in
        record {
          made = done_at at within;
          needs = same_needs at within row.needs.items
              (subst (λ (o : Option Placed). AllByRecursion (λ k. k < at) (option_map_or (λ r. r.needs.items) o [])) is (layout.earlier at));
        }

    all_same : HoldsFrom IsSame 0 l.rows.items
    all_same = everywhere IsSame l.rows.items 0 (λ k row e. subst (λ at. IsSame at row) (let n : k ≡ 0 + k = omega arith in n) (same_at k row e))

    both : (a b : Bool) → (a && b) ≡ true → (a ≡ true) × (b ≡ true)
    both true true e = (refl, refl)
    both true false e = absurd (true≢false (sym e))
    both false b e = absurd (true≢false (sym e))

    sound_so : (at : ℕ) (row : Placed) → IsSame at row → is_sound_row f at row ≡ true → IsSoundOr (are_done_at done row.needs.items) (found_at f at)
    sound_so at row same t = subst (λ b. IsSoundOr b (found_at f at)) (sym same.needs) t

    all_enough : (rest : List Placed) (at : ℕ) → HoldsFrom IsSame at rest → are_sound f at rest ≡ true → list_all (is_enough done) (states_from at rest) ≡ true
    all_enough [] at h t = refl
    all_enough (row ∷ rest) at h t =
        let k = both (is_sound_row f at row) (are_sound f (suc at) rest) t in
        rw (row_read row.kind (are_done_at done row.needs.items) (found_at f at) (sound_so at row h.0 k.0)) (all_enough rest (suc at) h.1 k.1)

    none_flawed : (rest : List Placed) (at : ℕ) → HoldsFrom IsSame at rest → are_sound f at rest ≡ true → filter_map (ready_flaw done) (states_from at rest) ≡ []
    none_flawed [] at h t = refl
    none_flawed (row ∷ rest) at h t =
        let k = both (is_sound_row f at row) (are_sound f (suc at) rest) t in
        rw (no_flaw row.path row.kind (are_done_at done row.needs.items) (found_at f at) (sound_so at row h.0 k.0)) (none_flawed rest (suc at) h.1 k.1)

    all_creates : (schemas : List Schema) (rest : List Placed) (at : ℕ) → HoldsFrom IsSame at rest → are_sound f at rest ≡ true
        → flat_map (starts_from schemas s done) (states_from at rest) ≡ creates_of_rows s f at rest
    all_creates schemas [] at h t = refl
    all_creates schemas (row ∷ rest) at h t =
        let k = both (is_sound_row f at row) (are_sound f (suc at) rest) t in
        ap (λ xs. xs ++ flat_map (starts_from schemas s done) (states_from (suc at) rest)) (one at row h.0 k.0)
        ∙ ap (λ xs. creates_of s f at row ++ xs) (all_creates schemas rest (suc at) h.1 k.1)
      where
        one : (at : ℕ) (row : Placed) → IsSame at row → is_sound_row f at row ≡ true → starts_from schemas s done (state_at at row) ≡ creates_of s f at row
        one at row same t =
            row_creates schemas s row.path row.kind (is_done_at answered at) (option_copied (state_at at row).held) (none_held (at_place f.held.items at))
            (is_made_at f at) (is_done_at done at) (are_done_at done row.needs.items) (is_free row.path s) same.made (found_at f at) (sound_so at row same t)
            ∙ ap (λ b. cond (not (is_made_at f at) && (b && is_free row.path s)) (create_at row.path row.kind (known_at f at)) []) same.needs

    -- What is found is the first that may begin.
    module _ (x : World) (sound : are_sound f 0 l.rows.items ≡ true) (schemas : List Schema) (name : List ℕ) where
      enough : are_enough done states ≡ true
      enough = all_enough l.rows.items 0 all_same sound

      abbrev creates : List Start
      creates = creates_of_rows s f 0 l.rows.items

      are_open : AreOpen schemas s creates
      are_open = subst (AreOpen schemas s) (all_creates schemas l.rows.items 0 all_same sound) (are_open_by s states are enough schemas)

      left : (a : Start) → In a creates → AllDone s → ⊥
      left a i all = let w = (are_open a.path a.request).1 i in w.1 (all a.path w.0.0)

      good : (a : Start) → In a creates → HasFailed schemas name x s → ⊥
      good a i =
          subst (λ fs. IsFailureOf schemas name x s (or_path (least fs) Nothing)) (none_flawed l.rows.items 0 all_same sound)
          (failed_on_the_way s states are enough schemas name x (none_fails schemas s goes.forth.setbacks) (none_by s goes.forth.nested) (left a i))

      chosen : (a : Start) → IsFirst is_start_before starts_in_order (fits_one (homes_now out x)) (λ b. In b creates) (Some a)
          → (n : Next) → call_in (homes_now out x) (x.token + 1) a ≡ Some n → IsChosen schemas name x out s Forward n
      chosen a first n c =
          let offer = is_going schemas name x out s (ap stage_of goes.forth.creates) (good a first.0) creates are_open false
          (λ t. absurd (true≢false (sym t)), λ all. absurd (left a first.0 all)) [] (goes.idle schemas name x Forward refl (good a first.0)) in
          new_chosen schemas name x out s Forward _ offer (λ q i. absurd (in_none i)) (Some a) None first (λ j i. absurd (in_none i)) n c

-- by what is kept
module _ (s : StackState) (f : Findings) (k : Ahead) (ahead : IsAhead s f.made.items f.found.items k) where
  all_sound : ((at : ℕ) → get_or k.readiness.unsound at false ≡ false) → are_sound f 0 k.layout.rows.items ≡ true
  all_sound none = from 0 k.layout.rows.items (λ i row h. ap (slice_get k.layout.rows.items) (let n : 0 + i ≡ i = omega arith in n) ∙ h) where
    one : (made sound : Bool) → (made && not sound) ≡ false → (not made || sound) ≡ true
    one true true e = refl
    one true false e = absurd (true≢false e)
    one false sound e = refl

    from : (first : ℕ) (rows : List Placed) → ((i : ℕ) (row : Placed) → slice_get rows i ≡ Some row → slice_get k.layout.rows.items (first + i) ≡ Some row)
        → are_sound f first rows ≡ true
    from first [] h = refl
    from first (row ∷ rows) h =
        let here : slice_get k.layout.rows.items first ≡ Some row = ap (slice_get k.layout.rows.items) (let n : first ≡ first + 0 = omega arith in n) ∙ h 0 row refl in
        let sound : is_sound_row f first row ≡ true =
        one (are_made f row.needs.items) (is_sound (found_at f first)) (sym (ahead.ready.flags first row here).unsound ∙ none first) in
        ap (λ b. b && are_sound f (suc first) rows) sound
        ∙ from (suc first) rows (λ i r e. ap (slice_get k.layout.rows.items) (let n : suc first + i ≡ first + suc i = omega arith in n) ∙ h (suc i) r e)

pub create_taken : {E : Type 0} (out : List ℕ) (x : World) (s : StackState) (f : Findings) (k : Ahead) (lanes : List (List ℕ × List ℕ)) (a : Start)
    (res : Result (Option Next) E) → IsAhead s f.made.items f.found.items k → AreFindings s f → ((at : ℕ) → get_or k.readiness.unsound at false ≡ false)
    → AreRepeatsBut [] out s [] → ascends k.layout.places ≡ true → lanes ≡ homes_now out x → first_named lanes s k.layout f k.layout.places ≡ Some a
    → IfOk res (λ n. n ≡ call_in lanes (x.token + 1) a) → IfOk res (IsTaken out x s)
create_taken out x s f k lanes a (Err e) ahead finds none idle order h g c = tt
create_taken out x s f k lanes a (Ok None) ahead finds none idle order h g c = tt
create_taken out x s f k lanes a (Ok (Some n)) ahead finds none idle order h g c = λ schemas name stage at.
    let forward : Forward ≡ stage = some_is Forward stage (sym (ap stage_of ahead.forth.creates) ∙ at) in
    subst (λ stage. IsChosen schemas name x out s stage n) forward
    (chosen s k.layout f ahead.rows finds out (record { forth = ahead.forth; idle = idle }) x (all_sound s f k ahead none) schemas name a
    (first_by_name (homes_now out x) s k.layout f order ahead.rows finds a (ap (λ hs. first_named hs s k.layout f k.layout.places) (sym h) ∙ g)) n
    (ap (λ hs. call_in hs (x.token + 1) a) (sym h) ∙ sym c))
