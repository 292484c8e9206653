-- Each call of the forward phase is told by the row of its path.
use Rattle.std.proofs.Common.{◌≡◌, ◌∙◌, ◌⊎◌, inl, inr, ℕ, Bool, true, false, cond, not, ◌&&◌, ◌||◌, List, [], ◌∷◌, ◌++◌, ◌+◌, Option, Some, None, IsTrue, filter, find, map, refl, sym, ap, subst, true≢false, arith}
use Rattle.std.specs.List.{list_any}
use Rattle.std.specs.Option.{option_map_or, unwrap_or}
use Rattle.std.specs.Prelude.{option_map}
use Rattle.std.specs.Str.{bytes_eq}
use Rattle.std.proofs.lemmas.List.Folds.{list_any-append}
use Rattle.cf_tree.specs.Datum.{Data}
use Rattle.cf_tree.specs.declared.request.Request.{Request}
use Rattle.cf_tree.specs.declared.request.Request.TheVariants as request
use Rattle.cf_tree.specs.declared.row.Action.TheVariants as action
use Rattle.cf_tree.specs.declared.row.Detail.{Detail}
use Rattle.cf_tree.specs.declared.row.Replacement.TheVariants as replacement
use Rattle.cf_tree.specs.declared.row.Row.{Row}
use Rattle.cf_tree.specs.declared.source.Source.{Source}
use Rattle.cf_schema.specs.Change.{difference_of}
use Rattle.cf_schema.specs.Kinds.{found}
use Rattle.cf_schema.specs.declared.changed.Difference.TheVariants.{Replace, Update as Changes}
use Rattle.cf_schema.specs.declared.described.Schema.{Schema}
use Rattle.cf_change.specs.Changes.{HeldAt, changes_of, is_empty, is_never, modify_row, policy_details, property_details, resource_held, row_for}
use Rattle.cf_change.specs.Hidden.{hides_attrs, row_hides_attrs}
use Rattle.cf_desired.specs.Plan.{wanted_of}
use Rattle.cf_desired.specs.declared.wanted.Evaluated.TheVariants.{Known as evaluated}
use Rattle.cf_desired.specs.declared.wanted.Wanted.{Wanted}
use Rattle.cf_entry.specs.declared.entry.Begun.{Begun}
use Rattle.cf_entry.specs.declared.entry.Begun.TheVariants as begin
use Rattle.cf_entry.specs.declared.entry.Entry.TheVariants as entry
use Rattle.cf_effect.specs.Fold.{effect_at, stack_for}
use Rattle.cf_effect.specs.World.{StackState, World, known_stack, no_stack, stack_at}
use Rattle.cf_effect.specs.declared.held.Held.{Held}
use Rattle.cf_effect.specs.Words.{current_at}
use Rattle.cf_plan.specs.Accept.{held_as}
use Rattle.cf_plan.specs.Follow.{IntendsForward, WantsNew, WantsUpdate, begins_from, updates_from}
use Rattle.cf_plan.specs.Forward.{IsDone, Known, difference_to, evaluated_at}
use Rattle.cf_plan.proofs.RowsFound.{none_first}
use Rattle.cf_plan.proofs.Replaces.{is_certain, policies_never, replaces, unknown_never}
use Rattle.cf_core.specs.Advancing.{IsAdvancing, changes_begun, held_before_as}
use Rattle.cf_core.specs.Fits.{BecomesBy, at_opening, other, own}
use Rattle.cf_core.specs.Foretold.{BegunIsTold, IntendedIsTold, IsTold, row_at, source_begun}
use Rattle.cf_core.proofs.HidCalls.{IsSaid, SameAt, b, details, difference_is, intended_hidden, it, none_new, resource, said, same_at, w}
use Rattle.cf_core.proofs.HidSeen.{same_found}

-- a detail by which the resource may be replaced
abbrev pub is_replacing : Detail → Bool
is_replacing d = not (is_never d.recreation)

filled : (test : Detail → Bool) (ds : List Detail) → list_any test ds ≡ true → is_empty ds ≡ false
filled test [] q = absurd (true≢false (sym q))
filled test (d ∷ ds) q = refl

-- the row of a resource that is modified, by whether there is none, a detail is certain, and one may replace
abbrev pub shown_row : HeldAt → Wanted → List Detail → Bool → Bool → Bool → Option Row
shown_row h w ds none certain may =
    cond none None (Some (record {
      action = action.Modify;
      path = w.path;
      kind = w.kind;
      replacement = Some (cond certain replacement.True (cond may replacement.Conditional replacement.False));
      unsure = h.unsure;
      details = ds;
    }))

-- with a detail that may replace it tells a create
told_create : (h : HeldAt) (w : Wanted) (ds : List Detail) (k : List ℕ) (props : List (List ℕ × Data)) → list_any is_replacing ds ≡ true
    → IsTold (modify_row h w ds) (request.Create k props)
told_create h w ds k props q = by (is_empty ds) (list_any is_certain ds) (list_any is_replacing ds) (filled is_replacing ds q) q where
  by : (e c t : Bool) → e ≡ false → t ≡ true → IsTold (shown_row h w ds (e && not h.unsure) c t) (request.Create k props)
  by true c t n y = absurd (true≢false n)
  by false true t n y = tt
  by false false true n y = tt
  by false false false n y = absurd (true≢false (sym y))

-- without a certain one it tells an update
told_update : (h : HeldAt) (w : Wanted) (ds : List Detail) (physical : List ℕ) (props : List (List ℕ × Data)) → (modify_row h w ds ≡ None → ⊥) → list_any is_certain ds ≡ false
    → IsTold (modify_row h w ds) (request.Update physical props)
told_update h w ds physical props some = by (is_empty ds && not h.unsure) (list_any is_certain ds) (list_any is_replacing ds) some where
  by : (g c t : Bool) → (shown_row h w ds g c t ≡ None → ⊥) → c ≡ false → IsTold (shown_row h w ds g c t) (request.Update physical props)
  by true c t there n = absurd (there refl)
  by false true t there n = absurd (true≢false n)
  by false false true there n = tt
  by false false false there n = tt

-- where there is no row of a path, none of it does anything
none_at : (test : Row → Bool) (path : List ℕ) (rows : List Row) → find (λ r. bytes_eq path r.path) rows ≡ None → list_any (λ r. bytes_eq path r.path && test r) rows ≡ false
none_at test path [] e = refl
none_at test path (r ∷ rows) e = by (bytes_eq path r.path) e (none_at test path rows) where
  by : (c : Bool) → cond c (Some r) (find (λ q. bytes_eq path q.path) rows) ≡ None
      → (find (λ q. bytes_eq path q.path) rows ≡ None → list_any (λ q. bytes_eq path q.path && test q) rows ≡ false)
      → ((c && test r) || list_any (λ q. bytes_eq path q.path && test q) rows) ≡ false
  by true q rest = let no : ⊥ = cc in absurd no
  by false q rest = rest q

module _ (schemas : List Schema) (s : StackState) (source : Source) (a : IsAdvancing schemas s source) (path k : List ℕ) (props : List (List ℕ × Data))
    (e : evaluated_at path s ≡ Known k props) where
  abbrev rows : List Row
  rows = (changes_begun schemas s source).rows

  abbrev said_at : IsSaid schemas s source a path k props
  said_at = said schemas s source a path k props e

  row_is : (d : IsSaid schemas s source a path k props) → row_at path rows ≡ row_for schemas (resource_held d.member.path (held_before_as s)) (wanted_of (d.member, evaluated d.was))
  row_is d = ap (λ p. row_at p rows) d.at ∙ d.told

  -- where nothing is held, what is created is added
  told_added : current_at path s.held ≡ None → IsTold (row_at path rows) (request.Create k props)
  told_added none = subst (λ o. IsTold o (request.Create k props)) (sym (row_is said_at ∙ ap (λ o. row_for schemas o (wanted_of (said_at.member, evaluated said_at.was))) nothing)) tt where
    was_none : (o p : Option Held) → SameAt o p → p ≡ None → o ≡ None
    was_none None p same q = refl
    was_none (Some c) None same q = absurd same
    was_none (Some c) (Some d) same q = let no : ⊥ = cc in absurd no

    nothing : resource_held said_at.member.path (held_before_as s) ≡ None
    nothing =
        ap (λ p. resource_held p (held_before_as s)) (sym said_at.at) ∙ same_found path s.before
        ∙ ap (option_map held_as) (was_none (current_at path s.before) (current_at path s.held) (same_at path s.before s.held a.held) none)

  module _ (undone : IsDone s path → ⊥) (h : Held) (at : current_at path s.held ≡ Some h) where
    abbrev here : IsSaid schemas s source a path k props
    here = it schemas s source a path k props e undone h at

    abbrev old : Held
    old = b schemas s source a path k props e undone h at

    abbrev wanted : Wanted
    wanted = w schemas s source a path k props e undone h at

    abbrev changed : List Detail
    changed = details schemas s source a path k props e undone h at

    -- the row is that of a resource which is modified
    modified : row_at path rows ≡ modify_row (held_as old) wanted (changed ++ policy_details (held_as old) wanted)
    modified = row_is here ∙ ap (λ o. row_for schemas o wanted) (resource schemas s source a path k props e undone h at)

    told_replaced : WantsNew schemas s (Some h) props → IsTold (row_at path rows) (request.Create k props)
    told_replaced n =
        subst (λ o. IsTold o (request.Create k props)) (sym modified)
        (told_create (held_as old) wanted (changed ++ policy_details (held_as old) wanted) k props (by (list_any is_replacing (changed ++ policy_details (held_as old) wanted)) refl))
      where
        by : (c : Bool) → list_any is_replacing (changed ++ policy_details (held_as old) wanted) ≡ c → c ≡ true
        by true q = refl
        by false q = absurd (none_new schemas s source a path k props e undone h at (none_first is_replacing changed (policy_details (held_as old) wanted) q) n)

    -- a certain detail replaces
    certain_replaces : list_any is_certain changed ≡ true → difference_to schemas h props ≡ Replace
    certain_replaces q = difference_is schemas s source a path k props e undone h at ∙ by (found here.member.kind schemas) q where
      by : (o : Option Schema) → list_any is_certain (property_details o old.props here.was) ≡ true → option_map_or (λ g. difference_of g old.props props) o Changes ≡ Replace
      by None c = absurd (true≢false (sym c ∙ unknown_never old.props here.was))
      by (Some g) c = replaces g old.props here.was here.now props here.becomes here.known c

    told_changed : (physical : List ℕ) → WantsUpdate schemas s h props → hides_attrs rows path ≡ true → IsTold (row_at path rows) (request.Update physical props)
    told_changed physical (kept, either) hides =
        subst (λ o. IsTold o (request.Update physical props)) (sym modified)
        (told_update (held_as old) wanted (changed ++ policy_details (held_as old) wanted) physical props (λ none. true≢false (sym hides ∙ none_at row_hides_attrs path rows (modified ∙ none)))
        (list_any-append is_certain changed (policy_details (held_as old) wanted) ∙ by (list_any is_certain changed) refl ∙ policies_never (held_as old) wanted))
      where
        by : (c : Bool) → list_any is_certain changed ≡ c → (c || list_any is_certain (policy_details (held_as old) wanted)) ≡ list_any is_certain (policy_details (held_as old) wanted)
        by true q = absurd (kept (certain_replaces q))
        by false q = refl

pub intended_told : IntendedIsTold
intended_told schemas name x out s source token lane path (request.Create k props) a fits order described may = by (current_at path s.held) refl may.chosen.3 where
  by : (o : Option Held) → current_at path s.held ≡ o → IntendsForward schemas s path (request.Create k props) → IsTold (row_at path (changes_begun schemas s source).rows) (request.Create k props)
  by None q (e, wants) = told_added schemas s source a path k props e q
  by (Some h) q (e, wants) = told_replaced schemas s source a path k props e may.chosen.2 h q (subst (λ o. WantsNew schemas s o props) q wants)
intended_told schemas name x out s source token lane path (request.Update physical props) a fits order described may = by may.chosen.3 where
  by : IntendsForward schemas s path (request.Update physical props) → IsTold (row_at path (changes_begun schemas s source).rows) (request.Update physical props)
  by (h, at, same, e, wants, unanswered) =
      told_changed schemas s source a path h.kind props e may.chosen.2 h at physical wants
      (intended_hidden schemas name x out s source token lane path (request.Update physical props) a fits order described may)
intended_told schemas name x out s source token lane path (request.Delete physical) a fits order described may = absurd may.chosen.3

-- As an operation begins that creates or updates, what was held before it is what is held.
module _ (schemas : List Schema) (x : World) (out : List ℕ) (number : ℕ) (name : List ℕ) (s : StackState) where
  begun_before : (k : Begun) (source : Source) → source_begun x name k ≡ Some source → (effect_at (x.place + 1) (entry.Begin number name k) s).stack.before ≡ s.held
  begun_before (begin.Create c) source is = grind arith
  begun_before (begin.Update c) source is = grind arith
  begun_before (begin.Delete paths) source is = let no : ⊥ = cc in absurd no
  begun_before (begin.Continue paths) source is = let no : ⊥ = cc in absurd no

  -- its stack is there
  begins_here : (k : Begun) (source : Source) → source_begun x name k ≡ Some source → known_stack name x ≡ s → IsTrue (begins_from k (known_stack name x).status)
      → stack_for (entry.Begin number name k) x ≡ Some (name, s)
  begins_here (begin.Create c) source is was from = ap (λ (u : StackState). Some (name, u)) was
  begins_here (begin.Update c) source is was from = by (stack_at name x) refl was from where
    by : (o : Option StackState) → stack_at name x ≡ o → unwrap_or o no_stack ≡ s → IsTrue (updates_from (unwrap_or o no_stack).status)
        → option_map {U = List ℕ × StackState} (λ (u : StackState). (name, u)) o ≡ Some (name, s)
    by None at same may = let no : ⊥ = grind (arith, may) in absurd no
    by (Some u) at same may = ap (λ (v : StackState). Some (name, v)) same
  begins_here (begin.Delete paths) source is was from = let no : ⊥ = cc in absurd no
  begins_here (begin.Continue paths) source is was from = let no : ⊥ = cc in absurd no

pub begun_told : BegunIsTold
begun_told schemas x out number name k s t source w is =
    ap (λ (hs : List Held). (changes_of schemas (map held_as (filter (λ h. not h.superseded) hs)) [] [] source).rows) (before w.becomes)
  where
    before : {u : StackState} → BecomesBy x (entry.Begin number name k) name s u → u.before ≡ s.held
    before (own found) = begun_before schemas x out number name s k source is
    before (at_opening opens) = let no : ⊥ = cc in absurd no
    before (other none never) = absurd (never s (begins_here schemas x out number name s k source is w.was w.may.1))
