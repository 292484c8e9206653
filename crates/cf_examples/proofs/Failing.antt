-- When a path is not done, and when the forward phase has not failed: what can be computed.
use Rattle.std.proofs.Common.{◌≡◌, inl, inr, ℕ, Bool, true, false, Some, None, List, [], refl, sym, ◌∙◌, ap, subst, true≢false, ◌||◌}
use Rattle.std.specs.Prelude.{is_some, not, option_map}
use Rattle.std.specs.List.{list_all}
use Rattle.std.specs.Option.{option_map_or}
use Rattle.cf_tree.specs.Datum.{Data, text}
use Rattle.cf_tree.specs.Same.{same_data}
use Rattle.cf_tree.specs.Keys.{bytes_lt, value_at}
use Rattle.cf_tree.specs.Lists.{first_in}
use Rattle.cf_schema.specs.declared.described.Schema.{Schema}
use Rattle.cf_effect.specs.declared.held.Held.{Held}
use Rattle.cf_effect.specs.World.{StackState, World}
use Rattle.cf_effect.specs.Words.{current_at}
use Rattle.cf_plan.specs.Forward.{IsDone, is_made, is_updated, is_right, Finding, Bad, Later, Known, evaluated_at, was_updated_at, wanted_paths, plan_now, first_failing, lost_exports, HasFailed, IsBadPath, IsBadOutput}
use Rattle.cf_desired.specs.declared.flaw.Flaw.{Flaw}
use Rattle.cf_desired.specs.declared.wanted.Inner.{Inner}
use Rattle.cf_export.specs.declared.Export.{Export}
use Rattle.cf_examples.proofs.Lists.{each_passes}

-- the text of a property
abbrev pub same_at : List ℕ → List ℕ → List (List ℕ × Data) → Bool
same_at name content props = option_map_or (λ d. same_data d (text content)) (value_at name props) false

-- nothing is made or held at the path
pub not_done_new : (p : List ℕ) (s : StackState) → current_at p s.made ≡ None → was_updated_at p s ≡ false → current_at p s.held ≡ None → ¬ IsDone s p
not_done_new p s made updated held (is_made r e) = absurd (cc)
not_done_new p s made updated held (is_updated e) = absurd (true≢false (sym e ∙ updated))
not_done_new p s made updated held (is_right h i needs e sure right) = absurd (cc)

-- what is held there has other properties: a test tells them apart
pub not_done_other : (p : List ℕ) (s : StackState) (test : List (List ℕ × Data) → Bool) (h : Held) (k : List ℕ) (props : List (List ℕ × Data)) → current_at p s.made ≡ None → was_updated_at p s ≡ false → current_at p s.held ≡ Some h → evaluated_at p s ≡ Known k props → test h.props ≡ true → test props ≡ false → ¬ IsDone s p
not_done_other p s test h k props made updated held now old new (is_made r e) = absurd (cc)
not_done_other p s test h k props made updated held now old new (is_updated e) = absurd (true≢false (sym e ∙ updated))
not_done_other p s test h k props made updated held now old new (is_right g i needs e sure right) =
    let same : h ≡ g = cc in
    let equal : Known k props ≡ Known g.kind g.props = sym now ∙ right in
    let props_equal : props ≡ g.props = cc in
    absurd (true≢false (sym old ∙ ap (λ (q : Held). test q.props) same ∙ ap test (sym props_equal) ∙ new))

abbrev pub is_no_fault : Finding → Bool
is_no_fault (Bad f) = false
is_no_fault Later = true
is_no_fault (Known k props) = true

abbrev pub is_sound : StackState → List ℕ → Bool
is_sound s p = is_no_fault (evaluated_at p s)

abbrev pub is_sound_inner : Inner → Bool
is_sound_inner i = not (is_some i.fault)

-- nothing was refused, no template is at fault, no export is lost
pub record IsSound (schemas : List Schema) (name : List ℕ) (x : World) (s : StackState) : Type 0 where
  pub calls : first_failing schemas s ≡ None
  pub paths : list_all (is_sound s) (wanted_paths s) ≡ true
  pub inner : list_all is_sound_inner (plan_now s).nested ≡ true
  pub flaws : (plan_now s).flaws ≡ []
  pub exports : lost_exports name x s ≡ []

pub not_failed : (schemas : List Schema) (name : List ℕ) (x : World) (s : StackState) → IsSound schemas name x s → ¬ HasFailed schemas name x s
not_failed schemas name x s h failed = elim failed [
  | inl f ↦ let e = f.1 in let g = h.calls in absurd (cc)
  | inr r ↦ elim r [
    | inl bad ↦ elim bad.2 [
      | inl (ready, e) ↦ absurd (true≢false (sym (each_passes (is_sound s) (wanted_paths s) bad.0 h.paths ready.0) ∙ ap is_no_fault e))
      | inr (i, there_is, path, needs, e) ↦ absurd (true≢false (sym (each_passes is_sound_inner (plan_now s).nested i h.inner there_is) ∙ ap (λ f. not (is_some f)) e))
    ]
    | inr q ↦ elim q [
      | inl (fault, bad) ↦ absurd (no_head fault (subst (λ fs. first_in fs ≡ Some fault) h.flaws bad.1))
      | inr (export, lost) ↦ absurd (no_lost export (subst (λ es. option_map (λ (f : Export). f.name) (first_in es) ≡ Some export) h.exports lost.1))
    ]
  ]
]
  where
    no_head : (fault : Flaw) → first_in [] ≡ Some fault → ⊥
    no_head fault e = cc

    no_lost : (export : List ℕ) → option_map (λ (f : Export). f.name) (first_in []) ≡ Some export → ⊥
    no_lost export e = cc

pub sound : (schemas : List Schema) (name : List ℕ) (x : World) (s : StackState) → first_failing schemas s ≡ None → list_all (is_sound s) (wanted_paths s) ≡ true → list_all is_sound_inner (plan_now s).nested ≡ true → (plan_now s).flaws ≡ [] → lost_exports name x s ≡ [] → ¬ HasFailed schemas name x s
sound schemas name x s calls paths inner flaws exports = not_failed schemas name x s (record { calls = calls; paths = paths; inner = inner; flaws = flaws; exports = exports })

-- the first path at fault in byte order: those before it are not at fault
abbrev pub is_sound_before : StackState → List ℕ → List ℕ → Bool
is_sound_before s p q = is_sound s q || not (bytes_lt q p)

pub only_bad : (s : StackState) (p : List ℕ) → list_all (is_sound_before s p) (wanted_paths s) ≡ true → list_all is_sound_inner (plan_now s).nested ≡ true → (q : List ℕ) (other : Flaw) → IsBadPath s q other → bytes_lt q p ≡ false
only_bad s p all inner q other bad = elim bad [
  | inl (ready, e) ↦ not_before (is_sound s q) (bytes_lt q p) (ap is_no_fault e) (each_passes (is_sound_before s p) (wanted_paths s) q all ready.0)
  | inr (i, there_is, path, needs, e) ↦ absurd (true≢false (sym (each_passes is_sound_inner (plan_now s).nested i inner there_is) ∙ ap (λ f. not (is_some f)) e))
]
  where
    not_before : (a b : Bool) → a ≡ false → (a || not b) ≡ true → b ≡ false
    not_before true b e f = absurd (true≢false e)
    not_before false false e f = refl
    not_before false true e f = sym f

-- no path is at fault
pub no_bad : (s : StackState) → list_all (is_sound s) (wanted_paths s) ≡ true → list_all is_sound_inner (plan_now s).nested ≡ true → (q : List ℕ) (other : Flaw) → IsBadPath s q other → ⊥
no_bad s all inner q other bad = elim bad [
  | inl (ready, e) ↦ true≢false (sym (each_passes (is_sound s) (wanted_paths s) q all ready.0) ∙ ap is_no_fault e)
  | inr (i, there_is, path, needs, e) ↦ true≢false (sym (each_passes is_sound_inner (plan_now s).nested i inner there_is) ∙ ap (λ f. not (is_some f)) e)
]

pub no_bad_output : (s : StackState) → (plan_now s).flaws ≡ [] → (other : Flaw) → IsBadOutput s other → ⊥
no_bad_output s none other bad = no_head (subst (λ fs. first_in fs ≡ Some other) none bad.1)
  where
    no_head : first_in {A = Flaw} [] ≡ Some other → ⊥
    no_head e = cc

pub known_props : {k l : List ℕ} {a b : List (List ℕ × Data)} → Known k a ≡ Known l b → a ≡ b
known_props e = cc
