-- What is found in the library under a template's name, and why a deployment or a review of it is refused before anything is made (this
-- project's own).
use Rattle.std.specs.Prelude.{◌≡◌, ℕ, List, [], ◌∷◌, Option, Some, None, Result, Ok, Err, if◌then◌else◌, option_map, ⊤}
use Rattle.cf_io.specs.Library.{Texts, StandsUnder}
use Rattle.cf_io.specs.declared.library.Library.{Ghosts as LibraryGhosts}
use Rattle.cf_tree.specs.Counts.{HasRisen}
use Rattle.cf_tree.specs.declared.source.Source.{Source}
use Rattle.cf_tree.specs.declared.template.Template.{Template}
use Rattle.cf_template.specs.Refusals.{Reading}
use Rattle.cf_template.specs.Whole.{template_of}
use Rattle.cf_template.specs.declared.refusal.TemplateFault.{TemplateFault}
use Rattle.cf_template.specs.declared.refusal.TemplateFault.TheVariants as unread
use Rattle.cf_desired.specs.declared.flaw.Flaw.TheVariants.{TemplateMissing}
use Rattle.cf_schema.specs.declared.described.Schema.{Schema}
use Rattle.cf_effect.specs.World.{World}
use Rattle.cf_prepare.specs.Refusals.{deploy_refusal, review_refusal}
use Rattle.cf_prepare.specs.declared.wish.StackFault.{StackFault}
use Rattle.cf_prepare.specs.declared.wish.StackFault.TheVariants as stack
use Rattle.cf_prepare.specs.declared.wish.PrepareFault.{PrepareFault}
use Rattle.cf_prepare.specs.declared.wish.PrepareFault.TheVariants as fault
use Rattle.cf_prepare.specs.declared.wish.Wish.{Wish}
use Rattle.cf_prepare.specs.declared.wish.Wish.TheVariants as wish
use Rattle.cf_face.specs.declared.words.Choice.{Choice}
use Rattle.cf_face.specs.declared.exit.Exit.{Exit}
use Rattle.cf_face.specs.declared.exit.Exit.TheVariants as exit
use Rattle.cf_face.specs.declared.exit.StackFault.{StackFault as Told}
use Rattle.cf_face.specs.declared.exit.StackFault.TheVariants as told
use Rattle.cf_face.specs.declared.exit.Refusal.{Refusal}
use Rattle.cf_face.specs.declared.exit.Refusal.TheVariants as refusal
use Rattle.cf_top.specs.NotYet.{is_not_yet}
use Rattle.cf_top.specs.declared.planning.Purpose.{Purpose}
use Rattle.cf_top.specs.declared.planning.Purpose.TheVariants as purpose

-- a library before and after: its texts, its faults and its misses
pub record LibraryUse : Type 0 where
  pub texts : Option Texts
  pub faults : ℕ
  pub faults' : ℕ
  pub misses : ℕ
  pub misses' : ℕ

-- so a library was used, by what it is before and after
abbrev pub use_of : {L : Type 0} → LibraryGhosts L → L → L → LibraryUse
use_of l before after = record {
  texts = l.texts before;
  faults = l.count before;
  faults' = l.count after;
  misses = l.missed before;
  misses' = l.missed after;
}

-- the library was not asked
abbrev pub IsUnasked : LibraryUse → Type 0
IsUnasked o = (o.faults' ≡ o.faults) × (o.misses' ≡ o.misses)

-- what a deployment and a review rest on: one template and what is given for its parameters, without imports
abbrev pub deployed_source : List ℕ → Choice → List ℕ → Source
deployed_source stack choice bytes = record {
  root = choice.template;
  texts = (choice.template, bytes) ∷ [];
  given = choice.given;
  imports = [];
  stack = stack;
  number = 0;
}

-- why preparing an operation refuses its stack, as it is told
abbrev pub told_of_stack : StackFault → Told
told_of_stack stack.NoStack = told.NoStack
told_of_stack (stack.WrongStatus status) = told.WrongStatus status
told_of_stack (stack.NoChangeSet number) = told.NoChangeSet number
told_of_stack (stack.NotFailed path) = told.NotFailed path
told_of_stack (stack.TypeChanged path) = told.TypeChanged path
told_of_stack (stack.ExportTaken name) = told.ExportTaken name
told_of_stack (stack.ExportInUse name) = told.ExportInUse name
told_of_stack stack.NoChanges = told.NoChanges
told_of_stack (stack.Outdated number) = told.Outdated number

-- The exit of what preparing an operation is refused for.
abbrev pub exit_of_fault : PrepareFault → Exit
exit_of_fault (fault.Plan flaw) = exit.TemplateRefused (refusal.Plan flaw)
exit_of_fault (fault.UnknownType path name) = exit.TemplateRefused (refusal.UnknownType path name)
exit_of_fault (fault.Stack f) = exit.StackRefused (told_of_stack f)
exit_of_fault fault.NoMemory = exit.NoMemory

-- what a source is asked for, as a wish, and why that is refused
abbrev pub wish_for : Purpose → List ℕ → Source → Wish
wish_for purpose.Deploy stack source = wish.Deploy stack source
wish_for purpose.Review stack source = wish.Review stack source

abbrev pub source_refusal : Purpose → List Schema → World → List ℕ → Source → Option PrepareFault
source_refusal purpose.Deploy schemas x stack source = deploy_refusal schemas x stack source
source_refusal purpose.Review schemas x stack source = review_refusal schemas x stack source

abbrev pub template_refusal : Purpose → List Schema → World → List ℕ → Choice → List ℕ → Reading Template → Option Exit
template_refusal p schemas x stack choice bytes (Err fault) = Some (exit.TemplateRefused (refusal.Read choice.template fault))
template_refusal p schemas x stack choice bytes (Ok t) =
    if is_not_yet t then Some (exit.TemplateRefused (refusal.NotYet choice.template)) else option_map exit_of_fault
    (source_refusal p schemas x stack (deployed_source stack choice bytes))

-- Why a deployment or a review for the stack of this name is refused, by what was found under the template's name (the order is this
-- project's own). What the stack is refused for by what it holds, and that nothing changes, comes last.
abbrev pub chosen_refusal : Purpose → List Schema → World → List ℕ → Choice → Option (List ℕ) → Option Exit
chosen_refusal p schemas x stack choice None = Some (exit.TemplateRefused (refusal.Plan (TemplateMissing choice.template)))
chosen_refusal p schemas x stack choice (Some bytes) = template_refusal p schemas x stack choice bytes (template_of bytes)

abbrev pub deployment_refusal : List Schema → World → List ℕ → Choice → Option (List ℕ) → Option Exit
deployment_refusal schemas x stack choice found = chosen_refusal purpose.Deploy schemas x stack choice found

-- the exit of a refusal, where there was memory to tell it
abbrev pub RefusesTemplate : Refusal → Exit → Type 0
RefusesTemplate f (exit.TemplateRefused fault) = fault ≡ f
RefusesTemplate f exit.NoMemory = ⊤
RefusesTemplate f _ = ⊥

-- the exit of bytes that were not read
abbrev pub UnreadAs : List ℕ → TemplateFault → Exit → Type 0
UnreadAs name unread.NoMemory e = e ≡ exit.NoMemory
UnreadAs name f e = RefusesTemplate (refusal.Read name f) e

-- what a test of a template answers: nothing where nothing is refused, else the exit of the refusal; want of memory may come in its place
abbrev pub TestsTemplate : {A : Type 0} → Option Exit → (A → Type 0) → Result A Exit → Type 0
TestsTemplate o P (Ok a) = (o ≡ None) × P a
TestsTemplate o P (Err exit.NoMemory) = ⊤
TestsTemplate o P (Err e) = o ≡ Some e

-- a fetch that found nothing counts as a miss
abbrev pub IsMiss : Option (List ℕ) → ℕ → ℕ → Type 0
IsMiss None before after = HasRisen before after
IsMiss (Some bytes) before after = ⊤

-- what was found in the library is refused so
abbrev pub IsRefusedFor : LibraryUse → Purpose → List Schema → World → List ℕ → Choice → Exit → Type 0
IsRefusedFor o p schemas x stack choice exit.LibraryFault = HasRisen o.faults o.faults'
IsRefusedFor o p schemas x stack choice exit.NoMemory = ⊤
IsRefusedFor o p schemas x stack choice e =
    (found : Option (List ℕ)) × StandsUnder o.texts choice.template found × (chosen_refusal p schemas x stack choice found ≡ Some e)
    × IsMiss found o.misses o.misses'

-- It is refused for the stack's status, before the library is asked, or for what was found there.
abbrev pub RefusesChoice : LibraryUse → Purpose → List Schema → World → List ℕ → Choice → Option Exit → Exit → Type 0
RefusesChoice o p schemas x stack choice (Some refusal) e = (e ≡ refusal) × IsUnasked o
RefusesChoice o p schemas x stack choice None e = IsRefusedFor o p schemas x stack choice e
