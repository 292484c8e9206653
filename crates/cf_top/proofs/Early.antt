-- What a task is refused by, before anything is done.
use Rattle.std.proofs.Common.{◌≡◌, ℕ, Bool, true, false, cond, List, Option, option_map, Some, None, Ok, Err, refl, sym, subst}
use Rattle.cf_schema.specs.declared.described.Schema.{Schema}
use Rattle.cf_template.specs.Refusals.{Reading}
use Rattle.cf_template.specs.Whole.{template_of}
use Rattle.cf_tree.specs.declared.template.Template.{Template}
use Rattle.cf_desired.specs.declared.flaw.Flaw.TheVariants.{TemplateMissing}
use Rattle.cf_effect.specs.World.{World, known_stack}
use Rattle.cf_plan.specs.Follow.{deploys_from}
use Rattle.cf_prepare.specs.Refusals.{if_barred}
use Rattle.cf_prepare.specs.declared.wish.PrepareFault.{PrepareFault}
use Rattle.cf_prepare.specs.declared.wish.PrepareFault.TheVariants as fault
use Rattle.cf_prepare.specs.declared.wish.Wish.{Wish}
use Rattle.cf_prepare.specs.declared.wish.Wish.TheVariants as wish
use Rattle.cf_face.specs.declared.words.Choice.{Choice}
use Rattle.cf_face.specs.Words.{load_choice}
use Rattle.cf_face.specs.declared.words.Task.{Task}
use Rattle.cf_face.specs.declared.words.Task.TheVariants as task
use Rattle.cf_face.specs.declared.exit.Exit.{Exit}
use Rattle.cf_face.specs.declared.exit.Exit.TheVariants as exit
use Rattle.cf_face.specs.declared.exit.Refusal.TheVariants as refusal
use Rattle.cf_top.specs.NotYet.{is_not_yet}
use Rattle.cf_top.specs.Refusals.{IsRefusedFor, LibraryUse, RefusesChoice, chosen_refusal, deployed_source, exit_of_fault, source_refusal, template_refusal}
use Rattle.cf_top.specs.Tasks.{RefusesTask, RefusesWish, load_library, status_refusal}
use Rattle.cf_top.specs.declared.planning.Purpose.{Purpose}
use Rattle.cf_top.specs.declared.planning.Purpose.TheVariants as purpose

-- the exits of what is asked for
abbrev pub IsAsked : Exit → Type 0
IsAsked (exit.TemplateRefused f) = Unit {0}
IsAsked (exit.StackRefused f) = Unit {0}
IsAsked exit.NoMemory = Unit {0}
IsAsked _ = ⊥

-- and those of the library
abbrev pub RefusesEarly : Exit → Type 0
RefusesEarly exit.LibraryFault = Unit {0}
RefusesEarly e = IsAsked e

pub one_exit : (a b : Exit) → Some a ≡ Some b → a ≡ b
one_exit a b r = cc

pub asked_fault : (f : PrepareFault) → IsAsked (exit_of_fault f)
asked_fault (fault.Plan flaw) = tt
asked_fault (fault.UnknownType path name) = tt
asked_fault (fault.Stack f) = tt
asked_fault fault.NoMemory = tt

pub asked_option : (o : Option PrepareFault) (e : Exit) → option_map exit_of_fault o ≡ Some e → IsAsked e
asked_option None e q = let no : ⊥ = cc in absurd no
asked_option (Some f) e q = subst IsAsked (one_exit (exit_of_fault f) e q) (asked_fault f)

pub asked : (p : Purpose) (schemas : List Schema) (x : World) (name : List ℕ) (choice : Choice) (found : Option (List ℕ)) (e : Exit) → chosen_refusal p schemas x name choice found ≡ Some e → IsAsked e
asked p schemas x name choice None e q = subst IsAsked (one_exit (exit.TemplateRefused (refusal.Plan (TemplateMissing choice.template))) e q) tt
asked p schemas x name choice (Some bytes) e q = by (template_of bytes) q where
  by : (r : Reading Template) → template_refusal p schemas x name choice bytes r ≡ Some e → IsAsked e
  by (Err f) k = subst IsAsked (one_exit (exit.TemplateRefused (refusal.Read choice.template f)) e k) tt
  by (Ok t) k = late (is_not_yet t) k where
    late : (b : Bool) → cond b (Some (exit.TemplateRefused (refusal.NotYet choice.template)))
        (option_map exit_of_fault (source_refusal p schemas x name (deployed_source name choice bytes))) ≡ Some e → IsAsked e
    late true c = subst IsAsked (one_exit (exit.TemplateRefused (refusal.NotYet choice.template)) e c) tt
    late false c = asked_option (source_refusal p schemas x name (deployed_source name choice bytes)) e c

asked_early : (e : Exit) → IsAsked e → RefusesEarly e
asked_early (exit.TemplateRefused f) a = tt
asked_early (exit.StackRefused f) a = tt
asked_early exit.NoMemory a = tt
asked_early exit.LibraryFault a = absurd a
asked_early exit.Done a = absurd a
asked_early exit.BadWords a = absurd a
asked_early (exit.RolledBack c) a = absurd a
asked_early (exit.Failed blamed) a = absurd a
asked_early exit.DiskFault a = absurd a
asked_early exit.SinkFault a = absurd a
asked_early (exit.NotAJournal offset) a = absurd a
asked_early (exit.LaneMissing lane) a = absurd a
asked_early (exit.LaneTwice lane) a = absurd a
asked_early (exit.LaneAhead lane f epoch) a = absurd a
asked_early (exit.LaneFault lane) a = absurd a
asked_early (exit.Full long need room) a = absurd a

module _ (o : LibraryUse) (schemas : List Schema) (x : World) (name : List ℕ) where
  early_for : (p : Purpose) (choice : Choice) (e : Exit) → IsRefusedFor o p schemas x name choice e → RefusesEarly e
  early_for p choice exit.Done r = asked p schemas x name choice r.0 exit.Done r.2
  early_for p choice (exit.RolledBack c) r = asked p schemas x name choice r.0 (exit.RolledBack c) r.2
  early_for p choice (exit.Failed blamed) r = asked p schemas x name choice r.0 (exit.Failed blamed) r.2
  early_for p choice exit.BadWords r = asked p schemas x name choice r.0 exit.BadWords r.2
  early_for p choice exit.SinkFault r = asked p schemas x name choice r.0 exit.SinkFault r.2
  early_for p choice (exit.TemplateRefused f) r = tt
  early_for p choice (exit.StackRefused f) r = tt
  early_for p choice exit.LibraryFault r = tt
  early_for p choice exit.NoMemory r = tt
  early_for p choice exit.DiskFault r = asked p schemas x name choice r.0 exit.DiskFault r.2
  early_for p choice (exit.NotAJournal offset) r = asked p schemas x name choice r.0 (exit.NotAJournal offset) r.2
  early_for p choice (exit.LaneMissing lane) r = asked p schemas x name choice r.0 (exit.LaneMissing lane) r.2
  early_for p choice (exit.LaneTwice lane) r = asked p schemas x name choice r.0 (exit.LaneTwice lane) r.2
  early_for p choice (exit.LaneAhead lane f epoch) r = asked p schemas x name choice r.0 (exit.LaneAhead lane f epoch) r.2
  early_for p choice (exit.LaneFault lane) r = asked p schemas x name choice r.0 (exit.LaneFault lane) r.2
  early_for p choice (exit.Full long need room) r = asked p schemas x name choice r.0 (exit.Full long need room) r.2

  pub early_by : (p : Purpose) (choice : Choice) (e : Exit) (bars : Option Exit) → status_refusal name x ≡ bars → RefusesChoice o p schemas x name choice bars e → RefusesEarly e
  early_by p choice e None is r = early_for p choice e r
  early_by p choice e (Some bar) is r =
      subst RefusesEarly (sym r.0) (asked_early bar (asked_option (if_barred deploys_from (known_stack name x)) bar is))

  early_wish : (w : Wish) (e : Exit) → RefusesWish schemas x w e → RefusesEarly e
  early_wish w e (f, prepares, q) = subst RefusesEarly (sym q) (asked_early (exit_of_fault f) (asked_fault f))

-- a task is refused by nothing else
module _ (o : LibraryUse) (schemas : List Schema) (x : World) (name : List ℕ) where
  pub early : (t : Task) (e : Exit) → RefusesTask o schemas x name t e → RefusesEarly e
  early (task.Deploy choice) e r = early_by o schemas x name purpose.Deploy choice e (status_refusal name x) refl r
  early (task.Continue paths) e r = early_wish o schemas x name (wish.Continue name paths) e r.0
  early task.Resume e r = early_wish o schemas x name (wish.Resume name) e r.0
  early (task.Execute number) e r = early_wish o schemas x name (wish.Execute name number) e r.0
  early (task.Load count) e r = early_by (load_library count) schemas x name purpose.Deploy (load_choice count) e (status_refusal name x) refl r.0

  pub never_refused : (t : Task) (lane : List ℕ) (fence epoch : ℕ) → RefusesTask o schemas x name t (exit.LaneAhead lane fence epoch) → ⊥
  never_refused t lane fence epoch r = early t (exit.LaneAhead lane fence epoch) r
