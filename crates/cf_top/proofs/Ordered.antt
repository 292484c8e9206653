-- What preparing a task orders, and the exits of what it refuses.
use Rattle.std.proofs.Common.{◌≡◌, ℕ, ◌+◌, Bool, true, false, cond, List, [], ◌∷◌, Option, Some, None, Result, Ok, Err, refl, sym, ap, ◌∙◌, subst}
use Rattle.std.specs.Prelude.{option_map}
use Rattle.std.specs.List.{filter_map}
use Rattle.cf_tree.specs.declared.source.Source.{Source}
use Rattle.cf_tree.specs.declared.template.Template.{Template}
use Rattle.cf_template.specs.Refusals.{Reading}
use Rattle.cf_template.specs.Whole.{template_of}
use Rattle.cf_desired.specs.Templates.{accepted, templates_of}
use Rattle.cf_schema.specs.declared.described.Schema.{Schema}
use Rattle.cf_entry.specs.Entry.{IsTied}
use Rattle.cf_entry.specs.declared.entry.Entry.TheVariants as entry
use Rattle.cf_entry.specs.declared.entry.Begun.TheVariants as begin
use Rattle.cf_effect.specs.World.{World, known_stack}
use Rattle.cf_plan.specs.Accept.{creates_from}
use Rattle.cf_prepare.specs.Answer.{TestsAs as Tests}
use Rattle.cf_prepare.specs.Orders.{IsContinuation, IsDeployment, IsReview, kind_by}
use Rattle.cf_effect.specs.declared.held.KeptSet.{KeptSet}
use Rattle.cf_prepare.specs.Prepare.{ExecutesAs, ExecutesFound, HasTemplates, IsOpened, OrderFollows, PreparesAs}
use Rattle.cf_prepare.specs.Refusals.{deploy_refusal, review_refusal, set_of, set_refusal}
use Rattle.cf_prepare.specs.declared.wish.Order.{Order}
use Rattle.cf_prepare.specs.declared.wish.Order.TheVariants as order
use Rattle.cf_prepare.specs.declared.wish.PrepareFault.{PrepareFault}
use Rattle.cf_prepare.specs.declared.wish.PrepareFault.TheVariants as fault
use Rattle.cf_prepare.specs.declared.wish.Wish.{Wish}
use Rattle.cf_prepare.specs.declared.wish.Wish.TheVariants as wish
use Rattle.cf_prepare.specs.declared.wish.Wish.TheVariants.{Continue, Deploy, Execute}
use Rattle.cf_book.specs.Beginning.{IsPrepared}
use Rattle.cf_face.specs.declared.words.Choice.{Choice}
use Rattle.cf_face.specs.declared.words.Task.{Task}
use Rattle.cf_face.specs.declared.words.Task.TheVariants as task
use Rattle.cf_face.specs.declared.exit.Exit.{Exit}
use Rattle.cf_face.specs.declared.exit.Exit.TheVariants as exit
use Rattle.cf_face.specs.declared.exit.Refusal.TheVariants as refusal
use Rattle.cf_top.specs.NotYet.{is_not_yet}
use Rattle.cf_top.specs.Refusals.{LibraryUse, TestsTemplate, chosen_refusal, deployed_source, exit_of_fault, source_refusal, template_refusal, wish_for}
use Rattle.cf_top.specs.Tasks.{IsOrderOf, OrdersSource, OrdersTask, PreparesWish, number_for}
use Rattle.cf_top.specs.declared.planning.Purpose.{Purpose}
use Rattle.cf_top.specs.declared.planning.Purpose.TheVariants as purpose
use Rattle.cf_workers.specs.Ordering.{IsOrderOn, number_of}

-- want of memory refuses each wish
short_set : (schemas : List Schema) (x : World) (name : List ℕ) (number : ℕ) (o : Option PrepareFault) → ExecutesAs o schemas x name number (Err fault.NoMemory)
short_set schemas x name number (Some f) = tt
short_set schemas x name number None = by (set_of number (known_stack name x)) where
  by : (k : Option KeptSet) → ExecutesFound schemas x name number k (Err fault.NoMemory)
  by (Some k) = tt
  by None = tt

pub short_wish : (schemas : List Schema) (x : World) (w : Wish) → PreparesAs schemas x w (Err fault.NoMemory)
short_wish schemas x (wish.Deploy name source) = tt
short_wish schemas x (wish.Review name source) = tt
short_wish schemas x (wish.Execute name number) = short_set schemas x name number (set_refusal x name number)
short_wish schemas x (wish.Delete name paths) = tt
short_wish schemas x (wish.Continue name paths) = tt
short_wish schemas x (wish.Resume name) = tt

-- what is ordered by a source is told, and so is what is refused
module _ (schemas : List Schema) (x : World) (name : List ℕ) where
  module _ (P : Order → Type 0) (w : Option PrepareFault) where
    tells_refusal : (f : PrepareFault) → Tests w P (Err f) → TestsTemplate (option_map exit_of_fault w) P (Err (exit_of_fault f))
    tells_refusal (fault.Plan flaw) t = ap (option_map exit_of_fault) t
    tells_refusal (fault.UnknownType path type) t = ap (option_map exit_of_fault) t
    tells_refusal (fault.Stack s) t = ap (option_map exit_of_fault) t
    tells_refusal fault.NoMemory t = tt

  -- what is asked for is of no matter to a refusal
  any_refusal : (P Q : Order → Type 0) (w : Option Exit) (e : Exit) → TestsTemplate w P (Err e) → TestsTemplate w Q (Err e)
  any_refusal P Q w exit.Done t = t
  any_refusal P Q w exit.BadWords t = t
  any_refusal P Q w (exit.TemplateRefused f) t = t
  any_refusal P Q w (exit.StackRefused f) t = t
  any_refusal P Q w (exit.RolledBack c) t = t
  any_refusal P Q w (exit.Failed blamed) t = t
  any_refusal P Q w exit.LibraryFault t = t
  any_refusal P Q w exit.DiskFault t = t
  any_refusal P Q w exit.SinkFault t = t
  any_refusal P Q w exit.NoMemory t = t
  any_refusal P Q w (exit.NotAJournal offset) t = t
  any_refusal P Q w (exit.LaneMissing lane) t = t
  any_refusal P Q w (exit.LaneTwice lane) t = t
  any_refusal P Q w (exit.LaneAhead lane f epoch) t = t
  any_refusal P Q w (exit.LaneFault lane) t = t
  any_refusal P Q w (exit.Full long need room) t = t

  -- a wish with a source
  module _ (source : Source) where
    wish_told : (p : Purpose) (result : Result Order Exit) → PreparesWish schemas x (wish_for p name source) result
        → TestsTemplate (option_map exit_of_fault (source_refusal p schemas x name source)) (OrdersSource p schemas x name source) result
    wish_told purpose.Deploy (Ok o) (t, f) = (ap (option_map exit_of_fault) t.0, (t.1, f))
    wish_told purpose.Review (Ok o) (t, f) = (ap (option_map exit_of_fault) t.0, (t.1, f))
    wish_told purpose.Deploy (Err e) (f, t, is) =
        subst (λ y. TestsTemplate (option_map exit_of_fault (deploy_refusal schemas x name source)) (OrdersSource purpose.Deploy schemas x name source) (Err y)) (sym is)
        (any_refusal (IsDeployment schemas x name source) (OrdersSource purpose.Deploy schemas x name source) (option_map exit_of_fault (deploy_refusal schemas x name source)) (exit_of_fault f)
        (tells_refusal (IsDeployment schemas x name source) (deploy_refusal schemas x name source) f t))
    wish_told purpose.Review (Err e) (f, t, is) =
        subst (λ y. TestsTemplate (option_map exit_of_fault (review_refusal schemas x name source)) (OrdersSource purpose.Review schemas x name source) (Err y)) (sym is)
        (any_refusal (IsReview schemas x name source) (OrdersSource purpose.Review schemas x name source) (option_map exit_of_fault (review_refusal schemas x name source)) (exit_of_fault f)
        (tells_refusal (IsReview schemas x name source) (review_refusal schemas x name source) f t))

  -- of the bytes of a template all of which is made
  module _ (choice : Choice) (bytes : List ℕ) (t : Template) (read : template_of bytes ≡ Ok t) (made : is_not_yet t ≡ false) where
    abbrev source : Source
    source = deployed_source name choice bytes

    pub read_told : (p : Purpose) (result : Result Order Exit) → PreparesWish schemas x (wish_for p name source) result
        → TestsTemplate (chosen_refusal p schemas x name choice (Some bytes)) (IsOrderOf p schemas x name choice bytes) result
    read_told p result w =
        subst (λ (r : Reading Template). TestsTemplate (template_refusal p schemas x name choice bytes r) (IsOrderOf p schemas x name choice bytes) result) (sym read)
        (subst (λ (b : Bool). TestsTemplate (cond b (Some (exit.TemplateRefused (refusal.NotYet choice.template))) (option_map exit_of_fault (source_refusal p schemas x name source)))
        (IsOrderOf p schemas x name choice bytes) result) (sym made) (wish_told source p result w))

  -- A beginning that was prepared may begin, on the stack of its name.
  abbrev CanStart : Order → Type 0
  CanStart o = IsPrepared schemas x o × IsOrderOn name x o

  pub deploys_prepared : (source : Source) (o : Order) → IsDeployment schemas x name source o → OrderFollows schemas x (Deploy name source) o → CanStart o
  deploys_prepared source o (written, w, q) f =
      let begins : Order = order.Begin (entry.Begin (x.operation + 1) name (kind_by (known_stack name x) written)) in
      let follows : OrderFollows schemas x (Deploy name source) begins = subst (OrderFollows schemas x (Deploy name source)) q f in
      subst CanStart (sym q) ((tt, tied (creates_from (known_stack name x).status), follows tt []), refl)
    where
      tied : (b : Bool) → IsTied name (cond b (begin.Create written) (begin.Update written))
      tied true = (ap (λ (s : Source). s.stack) w.rest, ap (λ (s : Source). s.number) w.rest)
      tied false = (ap (λ (s : Source). s.stack) w.rest, ap (λ (s : Source). s.number) w.rest)

  -- a change set that is executed begins as a deployment of its source
  pub executes_prepared : (number : ℕ) (source : Source) (o : Order) → IsDeployment schemas x name source o → OrderFollows schemas x (Execute name number) o → CanStart o
  executes_prepared number source o is f = deploys_prepared source o is (follows o f) where
    follows : (q : Order) → OrderFollows schemas x (Execute name number) q → OrderFollows schemas x (Deploy name source) q
    follows (order.Begin e) k = k
    follows (order.Review e) k = k
    follows (order.Resume n) k = k

  pub continues_prepared : (paths : List (List ℕ)) (o : Order) → IsContinuation x name paths o → OrderFollows schemas x (Continue name paths) o
      → IsOpened x (Continue name paths) → CanStart o
  continues_prepared paths o (sorted, is, q) f opened =
      let begins : Order = order.Begin (entry.Begin (x.operation + 1) name (begin.Continue sorted)) in
      let follows : OrderFollows schemas x (Continue name paths) begins = subst (OrderFollows schemas x (Continue name paths)) q f in
      subst CanStart (sym q) ((tt, is.ascend, follows opened []), refl)

-- the number of what is ordered is that of the operation that does the task
pub numbered_as : (u : LibraryUse) (schemas : List Schema) (x : World) (name : List ℕ) (t : Task) (o : Order) → OrdersTask u schemas x name t o → number_of o ≡ number_for x name t
numbered_as u schemas x name (task.Deploy choice) o d = let (written, w, q) = d.deploys in ap number_of q
numbered_as u schemas x name (task.Continue paths) o d = let (sorted, is, q) = d.1 in ap number_of q
numbered_as u schemas x name task.Resume o d = ap number_of (d.0).2
numbered_as u schemas x name (task.Execute number) o d = let (written, w, q) = (d.0).deploys in ap number_of q
numbered_as u schemas x name (task.Load count) o d = let (written, w, q) = (d.0).deploys in ap number_of q

-- the templates of a source whose one text was read
one_template :
    (name : List ℕ) (choice : Choice) (bytes : List ℕ) (t : Template) (ts : List (List ℕ × Template)) → template_of bytes ≡ Ok t → ts ≡ (choice.template, t) ∷ []
    → ts ≡ templates_of (deployed_source name choice bytes)
one_template name choice bytes t ts read e =
    e ∙ sym (ap (λ (r : Reading Template). filter_map (λ (x : List ℕ × List ℕ). option_map (λ (u : Template). (x.0, u)) (accepted r)) ((choice.template, bytes) ∷ [])) read)

-- they are those of a wish with that source
pub source_templates : (x : World) (p : Purpose) (name : List ℕ) (choice : Choice) (bytes : List ℕ) (t : Template) → template_of bytes ≡ Ok t
    → HasTemplates x (wish_for p name (deployed_source name choice bytes)) ((choice.template, t) ∷ [])
source_templates x purpose.Deploy name choice bytes t read = one_template name choice bytes t ((choice.template, t) ∷ []) read refl
source_templates x purpose.Review name choice bytes t read = one_template name choice bytes t ((choice.template, t) ∷ []) read refl
