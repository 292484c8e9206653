-- What the first deployment of a stack says of its source over nothing that is seen.
use Rattle.std.proofs.Common.{◌≡◌, ℕ, ◌+◌, List, [], ◌∷◌, Option, None, ap, sym, subst, ◌∙◌}
use Rattle.std.specs.Option.{unwrap_or}
use Rattle.cf_tree.specs.declared.source.Source.{Source}
use Rattle.cf_schema.specs.declared.described.Schema.{Schema}
use Rattle.cf_change.specs.Changes.{HeldAt, found_of}
use Rattle.cf_desired.specs.Plan.{plan_of}
use Rattle.cf_desired.specs.Seeing.{Seen}
use Rattle.cf_desired.specs.declared.wanted.Plan.{Plan}
use Rattle.cf_entry.specs.declared.entry.Entry.TheVariants as entry
use Rattle.cf_effect.specs.Begin.{source_for}
use Rattle.cf_effect.specs.World.{StackState, World, known_stack, no_stack, stack_at}
use Rattle.cf_plan.specs.Accept.{exports_of_others, held_by, with_imports}
use Rattle.cf_plan.specs.Follow.{set_number}
use Rattle.cf_prepare.specs.First.{FirstDeployment, IsFirst}
use Rattle.cf_prepare.specs.Orders.{IsWritten, kind_by}
use Rattle.cf_prepare.specs.Refusals.{deploy_refusal, if_barred, if_unchanged, if_flawed, proposal, proposed_changes, proposed_plan, seen_proposed, unless_created}
use Rattle.cf_plan.specs.Follow.{deploys_from}
use Rattle.cf_prepare.specs.declared.wish.Order.{Order}
use Rattle.cf_prepare.specs.declared.wish.Order.TheVariants as order
use Rattle.cf_prepare.proofs.BlankSeen.{IsBlank, new_found, plan_alike, plan_back}
use Rattle.cf_prepare.proofs.Follows.{flawless, none_behind, none_first}

module _ (schemas : List Schema) (x : World) (name : List ℕ) (source : Source) (missing : stack_at name x ≡ None) where
  known : known_stack name x ≡ no_stack
  known = ap (λ (o : Option StackState). unwrap_or o no_stack) missing

  abbrev all : Source
  all = proposal x name source

  abbrev first : Source
  first = with_imports (source_for name (x.operation + 1) source) (exports_of_others name x)

  numbered : set_number x (known_stack name x) ≡ x.operation + 1
  numbered = ap (set_number x) known

  all_first : all ≡ first
  all_first = ap (λ (n : ℕ). with_imports (source_for name n source) (exports_of_others name x)) numbered

  abbrev seen : Seen
  seen = seen_proposed schemas x name source

  blank : IsBlank seen
  blank = subst (λ (hs : List HeldAt). IsBlank (found_of schemas hs all).seen) (ap held_by (sym known)) (new_found schemas all).0

  module _ (none : deploy_refusal schemas x name source ≡ None) where
    none_source : if_flawed (proposed_plan schemas x name source) ≡ None
    none_source =
        none_first (if_flawed (proposed_plan schemas x name source)) _
        (none_first _ (unless_created (known_stack name x) (if_unchanged (proposed_changes schemas x name source)) ∷ [])
        (none_behind (if_barred deploys_from (known_stack name x)) _ none))

    no_flaw : (proposed_plan schemas x name source).flaws ≡ []
    no_flaw = flawless (proposed_plan schemas x name source) none_source

    deployed : (o : Order) (written : Source) → IsWritten schemas x name source written
        → o ≡ order.Begin (entry.Begin (x.operation + 1) name (kind_by (known_stack name x) written)) → IsFirst x name source o written
    deployed o written is e = record {
      begins = e ∙ ap (λ (s : StackState). order.Begin (entry.Begin (x.operation + 1) name (kind_by s written))) known;
      rest = is.rest;
      flawless = subst (λ (s : Source). (plan_of s []).flaws ≡ []) worked (ap (λ (p : Plan). p.flaws) (sym (plan_back seen blank used none_used)) ∙ none_used);
      no_imports = λ same. is.uses.none (by_none same);
    } where
      used : Source
      used = with_imports all written.imports

      none_used : (plan_of used seen).flaws ≡ []
      none_used = ap (λ (p : Plan). p.flaws) is.uses.enough ∙ no_flaw

      worked : used ≡ source_for name (x.operation + 1) written
      worked = ap (λ (s : Source). with_imports s written.imports) all_first ∙ ap (λ (s : Source). source_for name (x.operation + 1) s) (sym is.rest)

      by_none : plan_of (with_imports (source_for name (x.operation + 1) source) []) [] ≡ plan_of first [] → plan_of (with_imports all []) seen ≡ plan_of all seen
      by_none same =
          let over_all : plan_of all seen ≡ plan_of all [] = plan_back seen blank all no_flaw in
          let over_none : plan_of (with_imports all []) [] ≡ plan_of all [] =
          ap (λ (s : Source). plan_of (with_imports s []) []) all_first ∙ same ∙ ap (λ (s : Source). plan_of s []) (sym all_first) in
          plan_alike seen blank (with_imports all []) (ap (λ (p : Plan). p.flaws) (over_none ∙ sym over_all) ∙ no_flaw) ∙ over_none ∙ sym over_all

pub first_deployment : FirstDeployment
first_deployment schemas x name source o missing none (written, is, e) = (written, deployed schemas x name source missing none o written is e)
