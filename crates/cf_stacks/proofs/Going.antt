-- A call that is prepared on the stack of its operation.
use Rattle.std.proofs.Common.{◌≡◌, ℕ, ◌+◌, true, List, Option, Some, None, IfSome, find, is_some, map, option_map, refl, sym, ap, subst, ◌∙◌}
use Rattle.cf_tree.specs.Keys.{ascends, value_at}
use Rattle.cf_tree.specs.declared.request.Request.{Request}
use Rattle.cf_entry.specs.declared.entry.Entry.{Entry}
use Rattle.cf_entry.specs.declared.entry.Entry.TheVariants as entry
use Rattle.cf_stacks.specs.declared.stack.CallParts.{CallParts}
use Rattle.cf_stacks.specs.declared.standing.Fields.{Fields}
use Rattle.cf_stacks.specs.Ready.{IsCall}
use Rattle.cf_stacks.specs.Room.{StackStanding}
use Rattle.cf_stacks.specs.Standing.{CallFits, IsPartsOf, NamedStanding, stack_in, stack_known, world_in}
use Rattle.cf_effect.specs.World.{StackState, is_going, stack_of_operation}
use Rattle.cf_stacks.proofs.Worlds.{find_under, found_stands}

module _ (x : Fields) (order : ascends x.stacks ≡ true) (number : ℕ) where
  pub call_prepared : (token : ℕ) (lane path : List ℕ) (r : Request) (name : List ℕ) (s : NamedStanding) (parts : CallParts) (place : ℕ)
      → find (λ (t : NamedStanding). is_going number t.1.stack) x.stacks ≡ Some s → name ≡ s.0 → place ≡ x.place + 1
      → IsPartsOf (entry.Intent number token lane path r) parts place s.1.stack → CallFits parts s.1 → IsCall (entry.Intent number token lane path r) name parts x
  call_prepared token lane path r name s parts place f n p h fits =
      let there : value_at name x.stacks ≡ Some s.1 = ap (λ (k : List ℕ). value_at k x.stacks) n ∙ found_stands (λ (t : NamedStanding). is_going number t.1.stack) x.stacks s order f in
      let on : IsPartsOf (entry.Intent number token lane path r) parts (x.place + 1) s.1.stack = subst (λ (m : ℕ). IsPartsOf (entry.Intent number token lane path r) parts m s.1.stack) p h in
      record {
        of_it =
            find_under (λ (t : StackStanding). t.stack) (is_going number) x.stacks ∙ ap (λ (o : Option NamedStanding). option_map stack_in o) f
            ∙ ap (λ (k : List ℕ). Some (k, s.1.stack)) (sym n) ∙ ap (λ (t : StackState). Some (name, t)) (sym (ap stack_known there));
        stands = ap (λ (o : Option StackStanding). is_some o) there;
        fits = subst (λ (o : Option StackStanding). IfSome o (CallFits parts)) (sym there) fits;
        parts = subst (λ (t : StackState). IsPartsOf (entry.Intent number token lane path r) parts (x.place + 1) t) (sym (ap stack_known there)) on;
      }

  pub none_going : find (λ (t : NamedStanding). is_going number t.1.stack) x.stacks ≡ None → stack_of_operation number (world_in x) ≡ None
  none_going f = find_under (λ (t : StackStanding). t.stack) (is_going number) x.stacks ∙ ap (λ (o : Option NamedStanding). option_map stack_in o) f
