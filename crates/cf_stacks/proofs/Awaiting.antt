-- Room for the next outcome of a call that is open already.
use Rattle.std.proofs.Common.{◌≡◌, ℕ, ◌+◌, ◌≤◌, true, List, [], Option, Some, None, find, is_some, map, option_map, refl, sym, ap, ◌∙◌, arith}
use Rattle.std.specs.Option.{option_map_or, unwrap_or}
use Rattle.cf_tree.specs.Keys.{ascends, put, value_at}
use Rattle.cf_entry.specs.declared.entry.Entry.{Entry}
use Rattle.cf_entry.specs.declared.entry.Entry.TheVariants as entry
use Rattle.cf_stacks.specs.declared.standing.Fields.{Fields}
use Rattle.cf_stacks.specs.Room.{Standing, StackStanding, awaited_with, stack_of_call, with_awaited}
use Rattle.cf_stacks.specs.Standing.{NamedStanding, awaited_in, awaited_known, awaits_on, calls_in, calls_total, has_open, stack_in, standing_in, world_in}
use Rattle.cf_effect.specs.Words.{pending_of}
use Rattle.cf_effect.specs.World.{StackState, World}
use Rattle.cf_tree.proofs.Order.{ascends_map}
use Rattle.cf_stacks.proofs.Totals.{total_called, total_same}
use Rattle.cf_stacks.proofs.Worlds.{find_under, found_stands, put_under, value_under}

-- what is laid by for stacks leaves the world
pub kept_world : (x y : Fields) → y ≡ record x { stacks = y.stacks } → map stack_in y.stacks ≡ map stack_in x.stacks → world_in y ≡ world_in x
kept_world x y rest same = ap world_in rest ∙ ap (λ (ss : List (List ℕ × StackState)). record (world_in x) { stacks = ss }) same

-- what room is made for does not rest on the entry that there was room for
pub awaited_bare : (e : Entry) (x : Standing) → awaited_with e (record x { ready = None }) ≡ awaited_with e x
awaited_bare (entry.Opened epoch lanes) x = refl
awaited_bare (entry.Begin number name k) x = refl
awaited_bare (entry.Kept number path physical w) x = refl
awaited_bare (entry.Intent number token lane path r) x = refl
awaited_bare (entry.Outcome number token answer before after) x = refl
awaited_bare (entry.Phase number p cause) x = refl
awaited_bare (entry.Done number state failed) x = refl
awaited_bare (entry.ChangeSet number name source rows outputs) x = refl

module _ (x : Fields) (order : ascends x.stacks ≡ true) (token : ℕ) where
  awaits_by : (o : Option NamedStanding) → ((s : NamedStanding) → o ≡ Some s → value_at s.0 x.stacks ≡ Some s.1)
      → option_map_or (λ (s : NamedStanding). put s.0 (with_awaited token s.1.awaited) (awaited_in x)) o (awaited_in x)
      ≡ option_map_or (λ (s : List ℕ × StackState). put s.0 (with_awaited token (unwrap_or (value_at s.0 (awaited_in x)) [])) (awaited_in x)) (option_map stack_in o) (awaited_in x)
  awaits_by None f = refl
  awaits_by (Some s) f =
      sym (ap (λ (o : Option (List ℕ)). put s.0 (with_awaited token (unwrap_or o [])) (awaited_in x))
      (value_under (λ (t : StackStanding). t.awaited) s.0 x.stacks ∙ ap (λ (o : Option StackStanding). option_map (λ (t : StackStanding). t.awaited) o) (f s refl)))

  pub awaits_with : awaits_on token x.stacks
      ≡ option_map_or (λ (s : List ℕ × StackState). put s.0 (with_awaited token (unwrap_or (value_at s.0 (awaited_in x)) [])) (awaited_in x)) (stack_of_call token (world_in x)) (awaited_in x)
  awaits_with =
      awaits_by (find (has_open token) x.stacks) (λ s e. found_stands (has_open token) x.stacks s order e)
      ∙ ap (λ (o : Option (List ℕ × StackState)). option_map_or (λ (s : List ℕ × StackState). put s.0 (with_awaited token (unwrap_or (value_at s.0 (awaited_in x)) [])) (awaited_in x)) o (awaited_in x))
      (sym (find_under (λ (s : StackStanding). s.stack) (λ (t : StackState). is_some (pending_of token t)) x.stacks))

-- one call more is awaited at most
pub awaits_total : (token : ℕ) (ss ts : List NamedStanding) → ascends ss ≡ true → map calls_in ts ≡ awaits_on token ss → calls_total ts ≤ calls_total ss + 1
awaits_total token ss ts order h = by (find (has_open token) ss) refl
  where
    on : Option NamedStanding → List (List ℕ × List ℕ)
    on o = option_map_or (λ (s : NamedStanding). put s.0 (with_awaited token s.1.awaited) (map calls_in ss)) o (map calls_in ss)

    by : (o : Option NamedStanding) → find (has_open token) ss ≡ o → calls_total ts ≤ calls_total ss + 1
    by None e = let same = total_same ts ss (h ∙ ap on e) in omega (arith, same)
    by (Some s) e =
        let v : StackStanding = record s.1 { awaited = with_awaited token s.1.awaited } in
        let there = found_stands (has_open token) ss s order e in
        let same = total_same ts (put s.0 v ss) (h ∙ ap on e ∙ sym (put_under (λ (t : StackStanding). t.awaited) s.0 v ss)) in
        let most = total_called ss order s.0 v token (ap (with_awaited token) (sym (ap awaited_known there))) in
        omega (arith, same, most)

-- the names of stacks stay in their order where only room is made
pub same_order : (ss ts : List NamedStanding) → map calls_in ss ≡ map calls_in ts → ascends ts ≡ true → ascends ss ≡ true
same_order ss ts h order =
    sym (ascends_map {X = StackStanding} {Y = List ℕ} calls_in (λ p. refl) ss) ∙ ap ascends h ∙ ascends_map {X = StackStanding} {Y = List ℕ} calls_in (λ p. refl) ts ∙ order

pub same_order_stacks : (ss ts : List NamedStanding) → map stack_in ss ≡ map stack_in ts → ascends ts ≡ true → ascends ss ≡ true
same_order_stacks ss ts h order =
    sym (ascends_map {X = StackStanding} {Y = StackState} stack_in (λ p. refl) ss) ∙ ap ascends h ∙ ascends_map {X = StackStanding} {Y = StackState} stack_in (λ p. refl) ts ∙ order
