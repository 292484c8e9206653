-- What an entry leaves of its stack, once it is filled and what all stacks list is listed.
use Rattle.std.proofs.Common.{◌≡◌, ℕ, ◌+◌, ◌≤◌, false, List, [], Option, Some, None, Result, Ok, Err, IfOk, length, vec_capacity, refl, ap, sym, ◌∙◌, subst}
use Rattle.std.specs.Option.{unwrap_or}
use Rattle.cf_tree.specs.Keys.{value_at}
use Rattle.cf_entry.specs.declared.entry.Begun.TheVariants as begin
use Rattle.cf_entry.specs.declared.entry.Entry.{Entry}
use Rattle.cf_entry.specs.declared.entry.Entry.TheVariants as entry
use Rattle.cf_effect.specs.declared.listed.Lists.{Lists}
use Rattle.cf_stacks.specs.declared.standing.Fields.{Fields}
use Rattle.cf_stacks.specs.declared.standing.Left.{Left}
use Rattle.cf_effect.specs.declared.state.State.{State}
use Rattle.cf_effect.specs.World.{StackState, no_stack}
use Rattle.cf_effect.specs.Effect.{Effect}
use Rattle.cf_effect.specs.Fold.{effect_at, is_intent}
use Rattle.cf_effect.specs.Listed.{exports_after, pins_after}
use Rattle.cf_stacks.specs.Room.{StackStanding}
use Rattle.cf_stacks.specs.Spare.{HaveOwnTokens, LeavesCalls}
use Rattle.cf_effect.specs.Reserve.{HasSpare}
use Rattle.cf_stacks.specs.Stacked.{places_for}
use Rattle.cf_stacks.specs.Standing.{IsLeft, LeftFits, awaited_known, stack_known}
use Rattle.cf_effect.specs.State.{effect_from, names_listed, state_of}
use Rattle.cf_stacks.proofs.Keeps.{leaves_calls}

-- an entry that is no intent leaves calls that tokens tell apart
apart_of : (e : Entry) (old new : StackState) → is_intent e ≡ false → LeavesCalls e old new → HaveOwnTokens new.tokens
apart_of (entry.Opened epoch lanes) old new n h = h.1
apart_of (entry.Begin number name (begin.Create source)) old new n h = h
apart_of (entry.Begin number name (begin.Update source)) old new n h = h
apart_of (entry.Begin number name (begin.Delete paths)) old new n h = h.1
apart_of (entry.Begin number name (begin.Continue paths)) old new n h = h.1
apart_of (entry.Kept number path physical w) old new n h = h.1
apart_of (entry.Intent number token lane path r) old new n h = absurd cc
apart_of (entry.Outcome number token answer before after) old new n h = h.1
apart_of (entry.Phase number p cause) old new n h = h.1
apart_of (entry.Done number state failed) old new n h = h.1
apart_of (entry.ChangeSet number name source rows outputs) old new n h = h.1

leaves_fit : (place : ℕ) (e : Entry) (state : State) (room count : ℕ) (o : Option StackStanding) → is_intent e ≡ false → state_of state ≡ (effect_at place e (stack_known o)).stack
    → HasSpare (places_for (length (awaited_known o))) state → (o ≡ None → count + 1 ≤ room) → LeftFits e state room count o
leaves_fit place e state room count None n h spare more =
    (spare, subst (λ (t : StackState). HaveOwnTokens t.tokens) (sym h) (apart_of e no_stack (effect_at place e no_stack).stack n (leaves_calls place no_stack e tt)), more refl)
leaves_fit place e state room count (Some s) n h spare more =
    (spare, λ apart. subst (λ (t : StackState). LeavesCalls e s.stack t) (sym h) (leaves_calls place s.stack e apart))

pub ok_left : {A E : Type 0} (r : Result A E) (place : ℕ) (e : Entry) (name : List ℕ) (lists : Lists) (state : State) (left : Left) (x : Fields)
    → is_intent e ≡ false → place ≡ x.place + 1
    → effect_from lists state ≡ effect_at place e (stack_known (value_at name x.stacks))
    → HasSpare (places_for (length (awaited_known (value_at name x.stacks)))) state
    → IfOk r (λ _. left.state ≡ state)
    → IfOk r (λ _. unwrap_or left.exports x.exports ≡ exports_after name lists.exports x.exports)
    → IfOk r (λ _. unwrap_or left.pins x.pins ≡ pins_after name (names_listed lists.pins) x.pins)
    → IfOk r (λ _. unwrap_or left.claims x.claims ≡ pins_after name (names_listed lists.claims) x.claims)
    → IfOk r (λ _. left.more.items ≡ [])
    → IfOk r (λ _. value_at name x.stacks ≡ None → length x.stacks + 1 ≤ vec_capacity left.more)
    → IfOk r (λ _. IsLeft e name left x)
ok_left (Ok a) place e name lists state left x n p k spare hs hx hp hc he hr =
    let there : effect_from lists state ≡ effect_at (x.place + 1) e (stack_known (value_at name x.stacks)) =
    k ∙ ap (λ (m : ℕ). effect_at m e (stack_known (value_at name x.stacks))) p in
    let stack : state_of left.state ≡ (effect_at (x.place + 1) e (stack_known (value_at name x.stacks))).stack = ap state_of hs ∙ ap (λ (f : Effect). f.stack) there in
    record {
      stack = stack;
      exports = hx ∙ ap (λ (f : Effect). exports_after name f.exports x.exports) there;
      pins = hp ∙ ap (λ (f : Effect). pins_after name f.pins x.pins) there;
      claims = hc ∙ ap (λ (f : Effect). pins_after name f.claims x.claims) there;
      fits = leaves_fit (x.place + 1) e left.state (vec_capacity left.more) (length x.stacks) (value_at name x.stacks) n stack
          (subst (λ (s : State). HasSpare (places_for (length (awaited_known (value_at name x.stacks)))) s) (sym hs) spare) hr;
      empty = he;
    }
ok_left (Err f) place e name lists state left x n p k spare hs hx hp hc he hr = tt
