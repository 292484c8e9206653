-- How many calls are awaited before and after an entry.
use Rattle.std.proofs.Common.{◌≡◌, ℕ, ◌+◌, ◌≤◌, ◌==◌, Bool, true, false, ◌||◌, not, List, [], ◌∷◌, ◌++◌, Option, Some, None, filter, length, map, refl, ap, sym, ◌∙◌, cond, arith, length-append}
use Rattle.std.specs.Option.{option_map_or}
use Rattle.cf_tree.specs.Keys.{ascends, put, value_at}
use Rattle.cf_entry.specs.declared.entry.Begun.TheVariants as begin
use Rattle.cf_entry.specs.declared.entry.Entry.{Entry}
use Rattle.cf_entry.specs.declared.entry.Entry.TheVariants as entry
use Rattle.cf_effect.specs.Bounds.{IsShortOutcomeOf}
use Rattle.cf_stacks.specs.Room.{StackStanding, calls_after, has_call, with_awaited, without_awaited}
use Rattle.cf_effect.specs.Fold.{is_intent}
use Rattle.cf_stacks.specs.Standing.{NamedStanding, awaited_known, calls_in, calls_total, opened_as}
use Rattle.cf_stacks.proofs.Worlds.{total_put}

count_known : (o : Option StackStanding) → option_map_or (λ s. length s.awaited) o 0 ≡ length (awaited_known o)
count_known None = refl
count_known (Some s) = refl

without_fewer : (t : ℕ) (ts : List ℕ) → length (without_awaited t ts) ≤ length ts
without_fewer t [] = omega arith
without_fewer t (u ∷ ts) = by (t == u) (without_fewer t ts)
  where
    by : (b : Bool) → length (without_awaited t ts) ≤ length ts → length (cond (not b) (u ∷ without_awaited t ts) (without_awaited t ts)) ≤ length (u ∷ ts)
    by true h = omega (arith, h)
    by false h = omega (arith, h)

without_less : (t : ℕ) (ts : List ℕ) → has_call t ts ≡ true → length (without_awaited t ts) + 1 ≤ length ts
without_less t [] e = absurd cc
without_less t (u ∷ ts) e = by (t == u) (without_less t ts) e
  where
    by : (b : Bool) → (has_call t ts ≡ true → length (without_awaited t ts) + 1 ≤ length ts) → (b || has_call t ts) ≡ true → length (cond (not b) (u ∷ without_awaited t ts) (without_awaited t ts)) + 1 ≤ length (u ∷ ts)
    by true h e = omega (arith, without_fewer t ts)
    by false h e = let k = h e in omega (arith, k)

with_more : (t : ℕ) (ts : List ℕ) → length (with_awaited t ts) ≤ length ts + 1
with_more t ts = omega (arith, length-append (without_awaited t ts) (t ∷ []), without_fewer t ts)

calls_fewer : (e : Entry) (ts : List ℕ) → is_intent e ≡ false → length (calls_after e ts) ≤ length ts
calls_fewer (entry.Opened epoch lanes) ts h = omega arith
calls_fewer (entry.Begin number name (begin.Create source)) ts h = omega arith
calls_fewer (entry.Begin number name (begin.Update source)) ts h = omega arith
calls_fewer (entry.Begin number name (begin.Delete paths)) ts h = omega arith
calls_fewer (entry.Begin number name (begin.Continue paths)) ts h = omega arith
calls_fewer (entry.Kept number path physical w) ts h = omega arith
calls_fewer (entry.Intent number token lane path r) ts h = absurd cc
calls_fewer (entry.Outcome number token answer before after) ts h = without_fewer token ts
calls_fewer (entry.Phase number p cause) ts h = omega arith
calls_fewer (entry.Done number state failed) ts h = omega arith
calls_fewer (entry.ChangeSet number name source rows outputs) ts h = omega arith

module _ (ss : List NamedStanding) (order : ascends ss ≡ true) (name : List ℕ) (v : StackStanding) where
  counted : calls_total (put name v ss) + length (awaited_known (value_at name ss)) ≡ calls_total ss + length v.awaited
  counted = ap (λ (n : ℕ). calls_total (put name v ss) + n) (sym (count_known (value_at name ss))) ∙ total_put name v ss order

  pub total_left : (e : Entry) → is_intent e ≡ false → v.awaited ≡ calls_after e (awaited_known (value_at name ss)) → calls_total (put name v ss) ≤ calls_total ss
  total_left e n h = let fewer = calls_fewer e (awaited_known (value_at name ss)) n in let same = ap (λ (ts : List ℕ). length ts) h in omega (arith, counted, fewer, same)

  pub total_called : (t : ℕ) → v.awaited ≡ with_awaited t (awaited_known (value_at name ss)) → calls_total (put name v ss) ≤ calls_total ss + 1
  total_called t h = let most = with_more t (awaited_known (value_at name ss)) in let same = ap (λ (ts : List ℕ). length ts) h in omega (arith, counted, most, same)

  pub total_answered : (t : ℕ) → has_call t (awaited_known (value_at name ss)) ≡ true → v.awaited ≡ without_awaited t (awaited_known (value_at name ss)) → calls_total (put name v ss) + 1 ≤ calls_total ss
  total_answered t e h = let less = without_less t (awaited_known (value_at name ss)) e in let same = ap (λ (ts : List ℕ). length ts) h in omega (arith, counted, less, same)

pub total_opened : (place : ℕ) (e : Entry) (ss : List NamedStanding) → calls_total (map (λ s. (s.0, opened_as place e s.1)) ss) ≡ calls_total ss
total_opened place e [] = refl
total_opened place e (s ∷ ss) = ap (λ (n : ℕ). length s.1.awaited + n) (total_opened place e ss)

-- the same calls are as many
abbrev total_of : List (List ℕ × List ℕ) → ℕ
total_of [] = 0
total_of (c ∷ cs) = length c.1 + total_of cs

total_seen : (ss : List NamedStanding) → calls_total ss ≡ total_of (map calls_in ss)
total_seen [] = refl
total_seen (s ∷ ss) = ap (λ (n : ℕ). length s.1.awaited + n) (total_seen ss)

pub total_same : (ss ts : List NamedStanding) → map calls_in ss ≡ map calls_in ts → calls_total ss ≡ calls_total ts
total_same ss ts h = total_seen ss ∙ ap total_of h ∙ sym (total_seen ts)
