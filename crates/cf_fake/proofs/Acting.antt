-- Calls that act late are moves of the lane, and each has its turn.
use Rattle.std.proofs.Common.{◌≡◌, inl, ℕ, zero, suc, ◌+◌, ◌-◌, ◌<◌, ◌≤◌, Bool, true, false, cond, ◌&&◌, List, [], ◌∷◌, ◌++◌, length, Option, Some, None, refl, ap, sym, ◌∙◌, true≢false, map, arith, subst, nat_le, get_or, slice_get, drop, take, Result, Ok, Err, IfOk}
use Rattle.std.specs.Prelude.{not, is_some, remove, option_map, OnErr}
use Rattle.std.specs.Cmp.{first_so, second_so}
use Rattle.std.proofs.lemmas.Bool.{leb-true}
use Rattle.std.proofs.lemmas.List.{append_assoc}
use Rattle.std.proofs.lemmas.List.Edits.{length-remove}
use Rattle.std.proofs.Math.Seq.{drop-cons, take-suc}
use Rattle.std.proofs.lemmas.Option.{slice_get-map}
use Rattle.std.specs.declared.alloc.AllocError.{AllocError}
use Rattle.cf_tree.specs.declared.request.Request.{Request}
use Rattle.cf_tree.specs.declared.request.Answer.{Answer}
use Rattle.cf_tree.specs.declared.request.Answer.TheVariants as answer
use Rattle.cf_schema.specs.declared.described.Schema.{Schema}
use Rattle.cf_handler.specs.declared.settled.Settlement.{Settlement}
use Rattle.cf_handler.specs.declared.settled.Settled.{Settled}
use Rattle.cf_handler.specs.Lane.{live_of, settlement_of}
use Rattle.cf_handler.specs.Move.{LaneMove, MaySettle}
use Rattle.cf_handler.specs.Fence.{FencedLane, Flying, CallMove, late_by, settled_late}
use Rattle.cf_handler.specs.Tells.{AreLate, LateEffect, Lates}
use Rattle.cf_fake.specs.declared.waiting.Waiting.{Waiting}
use Rattle.cf_fake.specs.Sound.{AnswersInLane, lane_of}
use Rattle.cf_answers.specs.Table.{answer_to}
use Rattle.cf_fake.specs.Plan.{new_entry}
use Rattle.cf_fake.specs.Late.{IsTurn, MovesBy, flying_of, is_due, lane_at, late_settled, late_waiting}

-- late effects after late effects
pub lates_then : (name : List ℕ) (a b c : FencedLane) → Lates name a b → Lates name b c → Lates name a c
lates_then name a b c l m = joined l.0 a l.1
  where
    joined : (es : List LateEffect) (x : FencedLane) → AreLate name x es b → Lates name x c
    joined [] x p = subst (λ y. Lates name y c) p m
    joined (e ∷ es) x p = let rest : Lates name (late_by e.place e.settlement x) c = joined es (late_by e.place e.settlement x) p.1 in (e ∷ rest.0, (p.0, rest.1))

-- what is left of a list once an element is taken off
map_removed : {A B : Type 0} (f : A → B) (xs : List A) (i : ℕ) → map f (remove xs i) ≡ remove (map f xs) i
map_removed f [] zero = refl
map_removed f [] (suc i) = refl
map_removed f (x ∷ xs) zero = refl
map_removed f (x ∷ xs) (suc i) = ap (λ ys. f x ∷ ys) (map_removed f xs i)

drop_removed : {A : Type 0} (xs : List A) (i : ℕ) → drop i (remove xs i) ≡ drop (suc i) xs
drop_removed [] zero = refl
drop_removed [] (suc i) = refl
drop_removed (x ∷ xs) zero = refl
drop_removed (x ∷ xs) (suc i) = drop_removed xs i

take_removed : {A : Type 0} (xs : List A) (i : ℕ) → take i (remove xs i) ≡ take i xs
take_removed [] zero = refl
take_removed [] (suc i) = refl
take_removed (x ∷ xs) zero = refl
take_removed (x ∷ xs) (suc i) = ap (λ ys. x ∷ ys) (take_removed xs i)

unsettled : (o : Option Settlement) → not (is_some o) ≡ true → o ≡ None
unsettled None h = refl
unsettled (Some s) h = absurd (true≢false (sym h))

-- a call that is due and is settled by the table's answer acts late
pub acts_late : (g : Schema) (name : List ℕ) (number fence at : ℕ) (ss ss' : List Settled) (ws ws' : List Waiting) (w : Waiting) → slice_get ws at ≡ Some w → is_due number fence ss w ≡ true → MaySettle name (lane_of ss) w.request (answer_to g name w.token (live_of (lane_of ss)) w.request) → ss' ≡ ss ++ new_entry None g name w.token w.request ss ∷ [] → ws' ≡ remove ws at → Lates name (lane_at ss ws fence) (lane_at ss' ws' fence)
acts_late g name number fence at ss ss' ws ws' w stands due may d r =
    let s : Settlement = answer_to g name w.token (live_of (lane_of ss)) w.request in
    let flies : slice_get (map flying_of ws) at ≡ Some (flying_of w) = slice_get-map flying_of ws at ∙ ap (λ (o : Option Waiting). option_map flying_of o) stands in
    let rest : (nat_le fence w.epoch && not (is_some (settlement_of w.token ss))) ≡ true = second_so (nat_le w.due number) _ due in
    let left : lane_at ss' ws' fence ≡ settled_late at s (lane_at ss ws fence) (Some (flying_of w)) =
    (λ i. record { state = lane_of (d i); flying = (ap (λ (xs : List Waiting). map flying_of xs) r ∙ map_removed flying_of ws at) i; fence = fence }) in (
      record { place = at; settlement = s } ∷ [],
      (
        record {
          flying = flying_of w;
          stands = flies;
          passes = leb-true _ _ (first_so _ _ rest);
          is_new = unsettled (settlement_of w.token ss) (second_so (nat_le fence w.epoch) _ rest);
          fits = may;
          leaves = refl;
        },
        left ∙ ap (λ (o : Option Flying). settled_late at s (lane_at ss ws fence) o) (sym flies),
      ),
    )

-- after a turn the others have theirs
later_by : (g : Schema) (name : List ℕ) (number fence at next : ℕ) (ss : List Settled) (ws ws' : List Waiting) (w : Waiting) (b : Bool) → ws' ≡ cond b (remove ws at) ws → next ≡ cond b at (at + 1) → drop next ws' ≡ drop (suc at) ws
later_by g name number fence at next ss ws ws' w true r n = (λ i. drop (n i) (r i)) ∙ drop_removed ws at
later_by g name number fence at next ss ws ws' w false r n =
    let e : at + 1 ≡ suc at = omega arith in
    (λ i. drop (n i) (r i)) ∙ ap (λ (k : ℕ). drop k ws) e

pub turn_settled : (g : Schema) (name : List ℕ) (number fence at next : ℕ) (ss ss' : List Settled) (ws ws' : List Waiting) (d : Waiting) → at < length ws → IsTurn g name number fence at (get_or ws at d) ss ws ss' ws' next → late_settled g name number fence (drop at ws) ss ≡ late_settled g name number fence (drop next ws') ss'
turn_settled g name number fence at next ss ss' ws ws' d l t =
    let w : Waiting = get_or ws at d in
    ap (λ (xs : List Waiting). late_settled g name number fence xs ss) (drop-cons ws at d l)
    ∙ (λ i. late_settled g name number fence (sym (later_by g name number fence at next ss ws ws' w (is_due number fence ss w) t.1 t.2) i) (sym t.0 i))

waits_by : (g : Schema) (name : List ℕ) (number fence at next : ℕ) (ss ss' : List Settled) (ws ws' : List Waiting) (d : Waiting) (b : Bool) → at < length ws → ss' ≡ cond b (ss ++ new_entry None g name (get_or ws at d).token (get_or ws at d).request ss ∷ []) ss → ws' ≡ cond b (remove ws at) ws → next ≡ cond b at (at + 1) →
    take at ws ++ cond b (late_waiting g name number fence (drop (suc at) ws) ss') (get_or ws at d ∷ late_waiting g name number fence (drop (suc at) ws) ss) ≡ take next ws' ++ late_waiting g name number fence (drop (suc at) ws) ss'
waits_by g name number fence at next ss ss' ws ws' d true l s r n =
    λ i. (sym (take_removed ws at) ∙ (λ j. take (sym n j) (sym r j))) i ++ late_waiting g name number fence (drop (suc at) ws) ss'
waits_by g name number fence at next ss ss' ws ws' d false l s r n =
    let e : suc at ≡ at + 1 = omega arith in
    sym (append_assoc (take at ws) (get_or ws at d ∷ []) (late_waiting g name number fence (drop (suc at) ws) ss))
    ∙ (λ i. (sym (take-suc ws at d l) ∙ ap (λ (k : ℕ). take k ws) e ∙ (λ j. take (sym n j) (sym r j))) i ++ late_waiting g name number fence (drop (suc at) ws) (sym s i))

pub turn_waiting : (g : Schema) (name : List ℕ) (number fence at next : ℕ) (ss ss' : List Settled) (ws ws' : List Waiting) (d : Waiting) → at < length ws → IsTurn g name number fence at (get_or ws at d) ss ws ss' ws' next → take at ws ++ late_waiting g name number fence (drop at ws) ss ≡ take next ws' ++ late_waiting g name number fence (drop next ws') ss'
turn_waiting g name number fence at next ss ss' ws ws' d l t =
    let w : Waiting = get_or ws at d in
    ap (λ (xs : List Waiting). take at ws ++ late_waiting g name number fence xs ss) (drop-cons ws at d l)
    ∙ (λ i. take at ws ++ cond (is_due number fence ss w) (late_waiting g name number fence (drop (suc at) ws) (sym t.0 i)) (w ∷ late_waiting g name number fence (drop (suc at) ws) ss))
    ∙ waits_by g name number fence at next ss ss' ws ws' d (is_due number fence ss w) l t.0 t.1 t.2
    ∙ ap (λ (xs : List Waiting). take next ws' ++ late_waiting g name number fence xs ss') (sym (later_by g name number fence at next ss ws ws' w (is_due number fence ss w) t.1 t.2))

steps_by : (b : Bool) (ws ws' : List Waiting) (at next : ℕ) → at < length ws → ws' ≡ cond b (remove ws at) ws → next ≡ cond b at (at + 1) → (next ≤ length ws') × (length ws' - next < length ws - at)
steps_by true ws ws' at next l r n = rw r (rw n (omega (arith, l, length-remove ws at l), omega (arith, l, length-remove ws at l)))
steps_by false ws ws' at next l r n = rw r (rw n (omega (arith, l), omega (arith, l)))

pub turn_steps : (g : Schema) (name : List ℕ) (number fence at next : ℕ) (ss ss' : List Settled) (ws ws' : List Waiting) (d : Waiting) → at < length ws → IsTurn g name number fence at (get_or ws at d) ss ws ss' ws' next → (next ≤ length ws') × (length ws' - next < length ws - at)
turn_steps g name number fence at next ss ss' ws ws' d l t = steps_by (is_due number fence ss (get_or ws at d)) ws ws' at next l t.1 t.2

-- How the lane moves by a call that is worked.
call_by : (name : List ℕ) (ss ss' : List Settled) (ws : List Waiting) (fence epoch token : ℕ) (request : Request) (x : Answer) → fence ≤ epoch → AnswersInLane name x → LaneMove name (lane_of ss) (lane_of ss') token request x → CallMove name (lane_at ss ws fence) (lane_at ss' ws fence) epoch token request x
call_by name ss ss' ws fence epoch token request (answer.Success id attrs) h i m = (h, (lane_of ss', m, refl))
call_by name ss ss' ws fence epoch token request (answer.Failed c) h i m = (h, (lane_of ss', m, refl))
call_by name ss ss' ws fence epoch token request answer.Fault h i m = (h, inl (lane_of ss', m, refl))
call_by name ss ss' ws fence epoch token request (answer.Stale f) h i m = absurd i
call_by name ss ss' ws fence epoch token request answer.NoMemory h i m = λ j. record { state = m j; flying = map flying_of ws; fence = fence }

pub worked : (name : List ℕ) (a : FencedLane) (ss ss' : List Settled) (ws : List Waiting) (fence epoch token : ℕ) (request : Request) (r : Result Answer AllocError) → Lates name a (lane_at ss ws fence) → fence ≤ epoch → IfOk r (λ x. AnswersInLane name x × LaneMove name (lane_of ss) (lane_of ss') token request x) → OnErr r (ss' ≡ ss) → MovesBy name a (lane_at ss' ws fence) epoch token request r
worked name a ss ss' ws fence epoch token request (Ok x) l h m e =
    (m.0, (lane_at ss ws fence, l, lane_at ss' ws fence, refl, call_by name ss ss' ws fence epoch token request x h m.0 m.1))
worked name a ss ss' ws fence epoch token request (Err x) l h m e = subst (λ (xs : List Settled). Lates name a (lane_at xs ws fence)) (sym e) l
