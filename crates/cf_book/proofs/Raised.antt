-- The lanes that the last opening names stay raised, whatever a book does.
use Rattle.std.proofs.Common.{◌≡◌, ℕ, ◌+◌, Bool, true, false, List, [], ◌∷◌, ◌++◌, Option, Some, None, map, slice_get, refl, sym, ◌∙◌, ap, subst, cond, arith, true≢false}
use Rattle.std.specs.Str.{bytes_eq}
use Rattle.cf_tree.specs.Lists.{In}
use Rattle.cf_tree.specs.declared.request.Request.{Request}
use Rattle.cf_schema.specs.declared.described.Schema.{Schema}
use Rattle.cf_handler.specs.declared.settled.Settlement.{Settlement}
use Rattle.cf_handler.specs.Fence.{FencedLane, Flying, FlyingOn, Left, SettledBy, Untouched, late_by, left_by, settled_late}
use Rattle.cf_handler.specs.Tells.{LateEffect}
use Rattle.cf_entry.specs.declared.entry.Entry.{Entry}
use Rattle.cf_entry.specs.declared.entry.Entry.TheVariants as entry
use Rattle.cf_effect.specs.Fold.{is_opening, world_after}
use Rattle.cf_effect.specs.World.{World, empty_world}
use Rattle.cf_stacks.proofs.Folded.{folded_more}
use Rattle.cf_plan.proofs.Causing.{map_in}
use Rattle.cf_plan.specs.Lanes.{Lane}
use Rattle.cf_plan.specs.Life.{Act, AreRaised, Begin, BrokenWith, BrokenWithout, CallEnd, ChangeSet, Close, Crash, End, Event, Grant, Happens, IsBegin, IsGranted, IsLife, Late, Lease, Life, Opened, Park, Raise, Repeat, Settle, Whole, appended, changed, first_again, granted, lane_acted, lane_changing, lease_at, life_after, named_lane, repeated, replied_to, world_of}
use Rattle.cf_core.proofs.FitKept.{after_lanes}
use Rattle.cf_core.proofs.KeepSound.{outcome_new}
use Rattle.cf_core.proofs.Stacks.{left_of}
use Rattle.cf_book.specs.Events.{late_on}
use Rattle.cf_book.specs.Record.{world_left}

-- what a book does with its lanes and its journal once it is open
abbrev pub IsOfBook : Event → Type 0
IsOfBook (Begin e end) = Unit {0}
IsOfBook (Grant e end) = Unit {0}
IsOfBook (Repeat token) = Unit {0}
IsOfBook (Settle token e end) = Unit {0}
IsOfBook (Park token) = Unit {0}
IsOfBook (Act token reply left) = Unit {0}
IsOfBook (Late name place s) = Unit {0}
IsOfBook _ = ⊥

abbrev pub AreOfBook : List Event → Type 0
AreOfBook [] = Unit {0}
AreOfBook (e ∷ es) = IsOfBook e × AreOfBook es

pub call_of_book : (name : List ℕ) (effects : List LateEffect) (token : ℕ) (reply : CallEnd) (left : Left)
    → AreOfBook (map (late_on name) effects ++ Act token reply left ∷ [])
call_of_book name [] token reply left = (tt, tt)
call_of_book name (e ∷ es) token reply left = (tt, call_of_book name es token reply left)

-- neither a call nor a late effect changes the fence of its lane
left_fence : (left : Left) (epoch token : ℕ) (r : Request) (l : FencedLane) → (left_by left epoch token r l).fence ≡ l.fence
left_fence Untouched epoch token r l = refl
left_fence (SettledBy s) epoch token r l = refl
left_fence FlyingOn epoch token r l = refl

pub late_fence : (place : ℕ) (s : Settlement) (l : FencedLane) → (late_by place s l).fence ≡ l.fence
late_fence place s l = by (slice_get l.flying place) where
  by : (o : Option Flying) → (settled_late place s l o).fence ≡ l.fence
  by None = refl
  by (Some f) = refl

module _ (name : List ℕ) (f : FencedLane → FencedLane) (keeps : (l : FencedLane) → (f l).fence ≡ l.fence) where
  raised_changed : (life : Life) → AreRaised life → AreRaised (lane_changing name f life)
  raised_changed life h l i n =
      let (a, j, e) = map_in (changed name f) l life.lanes i in
      ap (λ (z : Lane). z.state.fence) (sym e) ∙ same a (bytes_eq name a.name)
      ∙ h a j (subst (λ m. In m (world_of life).lanes) (ap named_lane (sym e) ∙ named a (bytes_eq name a.name)) n)
    where
      same : (a : Lane) (b : Bool) → (cond b (record a { state = f a.state }) a).state.fence ≡ a.state.fence
      same a true = keeps a.state
      same a false = refl

      named : (a : Lane) (b : Bool) → named_lane (cond b (record a { state = f a.state }) a) ≡ named_lane a
      named a true = refl
      named a false = refl

-- it is of lanes and entries alone
pub raised_so : (a b : Life) → b.lanes ≡ a.lanes → b.entries ≡ a.entries → AreRaised a → AreRaised b
raised_so a b lanes entries h l i n =
    h l (subst (In l) lanes i) (subst (λ es. In (named_lane l) (world_left es).lanes) entries n)
    ∙ ap (λ es. (world_left es).epoch) (sym entries)

-- An entry that is no opening changes neither the epoch nor the lanes of the last one.
pub record KeepsOpening (x y : World) : Type 0 where
  pub lanes : y.lanes ≡ x.lanes
  pub epoch : y.epoch ≡ x.epoch

opening_kept : (x : World) (e : Entry) → is_opening e ≡ false → KeepsOpening x (world_after x e)
opening_kept x e n = record { lanes = after_lanes x e n; epoch = grind (arith, true≢false, left_of) }

-- of entries, one more of them
pub opening_left : (es : List Entry) (e : Entry) → is_opening e ≡ false
    → KeepsOpening (world_left es) (world_left (es ++ e ∷ []))
opening_left es e n =
    subst (KeepsOpening (world_left es)) (folded_more empty_world es e) (opening_kept (world_left es) e n)

raised_appended : (end : End) (e : Entry) (life : Life) → is_opening e ≡ false → AreRaised life → AreRaised (appended end e life)
raised_appended end e life n h = by end where
  kept : KeepsOpening (world_of life) (world_left (life.entries ++ e ∷ []))
  kept = opening_left life.entries e n

  with_it : (l : Lane) → In l life.lanes → In (named_lane l) (world_left (life.entries ++ e ∷ [])).lanes
      → l.state.fence ≡ (world_left (life.entries ++ e ∷ [])).epoch
  with_it l i m = h l i (subst (In (named_lane l)) kept.lanes m) ∙ sym kept.epoch

  by : (end : End) → AreRaised (appended end e life)
  by Whole = with_it
  by BrokenWith = with_it
  by BrokenWithout = h

pub begin_new : (e : Entry) → IsBegin e → is_opening e ≡ false
begin_new e i = grind arith

pub granted_new : (e : Entry) → IsGranted e → is_opening e ≡ false
granted_new e i = grind arith

-- what is granted leaves lanes and entries
granted_same : (end : End) (e : Entry) (m : Life) → ((granted end e m).lanes ≡ m.lanes) × ((granted end e m).entries ≡ m.entries)
granted_same Whole (entry.Intent number token lane path r) m = (refl, refl)
granted_same Whole (entry.Opened epoch lanes) m = (refl, refl)
granted_same Whole (entry.Begin number name k) m = (refl, refl)
granted_same Whole (entry.ChangeSet number name source rows outputs) m = (refl, refl)
granted_same Whole (entry.Kept number path physical w) m = (refl, refl)
granted_same Whole (entry.Outcome number token a before after) m = (refl, refl)
granted_same Whole (entry.Phase number p cause) m = (refl, refl)
granted_same Whole (entry.Done number state failed) m = (refl, refl)
granted_same BrokenWith e m = (refl, refl)
granted_same BrokenWithout e m = (refl, refl)

repeated_same : (o : Option Lease) (m : Life) → AreRaised m → AreRaised (repeated o m)
repeated_same None m h = h
repeated_same (Some l) m h = h

acted_raised : (left : Left) (o : Option Lease) (m : Life) → AreRaised m → AreRaised (lane_acted left o m)
acted_raised left None m h = h
acted_raised left (Some l) m h = raised_changed l.lane (left_by left (world_of m).epoch l.token l.request) (left_fence left (world_of m).epoch l.token l.request) m h

pub raised_after : (schemas : List Schema) (a : Life) (e : Event) → IsOfBook e → Happens schemas a e → AreRaised a → AreRaised (life_after a e)
raised_after schemas a (Begin e end) i may h = raised_appended end e a (begin_new e may.2) h
raised_after schemas a (Grant e end) i may h =
    let same = granted_same end e (appended end e a) in
    raised_so (appended end e a) (granted end e (appended end e a)) same.0 same.1 (raised_appended end e a (granted_new e may.1) h)
raised_after schemas a (Repeat token) i may h = repeated_same (first_again token (world_of a).stacks) a h
raised_after schemas a (Settle token e end) i (running, lease, reply, at, replies, is, may) h =
    raised_so (appended end e a) (life_after a (Settle token e end)) refl refl (raised_appended end e a (outcome_new lease reply e is) h)
raised_after schemas a (Park token) i may h = h
raised_after schemas a (Act token reply left) i may h = acted_raised left (lease_at token a) a h
raised_after schemas a (Late name place s) i may h = raised_changed name (late_by place s) (late_fence place s) a h
raised_after schemas a (Opened epoch lanes end) i may h = absurd i
raised_after schemas a (ChangeSet e end) i may h = absurd i
raised_after schemas a (Raise name x moved before counted) i may h = absurd i
raised_after schemas a Close i may h = absurd i
raised_after schemas a Crash i may h = absurd i

pub raised_along : (schemas : List Schema) (a : Life) (es : List Event) (b : Life) → AreOfBook es → IsLife schemas a es b → AreRaised a → AreRaised b
raised_along schemas a [] b i h r = subst AreRaised (sym h) r
raised_along schemas a (e ∷ es) b i h r = raised_along schemas (life_after a e) es b i.1 h.1 (raised_after schemas a e i.0 h.0 r)
