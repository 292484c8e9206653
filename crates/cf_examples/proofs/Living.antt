-- A life step by step, with the world of its entries known at each point, so that no step folds them again.
use Rattle.std.proofs.Common.{arith, ◌≡◌, refl, List, [], ◌∷◌, Some, None, Option, Bool, true, false, ℕ, sym, subst, ◌∙◌, ap, true≢false, ◌||◌, ◌&&◌}
use Rattle.std.specs.Prelude.{map, ◌==◌, ◌≤◌, not, if◌then◌else◌}
use Rattle.std.specs.List.{list_all, list_any}
use Rattle.std.specs.Option.{option_map_or}
use Rattle.std.specs.Str.{bytes_eq}
use Rattle.std.proofs.lemmas.Slice.Eq.{bytes_eq-Decides}
use Rattle.cf_handler.specs.declared.settled.Settlement.{Settlement}
use Rattle.cf_handler.specs.declared.fence.FenceAnswer.{FenceAnswer}
use Rattle.cf_handler.specs.Fence.{Left, left_by, late_by, LateMove, FenceMove, raised_to}
use Rattle.cf_entry.specs.declared.entry.Entry.{Entry}
use Rattle.cf_entry.specs.declared.entry.Entry.TheVariants as entry
use Rattle.cf_effect.specs.declared.held.Pending.{Pending}
use Rattle.cf_effect.specs.World.{StackState, World, stack_at, empty_world}
use Rattle.cf_effect.specs.Fold.{fold_of, world_after}
use Rattle.cf_effect.specs.Status.{Stage, stage_of}
use Rattle.cf_tree.specs.Named.{all_differ}
use Rattle.cf_tree.specs.Lists.{In}
use Rattle.cf_plan.specs.Follow.{MayFollow, MayRepeat, is_lane_leased}
use Rattle.cf_plan.specs.Lanes.{Lane, lane_at}
use Rattle.cf_plan.specs.Life as life
use Rattle.cf_plan.specs.Life.{Life, Lease, CallEnd, Event, End, Whole, BrokenWith, BrokenWithout, Happens, IsLife, IsBegin, IsChangeSet, IsGranted, IsOutcomeOf, MayLeave, AreHandedIn, AreRaised, life_after, world_of, tokens_out, is_running, appended, granted, lease_at, without_lease, with_lease, replied_to, lane_changing, lane_acted, named_lane, lease_for, first_again, repeated, fenced}
use Rattle.cf_plan.proofs.RunLists.{any_of}
use Rattle.cf_examples.specs.Given.{schemas}
use Rattle.cf_examples.proofs.Lists.{each_passes, and_true}
use Rattle.cf_examples.proofs.Refusing.{fold_more}

-- from this life, whose entries have made this world, these events lead to the last one
pub record IsLived (l : Life) (x : World) (es : List Event) (last : Life) : Type 0 where
  pub lives : world_of l ≡ x → IsLife schemas l es last

pub ended : {x : World} {l : Life} → IsLived l x [] l
ended = record { lives = λ is. refl }

step : {l : Life} {x : World} {e : Event} {es : List Event} {last : Life} (m : Life) (y : World) → (world_of l ≡ x → Happens schemas l e) → (world_of l ≡ x → life_after l e ≡ m) → (world_of l ≡ x → world_of m ≡ y) → IsLived m y es last → IsLived l x (e ∷ es) last
step {es = es} {last = last} m y may leads arrives rest = record { lives = λ is. (may is, subst (λ q. IsLife schemas q es last) (sym (leads is)) (rest.lives (arrives is))) }

-- an entry that may follow the known world
may_at : (l : Life) {x : World} (out : List ℕ) (e : Entry) → MayFollow schemas x out e → world_of l ≡ x → MayFollow schemas (world_of l) out e
may_at l out e may is = subst (λ y. MayFollow schemas y out e) (sym is) may

-- the world after an append
abbrev pub after_end : End → World → Entry → World
after_end BrokenWithout x e = x
after_end _ x e = world_after x e

appends : (l : Life) {x y : World} (end : End) (e : Entry) → after_end end x e ≡ y → world_of l ≡ x → world_of (appended end e l) ≡ y
appends l Whole e leads is = fold_more empty_world l.entries e is leads
appends l BrokenWith e leads is = fold_more empty_world l.entries e is leads
appends l BrokenWithout e leads is = is ∙ leads

-- The lanes of an opening: each is one that there is.
abbrev pub is_there : List Lane → List ℕ × List ℕ → Bool
is_there lanes n = option_map_or (λ (q : Lane). bytes_eq n.0 q.name && bytes_eq n.1 q.kind) (lane_at n.0 lanes) false

handed_in : (l : Life) (lanes : List (List ℕ × List ℕ)) → list_all (is_there l.lanes) lanes ≡ true → all_differ bytes_eq (map (λ n. n.0) lanes) ≡ true → AreHandedIn l lanes
handed_in l lanes all once = record { there_are = λ n i. there_is n (lane_at n.0 l.lanes) refl (each_passes (is_there l.lanes) lanes n all i); once = once }
  where
    there_is : (n : List ℕ × List ℕ) (o : Option Lane) → lane_at n.0 l.lanes ≡ o → option_map_or (λ (q : Lane). bytes_eq n.0 q.name && bytes_eq n.1 q.kind) o false ≡ true → (q : Lane) × (lane_at n.0 l.lanes ≡ Some q) × (n ≡ named_lane q)
    there_is n None is e = absurd (true≢false (sym e))
    there_is n (Some q) is e =
        let both = and_true (bytes_eq n.0 q.name) (bytes_eq n.1 q.kind) e in
        (q, is, ap (λ a. (a, n.1)) ((bytes_eq-Decides n.0 q.name).0 both.0) ∙ ap (λ k. (q.name, k)) ((bytes_eq-Decides n.1 q.kind).0 both.1))

same_number : (a b : ℕ) → (a == b) ≡ true → a ≡ b
same_number a b e = Prim.grind (arith)

-- each lane of the opening has its fence at the epoch
abbrev pub is_same_lane : List ℕ × List ℕ → List ℕ × List ℕ → Bool
is_same_lane a b = bytes_eq a.0 b.0 && bytes_eq a.1 b.1

abbrev pub is_raised : World → Lane → Bool
is_raised x q = q.state.fence == x.epoch || not (list_any (is_same_lane (named_lane q)) x.lanes)

are_raised : (l : Life) (x : World) → list_all (is_raised x) l.lanes ≡ true → world_of l ≡ x → AreRaised l
are_raised l x all is = subst (λ (y : World). (q : Lane) → In q l.lanes → In (named_lane q) y.lanes → q.state.fence ≡ y.epoch) (sym is) raised
  where
    both : (a b : Bool) → a ≡ true → b ≡ true → (a && b) ≡ true
    both true b e f = f
    both false b e f = e

    same : (n : List ℕ × List ℕ) → is_same_lane n n ≡ true
    same n = both (bytes_eq n.0 n.0) (bytes_eq n.1 n.1) ((bytes_eq-Decides n.0 n.0).1 refl) ((bytes_eq-Decides n.1 n.1).1 refl)

    raised : (q : Lane) → In q l.lanes → In (named_lane q) x.lanes → q.state.fence ≡ x.epoch
    raised q i named = let passes = each_passes (is_raised x) l.lanes q all i in told (q.state.fence == x.epoch) (list_any (is_same_lane (named_lane q)) x.lanes) refl passes (any_of (is_same_lane (named_lane q)) x.lanes (named_lane q) named (same (named_lane q)))
      where
        told : (a b : Bool) → (q.state.fence == x.epoch) ≡ a → (a || not b) ≡ true → b ≡ true → q.state.fence ≡ x.epoch
        told true b is e f = same_number q.state.fence x.epoch is
        told false true is e f = absurd (true≢false (sym e))
        told false false is e f = absurd (true≢false (sym f))

-- The events. Of an append, y is the world behind it.
pub opens : {l : Life} {x : World} {epoch : ℕ} {lanes : List (List ℕ × List ℕ)} {end : End} {es : List Event} {last : Life} (y : World) → l.is_open ≡ false → MayFollow schemas x [] (entry.Opened epoch lanes) → list_all (is_there l.lanes) lanes ≡ true → all_differ bytes_eq (map (λ n. n.0) lanes) ≡ true → after_end end x (entry.Opened epoch lanes) ≡ y → IsLived (life_after l (life.Opened epoch lanes end)) y es last → IsLived l x (life.Opened epoch lanes end ∷ es) last
opens {l = l} {epoch = epoch} {lanes = lanes} {end = end} y closed may there_are once leads rest =
    step (life_after l (life.Opened epoch lanes end)) y (λ is. (closed, may_at l [] (entry.Opened epoch lanes) may is, handed_in l lanes there_are once)) (λ is. refl) (λ is. appends (record l { leases = []; is_open = true; has_granted = false; is_stopped = false }) end (entry.Opened epoch lanes) leads is) rest

pub reviews : {l : Life} {x : World} {e : Entry} {end : End} {es : List Event} {last : Life} (y : World) → l.is_open ≡ false → IsChangeSet e → MayFollow schemas x [] e → after_end end x e ≡ y → IsLived (record (appended end e l) { is_stopped = false }) y es last → IsLived l x (life.ChangeSet e end ∷ es) last
reviews {l = l} {e = e} {end = end} y closed is_set may leads rest = step _ y (λ is. (closed, is_set, may_at l [] e may is)) (λ is. refl) (λ is. appends l end e leads is) rest

pub begins : {l : Life} {x : World} {e : Entry} {end : End} {es : List Event} {last : Life} (y : World) → is_running l ≡ true → list_all (is_raised x) l.lanes ≡ true → IsBegin e → MayFollow schemas x (tokens_out l) e → after_end end x e ≡ y → IsLived (appended end e l) y es last → IsLived l x (life.Begin e end ∷ es) last
begins {l = l} {x = x} {e = e} {end = end} y runs raised is_begin may leads rest = step _ y (λ is. (runs, are_raised l x raised is, is_begin, may_at l (tokens_out l) e may is)) (λ is. refl) (λ is. appends l end e leads is) rest

pub grants : {l : Life} {x : World} {e : Entry} {end : End} {es : List Event} {last : Life} (y : World) → is_running l ≡ true → IsGranted e → MayFollow schemas x (tokens_out l) e → after_end end x e ≡ y → (granted end e (appended end e l)).entries ≡ (appended end e l).entries → IsLived (granted end e (appended end e l)) y es last → IsLived l x (life.Grant e end ∷ es) last
grants {l = l} {e = e} {end = end} y runs is_granted may leads same rest = step _ y (λ is. (runs, is_granted, may_at l (tokens_out l) e may is)) (λ is. refl) (λ is. ap (fold_of empty_world) same ∙ appends l end e leads is) rest

pub repeats : {l : Life} {x : World} {token : ℕ} {es : List Event} {last : Life} (name : List ℕ) (s : StackState) (stage : Stage) (p : Pending) → is_running l ≡ true → stack_at name x ≡ Some s → stage_of s.status ≡ Some stage → p.token ≡ token → is_lane_leased (tokens_out l) x p.lane ≡ false → MayRepeat schemas name x (tokens_out l) s stage p → first_again token x.stacks ≡ Some (lease_for s.operation p) → IsLived (with_lease (lease_for s.operation p) l) x es last → IsLived l x (life.Repeat token ∷ es) last
repeats {l = l} {x = x} {token = token} name s stage p runs stands at of_token home may found rest =
    step (with_lease (lease_for s.operation p) l) x (λ is. (
      runs,
      name,
      s,
      stage,
      p,
      record {
        stands = subst (λ y. stack_at name y ≡ Some s) (sym is) stands;
        at_stage = at;
        of_token = of_token;
        at_home = subst (λ y. is_lane_leased (tokens_out l) y p.lane ≡ false) (sym is) home;
        may = subst (λ y. MayRepeat schemas name y (tokens_out l) s stage p) (sym is) may;
      },
    )) (λ is. ap (λ y. repeated (first_again token y.stacks) l) is ∙ ap (λ o. repeated o l) found) (λ is. is) rest

pub settles : {l : Life} {x : World} {token : ℕ} {e : Entry} {end : End} {lease : Lease} {reply : CallEnd} {es : List Event} {last : Life} (y : World) → is_running l ≡ true → lease_at token l ≡ Some lease → lease.reply ≡ Some reply → IsOutcomeOf lease reply e → MayFollow schemas x (tokens_out l) e → after_end end x e ≡ y → IsLived (without_lease token (appended end e l)) y es last → IsLived l x (life.Settle token e end ∷ es) last
settles {l = l} {e = e} {end = end} {lease = lease} {reply = reply} y runs at replied outcome may leads rest = step _ y (λ is. (runs, lease, reply, at, replied, outcome, may_at l (tokens_out l) e may is)) (λ is. refl) (λ is. appends l end e leads is) rest

pub parks : {l : Life} {x : World} {token : ℕ} {lease : Lease} {es : List Event} {last : Life} → l.is_open ≡ true → lease_at token l ≡ Some lease → IsLived (without_lease token l) x es last → IsLived l x (life.Park token ∷ es) last
parks {x = x} {lease = lease} is_open at rest = step _ x (λ is. (is_open, lease, at)) (λ is. refl) (λ is. is) rest

pub raises : {l : Life} {x : World} {name : List ℕ} {a : FenceAnswer} {moved : Bool} {before counted : ℕ} {lane : Lane} {es : List Event} {last : Life} → is_running l ≡ true → l.has_granted ≡ false → lane_at name l.lanes ≡ Some lane → In (named_lane lane) x.lanes → before ≤ counted → FenceMove lane.state (fenced moved x.epoch lane.state) x.epoch a before counted → IsLived (if moved then lane_changing name (λ q. raised_to q x.epoch) l else l) x es last → IsLived l x (life.Raise name a moved before counted ∷ es) last
raises {l = l} {x = x} {name = name} {a = a} {moved = moved} {before = before} {counted = counted} {lane = lane} runs new at named rises move rest =
    step _ x (λ is. (runs, new, lane, at, subst (λ (y : World). In (named_lane lane) y.lanes) (sym is) named, rises, subst (λ (y : World). FenceMove lane.state (fenced moved y.epoch lane.state) y.epoch a before counted) (sym is) move)) (λ is. ap (λ (y : World). if moved then lane_changing name (λ q. raised_to q y.epoch) l else l) is) (λ is. stays moved ∙ is) rest
  where
    stays : (m : Bool) → world_of (if m then lane_changing name (λ q. raised_to q x.epoch) l else l) ≡ world_of l
    stays true = refl
    stays false = refl

pub acts : {l : Life} {x : World} {token : ℕ} {reply : CallEnd} {left : Left} {lease : Lease} {lane : Lane} {es : List Event} {last : Life} → lease_at token l ≡ Some lease → lease.reply ≡ None → lane_at lease.lane l.lanes ≡ Some lane → MayLeave lane (left_by left x.epoch lease.token lease.request lane.state) x.epoch lease reply → IsLived (replied_to token reply (lane_changing lease.lane (left_by left x.epoch lease.token lease.request) l)) x es last → IsLived l x (life.Act token reply left ∷ es) last
acts {l = l} {x = x} {token = token} {reply = reply} {left = left} {lease = lease} {lane = lane} at none home may rest =
    step _ x (λ is. (lease, lane, at, none, home, subst (λ (y : World). MayLeave lane (left_by left y.epoch lease.token lease.request lane.state) y.epoch lease reply) (sym is) may)) (λ is. ap (λ o. replied_to token reply (lane_acted left o l)) at ∙ ap (λ (y : World). replied_to token reply (lane_changing lease.lane (left_by left y.epoch lease.token lease.request) l)) is) (λ is. is) rest

pub moves_late : {l : Life} {x : World} {name : List ℕ} {place : ℕ} {s : Settlement} {lane : Lane} {es : List Event} {last : Life} → lane_at name l.lanes ≡ Some lane → LateMove name lane.state (late_by place s lane.state) place s → IsLived (lane_changing name (late_by place s) l) x es last → IsLived l x (life.Late name place s ∷ es) last
moves_late {x = x} {lane = lane} at move rest = step _ x (λ is. (lane, at, move)) (λ is. refl) (λ is. is) rest

pub closes : {l : Life} {x : World} {es : List Event} {last : Life} → l.is_open ≡ true → l.leases ≡ [] → IsLived (life_after l life.Close) x es last → IsLived l x (life.Close ∷ es) last
closes {x = x} is_open none rest = step _ x (λ is. (is_open, none)) (λ is. refl) (λ is. is) rest

pub crashes : {l : Life} {x : World} {es : List Event} {last : Life} → IsLived (life_after l life.Crash) x es last → IsLived l x (life.Crash ∷ es) last
crashes {x = x} rest = step _ x (λ is. tt) (λ is. refl) (λ is. is) rest
