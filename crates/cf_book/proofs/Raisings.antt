-- Fences that are raised one after another, as events of a life.
use Rattle.std.proofs.Common.{◌≡◌, ◌⊎◌, inl, inr, ℕ, zero, suc, Bool, true, false, ◌||◌, List, [], ◌∷◌, ◌++◌, Option, Some, None, map, option_map, refl, sym, ◌∙◌, ap, subst, cond, true≢false}
use Rattle.std.specs.Bool.{IsTrue}
use Rattle.std.specs.List.{list_any}
use Rattle.std.proofs.lemmas.List.{append-nil}
use Rattle.std.specs.Str.{bytes_eq}
use Rattle.cf_tree.specs.Lists.{In}
use Rattle.cf_tree.specs.Named.{all_differ}
use Rattle.cf_schema.specs.declared.described.Schema.{Schema}
use Rattle.cf_handler.specs.declared.fence.FenceAnswer.{FenceAnswer}
use Rattle.cf_handler.specs.declared.fence.FenceAnswer.TheVariants as fence
use Rattle.cf_handler.specs.Fence.{FencedLane, FenceMove, late_by, raised_to}
use Rattle.cf_handler.specs.Tells.{FenceTells, LateEffect, Lates}
use Rattle.cf_lane.specs.Lanes.{IsFenced, LaneNow}
use Rattle.cf_plan.specs.Lanes.{Lane, lane_at}
use Rattle.cf_plan.specs.Life.{Event, IsLife, Life, Raise, changed, fenced, is_running, life_after, named_lane, world_of}
use Rattle.cf_plan.proofs.Causing.{map_in}
use Rattle.cf_plan.proofs.Differ.{differ_rest}
use Rattle.cf_plan.proofs.Listed.{bytes_same, same_bytes}
use Rattle.cf_plan.proofs.Members.{false_from}
use Rattle.cf_book.specs.Events.{late_on}
use Rattle.cf_book.specs.Entering.{AreRaisings, AreRaisingsTo, IsRaising}
use Rattle.cf_book.specs.Fences.{EachRaised, StopsRaising}
use Rattle.cf_book.specs.Lives.{told_lane}
use Rattle.cf_book.specs.Opening.{named_by}
use Rattle.cf_book.specs.State.{at_home}
use Rattle.cf_book.proofs.Moves.{IsMovedTo, along, lates_lead, moved, moved_on}
use Rattle.cf_book.proofs.Raised.{late_fence}

-- each lane tells, and is the one of its name
pub record Tells (all : List Lane) (b : LaneNow) : Type 0 where
  pub lane : Lane
  pub told : told_lane (at_home b) ≡ Some lane
  pub at : lane_at b.name all ≡ Some lane

abbrev pub TellAll : List Lane → List LaneNow → Type 0
TellAll all [] = Unit {0}
TellAll all (b ∷ bs) = Tells all b × TellAll all bs

abbrev pub labels : List LaneNow → List (List ℕ)
labels bs = map (λ b. b.name) bs

-- every lane of this name has its fence at the epoch
abbrev pub AreAt : ℕ → List Lane → List ℕ → Type 0
AreAt epoch all n = (l : Lane) → In l all → l.name ≡ n → l.state.fence ≡ epoch

module _ (epoch : ℕ) (m : List ℕ) (f : FencedLane → FencedLane) where
  at_kept : ((s : FencedLane) → ((f s).fence ≡ s.fence) ⊎ ((f s).fence ≡ epoch)) → (all : List Lane) (n : List ℕ) → AreAt epoch all n
      → AreAt epoch (map (changed m f) all) n
  at_kept keeps all n h l i e =
      let (a, j, is) = map_in (changed m f) l all i in
      by l a (bytes_eq m a.name) is (h a j) e
    where
      by : (l a : Lane) (b : Bool) → cond b (record a { state = f a.state }) a ≡ l → (a.name ≡ n → a.state.fence ≡ epoch) → l.name ≡ n → l.state.fence ≡ epoch
      by l a true is g e =
          let name : a.name ≡ n = ap (λ (z : Lane). z.name) is ∙ e in
          elim (keeps a.state) [
            | inl k ↦ ap (λ (z : Lane). z.state.fence) (sym is) ∙ k ∙ g name
            | inr k ↦ ap (λ (z : Lane). z.state.fence) (sym is) ∙ k
          ]
      by l a false is g e = ap (λ (z : Lane). z.state.fence) (sym is) ∙ g (ap (λ (z : Lane). z.name) is ∙ e)

  at_made : ((s : FencedLane) → (f s).fence ≡ epoch) → (all : List Lane) → AreAt epoch (map (changed m f) all) m
  at_made makes all l i e =
      let (a, j, is) = map_in (changed m f) l all i in
      by l a (bytes_eq m a.name) refl is e
    where
      by : (l a : Lane) (b : Bool) → bytes_eq m a.name ≡ b → cond b (record a { state = f a.state }) a ≡ l → l.name ≡ m → l.state.fence ≡ epoch
      by l a true q is e = ap (λ (z : Lane). z.state.fence) (sym is) ∙ makes a.state
      by l a false q is e =
          absurd (true≢false (sym (subst (λ n. bytes_eq m n ≡ true) (sym (ap (λ (z : Lane). z.name) is ∙ e)) (same_bytes m)) ∙ q))

-- late effects leave the fences
lates_at : (schemas : List Schema) (life end : Life) (name : List ℕ) (effects : List LateEffect) (epoch : ℕ) (n : List ℕ)
    → IsLife schemas life (map (late_on name) effects) end → AreAt epoch life.lanes n → AreAt epoch end.lanes n
lates_at schemas life end name [] epoch n h k = subst (λ (z : Life). AreAt epoch z.lanes n) (sym h) k
lates_at schemas life end name (e ∷ es) epoch n h k =
    lates_at schemas (life_after life (late_on name e)) end name es epoch n h.1
    (at_kept epoch name (late_by e.place e.settlement) (λ s. inl (late_fence e.place e.settlement s)) life.lanes n k)

-- A life whose book is open, in which no call was granted, over these lanes.
pub record IsRaisingIn (life : Life) : Type 0 where
  pub opened : life.is_open ≡ true
  pub running : life.is_stopped ≡ false
  pub ungranted : life.has_granted ≡ false

-- how a lane that tells stands in a life
pub record IsToldAs (b : LaneNow) (l : Lane) : Type 0 where
  pub state : FencedLane
  pub told : b.told ≡ Some state
  pub is : l ≡ record { name = b.name; kind = b.schema.kind; state = state }

pub told_as : (b : LaneNow) (l : Lane) → told_lane (at_home b) ≡ Some l → IsToldAs b l
told_as b l e = by b.told refl e where
  by : (o : Option FencedLane) → b.told ≡ o → option_map (λ (s : FencedLane). record { name = b.name; kind = b.schema.kind; state = s }) o ≡ Some l
      → IsToldAs b l
  by None t e = absurd (cc)
  by (Some s) t e = record { state = s; told = t; is = cc }

pub told_names : (b : LaneNow) (l : Lane) → told_lane (at_home b) ≡ Some l → (l.name ≡ b.name) × (l.kind ≡ b.schema.kind)
told_names b l e = let t = told_as b l e in (ap (λ (z : Lane). z.name) t.is, ap (λ (z : Lane). z.kind) t.is)

-- how the raising of a fence moves it
record IsMovedBy (mid lane : FencedLane) (epoch : ℕ) (x : FenceAnswer) (count counted : ℕ) : Type 0 where
  moves : Bool
  move : FenceMove mid (fenced moves epoch mid) epoch x count counted
  lane_is : lane ≡ fenced moves epoch mid
  raises : x ≡ fence.Raised → moves ≡ true

moved_by : (mid lane : FencedLane) (epoch : ℕ) (x : FenceAnswer) (count counted : ℕ) → FenceMove mid lane epoch x count counted
    → IsMovedBy mid lane epoch x count counted
moved_by mid lane epoch fence.Raised count counted m = record { moves = true; move = (m.0, refl); lane_is = m.1; raises = λ e. refl }
moved_by mid lane epoch (fence.Ahead f) count counted m = record { moves = false; move = (m.0, m.1, refl); lane_is = m.2; raises = λ e. cc }
moved_by mid lane epoch fence.Fault count counted (rose, below, inl e) =
    record { moves = false; move = (rose, below, inl refl); lane_is = e; raises = λ e. cc }
moved_by mid lane epoch fence.Fault count counted (rose, below, inr e) =
    record { moves = true; move = (rose, below, inr refl); lane_is = e; raises = λ e. refl }

-- One lane's fence.
pub record Fences (schemas : List Schema) (life : Life) (b a : LaneNow) (x : FenceAnswer) (was : Lane) : Type 0 where
  pub lanes : List Lane
  pub events : List Event
  pub raising : IsRaising b a x events
  pub happen : IsLife schemas life events (record life { lanes = lanes })
  pub state : FencedLane
  pub told : told_lane (at_home a) ≡ Some (record was { state = state })
  pub moves : IsMovedTo life.lanes lanes b.name was state
  pub keeps : (n : List ℕ) → AreAt (world_of life).epoch life.lanes n → AreAt (world_of life).epoch lanes n
  pub raises : x ≡ fence.Raised → AreAt (world_of life).epoch lanes b.name

module _ (schemas : List Schema) (life : Life) (open_is : IsRaisingIn life) (b a : LaneNow) (x : FenceAnswer) (was : Lane)
    (told : told_lane (at_home b) ≡ Some was) (at : lane_at b.name life.lanes ≡ Some was) (names : In (named_by b) (world_of life).lanes)
    (f : IsFenced b a (world_of life).epoch x) where
  abbrev epoch : ℕ
  epoch = (world_of life).epoch

  is_told : IsToldAs b was
  is_told = told_as b was told

  tells : FenceTells b.name (Some is_told.state) a.told epoch x b.count a.count
  tells = subst (λ o. FenceTells b.name o a.told epoch x b.count a.count) is_told.told f.tells

  mid : FencedLane
  mid = tells.0

  lates : Lates b.name was.state mid
  unfolding mid tells
  lates = subst (λ s. Lates b.name s mid) (sym (ap (λ (z : Lane). z.state) is_told.is)) tells.1

  by_move : IsMovedBy mid tells.2 epoch x b.count a.count
  unfolding mid tells
  by_move = moved_by mid tells.2 epoch x b.count a.count tells.4

  met : (lanes : List Lane) × IsLife schemas life (map (late_on b.name) lates.0) (record life { lanes = lanes })
      × IsMovedTo life.lanes lanes b.name was mid
  met = lates_lead schemas life b.name was lates.0 mid at lates.1

  abbrev raise : FencedLane → FencedLane
  raise s = raised_to s epoch

  abbrev lanes_by : Bool → List Lane
  lanes_by true = map (changed b.name raise) met.0
  lanes_by false = met.0

  abbrev before_it : Life
  before_it = record life { lanes = met.0 }

  abbrev raise_event : Event
  raise_event = Raise b.name x by_move.moves b.count a.count

  happens : IsLife schemas before_it (raise_event ∷ []) (record life { lanes = lanes_by by_move.moves })
  happens = ((running, open_is.ungranted, record was { state = mid }, met.2.itself, named, f.cause.0, by_move.move), after by_move.moves) where
    running : IsTrue (is_running before_it)
    running = rw open_is.opened (rw open_is.running refl)

    named : In (named_lane (record was { state = mid })) (world_of life).lanes
    named = subst (λ n. In n (world_of life).lanes) (ap named_lane (sym is_told.is)) names

    after : (moves : Bool) → record life { lanes = lanes_by moves } ≡ life_after before_it (Raise b.name x moves b.count a.count)
    after true = refl
    after false = refl

  moves_to : (moves : Bool) → IsMovedTo life.lanes (lanes_by moves) b.name was (fenced moves epoch mid)
  moves_to true =
      moved_on life.lanes met.0 (map (changed b.name raise) met.0) b.name was mid (raise mid) met.2
      (moved b.name raise met.0 (record was { state = mid }) met.2.itself)
  moves_to false = met.2

  keeps_by : (moves : Bool) (n : List ℕ) → AreAt epoch life.lanes n → AreAt epoch (lanes_by moves) n
  keeps_by true n h = at_kept epoch b.name raise (λ s. inr refl) met.0 n (lates_at schemas life before_it b.name lates.0 epoch n met.1 h)
  keeps_by false n h = lates_at schemas life before_it b.name lates.0 epoch n met.1 h

  raises_by : (moves : Bool) → moves ≡ true → AreAt epoch (lanes_by moves) b.name
  raises_by true e = at_made epoch b.name raise (λ s. refl) met.0
  raises_by false e = absurd (true≢false (sym e))

  told_after : told_lane (at_home a) ≡ Some (record was { state = fenced by_move.moves epoch mid })
  told_after =
      ap (option_map (λ (s : FencedLane). record { name = a.name; kind = a.schema.kind; state = s })) tells.3
      ∙ ap (λ (s : FencedLane). Some (record { name = a.name; kind = a.schema.kind; state = s })) by_move.lane_is
      ∙ ap (λ n. Some (record { name = n; kind = a.schema.kind; state = fenced by_move.moves epoch mid })) f.name
      ∙ ap (λ (g : Schema). Some (record { name = b.name; kind = g.kind; state = fenced by_move.moves epoch mid })) f.schema
      ∙ ap (λ (z : Lane). Some (record z { state = fenced by_move.moves epoch mid })) (sym is_told.is)

  pub one_fence : Fences schemas life b a x was
  one_fence = record {
    lanes = lanes_by by_move.moves;
    events = map (late_on b.name) lates.0 ++ raise_event ∷ [];
    raising = record { effects = lates.0; moved = by_move.moves; are = refl };
    happen = along schemas life (map (late_on b.name) lates.0) before_it (raise_event ∷ []) (record life { lanes = lanes_by by_move.moves }) met.1 happens;
    state = fenced by_move.moves epoch mid;
    told = told_after;
    moves = moves_to by_move.moves;
    keeps = keeps_by by_move.moves;
    raises = λ e. raises_by by_move.moves (by_move.raises e);
  }

-- Other lanes are as they were.
apart : (n m : List ℕ) → bytes_eq n m ≡ false → bytes_eq m n ≡ false
apart n m e = false_from (bytes_eq m n) (λ t. true≢false (sym (subst (λ k. bytes_eq n k ≡ true) (sym (bytes_same m n t)) (same_bytes n)) ∙ e))

left_of_or : (b c : Bool) → (b || c) ≡ false → (b ≡ false) × (c ≡ false)
left_of_or true c e = absurd (true≢false e)
left_of_or false c e = (refl, e)

tell_still : (bs : List LaneNow) (n : List ℕ) (before after : List Lane) (was : Lane) (state : FencedLane)
    → list_any (bytes_eq n) (labels bs) ≡ false → IsMovedTo before after n was state → TellAll before bs → TellAll after bs
tell_still [] n before after was state free m t = tt
tell_still (b ∷ bs) n before after was state free m t =
    let (other, rest) = left_of_or (bytes_eq n b.name) (list_any (bytes_eq n) (labels bs)) free in (
      record { lane = t.0.lane; told = t.0.told; at = m.others b.name (apart n b.name other) ∙ t.0.at },
      tell_still bs n before after was state rest m t.1,
    )

-- What the raisings leave: each lane tells as it is after its own, and lanes of other names are as they were.
pub record Raises (schemas : List Schema) (life : Life) (bs cs : List LaneNow) (events : List Event) : Type 0 where
  pub lanes : List Lane
  pub happen : IsLife schemas life events (record life { lanes = lanes })
  pub tell : TellAll lanes cs
  pub others : (m : List ℕ) → list_any (bytes_eq m) (labels bs) ≡ false → lane_at m lanes ≡ lane_at m life.lanes
  pub keeps : (n : List ℕ) → AreAt (world_of life).epoch life.lanes n → AreAt (world_of life).epoch lanes n

abbrev pub AreNamedIn : Life → List LaneNow → Type 0
AreNamedIn life [] = Unit {0}
AreNamedIn life (b ∷ bs) = In (named_by b) (world_of life).lanes × AreNamedIn life bs

-- the fences of all
pub record RaisesEach (schemas : List Schema) (life : Life) (bs cs : List LaneNow) : Type 0 where
  pub events : List Event
  pub are : AreRaisings bs cs events
  pub raises : Raises schemas life bs cs events
  pub each : (n : List ℕ) → list_any (bytes_eq n) (labels bs) ≡ true → AreAt (world_of life).epoch raises.lanes n

module _ (schemas : List Schema) where
  -- one lane, and then others
  joined : (life : Life) (b a : LaneNow) (bs cs : List LaneNow) (x : FenceAnswer) (was : Lane) (events : List Event) → list_any (bytes_eq b.name) (labels bs) ≡ false
      → a.name ≡ b.name
      → (one : Fences schemas life b a x was) → Raises schemas (record life { lanes = one.lanes }) bs cs events
      → Raises schemas life (b ∷ bs) (a ∷ cs) (one.events ++ events)
  joined life b a bs cs x was events free same one rest = record {
    lanes = rest.lanes;
    happen = along schemas life one.events (record life { lanes = one.lanes }) events (record life { lanes = rest.lanes }) one.happen rest.happen;
    tell = (
      record {
        lane = record was { state = one.state };
        told = one.told;
        at = ap (λ n. lane_at n rest.lanes) same ∙ rest.others b.name free ∙ one.moves.itself;
      },
      rest.tell,
    );
    others = λ m h.
        let (other, more) = left_of_or (bytes_eq m b.name) (list_any (bytes_eq m) (labels bs)) h in
        rest.others m more ∙ one.moves.others m other;
    keeps = λ n h. rest.keeps n (one.keeps n h);
  }

  none_more : (life : Life) → Raises schemas life [] [] []
  none_more life = record { lanes = life.lanes; happen = refl; tell = tt; others = λ m h. refl; keeps = λ n h. h }

  pub raise_each : (life : Life) (bs cs : List LaneNow) → IsRaisingIn life → TellAll life.lanes bs → all_differ bytes_eq (labels bs) ≡ true
      → AreNamedIn life bs → EachRaised bs cs (world_of life).epoch → RaisesEach schemas life bs cs
  unfolding joined
  raise_each life [] [] o t d n r = record { events = []; are = refl; raises = none_more life; each = λ m h. absurd (true≢false (sym h)) }
  raise_each life [] (c ∷ cs) o t d n r = absurd r
  raise_each life (b ∷ bs) [] o t d n r = absurd r
  raise_each life (b ∷ bs) (a ∷ cs) o t d n r =
      let free = differ_rest bytes_eq b.name (labels bs) d in
      let one = one_fence schemas life o b a fence.Raised t.0.lane t.0.told t.0.at n.0 r.0 in
      let next : Life = record life { lanes = one.lanes } in
      let rest = raise_each next bs cs (record { opened = o.opened; running = o.running; ungranted = o.ungranted }) (tell_still bs b.name life.lanes one.lanes t.0.lane one.state free.0 one.moves t.1) free.1 n.1 r.1 in
      record {
        events = one.events ++ rest.events;
        are = (one.events, rest.events, one.raising, rest.are, refl);
        raises = joined life b a bs cs fence.Raised t.0.lane rest.events free.0 r.0.name one rest.raises;
        each = λ m h. by m (bytes_eq m b.name) refl h (rest.raises.keeps b.name (one.raises refl)) (rest.each m);
      }
    where
      by : {all : List Lane} {e : ℕ} (m : List ℕ) (t : Bool) → bytes_eq m b.name ≡ t → (t || list_any (bytes_eq m) (labels bs)) ≡ true → AreAt e all b.name
          → (list_any (bytes_eq m) (labels bs) ≡ true → AreAt e all m) → AreAt e all m
      by {all = all} {e = e} m true q h first more = subst (AreAt e all) (sym (bytes_same m b.name q)) first
      by m false q h first more = more h

  -- and of those up to the one at this place
  pub raise_to : (life : Life) (bs cs : List LaneNow) (place : ℕ) (x : FenceAnswer) → IsRaisingIn life → TellAll life.lanes bs
      → all_differ bytes_eq (labels bs) ≡ true → AreNamedIn life bs → StopsRaising bs cs place (world_of life).epoch x
      → (events : List Event) × AreRaisingsTo bs cs place x events × Raises schemas life bs cs events
  raise_to life [] cs place x o t d n r = absurd r
  raise_to life (b ∷ bs) [] place x o t d n r = absurd r
  raise_to life (b ∷ bs) (a ∷ cs) zero x o t d n r =
      let free = differ_rest bytes_eq b.name (labels bs) d in
      let one = one_fence schemas life o b a x t.0.lane t.0.told t.0.at n.0 r.0 in
      let still = tell_still bs b.name life.lanes one.lanes t.0.lane one.state free.0 one.moves t.1 in
      let rest : Raises schemas (record life { lanes = one.lanes }) bs cs [] =
      subst (λ ds. Raises schemas (record life { lanes = one.lanes }) bs ds []) (sym r.1)
      (record { lanes = one.lanes; happen = refl; tell = still; others = λ m h. refl; keeps = λ n h. h }) in (
        one.events,
        one.raising,
        subst (Raises schemas life (b ∷ bs) (a ∷ cs)) (append-nil one.events)
            (joined life b a bs cs x t.0.lane [] free.0 r.0.name one rest),
      )
  raise_to life (b ∷ bs) (a ∷ cs) (suc place) x o t d n r =
      let free = differ_rest bytes_eq b.name (labels bs) d in
      let one = one_fence schemas life o b a fence.Raised t.0.lane t.0.told t.0.at n.0 r.0 in
      let next : Life = record life { lanes = one.lanes } in
      let (events, are, raises) = raise_to next bs cs place x (record { opened = o.opened; running = o.running; ungranted = o.ungranted }) (tell_still bs b.name life.lanes one.lanes t.0.lane one.state free.0 one.moves t.1) free.1 n.1 r.1 in (
        one.events ++ events,
        (one.events, events, one.raising, are, refl),
        joined life b a bs cs fence.Raised t.0.lane events free.0 r.0.name one raises,
      )
