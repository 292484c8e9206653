-- The last opening names the lanes of a book, whatever the book does: their names and types stay, and it writes no opening.
use Rattle.std.proofs.Common.{◌≡◌, ℕ, Bool, true, false, List, [], ◌∷◌, map, refl, sym, ◌∙◌, ap, cond}
use Rattle.std.specs.Str.{bytes_eq}
use Rattle.cf_tree.specs.Lists.{In}
use Rattle.cf_tree.specs.Lists.In.{here, there}
use Rattle.cf_tree.specs.Named.{all_differ}
use Rattle.cf_schema.specs.declared.described.Schema.{Schema}
use Rattle.cf_entry.specs.declared.entry.Entry.{Entry}
use Rattle.cf_effect.specs.Fold.{is_opening}
use Rattle.cf_effect.specs.World.{World}
use Rattle.cf_lane.specs.Calling.{Granted}
use Rattle.cf_lane.specs.Lanes.{LaneNow}
use Rattle.cf_plan.proofs.Differ.{one_id}
use Rattle.cf_plan.proofs.Listed.{bytes_same}
use Rattle.cf_plan.specs.Life.{Event, Happens, IsLife, Life, life_after, world_of}
use Rattle.cf_core.proofs.Always.{entries_after}
use Rattle.cf_core.proofs.KeepSound.{outcome_new}
use Rattle.cf_core.specs.SoundLife.{Appends, begun, granted, opened, set, settled}
use Rattle.cf_book.specs.Inside.{name_of}
use Rattle.cf_book.specs.Lives.{NamesLanes, lane_name}
use Rattle.cf_book.specs.Record.{world_left}
use Rattle.cf_book.specs.State.{BookLane, IsOut, at_home, come_home, lent_for, lent_out, with_lane}
use Rattle.cf_book.proofs.Raised.{AreOfBook, IsOfBook, begin_new, granted_new, opening_left}

-- no event of a book appends an opening
appends_new : (schemas : List Schema) (a : Life) (ev : Event) → IsOfBook ev → Happens schemas a ev → (e : Entry) (out : List ℕ) → Appends a ev e out
    → is_opening e ≡ false
appends_new schemas a ev of may e out opened = absurd of
appends_new schemas a ev of may e out set = absurd of
appends_new schemas a ev of may e out begun = begin_new e may.2
appends_new schemas a ev of may e out granted = granted_new e may.1
appends_new schemas a ev of may e out settled = outcome_new may.1 may.2 e may.5

pub opening_after : (schemas : List Schema) (a : Life) (ev : Event) → IsOfBook ev → Happens schemas a ev
    → (world_of (life_after a ev)).lanes ≡ (world_of a).lanes
opening_after schemas a ev of may =
    entries_after a (λ es. (world_left es).lanes ≡ (world_of a).lanes) refl ev
    (λ e out appends. (opening_left a.entries e (appends_new schemas a ev of may e out appends)).lanes)

-- so the lanes that the last opening named are those that it named before
pub opening_along : (schemas : List Schema) (a : Life) (es : List Event) (b : Life) → AreOfBook es → IsLife schemas a es b
    → (world_of b).lanes ≡ (world_of a).lanes
opening_along schemas a [] b of lives = ap (λ (l : Life). (world_of l).lanes) lives
opening_along schemas a (e ∷ es) b of lives =
    opening_along schemas (life_after a e) es b of.1 lives.1 ∙ opening_after schemas a e of.0 lives.0

-- a lane that changes under its name and its type
named_changed : (name : List ℕ) (new : BookLane) (lanes : List BookLane)
    → ((b : BookLane) → In b lanes → bytes_eq name b.lane.name ≡ true → lane_name new ≡ lane_name b)
    → map lane_name (map (with_lane name new) lanes) ≡ map lane_name lanes
named_changed name new [] same = refl
named_changed name new (b ∷ bs) same = by (bytes_eq name b.lane.name) refl (named_changed name new bs (λ c i. same c (there i))) where
  rest : List (List ℕ × List ℕ)
  rest = map lane_name (map (with_lane name new) bs)

  by : (t : Bool) → bytes_eq name b.lane.name ≡ t → rest ≡ map lane_name bs → lane_name (with_lane name new b) ∷ rest ≡ lane_name b ∷ map lane_name bs
  by true t h = ap (λ s. lane_name (cond s new b) ∷ rest) t ∙ ap (λ n. n ∷ rest) (same b here t) ∙ ap (λ ns. lane_name b ∷ ns) h
  by false t h = ap (λ s. lane_name (cond s new b) ∷ rest) t ∙ ap (λ ns. lane_name b ∷ ns) h

module _ (lanes : List BookLane) (differ : all_differ bytes_eq (map name_of lanes) ≡ true) where
  -- a lane is lent
  pub named_lent : (x : World) (b : BookLane) (call : Granted) → In b lanes → NamesLanes lanes x → NamesLanes (lent_out call b.lane lanes) x
  named_lent x b call home named =
      named ∙ sym (named_changed b.lane.name (lent_for call b.lane) lanes
      (λ c i t. ap lane_name (one_id name_of lanes differ b c home i (bytes_same b.lane.name c.lane.name t))))

  -- and comes home
  pub named_home : (x : World) (was lane : LaneNow) (call : Granted) → IsOut lanes was call → lane.name ≡ was.name → lane.schema ≡ was.schema
      → NamesLanes lanes x → NamesLanes (come_home lane lanes) x
  named_home x was lane call out name schema named =
      named ∙ sym (named_changed lane.name (at_home lane) lanes (λ c i t.
      (λ k. (name k, (schema k).kind))
      ∙ ap lane_name (one_id name_of lanes differ (lent_for call was) c out i (sym name ∙ bytes_same lane.name c.lane.name t))))
