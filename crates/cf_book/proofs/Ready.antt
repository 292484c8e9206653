-- What always holds of a book is kept where a lane comes home.
use Rattle.std.proofs.Common.{◌≡◌, ℕ, ◌+◌, ◌≤◌, Bool, true, false, List, [], ◌∷◌, Option, Some, None, map, filter_map, length, refl, sym, ◌∙◌, ap, subst, arith, cond, true≢false, vec_len, vec_capacity}
use Rattle.std.specs.List.{cons_option}
use Rattle.std.specs.Str.{bytes_eq}
use Rattle.std.specs.Global.{Vec}
use Rattle.std.proofs.lemmas.List.{length-map}
use Rattle.cf_tree.specs.Lists.{In}
use Rattle.cf_tree.specs.Named.{all_differ}
use Rattle.cf_disk.specs.declared.disk.Disk.{Ghosts}
use Rattle.cf_lane.specs.Calling.{Granted}
use Rattle.cf_lane.specs.Lanes.{LaneNow}
use Rattle.cf_next.specs.declared.home.Home.{Home}
use Rattle.cf_book.specs.Inside.{HasWayBack, IsReady, IsRight, calls_out, name_of}
use Rattle.cf_book.specs.State.{BookLane, at_home, come_home, home_of, with_lane}
use Rattle.cf_book.specs.declared.record.Record.{Record}
use Rattle.cf_book.specs.declared.stop.StopFault.{StopFault}
use Rattle.cf_book.proofs.Standing.{OfHome, it, other, of_home}
use Rattle.cf_plan.proofs.Listed.{bytes_same, same_bytes}

-- names stay
pub names_home : (lane : LaneNow) (lanes : List BookLane) → map name_of (come_home lane lanes) ≡ map name_of lanes
names_home lane [] = refl
names_home lane (b ∷ bs) = by (bytes_eq lane.name b.lane.name) refl (names_home lane bs) where
  by : (t : Bool) → bytes_eq lane.name b.lane.name ≡ t → map name_of (come_home lane bs) ≡ map name_of bs
      → name_of (with_lane lane.name (at_home lane) b) ∷ map name_of (come_home lane bs) ≡ name_of b ∷ map name_of bs
  by true t h = ap (λ s. name_of (cond s (at_home lane) b) ∷ map name_of (come_home lane bs)) t ∙ ap (λ n. n ∷ map name_of (come_home lane bs)) (bytes_same lane.name b.lane.name t)
      ∙ ap (λ ns. name_of b ∷ ns) h
  by false t h = ap (λ s. name_of (cond s (at_home lane) b) ∷ map name_of (come_home lane bs)) t ∙ ap (λ ns. name_of b ∷ ns) h

-- no more calls are out
pub longer : (o : Option Granted) (xs ys : List Granted) → length xs ≤ length ys → length xs ≤ length (cons_option o ys)
longer None xs ys h = h
longer (Some c) xs ys h = omega (arith, h)

pub as_long : (o : Option Granted) (xs ys : List Granted) → length xs ≤ length ys → length (cons_option o xs) ≤ length (cons_option o ys)
as_long None xs ys h = h
as_long (Some c) xs ys h = omega (arith, h)

pub fewer_out : (lane : LaneNow) (lanes : List BookLane) → length (calls_out (come_home lane lanes)) ≤ length (calls_out lanes)
fewer_out lane [] = omega arith
fewer_out lane (b ∷ bs) = by (bytes_eq lane.name b.lane.name) (fewer_out lane bs) where
  by : (t : Bool) → length (calls_out (come_home lane bs)) ≤ length (calls_out bs)
      → length (cons_option (cond t (at_home lane) b).out (calls_out (come_home lane bs))) ≤ length (cons_option b.out (calls_out bs))
  by true h = longer b.out (calls_out (come_home lane bs)) (calls_out bs) h
  by false h = as_long b.out (calls_out (come_home lane bs)) (calls_out bs) h

-- a call that is out where a lane came home was out before
pub still_out : (lane : LaneNow) (lanes : List BookLane) (b : BookLane) (call : Granted) → In b (come_home lane lanes) → b.out ≡ Some call → In b lanes
still_out lane lanes b call i e = by (of_home lane lanes b i) where
  by : OfHome lane lanes b → In b lanes
  by (it s) = let no : None ≡ Some call = ap (λ (z : BookLane). z.out) (sym s) ∙ e in absurd (cc)
  by (other j n) = j

-- and is another one
pub not_home : (lane : LaneNow) (lanes : List BookLane) (b : BookLane) (call : Granted) → In b (come_home lane lanes) → b.out ≡ Some call
    → b.lane.name ≡ lane.name → ⊥
not_home lane lanes b call i e same = by (of_home lane lanes b i) where
  by : OfHome lane lanes b → ⊥
  by (it s) = let no : None ≡ Some call = ap (λ (z : BookLane). z.out) (sym s) ∙ e in cc no
  by (other j n) = true≢false (sym (subst (λ m. bytes_eq lane.name m ≡ true) (sym same) (same_bytes lane.name)) ∙ n)

pub ready_home : {D : Type 0} (g : Ghosts D) (r : Record D) (lane : LaneNow) (lanes : List BookLane) → IsReady g r lanes → IsReady g r (come_home lane lanes)
ready_home g r lane lanes h = record {
  appends = h.appends;
  spare = h.spare;
  places = omega (arith, h.places, fewer_out lane lanes);
  apart = h.apart;
  awaited = λ b call i e. h.awaited b call (still_out lane lanes b call i e) e;
  once = λ b d call third i j e f same. h.once b d call third (still_out lane lanes b call i e) (still_out lane lanes d third j f) e f same;
}

pub right_home : {D : Type 0} (g : Ghosts D) (r : Record D) (lane : LaneNow) (lanes : List BookLane) (homes homes' : List Home) (stopped : Option StopFault)
    → IsRight g r lanes homes stopped → homes' ≡ map home_of (come_home lane lanes) → IsRight g r (come_home lane lanes) homes' stopped
right_home g r lane lanes homes homes' stopped h are = record {
  known = h.known;
  world = h.world;
  homes_are = are;
  names_differ = ap (all_differ bytes_eq) (names_home lane lanes) ∙ h.names_differ;
  epochs = λ b call i e. h.epochs b call (still_out lane lanes b call i e) e;
  ready = λ s. ready_home g r lane lanes (h.ready s);
}

pub way_home : {H : Type 0} (lane : LaneNow) (lanes : List BookLane) (emptied : Vec H) → HasWayBack lanes emptied → HasWayBack (come_home lane lanes) emptied
way_home lane lanes emptied h = record {
  empty = h.empty;
  room = omega (arith, h.room, length-map lanes (with_lane lane.name (at_home lane)));
}
