-- What a book keeps as it is made: no call is out.
use Rattle.std.proofs.Common.{◌≡◌, ◌∙◌, ℕ, ◌≤◌, ◌<◌, List, [], ◌∷◌, Some, None, map, length, slice_get, vec_capacity, vec_len, refl, sym, ap, subst, arith, true}
use Rattle.std.specs.Global.{Vec}
use Rattle.std.specs.Str.{bytes_eq}
use Rattle.std.proofs.lemmas.List.{length-map}
use Rattle.std.proofs.lemmas.Option.{none-some, same_Some}
use Rattle.cf_tree.specs.Lists.{In}
use Rattle.cf_tree.specs.Named.{all_differ}
use Rattle.cf_disk.specs.declared.disk.Disk.{Ghosts}
use Rattle.cf_handler.specs.declared.fence.FenceAnswer.{FenceAnswer}
use Rattle.cf_handler.specs.declared.handler.Handler.{Ghosts as HandlerGhosts}
use Rattle.cf_lane.specs.Lanes.{LaneNow, lane_with}
use Rattle.cf_next.specs.declared.home.Home.{Home}
use Rattle.cf_plan.proofs.Causing.{map_in}
use Rattle.cf_book.specs.Ended.{ended_in}
use Rattle.cf_book.specs.Fences.{EachRaised, StopsRaising, handed_in}
use Rattle.cf_book.specs.Finding.{HasRoomFor, IsReadyRecord, IsUnraisedBy, StopsAtLane, homes_in}
use Rattle.cf_book.specs.Inside.{HasWayBack, IsRight, calls_out, entries_in, name_of}
use Rattle.cf_book.specs.State.{BookLane, at_home, home_of}
use Rattle.cf_book.specs.declared.ending.Ended.{Ended}
use Rattle.cf_book.specs.declared.entering.Room.{Room}
use Rattle.cf_book.specs.declared.record.Record.{Record}
use Rattle.cf_book.specs.declared.refused.EnterFault.{EnterFault}
use Rattle.cf_book.proofs.Appended.{known_open}
use Rattle.cf_book.proofs.StopsAt.{named_at, raised_homes, raised_long, raised_names, stopped_at, stopped_below}

none_out : (bs : List LaneNow) (z : BookLane) → In z (map at_home bs) → z.out ≡ None
none_out bs z i = let (c, j, e) = map_in at_home z bs i in subst (λ (w : BookLane). w.out ≡ None) e refl

no_calls : (bs : List LaneNow) → calls_out (map at_home bs) ≡ []
no_calls [] = refl
no_calls (b ∷ bs) = no_calls bs

homes_home : (bs : List LaneNow) → map home_of (map at_home bs) ≡ homes_in bs
homes_home [] = refl
homes_home (b ∷ bs) = ap (λ hs. home_of (at_home b) ∷ hs) (homes_home bs)

names_home : (bs : List LaneNow) → map name_of (map at_home bs) ≡ map (λ (l : LaneNow). l.name) bs
names_home [] = refl
names_home (b ∷ bs) = ap (λ ns. b.name ∷ ns) (names_home bs)

module _ {D : Type 0} (g : Ghosts D) (r : Record D) (lanes raised : List LaneNow) (epoch : ℕ) (fences : EachRaised lanes raised epoch) where
  pub right_entered : (homes : List Home) → IsReadyRecord g r → vec_len r.entries ≤ vec_capacity r.entries → homes ≡ homes_in lanes → all_differ bytes_eq (map (λ (l : LaneNow). l.name) lanes) ≡ true
      → IsRight g r (map at_home raised) homes None
  right_entered homes h fits is differ = record {
    known = known_open g r h.opened;
    world = h.world;
    homes_are = is ∙ sym (raised_homes epoch lanes raised fences) ∙ sym (homes_home raised);
    names_differ =
        subst (λ ns. all_differ bytes_eq ns ≡ true) (sym (names_home raised ∙ raised_names epoch lanes raised fences)) differ;
    epochs = λ b call i e. absurd (none-some call (sym (none_out raised b i) ∙ e));
    ready = λ n. record {
      appends = h.opened;
      spare = h.spare;
      places = let long : length (calls_out (map at_home raised)) ≡ 0 = ap length (no_calls raised) in omega (arith, long, fits);
      apart = h.apart;
      awaited = λ b call i e. absurd (none-some call (sym (none_out raised b i) ∙ e));
      once = λ b d call other i j e f same. absurd (none-some call (sym (none_out raised b i) ∙ e));
    };
  }

  pub way_back : {H : Type 0} (emptied : Vec H) → emptied.items ≡ [] → length lanes ≤ vec_capacity emptied → HasWayBack (map at_home raised) emptied
  way_back emptied e l = record {
    empty = e;
    room =
        let long : length (map at_home raised) ≡ length lanes = length-map raised at_home ∙ raised_long epoch lanes raised fences in
        omega (arith, long, l);
  }

-- the book as it is made, with places of which each has its lane
pub book_right : {D H : Type 0} (g : Ghosts D) (r : Record D) (room : Room H) (lanes raised : List LaneNow) (places : List BookLane) (ends : List Ended)
    → IsReadyRecord g r → ended_in (entries_in r) ≡ [] → vec_len r.entries ≤ vec_capacity r.entries → HasRoomFor room lanes
    → EachRaised lanes raised r.world.world.epoch → places ≡ map at_home raised → ends ≡ []
    → IsRight g r places room.homes None × HasWayBack places room.emptied × (ends ≡ ended_in (entries_in r))
book_right g r room lanes raised places ends ready none fits has fences are fresh = (
  subst (λ ps. IsRight g r ps room.homes None) (sym are)
      (right_entered g r lanes raised r.world.world.epoch fences room.homes ready fits has.homes_are has.differ),
  subst (λ ps. HasWayBack ps room.emptied) (sym are) (way_back g r lanes raised r.world.world.epoch fences room.emptied has.empty has.way_back),
  fresh ∙ sym none,
)

-- there is a place for each lane, and one where raising stops
module _ {H : Type 0} (h : HandlerGhosts H) (hs ks : List H) (epoch : ℕ) where
  pub places_fit : (room : Room H) → HasRoomFor room (handed_in h hs) → EachRaised (handed_in h hs) (handed_in h ks) epoch
      → length ks ≤ vec_capacity room.places
  places_fit room has fences =
      let same : length (handed_in h ks) ≡ length (handed_in h hs) = raised_long epoch (handed_in h hs) (handed_in h ks) fences in
      let long : length (handed_in h ks) ≡ length ks = length-map ks (λ k. lane_with h k []) in
      omega (arith, same, long, has.places_room)

  pub stop_fits : (homes : List Home) (place : ℕ) (x : FenceAnswer) → homes ≡ homes_in (handed_in h hs)
      → StopsRaising (handed_in h hs) (handed_in h ks) place epoch x → place < length homes
  stop_fits homes place x are stops =
      let below : place < length (handed_in h hs) = stopped_below epoch place (handed_in h hs) (handed_in h ks) x stops in
      let long : length (homes_in (handed_in h hs)) ≡ length (handed_in h hs) = length-map (handed_in h hs) (λ l. home_of (at_home l)) in
      let same : length homes ≡ length (homes_in (handed_in h hs)) = ap length are in
      omega (arith, below, long, same)

-- a lane whose fence was not raised, by its name
pub stops_lane : (lanes after : List LaneNow) (homes : List Home) (place epoch : ℕ) (x : FenceAnswer) (name : List ℕ) (f : EnterFault) → homes ≡ homes_in lanes
    → StopsRaising lanes after place epoch x → slice_get (map (λ (h : Home). h.name) homes) place ≡ Some name → IsUnraisedBy name epoch x f
    → StopsAtLane lanes after epoch f
stops_lane lanes after homes place epoch x name f is stops got why =
    let (lane, at) = stopped_at epoch place lanes after x stops in
    let same : Some name ≡ Some lane.name =
    sym got ∙ ap (λ (hs : List Home). slice_get (map (λ (h : Home). h.name) hs) place) is ∙ named_at lanes place lane at in
    record {
      place = place;
      lane = lane;
      answer = x;
      at = at;
      fences = stops;
      why = subst (λ n. IsUnraisedBy n epoch x f) (same_Some name lane.name same) why;
    }
