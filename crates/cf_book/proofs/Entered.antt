-- Books that are entered, as events of a life: the opening, each fence, and the end where the book is refused.
use Rattle.std.proofs.Common.{◌≡◌, inl, ℕ, true, false, List, [], ◌∷◌, ◌++◌, Some, None, map, refl, sym, ◌∙◌, ap, subst}
use Rattle.std.specs.List.{list_any}
use Rattle.std.specs.Str.{bytes_eq}
use Rattle.std.proofs.lemmas.Option.{none-some}
use Rattle.cf_tree.specs.Lists.{In}
use Rattle.cf_tree.specs.Lists.In.{here, there}
use Rattle.cf_tree.specs.Named.{all_differ}
use Rattle.cf_schema.specs.declared.described.Schema.{Schema}
use Rattle.cf_entry.specs.declared.entry.Entry.{Entry}
use Rattle.cf_entry.specs.declared.entry.Entry.TheVariants as entry
use Rattle.cf_handler.specs.declared.fence.FenceAnswer.{FenceAnswer}
use Rattle.cf_effect.specs.Fold.{world_after}
use Rattle.cf_effect.specs.World.{World, empty_world}
use Rattle.cf_stacks.proofs.Folded.{folded_more}
use Rattle.cf_lane.specs.Lanes.{LaneNow}
use Rattle.cf_plan.specs.Follow.{MayFollow, MayOpen}
use Rattle.cf_plan.specs.Lanes.{Lane, lane_at}
use Rattle.cf_plan.specs.Life.{AreHandedIn, AreRaised as FencesStand, BrokenWith, BrokenWithout, Close, End, Event, Happens, IsLife, Life, Opened, Whole, life_after, named_lane, world_of}
use Rattle.cf_plan.proofs.Causing.{map_in}
use Rattle.cf_plan.proofs.Listed.{in_map, same_bytes}
use Rattle.cf_plan.proofs.Members.{any_in}
use Rattle.cf_book.specs.Entering.{AreRaisings, AreRaisingsTo, IsBefore, epoch_over, names_of, opened_over}
use Rattle.cf_book.specs.Fences.{EachRaised, StopsRaising}
use Rattle.cf_book.specs.Lives.{AreLanesOf, LeadsTo, lane_name, lease_of}
use Rattle.cf_book.specs.Opening.{LaneName, named_by}
use Rattle.cf_book.specs.Record.{world_left}
use Rattle.cf_book.specs.State.{BookLane, BookNow, at_home}
use Rattle.cf_book.proofs.Moves.{along}
use Rattle.cf_book.proofs.Opened.{labels_are}
use Rattle.cf_book.proofs.Raisings.{AreNamedIn, IsRaisingIn, RaisesEach, TellAll, Tells, labels, raise_each, raise_to, told_names}

-- lanes that tell, by lists and by members
tell_all : (all : List Lane) (bs : List LaneNow) → AreLanesOf (map at_home bs) all → TellAll all bs
tell_all all [] h = tt
tell_all all (b ∷ bs) h = (first, tell_all all bs (λ z i. h z (there i))) where
  first : Tells all b
  first =
      let (l, told, at) = h (at_home b) here in
      let named : l.name ≡ b.name = (told_names b l told).0 in
      record { lane = l; told = told; at = subst (λ n. lane_at n all ≡ Some l) named at }

are_lanes : (all : List Lane) (bs : List LaneNow) → TellAll all bs → AreLanesOf (map at_home bs) all
are_lanes all [] h z i = elim i [ ]
are_lanes all (b ∷ bs) h z here =
    let named : h.0.lane.name ≡ b.name = (told_names b h.0.lane h.0.told).0 in
    (h.0.lane, h.0.told, subst (λ n. lane_at n all ≡ Some h.0.lane) (sym named) h.0.at)
are_lanes all (b ∷ bs) h z (there i) = are_lanes all bs h.1 z i

-- lanes whose fences were raised keep their names and types
raised_names : (epoch : ℕ) (lanes raised : List LaneNow) → EachRaised lanes raised epoch → names_of lanes ≡ map lane_name (map at_home raised)
raised_names epoch [] [] h = refl
raised_names epoch (b ∷ bs) (a ∷ more) h =
    (λ i. (sym h.0.name i, (sym h.0.schema i).kind) ∷ names_of bs) ∙ ap (λ ns. lane_name (at_home a) ∷ ns) (raised_names epoch bs more h.1)
raised_names epoch [] (a ∷ more) h = absurd h
raised_names epoch (b ∷ bs) [] h = absurd h

all_named : (life : Life) (bs all : List LaneNow) → (world_of life).lanes ≡ names_of all → ((b : LaneNow) → In b bs → In b all) → AreNamedIn life bs
all_named life [] all e h = tt
all_named life (b ∷ bs) all e h =
    (subst (In (named_by b)) (sym e) (in_map named_by b all (h b here)), all_named life bs all e (λ c i. h c (there i)))

module _ (schemas : List Schema) (es : List Entry) (lanes : List LaneNow) (life : Life) (was : IsBefore es lanes life)
    (differ : all_differ bytes_eq (labels lanes) ≡ true) (may : MayOpen (world_left es) [] (epoch_over es) (names_of lanes)) where
  abbrev epoch : ℕ
  epoch = epoch_over es

  abbrev names : List LaneName
  names = names_of lanes

  world_is : world_of life ≡ world_left es
  world_is = ap world_left was.entries

  abbrev opened_by : End → Life
  opened_by end = life_after life (Opened epoch names end)

  handed : AreHandedIn life names
  handed = record {
    there_are = each lanes was.lanes_are;
    once = subst (λ ns. all_differ bytes_eq ns ≡ true) (sym (labels_are lanes)) differ;
  } where
    each : (bs : List LaneNow) → AreLanesOf (map at_home bs) life.lanes → (n : LaneName) → In n (names_of bs)
        → (l : Lane) × (lane_at n.0 life.lanes ≡ Some l) × (n ≡ named_lane l)
    each bs h n i =
        let (b, j, e) = map_in named_by n bs i in
        let (l, told, at) = h (at_home b) (in_map at_home b bs j) in
        let named : (l.name ≡ b.name) × (l.kind ≡ b.schema.kind) = told_names b l told in (
          l,
          subst (λ m. lane_at m life.lanes ≡ Some l) (named.0 ∙ ap (λ (m : LaneName). m.0) e) at,
          sym e ∙ ap (λ m. (m, b.schema.kind)) (sym named.0) ∙ ap (λ k. (l.name, k)) (sym named.1),
        )

  pub opens : (end : End) → Happens schemas life (Opened epoch names end)
  opens end = (was.closed, subst (λ x. MayFollow schemas x [] (entry.Opened epoch names)) (sym world_is) may, handed)

  -- the opening is there
  abbrev start : Life
  start = opened_by Whole

  start_entries : start.entries ≡ es ++ opened_over lanes es ∷ []
  start_entries = ap (λ xs. xs ++ opened_over lanes es ∷ []) was.entries

  start_world : world_of start ≡ world_after (world_left es) (opened_over lanes es)
  start_world = ap world_left start_entries ∙ sym (folded_more empty_world es (opened_over lanes es))

  start_epoch : (world_of start).epoch ≡ epoch
  start_epoch = ap (λ (x : World). x.epoch) start_world

  start_lanes : (world_of start).lanes ≡ names
  start_lanes = ap (λ (x : World). x.lanes) start_world

  raising_in : IsRaisingIn start
  raising_in = record { opened = refl; running = refl; ungranted = refl }

  are_named : AreNamedIn start lanes
  are_named = all_named start lanes lanes start_lanes (λ b i. i)

  -- each fence is raised: the book is open
  module _ {D : Type 0} (raised : List LaneNow) (fences : EachRaised lanes raised epoch) (b : BookNow D) (entries : b.entries ≡ es ++ opened_over lanes es ∷ [])
      (lanes_are : b.lanes ≡ map at_home raised) (ungranted : b.has_granted ≡ false) where
    each_raised : RaisesEach schemas start lanes raised
    each_raised =
        raise_each schemas start lanes raised raising_in (tell_all life.lanes lanes was.lanes_are) differ are_named
        (subst (EachRaised lanes raised) (sym start_epoch) fences)

    abbrev end : Life
    end = record start { lanes = each_raised.raises.lanes }

    none_out : (z : BookLane) → In z (map at_home raised) → lease_of z ≡ None
    none_out z i = let (c, j, e) = map_in at_home z raised i in subst (λ (w : BookLane). lease_of w ≡ None) e refl

    stand : FencesStand end
    stand l i n =
        each_raised.each l.name (subst (λ ns. list_any (bytes_eq l.name) ns ≡ true) (labels_are lanes)
        (any_in (bytes_eq l.name) l.name (map (λ (m : LaneName). m.0) names) (in_map (λ (m : LaneName). m.0) (named_lane l) names (subst (In (named_lane l)) start_lanes n)) (same_bytes l.name)))
        l i refl

    pub leads_in : (raisings : List Event) × AreRaisings lanes raised raisings × LeadsTo schemas life (Opened epoch names Whole ∷ raisings) b
    leads_in = (
      each_raised.events,
      each_raised.are,
      record {
        after = end;
        happen = (opens Whole, each_raised.raises.happen);
        stands = record {
          entries = inl (start_entries ∙ sym entries);
          lanes = subst (λ ls. AreLanesOf ls end.lanes) (sym lanes_are) (are_lanes end.lanes raised each_raised.raises.tell);
          leases = record {
            each = λ l i. elim i [ ];
            all = λ z l i e. absurd (none-some l (sym (none_out z (subst (In z) lanes_are i)) ∙ e));
          };
          opened = refl;
          granted = sym ungranted;
          running = λ n. refl;
          raised = stand;
          named = start_lanes ∙ raised_names epoch lanes raised fences ∙ ap (map lane_name) (sym lanes_are);
        };
      },
    )

  -- the fence at this place is not: the book is closed
  pub leads_out : (after : List LaneNow) (place : ℕ) (x : FenceAnswer) → StopsRaising lanes after place epoch x
      → (raisings : List Event) × AreRaisingsTo lanes after place x raisings
      × (end : Life) × IsLife schemas life (Opened epoch names Whole ∷ raisings ++ Close ∷ []) end
      × IsBefore (es ++ opened_over lanes es ∷ []) after end
  leads_out after place x stops =
      let (raisings, are, raises) = raise_to schemas start lanes after place x raising_in (tell_all life.lanes lanes was.lanes_are) differ are_named
      (subst (λ e. StopsRaising lanes after place e x) (sym start_epoch) stops) in
      let raised : Life = record start { lanes = raises.lanes } in
      let end : Life = life_after raised Close in (
        raisings,
        are,
        end,
        (opens Whole, along schemas start raisings raised (Close ∷ []) end raises.happen ((refl, refl), refl)),
        record { entries = start_entries; lanes_are = are_lanes raises.lanes after raises.tell; closed = refl },
      )

  -- the disk failed as the opening was appended
  pub leads_with : (end : Life) × IsLife schemas life (Opened epoch names BrokenWith ∷ Close ∷ []) end × IsBefore (es ++ opened_over lanes es ∷ []) lanes end
  leads_with = (
    life_after (opened_by BrokenWith) Close,
    (opens BrokenWith, ((refl, refl), refl)),
    record { entries = start_entries; lanes_are = was.lanes_are; closed = refl },
  )

  pub leads_without : (end : Life) × IsLife schemas life (Opened epoch names BrokenWithout ∷ Close ∷ []) end × IsBefore es lanes end
  leads_without = (
    life_after (opened_by BrokenWithout) Close,
    (opens BrokenWithout, ((refl, refl), refl)),
    record { entries = was.entries; lanes_are = was.lanes_are; closed = refl },
  )
