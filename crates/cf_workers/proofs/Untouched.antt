-- Disk and lanes agree after a command that wrote no entry, or that could not open the journal whole.
use Rattle.std.proofs.Common.{◌≡◌, inl, inr, ℕ, suc, zero, Bool, true, false, cond, ◌||◌, List, [], ◌∷◌, ◌++◌, Option, Some, None, Result, Ok, map, option_map, refl, sym, ◌∙◌, ap, subst}
use Rattle.std.specs.Bool.{IsTrue}
use Rattle.std.specs.Str.{bytes_eq}
use Rattle.cf_tree.specs.Lists.{In, is_among}
use Rattle.cf_tree.specs.Lists.In.{here, there}
use Rattle.cf_tree.specs.Named.{all_differ}
use Rattle.cf_disk.specs.declared.disk.Disk.{Ghosts as DiskGhosts}
use Rattle.cf_handler.specs.declared.handler.Handler.{Ghosts as HandlerGhosts}
use Rattle.cf_handler.specs.declared.fence.FenceAnswer.{FenceAnswer}
use Rattle.cf_handler.specs.declared.fence.FenceAnswer.TheVariants as fence
use Rattle.cf_handler.specs.Fence.{FencedLane}
use Rattle.cf_handler.specs.Tells.{LateEffect}
use Rattle.cf_entry.specs.declared.entry.Entry.{Entry}
use Rattle.cf_journal.specs.Record.{IsOldOrKept, record_of}
use Rattle.cf_schema.specs.declared.described.Schema.{Schema}
use Rattle.cf_lane.specs.Lanes.{LaneNow}
use Rattle.cf_plan.specs.Lanes.{Lane, lane_at}
use Rattle.cf_plan.specs.Life.{BrokenWith, BrokenWithout, Close, End, Event, IsLife, Life, Opened, Raise, Whole, life_after}
use Rattle.cf_plan.proofs.Listed.{bytes_same, same_bytes}
use Rattle.cf_core.specs.Theorem.{HoldsAlways}
use Rattle.cf_core.proofs.Always.{events_hold, holds_keeps_promises}
use Rattle.cf_book.specs.Entering.{AreRaisingsTo, IsBefore, IsBroken, IsRaising, IsUnraised, MayEnter, epoch_over, names_of as named_so, opened_over}
use Rattle.cf_book.specs.Events.{late_on}
use Rattle.cf_book.specs.Fences.{StopsRaising, handed_in}
use Rattle.cf_book.specs.Lives.{AreLanesOf}
use Rattle.cf_book.specs.Record.{HasKnown}
use Rattle.cf_book.specs.State.{at_home}
use Rattle.cf_workers.specs.Agreement.{Agree, AgreeOn, KeepsAgreement, all_as_told, as_told, at_rest, state_told}
use Rattle.cf_workers.specs.Leading.{KeepOthers}
use Rattle.cf_workers.proofs.Agreeing.{among_tail, behind, first_at, names, other_name, rest_differs}
use Rattle.cf_workers.proofs.Commanded.{agrees_then, lanes_are, named_as, names_now, still_described}
use Rattle.cf_workers.proofs.Rests.{rests}
use Rattle.cf_workers.proofs.Lives.{after_all, after_both, ends}
use Rattle.cf_workers.proofs.Entered.{among_itself}
use Rattle.cf_workers.proofs.Raised.{raisings_to_keep}

-- Lanes that tell what they told before are as they were.
in_names : (l : Lane) (ls : List Lane) → In l ls → is_among l.name (names ls) ≡ true
in_names l (k ∷ ls) here = ap (λ b. b || is_among k.name (names ls)) (same_bytes k.name)
in_names l (k ∷ ls) (there i) = among_tail l.name k.name (names ls) (in_names l ls i)
in_names l [] i = elim i [ ]

found_at : (ls : List Lane) → all_differ bytes_eq (names ls) ≡ true → (l : Lane) → In l ls → lane_at l.name ls ≡ Some l
found_at (k ∷ ls) q l here = first_at k ls
found_at (k ∷ ls) q l (there i) = behind l.name k ls (other_name l.name k.name (names ls) q (in_names l ls i)) ∙ found_at ls (rest_differs k.name (names ls) q) l i
found_at [] q l i = elim i [ ]

one_told : (all : List Lane) (l : Lane) → lane_at l.name all ≡ Some l → (now : List LaneNow) → AreLanesOf (map at_home now) all → as_told now l ≡ l
one_told all l at [] told = refl
one_told all l at (n ∷ now) told = by (bytes_eq n.name l.name) refl (one_told all l at now (λ b i. told b (there i))) where
  state_so : (o : Option FencedLane) (k : Lane) → option_map (λ (s : FencedLane). record { name = n.name; kind = n.schema.kind; state = s }) o ≡ Some k → state_told k.state o ≡ k.state
  state_so None k e = let no : ⊥ = cc in absurd no
  state_so (Some s) k e = let is : s ≡ k.state = cc in is

  name_so : (o : Option FencedLane) (k : Lane) → option_map (λ (s : FencedLane). record { name = n.name; kind = n.schema.kind; state = s }) o ≡ Some k → k.name ≡ n.name
  name_so None k e = let no : ⊥ = cc in absurd no
  name_so (Some s) k e = cc

  some : (a b : Lane) → Some a ≡ Some b → a ≡ b
  some a b e = cc

  by : (b : Bool) → bytes_eq n.name l.name ≡ b → as_told now l ≡ l → cond b (record l { state = state_told l.state n.told }) (as_told now l) ≡ l
  by false e rest = rest
  by true e rest =
      let (k, tells, stands) = told (at_home n) here in
      let named : k.name ≡ l.name = name_so n.told k tells ∙ bytes_same n.name l.name e in
      let same : k ≡ l = some k l (sym stands ∙ ap (λ m. lane_at m all) named ∙ at) in
      ap (λ (s : FencedLane). record l { state = s }) (subst (λ (j : Lane). state_told j.state n.told ≡ j.state) same (state_so n.told k tells))

pub told_same : (all : List Lane) → all_differ bytes_eq (names all) ≡ true → (now : List LaneNow) → AreLanesOf (map at_home now) all → all_as_told now all ≡ all
told_same all differ now told = each all (λ l i. one_told all l (found_at all differ l i) now told) where
  each : (ls : List Lane) → ((l : Lane) → In l ls → as_told now l ≡ l) → map (as_told now) ls ≡ ls
  each [] same = refl
  each (l ∷ ls) same = ap (λ (k : Lane). k ∷ map (as_told now) ls) (same l here) ∙ ap (λ (ks : List Lane). l ∷ ks) (each ls (λ k i. same k (there i)))

module _ {D H : Type 0} (g : DiskGhosts D) (h : HandlerGhosts H) (disk disk' : D) (handlers : List H) (stay : (d : D) → IsTrue g.tells → g.may_leave d (g.seen d)) where
  -- No entry was written, and no lane called.
  pub keeps_untouched : (IsTrue g.tells → (file : List ℕ) → g.may_leave disk' file → IsOldOrKept (g.may_leave disk) (g.seen disk) file) → KeepsAgreement g h disk handlers disk' handlers
  keeps_untouched each tells schemas all agree =
      let (first, q, on) = agree.each (g.seen disk) (stay disk tells) in
      let same : all_as_told (handed_in h handlers) all ≡ all = told_same all on.holds.sound.named.names_differ (handed_in h handlers) agree.among.lanes in
      subst (Agree g h schemas disk' handlers) (sym same) (record {
        among = agree.among;
        each = λ file left. by first q on file (each tells file left);
      })
    where
      by : (first : List Entry) → record_of (g.seen disk) ≡ Ok first → AgreeOn schemas first all → (file : List ℕ) → IsOldOrKept (g.may_leave disk) (g.seen disk) file
          → (es : List Entry) × (record_of file ≡ Ok es) × AgreeOn schemas es all
      by first q on file (inl left) = agree.each file left
      by first q on file (inr kept) = (first, kept.same ∙ q, on)

-- A list of events and one more.
leases_after : (a : Life) (es : List Event) → ((e : Event) (life : Life) → In e es → (life_after life e).leases ≡ life.leases) → (after_all a es).leases ≡ a.leases
leases_after a [] each = refl
leases_after a (e ∷ es) each = leases_after (life_after a e) es (λ f life i. each f life (there i)) ∙ each e a here

raise_leases : (life : Life) (name : List ℕ) (a : FenceAnswer) (moved : Bool) (x y : ℕ) → (life_after life (Raise name a moved x y)).leases ≡ life.leases
raise_leases life name a true x y = refl
raise_leases life name a false x y = refl

lates_leases : (life : Life) (name : List ℕ) (effects : List LateEffect) → (after_all life (map (late_on name) effects)).leases ≡ life.leases
lates_leases life name [] = refl
lates_leases life name (e ∷ es) = lates_leases (life_after life (late_on name e)) name es

raising_leases : (life : Life) (b k : LaneNow) (a : FenceAnswer) (events : List Event) → IsRaising b k a events → (after_all life events).leases ≡ life.leases
raising_leases life b k a events r =
    let late : List Event = map (late_on b.name) r.effects in
    let raise : Event = Raise b.name a r.moved b.count k.count in
    ap (λ (z : Life). z.leases) (ap (after_all life) r.are ∙ after_both life late (raise ∷ []))
    ∙ raise_leases (after_all life late) b.name a r.moved b.count k.count ∙ lates_leases life b.name r.effects

raisings_to_leases : (life : Life) (bs ks : List LaneNow) (n : ℕ) (x : FenceAnswer) (events : List Event) → AreRaisingsTo bs ks n x events → (after_all life events).leases ≡ life.leases
raisings_to_leases life [] ks n x events q = absurd q
raisings_to_leases life (b ∷ bs) [] n x events q = absurd q
raisings_to_leases life (b ∷ bs) (k ∷ ks) zero x events r = raising_leases life b k x events r
raisings_to_leases life (b ∷ bs) (k ∷ ks) (suc n) x events (one, rest, r, rs, q) =
    ap (λ (z : Life). z.leases) (ap (after_all life) q ∙ after_both life one rest)
    ∙ raisings_to_leases (after_all life one) bs ks n x rest rs ∙ raising_leases life b k fence.Raised one r

-- the lanes keep their names and schemas, as far as they were raised
pub stops_same : (bs ks : List LaneNow) (n epoch : ℕ) (x : FenceAnswer) → StopsRaising bs ks n epoch x → map named_as ks ≡ map named_as bs
stops_same [] ks n epoch x q = absurd q
stops_same (b ∷ bs) [] n epoch x q = absurd q
stops_same (b ∷ bs) (k ∷ ks) zero epoch x (r, q) =
    ap (λ m. (m, k.schema) ∷ map named_as ks) r.name ∙ ap (λ s. (b.name, s) ∷ map named_as ks) r.schema ∙ ap (λ ls. named_as b ∷ map named_as ls) q
stops_same (b ∷ bs) (k ∷ ks) (suc n) epoch x (r, rs) =
    ap (λ m. (m, k.schema) ∷ map named_as ks) r.name ∙ ap (λ s. (b.name, s) ∷ map named_as ks) r.schema ∙ ap (λ xs. named_as b ∷ xs) (stops_same bs ks n epoch x rs)

module _ {D H : Type 0} (g : DiskGhosts D) (h : HandlerGhosts H) (disk disk' : D) (handlers handlers' : List H) (stay : (d : D) → IsTrue g.tells → g.may_leave d (g.seen d))
    (es : List Entry) (over : MayEnter g disk (handed_in h handlers) es) where
  module _ (tells : IsTrue g.tells) (schemas : List Schema) (all : List Lane) (agree : Agree g h schemas disk handlers all) where
    pub begun_on : AgreeOn schemas es all
    begun_on =
        let (found, q, a) = agree.each (g.seen disk) (stay disk tells) in
        subst (λ xs. AgreeOn schemas xs all) (one found (sym q ∙ over.found tells)) a where
          one : (xs : List Entry) → ◌≡◌ {A = Result (List Entry) ℕ} (Ok xs) (Ok es) → xs ≡ es
          one xs q = cc

    before : IsBefore es (handed_in h handlers) (at_rest es all)
    before = record { entries = refl; lanes_are = agree.among.lanes; closed = refl }

    -- a life to which the opening and the closing lead, over the same lanes
    closes_on : (end : End) (now : Life) (xs : List Entry) → IsLife schemas (at_rest es all) (Opened (epoch_over es) (named_so (handed_in h handlers)) end ∷ Close ∷ []) now → now.entries ≡ xs
        → (life_after (life_after (at_rest es all) (Opened (epoch_over es) (named_so (handed_in h handlers)) end)) Close).lanes ≡ all
        → (life_after (life_after (at_rest es all) (Opened (epoch_over es) (named_so (handed_in h handlers)) end)) Close).leases ≡ [] → AgreeOn schemas xs all
    closes_on end now xs life is lanes none =
        let two : List Event = Opened (epoch_over es) (named_so (handed_in h handlers)) end ∷ Close ∷ [] in
        let now_is : now ≡ after_all (at_rest es all) two = ends schemas (at_rest es all) two now life in
        let held : HoldsAlways schemas now = (events_hold schemas (at_rest es all) now two begun_on.holds life).0 in
        let at : HoldsAlways schemas (at_rest now.entries now.lanes) = rests schemas now (ap (λ (z : Life). z.leases) now_is ∙ none) held in
        let here_now : HoldsAlways schemas (at_rest xs all) =
        subst (λ (ls : List Lane). HoldsAlways schemas (at_rest xs ls)) (ap (λ (z : Life). z.lanes) now_is ∙ lanes) (subst (λ (fs : List Entry). HoldsAlways schemas (at_rest fs now.lanes)) is at) in
        record { holds = here_now; kept = holds_keeps_promises schemas (at_rest xs all) here_now }

    -- after the opening that the disk may have
    pub agree_broken : IsBroken g es (handed_in h handlers) disk' → Agree g h schemas disk' handlers (all_as_told (handed_in h handlers) all)
    agree_broken b =
        subst (Agree g h schemas disk' handlers) (sym (told_same all begun_on.holds.sound.named.names_differ (handed_in h handlers) agree.among.lanes)) (record {
          among = agree.among;
          each = λ file left. by file (b.known.each tells file left);
        })
      where
        by : (file : List ℕ) → HasKnown es (Some (opened_over (handed_in h handlers) es)) file → (xs : List Entry) × (record_of file ≡ Ok xs) × AgreeOn schemas xs all
        by file (inl q) = let (now, life, is) = b.leads_without schemas (at_rest es all) before in (es, q, closes_on BrokenWithout now es life is.entries refl refl)
        by file (inr q) =
            let (now, life, is) = b.leads_with schemas (at_rest es all) before in
            let opened : List Entry = es ++ opened_over (handed_in h handlers) es ∷ [] in (opened, q, closes_on BrokenWith now opened life is.entries refl refl)

    -- after fences of which one was not raised
    module _ (name : List ℕ) (a : FenceAnswer) (u : IsUnraised g es (handed_in h handlers) (handed_in h handlers') disk' name a) where
      abbrev opened_es : List Entry
      opened_es = es ++ opened_over (handed_in h handlers) es ∷ []

      same : map named_as (handed_in h handlers') ≡ map named_as (handed_in h handlers)
      same = stops_same (handed_in h handlers) (handed_in h handlers') u.place (epoch_over es) a u.fences

      pub agree_unraised : Agree g h schemas disk' handlers' (all_as_told (handed_in h handlers') all)
      agree_unraised =
          let (raisings, are, now, life, is) = u.leads schemas (at_rest es all) before in by raisings are now life is where
            by : (raisings : List Event) → AreRaisingsTo (handed_in h handlers) (handed_in h handlers') u.place a raisings → (now : Life)
                → IsLife schemas (at_rest es all) (Opened (epoch_over es) (named_so (handed_in h handlers)) Whole ∷ raisings ++ Close ∷ []) now → IsBefore opened_es (handed_in h handlers') now
                → Agree g h schemas disk' handlers' (all_as_told (handed_in h handlers') all)
            by raisings are now life is = record {
              among = record {
                lanes = lanes_are schemas all (handed_in h handlers) (handed_in h handlers') agree.among.lanes agree.among.described same over.differ differ now is.lanes_are keep;
                described = still_described schemas all (handed_in h handlers) (handed_in h handlers') agree.among.lanes agree.among.described same;
              };
              each = λ file left. (opened_es, record_so file (u.known.each tells file left), then_so);
            }
              where
                opened : Life
                opened = life_after (at_rest es all) (Opened (epoch_over es) (named_so (handed_in h handlers)) Whole)

                now_is : now ≡ life_after (after_all opened raisings) Close
                now_is =
                    ends schemas (at_rest es all) (Opened (epoch_over es) (named_so (handed_in h handlers)) Whole ∷ raisings ++ Close ∷ []) now life
                    ∙ after_both opened raisings (Close ∷ [])

                differ : all_differ bytes_eq (map (λ (l : Lane). l.name) all) ≡ true
                differ = begun_on.holds.sound.named.names_differ

                keep : KeepOthers (names_now (handed_in h handlers)) all now.lanes
                keep =
                    subst (λ (z : Life). KeepOthers (names_now (handed_in h handlers)) all z.lanes) (sym now_is)
                    (raisings_to_keep (names_now (handed_in h handlers)) opened (handed_in h handlers) (handed_in h handlers') u.place a raisings (among_itself (handed_in h handlers)) are)

                none : now.leases ≡ []
                none = ap (λ (z : Life). z.leases) now_is ∙ raisings_to_leases opened (handed_in h handlers) (handed_in h handlers') u.place a raisings are

                held : HoldsAlways schemas now
                held = (events_hold schemas (at_rest es all) now (Opened (epoch_over es) (named_so (handed_in h handlers)) Whole ∷ raisings ++ Close ∷ []) begun_on.holds life).0

                then_so : AgreeOn schemas opened_es (all_as_told (handed_in h handlers') all)
                then_so =
                    agrees_then schemas all (handed_in h handlers) (handed_in h handlers') agree.among.lanes agree.among.described same over.differ differ now is.lanes_are keep opened_es held none
                    is.entries

                record_so : (file : List ℕ) → HasKnown opened_es None file → record_of file ≡ Ok opened_es
                record_so file (inl q) = q
                record_so file (inr q) = q
