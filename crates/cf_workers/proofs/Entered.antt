-- A book that was entered over a disk and lanes that agree, and was closed, leaves them agreeing.
use Rattle.std.proofs.Common.{◌≡◌, inl, inr, ℕ, true, List, [], ◌∷◌, Some, Result, Ok, map, refl, sym, ◌∙◌, ap, subst}
use Rattle.std.specs.Bool.{IsTrue}
use Rattle.std.specs.Str.{bytes_eq}
use Rattle.cf_tree.specs.Lists.{In, is_among}
use Rattle.cf_tree.specs.Named.{all_differ}
use Rattle.cf_disk.specs.declared.disk.Disk.{Ghosts as DiskGhosts}
use Rattle.cf_handler.specs.declared.handler.Handler.{Ghosts as HandlerGhosts}
use Rattle.cf_entry.specs.declared.entry.Entry.{Entry}
use Rattle.cf_journal.specs.Record.{record_of}
use Rattle.cf_schema.specs.declared.described.Schema.{Schema}
use Rattle.cf_lane.specs.Lanes.{LaneNow}
use Rattle.cf_plan.specs.Lanes.{Lane, lane_at}
use Rattle.cf_plan.specs.Life.{Life, Opened, Whole, life_after}
use Rattle.cf_plan.proofs.Causing.{map_in}
use Rattle.cf_plan.proofs.Listed.{in_map}
use Rattle.cf_core.specs.Theorem.{HoldsAlways}
use Rattle.cf_core.proofs.Always.{events_hold}
use Rattle.cf_book.specs.Calls.{AreHandlersOf}
use Rattle.cf_book.specs.Entering.{IsBefore, IsEntered, MayEnter, epoch_over, names_of as named_so}
use Rattle.cf_book.specs.Fences.{EachRaised, handed_in}
use Rattle.cf_book.specs.Lives.{AreEntriesOf, AreLanesOf, DescribeLanes, StandsFor, told_lane}
use Rattle.cf_book.specs.Record.{HasKnown, KnowsDisk, with_doubt}
use Rattle.cf_book.specs.State.{BookLane, BookNow, NoneOut, at_home}
use Rattle.cf_workers.specs.Agreement.{Agree, AgreeOn, KeepsAgreement, all_as_told, at_rest}
use Rattle.cf_workers.specs.Driving.{AreSameLanes, name_and_schema, names_of}
use Rattle.cf_workers.specs.Leading.{KeepOthers, LeadsOn, LeadsWith}
use Rattle.cf_workers.proofs.Commanded.{agrees_then, lanes_are, named_as, names_now, none_leased, still_described}
use Rattle.cf_workers.proofs.Lives.{among, ends, keep_both}
use Rattle.cf_workers.proofs.Raised.{raisings_keep}

-- the raising of fences keeps names and schemas
pub raised_same : (now raised : List LaneNow) (epoch : ℕ) → EachRaised now raised epoch → map named_as raised ≡ map named_as now
raised_same [] [] epoch r = refl
raised_same [] (k ∷ ks) epoch r = absurd r
raised_same (n ∷ ns) [] epoch r = absurd r
raised_same (n ∷ ns) (k ∷ ks) epoch r =
    ap (λ m. (m, k.schema) ∷ map named_as ks) r.0.name ∙ ap (λ s. (n.name, s) ∷ map named_as ks) r.0.schema ∙ ap (λ xs. named_as n ∷ xs) (raised_same ns ks epoch r.1)

-- lanes at home, and without their logs, have their names and schemas
pub home_parts : (ns : List LaneNow) → map name_and_schema (map at_home ns) ≡ map named_as ns
home_parts [] = refl
home_parts (n ∷ ns) = ap (λ xs. named_as n ∷ xs) (home_parts ns)

abbrev without_log : BookLane → LaneNow
without_log b = record b.lane { log = [] }

log_parts : (bs : List BookLane) → map named_as (map without_log bs) ≡ map name_and_schema bs
log_parts [] = refl
log_parts (b ∷ bs) = ap (λ xs. name_and_schema b ∷ xs) (log_parts bs)

-- and they tell the same
same_told : (bs : List BookLane) (all : List Lane) → AreLanesOf bs all → AreLanesOf (map at_home (map without_log bs)) all
same_told bs all lanes b i =
    let (n, j, e) = map_in at_home b (map without_log bs) i in
    let (a, k, q) = map_in without_log n bs j in
    subst (λ (z : BookLane). IsTold z) e (subst (λ (z : LaneNow). IsTold (at_home z)) q (lanes a k)) where
      IsTold : BookLane → Type 0
      IsTold z = (l : Lane) × (told_lane z ≡ Some l) × (lane_at l.name all ≡ Some l)

names_of_home : (ns : List LaneNow) → names_of (map at_home ns) ≡ names_now ns
names_of_home [] = refl
names_of_home (n ∷ ns) = ap (λ xs. n.name ∷ xs) (names_of_home ns)

pub among_itself : (ns : List LaneNow) (n : LaneNow) → In n ns → is_among n.name (names_now ns) ≡ true
among_itself ns n i = subst (λ xs. is_among n.name xs ≡ true) (names_of_home ns) (among (map at_home ns) (at_home n) (in_map at_home n ns i))

module _ {D H : Type 0} (g : DiskGhosts D) (h : HandlerGhosts H) (disk disk' : D) (handlers handlers' : List H) (es : List Entry) (b ended : BookNow D)
    (over : MayEnter g disk (handed_in h handlers) es) (enters : IsEntered es (handed_in h handlers) b) (leads : LeadsOn b ended) (same : AreSameLanes b.lanes ended.lanes)
    (none : NoneOut ended.lanes) (disk_is : disk' ≡ ended.disk) (handlers_are : AreHandlersOf h ended.lanes handlers') (known : KnowsDisk g ended) where
  abbrev pub now : List LaneNow
  now = handed_in h handlers

  abbrev pub now' : List LaneNow
  now' = handed_in h handlers'

  raised_so : map named_as enters.raised ≡ map named_as now
  raised_so = raised_same now enters.raised (epoch_over es) enters.fences

  book_so : map name_and_schema b.lanes ≡ map named_as now
  book_so = ap (map name_and_schema) enters.lanes_are ∙ home_parts enters.raised ∙ raised_so

  pub same_handlers : map named_as now' ≡ map named_as now
  same_handlers = ap (map named_as) handlers_are ∙ log_parts ended.lanes ∙ same ∙ book_so

  module _ (seen_may_stay : (d : D) → IsTrue g.tells → g.may_leave d (g.seen d)) (tells : IsTrue g.tells) (schemas : List Schema) (all : List Lane) (agree : Agree g h schemas disk handlers all) where
    pub start : AgreeOn schemas es all
    start =
        let (found, q, a) = agree.each (g.seen disk) (seen_may_stay disk tells) in
        subst (λ xs. AgreeOn schemas xs all) (one found (sym q ∙ over.found tells)) a where
          one : (xs : List Entry) → ◌≡◌ {A = Result (List Entry) ℕ} (Ok xs) (Ok es) → xs ≡ es
          one xs q = cc

    pub before : IsBefore es now (at_rest es all)
    before = record { entries = refl; lanes_are = agree.among.lanes; closed = refl }

    pub described : DescribeLanes schemas b.lanes
    described =
        subst (DescribeLanes schemas) (sym enters.lanes_are)
        (still_described schemas all now enters.raised agree.among.lanes agree.among.described raised_so)

    once : all_differ bytes_eq (names_now now) ≡ true
    once = over.differ

    -- the book stands for a life in which what always holds holds
    pub stands_entered : (life : Life) × StandsFor b life × HoldsAlways schemas life
    stands_entered =
        let (raisings, are, l) = enters.leads schemas (at_rest es all) before in (
          l.after,
          l.stands,
          (events_hold schemas (at_rest es all) l.after (Opened (epoch_over es) (named_so now) Whole ∷ raisings) start.holds l.happen).0,
        )

    -- of each record that the disk may have there is a life
    ends_in : (xs : List Entry) → AreEntriesOf ended xs → (life : Life) × HoldsAlways schemas life × (life.leases ≡ []) × (life.entries ≡ xs) × AreLanesOf (map at_home now') life.lanes
        × KeepOthers (names_now now) all life.lanes
    ends_in xs is =
        let (raisings, are, l) = enters.leads schemas (at_rest es all) before in
        let opened : Life = life_after (at_rest es all) (Opened (epoch_over es) (named_so now) Whole) in
        let holds : HoldsAlways schemas l.after = (events_hold schemas (at_rest es all) l.after (Opened (epoch_over es) (named_so now) Whole ∷ raisings) start.holds l.happen).0 in
        let keep : KeepOthers (names_now now) all l.after.lanes =
        subst (λ (z : Life). KeepOthers (names_now now) all z.lanes) (sym (ends schemas opened raisings l.after l.happen.1))
        (raisings_keep (names_now now) opened now enters.raised raisings (among_itself now) are) in
        let more : LeadsWith schemas l.after ended xs = leads schemas l.after described l.stands holds xs is in (
          more.after,
          (events_hold schemas l.after more.after more.events holds more.happen).0,
          none_leased ended.lanes more.after.leases none more.stands.leases,
          more.record_is,
          subst (λ ns. AreLanesOf (map at_home ns) more.after.lanes) (sym handlers_are) (same_told ended.lanes more.after.lanes more.stands.lanes),
          keep_both (names_now now) all l.after.lanes more.after.lanes keep (subst (λ ns. KeepOthers ns l.after.lanes more.after.lanes) ended_names more.keeps),
        )
      where
        ended_names : names_of ended.lanes ≡ names_now now
        ended_names = firsts ended.lanes ∙ ap (map (λ (x : List ℕ × Schema). x.0)) (same ∙ book_so) ∙ sym (first_now now) where
          firsts : (bs : List BookLane) → names_of bs ≡ map (λ (x : List ℕ × Schema). x.0) (map name_and_schema bs)
          firsts [] = refl
          firsts (c ∷ cs) = ap (λ ns. c.lane.name ∷ ns) (firsts cs)

          first_now : (ns : List LaneNow) → names_now ns ≡ map (λ (x : List ℕ × Schema). x.0) (map named_as ns)
          first_now [] = refl
          first_now (c ∷ cs) = ap (λ xs. c.name ∷ xs) (first_now cs)

    record_known : (file : List ℕ) → HasKnown ended.entries ended.doubt file → (xs : List Entry) × (record_of file ≡ Ok xs) × AreEntriesOf ended xs
    record_known file (inl q) = (ended.entries, q, inl refl)
    record_known file (inr q) = (with_doubt ended.entries ended.doubt, q, inr refl)

    pub agrees_ended : Agree g h schemas disk' handlers' (all_as_told now' all)
    agrees_ended = record {
      among = record {
        lanes =
            let (life, holds, home, is, lanes, keep) = ends_in ended.entries (inl refl) in
            lanes_are schemas all now now' agree.among.lanes agree.among.described same_handlers once start.holds.sound.named.names_differ life lanes keep;
        described = still_described schemas all now now' agree.among.lanes agree.among.described same_handlers;
      };
      each = λ file left.
          let (xs, q, is) = record_known file (known.each tells file (subst (λ d. g.may_leave d file) disk_is left)) in
          let (life, holds, home, at, lanes, keep) = ends_in xs is in (
            xs,
            q,
            agrees_then schemas all now now' agree.among.lanes agree.among.described same_handlers once start.holds.sound.named.names_differ life lanes keep xs holds home at,
          );
    }

  pub entered_agrees : ((d : D) → IsTrue g.tells → g.may_leave d (g.seen d)) → KeepsAgreement g h disk handlers disk' handlers'
  entered_agrees stay tells schemas all agree = agrees_ended stay tells schemas all agree
