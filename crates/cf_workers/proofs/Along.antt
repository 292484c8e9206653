-- What a crash may leave during a command, from its opening and its run.
use Rattle.std.proofs.Common.{◌≡◌, ◌⊎◌, inl, inr, ℕ, List, [], ◌∷◌, ◌++◌, Option, Some, None, Result, Ok, Err, map, refl, sym, ◌∙◌, ap, subst}
use Rattle.std.specs.Bool.{IsTrue}
use Rattle.cf_disk.specs.Disk.{LeavesOnly}
use Rattle.cf_disk.specs.declared.disk.Disk.{Ghosts as DiskGhosts}
use Rattle.cf_handler.specs.declared.handler.Handler.{Ghosts as HandlerGhosts}
use Rattle.cf_schema.specs.declared.described.Schema.{Schema}
use Rattle.cf_entry.proofs.Codec.{some_is}
use Rattle.cf_entry.specs.declared.entry.Entry.{Entry}
use Rattle.cf_entry.specs.declared.entry.Reply.{Reply}
use Rattle.cf_journal.specs.Record.{IsOldOrKept, KeepsRecord, record_of}
use Rattle.cf_journal.proofs.Moments.{weaker}
use Rattle.cf_lane.specs.Lanes.{LaneNow}
use Rattle.cf_next.specs.Chosen.{IsNext}
use Rattle.cf_prepare.specs.declared.wish.Order.{Order}
use Rattle.cf_prepare.specs.declared.wish.Order.TheVariants as order
use Rattle.cf_book.specs.Beginning.{BeginsOrder, IsPrepared}
use Rattle.cf_book.specs.Entering.{IsBroken, IsEntered, IsUntouched, LeavesEither, LeavesOpening, RefusesAs, epoch_over, opened_over}
use Rattle.cf_book.specs.Events.{outcome_by, reply_for}
use Rattle.cf_book.specs.Fences.{handed_in}
use Rattle.cf_book.specs.Record.{HasKnown, KnowsDisk, with_doubt, world_left}
use Rattle.cf_book.specs.State.{BookNow, at_home}
use Rattle.cf_book.specs.declared.refused.EnterFault.{EnterFault}
use Rattle.cf_book.specs.declared.refused.EnterFault.TheVariants as fault
use Rattle.cf_book.specs.declared.stop.StopFault.{StopFault}
use Rattle.cf_book.specs.declared.stop.StopFault.TheVariants as stop
use Rattle.cf_workers.specs.Along.{IsAlong, MayBeNext, IsNextEntry, IsOldOrAlong}
use Rattle.cf_workers.specs.Ordering.{RunsOrder, schemas_in}
use Rattle.cf_workers.specs.Growing.{Extends, IsBetween}
use Rattle.cf_workers.specs.Driving.{AreSameLanes, CouldNotWrite, Grows, IsAtRest, LacksOutcome, Stops, name_and_schema}
use Rattle.cf_workers.proofs.Crashes.{extends_doubt, extends_itself, extends_on, joined}
use Rattle.cf_workers.proofs.Driven.{none_leased}
use Rattle.cf_workers.proofs.Entered.{home_parts, raised_same}
use Rattle.cf_workers.proofs.Wrote.{schemas_same, written}

-- a book that was entered has the lanes that were handed in, by name and schema
pub same_entered : {D : Type 0} (es : List Entry) (lanes : List LaneNow) (b : BookNow D) → IsEntered es lanes b → AreSameLanes (map at_home lanes) b.lanes
same_entered es lanes b enters =
    ap (map name_and_schema) enters.lanes_are ∙ home_parts enters.raised ∙ raised_same lanes enters.raised (epoch_over es) enters.fences ∙ sym (home_parts lanes)

-- What is in doubt in a book comes next behind the entries that were acknowledged.
module _ {D : Type 0} (g : DiskGhosts D) where
  abbrev pub DoubtsNext : List Schema → BookNow D → Type 0
  DoubtsNext schemas b = (e : Entry) → b.doubt ≡ Some e → IsNextEntry schemas b.entries e

  pub no_doubt : (schemas : List Schema) (b : BookNow D) → b.doubt ≡ None → DoubtsNext schemas b
  no_doubt schemas b none e q = let never : ⊥ = cc in absurd never

  -- the entry that could not be written, behind these
  in_doubt : (schemas : List Schema) (b : BookNow D) (es : List Entry) (e : Entry) → b.entries ≡ es → b.doubt ≡ Some e → IsNextEntry schemas es e → DoubtsNext schemas b
  in_doubt schemas b es e same doubt next d q =
      subst (λ xs. IsNextEntry schemas xs d) (sym same) (subst (IsNextEntry schemas es) (some_is e d (sym doubt ∙ q)) next)

  could_not : (schemas : List Schema) (disk : D) (old new : BookNow D) (es : List Entry) (e : Entry) (f : StopFault) → new.entries ≡ es → CouldNotWrite g disk old new e f
      → IsNextEntry schemas es e → DoubtsNext schemas new
  could_not schemas disk old new es e (stop.Full l need room) same w next = no_doubt schemas new w.0
  could_not schemas disk old new es e stop.DiskFault same w next = in_doubt schemas new es e same w.1 next
  could_not schemas disk old new es e (stop.LaneAhead place fence epoch) same w next = absurd w
  could_not schemas disk old new es e stop.NoMemory same w next = absurd w

  begun_next : (schemas : List Schema) (old new : BookNow D) (ordered : Order) (f : StopFault) → IsPrepared schemas (world_left old.entries) ordered → old.doubt ≡ None
      → BeginsOrder g old new ordered (Err f) → DoubtsNext schemas new
  begun_next schemas old new (order.Begin e) (stop.Full l need room) p none w = no_doubt schemas new (w.0.1.1 ∙ none)
  begun_next schemas old new (order.Begin e) stop.DiskFault p none w = in_doubt schemas new old.entries e w.0.0 w.0.1.1 (IsNextEntry.begins p.0 p.2)
  begun_next schemas old new (order.Begin e) (stop.LaneAhead place fence epoch) p none w = absurd w.0.1
  begun_next schemas old new (order.Begin e) stop.NoMemory p none w = no_doubt schemas new (w.0.2 ∙ none)
  begun_next schemas old new (order.Review e) f p none w = absurd w
  begun_next schemas old new (order.Resume number) f p none w = no_doubt schemas new (w.1.doubt ∙ none)

  stopped_next : (number : ℕ) (last new : BookNow D) (f : StopFault) → IsAtRest g last → Stops g number last new f → DoubtsNext (schemas_in last.lanes) new
  stopped_next number last new f rest (stopped, none, known, inl (same, lanes, inl (is, certain, lacks))) = no_doubt (schemas_in last.lanes) new certain
  stopped_next number last new f rest (stopped, none, known, inl (same, lanes, inr (n, e, comes, is, w))) =
      could_not (schemas_in last.lanes) last.disk last new last.entries e f same w (IsNextEntry.steps number n
      (subst (λ out. IsNext (schemas_in last.lanes) (world_left last.entries) out number n) (none_leased last.lanes rest.none_out) comes) is)
  stopped_next number last new f rest (stopped, none, known, inr a) = by (reply_for (a.0).told.answer) refl a.4 where
    by : (o : Option Reply) → reply_for (a.0).told.answer ≡ o → LacksOutcome g (a.1).lent.disk last new (a.0).after (a.0).told o f → DoubtsNext (schemas_in last.lanes) new
    by (Some r) q w =
        could_not (schemas_in last.lanes) (a.1).lent.disk last new (a.1).lent.entries (outcome_by (a.0).told r) f (a.2 ∙ sym (a.1).entries) w
        (IsNextEntry.answers (a.0).lane.name (a.0).told r (a.1).durable.open_call q refl)
    by None q w = no_doubt (schemas_in last.lanes) new w.0

  pub run_next : (entered ended : BookNow D) (ordered : Order) (f : StopFault) → IsPrepared (schemas_in entered.lanes) (world_left entered.entries) ordered → entered.doubt ≡ None
      → RunsOrder g entered ended ordered (Err f) → DoubtsNext (schemas_in entered.lanes) ended
  run_next entered ended ordered f prepared none (inl (begins, lanes, known)) = begun_next (schemas_in entered.lanes) entered ended ordered f prepared none begins
  run_next entered ended ordered f prepared none (inr (number, begun, goes, ((last, course, stops, disk, grows), few))) =
      subst (λ ss. DoubtsNext ss ended) (schemas_same begun.lanes last.lanes (written g number begun goes.2 course).same ∙ ap schemas_in goes.1)
      (stopped_next number last ended f (written g number begun goes.2 course).rest stops)

-- what goes no further than entries and one more is all of that, or goes no further than the entries
pub all_or_less : (now es more : List Entry) (e : Entry) → es ++ e ∷ [] ≡ now ++ more → Extends now es ⊎ (now ≡ es ++ e ∷ [])
all_or_less [] es more e q = inl (es, refl)
all_or_less (n ∷ now) (x ∷ es) more e q =
    let first : x ≡ n = cc in
    let rest : es ++ e ∷ [] ≡ now ++ more = cc in
    elim (all_or_less now es more e rest) [
      | inl k ↦ inl (k.0, ap (λ l. x ∷ l) k.1 ∙ ap (λ y. y ∷ now ++ k.0) first)
      | inr k ↦ inr (ap (λ l. n ∷ l) k ∙ ap (λ y. y ∷ es ++ e ∷ []) (sym first))
    ]
all_or_less (n ∷ []) [] more e q = let first : e ≡ n = cc in inr (ap (λ y. y ∷ []) (sym first))
all_or_less (n ∷ m ∷ now) [] more e q = let never : ⊥ = cc in absurd never

-- The entries go no further than those that are there in the end, but for one that could come next.
abbrev pub GoesNoFurther : List LaneNow → List Entry → List Entry → List Entry → Type 0
GoesNoFurther lanes old now last = Extends now last ⊎ ((e : Entry) × (now ≡ last ++ e ∷ []) × MayBeNext lanes old last e)

-- The record that the disk has in the end: it begins with the old one, and the opening goes no further.
pub record EndsAt (lanes : List LaneNow) (old : List Entry) (bytes' : List ℕ) : Type 0 where
  pub last : List Entry
  pub stays : record_of bytes' ≡ Ok last
  pub grown : Extends old last
  pub opened : GoesNoFurther lanes old (old ++ opened_over lanes old ∷ []) last

same_record : {A : Type 0} (a b : A) → ◌≡◌ {A = Result A ℕ} (Ok a) (Ok b) → a ≡ b
same_record a b q = cc

module _ {D H : Type 0} (g : DiskGhosts D) (h : HandlerGhosts H) (disk disk' : D) (handlers : List H) where
  abbrev lanes : List LaneNow
  lanes = handed_in h handlers

  abbrev IsAlongIt : List ℕ → Type 0
  IsAlongIt file = IsAlong g h disk disk' handlers file

  abbrev IsOldOrAlongIt : List ℕ → Type 0
  IsOldOrAlongIt file = IsOldOrAlong g h disk disk' handlers file

  -- a file with the old entries, or with the opening behind them
  along_either : (old : List Entry) (file : List ℕ) → record_of (g.seen disk) ≡ Ok old → EndsAt lanes old (g.seen disk') → LeavesEither old (opened_over lanes old) file → IsAlongIt file
  along_either old file was k (inl q) = record {
    old = old;
    now = old;
    last = k.last;
    was = was;
    record_is = q;
    stays = k.stays;
    no_shorter = extends_itself old;
    no_longer = inl k.grown;
  }
  along_either old file was k (inr q) = record {
    old = old;
    now = old ++ opened_over lanes old ∷ [];
    last = k.last;
    was = was;
    record_is = q;
    stays = k.stays;
    no_shorter = (opened_over lanes old ∷ [], refl);
    no_longer = k.opened;
  }

  -- bytes that keep the record
  module _ (here_now : g.may_leave disk (g.seen disk)) where
    along_kept : ((old : List Entry) → record_of (g.seen disk) ≡ Ok old → (last : List Entry) × (record_of (g.seen disk') ≡ Ok last) × Extends old last) → (file : List ℕ)
        → IsOldOrKept (g.may_leave disk) (g.seen disk) file → IsOldOrAlongIt file
    along_kept ends file (inl left) = inl left
    along_kept ends file (inr kept) = by (record_of (g.seen disk)) refl where
      by : (o : Result (List Entry) ℕ) → record_of (g.seen disk) ≡ o → IsOldOrAlongIt file
      by (Err offset) q =
          elim kept.bytes [ inl none ↦ (let never : ⊥ = no_error offset (sym q ∙ none) in absurd never) | inr same ↦ inl (subst (g.may_leave disk) (sym same) here_now) ] where
            no_error : (n : ℕ) → ◌≡◌ {A = Result (List Entry) ℕ} (Err n) (Ok []) → ⊥
            no_error n e = cc
      by (Ok old) q =
          let (last, stays, grown) = ends old q in
          inr (record {
            old = old;
            now = old;
            last = last;
            was = q;
            record_is = kept.same ∙ q;
            stays = stays;
            no_shorter = extends_itself old;
            no_longer = inl grown;
          })

    -- where no entry is written
    pub along_answered : KeepsRecord (g.seen disk) (g.seen disk') → LeavesOnly g.moment g.left_since disk disk' (IsOldOrKept (g.may_leave disk) (g.seen disk))
        → LeavesOnly g.moment g.left_since disk disk' IsOldOrAlongIt
    along_answered kept moments =
        weaker g.moment g.left_since disk disk' (IsOldOrKept (g.may_leave disk) (g.seen disk)) IsOldOrAlongIt moments
        (along_kept (λ es q. (es, kept.same ∙ q, extends_itself es)))

    -- what an opening leaves at each moment
    module _ (ends : (es : List Entry) → record_of (g.seen disk) ≡ Ok es → EndsAt lanes es (g.seen disk')) where
      along_opening : (file : List ℕ) → LeavesOpening g disk lanes file → IsOldOrAlongIt file
      along_opening file (inl old) = along_kept (λ es q. let k = ends es q in (k.last, k.stays, k.grown)) file old
      along_opening file (inr (es, was, either)) = inr (along_either es file was (ends es was) either)

  at_opened : (es : List Entry) → record_of (g.seen disk') ≡ Ok (es ++ opened_over lanes es ∷ []) → EndsAt lanes es (g.seen disk')
  at_opened es q = record {
    last = es ++ opened_over lanes es ∷ [];
    stays = q;
    grown = (opened_over lanes es ∷ [], refl);
    opened = inl (extends_itself (es ++ opened_over lanes es ∷ []));
  }

  at_known : (es xs : List Entry) → record_of (g.seen disk) ≡ Ok xs → record_of (g.seen disk) ≡ Ok es → EndsAt lanes es (g.seen disk') → EndsAt lanes xs (g.seen disk')
  at_known es xs p q k = subst (λ l. EndsAt lanes l (g.seen disk')) (same_record es xs (sym q ∙ p)) k

  module _ (handlers' : List H) (tells : IsTrue g.tells) where
    -- a book that was not entered
    at_broken : (es : List Entry) → IsBroken g es lanes disk' → EndsAt lanes es (g.seen disk')
    at_broken es broken = by (broken.known.now tells) where
      by : HasKnown es (Some (opened_over lanes es)) (g.seen disk') → EndsAt lanes es (g.seen disk')
      by (inl p) = record {
        last = es;
        stays = p;
        grown = extends_itself es;
        opened = inr (opened_over lanes es, refl, inl (refl, refl));
      }
      by (inr p) = at_opened es p

    at_unraised : (es : List Entry) → HasKnown (es ++ opened_over lanes es ∷ []) None (g.seen disk') → EndsAt lanes es (g.seen disk')
    at_unraised es (inl p) = at_opened es p
    at_unraised es (inr p) = at_opened es p

    module _ (here_now : g.may_leave disk (g.seen disk)) where
      untouched : IsUntouched g disk disk' handlers handlers' → LeavesOnly g.moment g.left_since disk disk' IsOldOrAlongIt
      untouched u = along_answered here_now (u.disk_keeps tells) (u.moments tells)

      opening : (es : List Entry) → record_of (g.seen disk) ≡ Ok es → EndsAt lanes es (g.seen disk') → LeavesOnly g.moment g.left_since disk disk' (LeavesOpening g disk lanes)
          → LeavesOnly g.moment g.left_since disk disk' IsOldOrAlongIt
      opening es was k moments =
          weaker g.moment g.left_since disk disk' (LeavesOpening g disk lanes) IsOldOrAlongIt moments (along_opening here_now (λ xs q. at_known es xs q was k))

      pub along_refused : (f : EnterFault) → RefusesAs g h disk handlers disk' handlers' f → LeavesOnly g.moment g.left_since disk disk' (LeavesOpening g disk lanes)
          → LeavesOnly g.moment g.left_since disk disk' (IsOldOrAlong g h disk disk' handlers)
      along_refused (fault.NotAJournal offset) r moments = untouched r.0
      along_refused fault.DiskFault (rose, inl u) moments = untouched u
      along_refused fault.DiskFault (rose, inr (quiet, es, over, broken)) moments = opening es ((over.0).found tells) (at_broken es broken) moments
      along_refused (fault.LaneTwice name) r moments = untouched r.0
      along_refused (fault.LaneMissing name) r moments = untouched r.0
      along_refused (fault.Full length need room) r moments = untouched r.0
      along_refused (fault.LaneAhead name stands epoch) (es, over, is, u, never) moments =
          opening es ((over.0).found tells) (at_unraised es (u.known.now tells)) moments
      along_refused (fault.LaneFault name) (es, over, u) moments = opening es ((over.0).found tells) (at_unraised es (u.known.now tells)) moments
      along_refused fault.NoMemory u moments = untouched u

    -- a book that was entered, and what it leaves in the end
    module _ (es : List Entry) (entered ended : BookNow D) (was : record_of (g.seen disk) ≡ Ok es) (enters : IsEntered es lanes entered) (grown : Extends entered.entries ended.entries)
        (disk_is : disk' ≡ ended.disk) (known : KnowsDisk g ended) (next : DoubtsNext g (schemas_in entered.lanes) ended) where
      opened_so : Extends (es ++ opened_over lanes es ∷ []) ended.entries
      opened_so = subst (λ l. Extends l ended.entries) enters.entries grown

      old_so : Extends es ended.entries
      old_so = extends_on es (es ++ opened_over lanes es ∷ []) ended.entries (opened_over lanes es ∷ [], refl) opened_so

      known_now : HasKnown ended.entries ended.doubt (g.seen disk')
      known_now = subst (λ d. HasKnown ended.entries ended.doubt (g.seen d)) (sym disk_is) (known.now tells)

      with_so : (a : List Entry) → Extends a ended.entries → Extends a (with_doubt ended.entries ended.doubt)
      with_so a k = extends_on a ended.entries (with_doubt ended.entries ended.doubt) k (extends_doubt ended.entries ended.doubt)

      ends_at : EndsAt lanes es (g.seen disk')
      ends_at = by known_now where
        by : HasKnown ended.entries ended.doubt (g.seen disk') → EndsAt lanes es (g.seen disk')
        by (inl q) = record { last = ended.entries; stays = q; grown = old_so; opened = inl opened_so }
        by (inr q) = record {
          last = with_doubt ended.entries ended.doubt;
          stays = q;
          grown = with_so es old_so;
          opened = inl (with_so (es ++ opened_over lanes es ∷ []) opened_so);
        }

      schemas_so : schemas_in entered.lanes ≡ schemas_in (map at_home lanes)
      schemas_so = schemas_same (map at_home lanes) entered.lanes (same_entered es lanes entered enters)

      -- what was acknowledged, and the entry in doubt behind it
      no_further : (now : List Entry) (o : Option Entry) → ended.doubt ≡ o → Extends now (with_doubt ended.entries o) → GoesNoFurther lanes es now ended.entries
      no_further now None q k = inl k
      no_further now (Some e) q (more, k) =
          elim (all_or_less now ended.entries more e k) [
            | inl less ↦ inl less
            | inr all ↦ inr (e, all, inr (opened_so, subst (λ ss. IsNextEntry ss ended.entries e) schemas_so (next e q)))
          ]

      between : (file : List ℕ) → IsBetween entered.entries (with_doubt ended.entries ended.doubt) file → IsAlongIt file
      between file i = by known_now where
        no_shorter : Extends es i.now
        no_shorter = extends_on es entered.entries i.now (subst (Extends es) (sym enters.entries) (opened_over lanes es ∷ [], refl)) i.no_shorter

        by : HasKnown ended.entries ended.doubt (g.seen disk') → IsAlongIt file
        by (inl q) = record {
          old = es;
          now = i.now;
          last = ended.entries;
          was = was;
          record_is = i.record_is;
          stays = q;
          no_shorter = no_shorter;
          no_longer = no_further i.now ended.doubt refl i.no_longer;
        }
        by (inr q) = record {
          old = es;
          now = i.now;
          last = with_doubt ended.entries ended.doubt;
          was = was;
          record_is = i.record_is;
          stays = q;
          no_shorter = no_shorter;
          no_longer = inl i.no_longer;
        }

      pub along_entered : g.may_leave disk (g.seen disk) → LeavesOnly g.moment g.left_since disk entered.disk (LeavesOpening g disk lanes) → Grows g entered ended
          → LeavesOnly g.moment g.left_since disk disk' (IsOldOrAlong g h disk disk' handlers)
      along_entered here_now opens grows =
          subst (λ d. LeavesOnly g.moment g.left_since disk d IsOldOrAlongIt) (sym disk_is)
          (joined g.moment g.left_since disk entered.disk ended.disk (LeavesOpening g disk lanes) (IsBetween entered.entries (with_doubt ended.entries ended.doubt))
          IsOldOrAlongIt opens (grows tells) (along_opening here_now (λ xs q. at_known es xs q was ends_at)) (λ file i. inr (between file i)))
