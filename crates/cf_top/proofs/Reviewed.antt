-- What a review finds out, and what it leaves of its disk: from the run that opened the journal, and that of the append.
use Rattle.std.proofs.Common.{◌≡◌, ◌⊎◌, inl, inr, ℕ, ◌≤◌, List, [], ◌∷◌, ◌++◌, Option, Some, None, Result, Ok, Err, refl, sym, ◌∙◌, ap, subst}
use Rattle.std.specs.Bool.{IsTrue}
use Rattle.cf_tree.specs.declared.source.Source.{Source}
use Rattle.cf_disk.specs.Disk.{LeavesOnly}
use Rattle.cf_disk.specs.declared.disk.Disk.{Ghosts as DiskGhosts}
use Rattle.cf_schema.specs.declared.described.Schema.{Schema}
use Rattle.cf_entry.specs.Entry.{IsProper}
use Rattle.cf_entry.specs.declared.entry.Entry.{Entry}
use Rattle.cf_journal.specs.Record.{IsBeforeOrAfter, IsOldOrKept, KeepsRecord, record_of}
use Rattle.cf_effect.specs.World.{World}
use Rattle.cf_plan.specs.Follow.{MayFollow}
use Rattle.cf_plan.specs.Life.{IsChangeSet}
use Rattle.cf_prepare.specs.Orders.{IsReview}
use Rattle.cf_prepare.specs.declared.wish.Order.{Order}
use Rattle.cf_prepare.specs.declared.wish.Order.TheVariants as order
use Rattle.cf_book.specs.Record.{IsKnown, world_left}
use Rattle.cf_book.proofs.Appended.{known_either}
use Rattle.cf_book.proofs.Making.{behind}
use Rattle.cf_face.specs.Exit.{ending_text}
use Rattle.cf_face.specs.Print.{PrintTells}
use Rattle.cf_face.specs.declared.exit.Exit.{Exit}
use Rattle.cf_face.specs.declared.exit.Exit.TheVariants as exit
use Rattle.cf_face.specs.declared.words.Choice.{Choice}
use Rattle.cf_top.specs.Crash.{MayDoubt, WroteNothing}
use Rattle.cf_top.specs.Opening.{Holds}
use Rattle.cf_top.specs.Outside.{Printing}
use Rattle.cf_top.specs.Refusals.{LibraryUse, RefusesChoice, deployed_source}
use Rattle.cf_top.specs.Reviewing.{AddsOneSet, FindsReview, IsOldOrWithSet, KeepsSet, LeavesAtMostOneSet, OrdersASet, Reviews, ReviewsBy, WasOpened, WritesSet, closed, none, one, refused, reviewed, wrote_exit, wrote_text}
use Rattle.cf_top.specs.Tasks.{IsOrderOf, OrdersChoice, status_refusal}
use Rattle.cf_top.specs.declared.planning.Purpose.TheVariants as purpose
use Rattle.cf_top.proofs.Sets.{review_is_proper, review_is_set}

-- what is ordered for a review keeps a change set
keeps_one : (schemas : List Schema) (x : World) (name : List ℕ) (source : Source) (o : Order) → IsReview schemas x name source o → OrdersASet o
keeps_one schemas x name source o (written, w, q) = subst OrdersASet (sym q) tt

module _ (o : LibraryUse) (schemas : List Schema) (x : World) (name : List ℕ) (choice : Choice) where
  pub keeps_ordered : (ordered : Order) → OrdersChoice o purpose.Review schemas x name choice ordered → OrdersASet ordered
  keeps_ordered ordered d = keeps_one schemas x name _ ordered (d.is_order).0

  pub reviews_by : (ordered : Order) (set : Entry) → status_refusal name x ≡ None → ordered ≡ order.Review set → OrdersChoice o purpose.Review schemas x name choice ordered
      → FindsReview o schemas x name choice (Ok set)
  reviews_by ordered set free is d =
      let of_set : IsOrderOf purpose.Review schemas x name choice d.bytes (order.Review set) = subst (IsOrderOf purpose.Review schemas x name choice d.bytes) is d.is_order in
      record { free = free; bytes = d.bytes; stands = d.stands; sound = d.sound; is_review = of_set.0; may = of_set.1 }

-- and the set of a review can be written, and is one
pub reviews_proper : (o : LibraryUse) (schemas : List Schema) (x : World) (name : List ℕ) (choice : Choice) (set : Entry) → ReviewsBy o schemas x name choice set → IsProper set
reviews_proper o schemas x name choice set r = review_is_proper schemas x name (deployed_source name choice r.bytes) set r.is_review

pub reviews_set : (o : LibraryUse) (schemas : List Schema) (x : World) (name : List ℕ) (choice : Choice) (set : Entry) → ReviewsBy o schemas x name choice set → IsChangeSet set
reviews_set o schemas x name choice set r = review_is_set schemas x name (deployed_source name choice r.bytes) set r.is_review

-- where a fault of the disk was printed, or could not be, an entry may be in doubt
doubts_printed : (held held' : Option (List ℕ)) (faults faults' : ℕ) (text : List ℕ) (e result : Exit) → MayDoubt e → PrintTells held held' faults faults' text e result → MayDoubt result
doubts_printed held held' faults faults' text e result may (inl (is, told)) = subst MayDoubt (sym is) may
doubts_printed held held' faults faults' text e result may (inr (inl (is, rose, told))) = subst MayDoubt (sym is) tt
doubts_printed held held' faults faults' text e result may (inr (inr (is, told))) = subst MayDoubt (sym is) tt

module _ {D : Type 0} (g : DiskGhosts D) where
  abbrev pub Moments : D → D → (List ℕ → Type 0) → Type 0
  Moments old new P = LeavesOnly g.moment g.left_since old new P

  -- nothing is written where the journal is opened alone
  pub wrote_none : (old new : D) → KeepsRecord (g.seen old) (g.seen new) → Moments old new (IsOldOrKept (g.may_leave old) (g.seen old))
      → ((file : List ℕ) → g.may_leave new file → g.left_since new (g.moment old) file) → WroteNothing (g.seen old) (g.seen new) (g.may_leave old) (g.may_leave new)
  wrote_none old new kept moments now = record { kept = kept; each = λ file left. moments.each file (now file left) }

  -- or a change set is appended too
  pub moments_with : (old opened new : D) (es : List Entry) (set : Entry) → record_of (g.seen old) ≡ Ok es → KeepsRecord (g.seen old) (g.seen opened)
      → Moments old opened (IsOldOrKept (g.may_leave old) (g.seen old)) → Moments opened new (IsBeforeOrAfter (record_of (g.seen opened)) set)
      → Moments old new (IsOldOrWithSet (g.may_leave old) (g.seen old) es set)
  moments_with old opened new es set was kept first second =
      behind g.moment g.left_since old opened new (IsOldOrKept (g.may_leave old) (g.seen old)) (IsBeforeOrAfter (record_of (g.seen opened)) set) (IsOldOrWithSet (g.may_leave old) (g.seen old) es set) first second
      (λ file k. inl k) (λ file h. inr (known_either es set (record_of (g.seen opened)) file (kept.same ∙ was) h))

  -- what is left by what came of the append
  module _ (schemas : List Schema) (old opened new : D) (es : List Entry) (set : Entry) (was : record_of (g.seen old) ≡ Ok es)
      (is_set : IsChangeSet set) (may : MayFollow schemas (world_left es) [] set) where
    abbrev Leaves : Exit → Type 0
    Leaves e = LeavesAtMostOneSet schemas (g.seen old) (g.seen new) (g.may_leave old) (g.may_leave new) e

    leaves_none : (e : Exit) → WroteNothing (g.seen old) (g.seen opened) (g.may_leave old) (g.may_leave opened) → new ≡ opened → Leaves e
    leaves_none e nothing same = inl (subst (λ (d : D). WroteNothing (g.seen old) (g.seen d) (g.may_leave old) (g.may_leave d)) (sym same) nothing)

    leaves_written : IsTrue g.tells → (e : Exit) → IsKnown g new (es ++ set ∷ []) None → Leaves e
    leaves_written tells e k = inr (record {
      old = es;
      set = set;
      known = es ++ set ∷ [];
      doubt = None;
      was = was;
      is_set = is_set;
      may = may;
      which = inl (refl, refl);
      stays = k.now tells;
      each = k.each tells;
    })

    leaves_doubted : IsTrue g.tells → (e : Exit) → MayDoubt e → IsKnown g new es (Some set) → Leaves e
    leaves_doubted tells e doubts k = inr (record {
      old = es;
      set = set;
      known = es;
      doubt = Some set;
      was = was;
      is_set = is_set;
      may = may;
      which = inr (refl, refl, doubts);
      stays = k.now tells;
      each = k.each tells;
    })

    leaves_wrote : IsTrue g.tells → (wrote : Result (Unit {0}) Exit) (e : Exit) → WroteNothing (g.seen old) (g.seen opened) (g.may_leave old) (g.may_leave opened)
        → (MayDoubt (wrote_exit wrote) → MayDoubt e) → WritesSet g opened new es set wrote → Leaves e
    leaves_wrote tells (Ok u) e nothing doubts w = leaves_written tells e w.0
    leaves_wrote tells (Err (exit.Full l need room)) e nothing doubts w = leaves_none e nothing w.0
    leaves_wrote tells (Err exit.DiskFault) e nothing doubts w = leaves_doubted tells e (doubts tt) w.0
    leaves_wrote tells (Err exit.NoMemory) e nothing doubts w = leaves_none e nothing w
    leaves_wrote tells (Err exit.Done) e nothing doubts w = absurd w
    leaves_wrote tells (Err exit.BadWords) e nothing doubts w = absurd w
    leaves_wrote tells (Err (exit.TemplateRefused fault)) e nothing doubts w = absurd w
    leaves_wrote tells (Err (exit.StackRefused fault)) e nothing doubts w = absurd w
    leaves_wrote tells (Err (exit.RolledBack cause)) e nothing doubts w = absurd w
    leaves_wrote tells (Err (exit.Failed blamed)) e nothing doubts w = absurd w
    leaves_wrote tells (Err exit.LibraryFault) e nothing doubts w = absurd w
    leaves_wrote tells (Err exit.SinkFault) e nothing doubts w = absurd w
    leaves_wrote tells (Err (exit.NotAJournal offset)) e nothing doubts w = absurd w
    leaves_wrote tells (Err (exit.LaneMissing lane)) e nothing doubts w = absurd w
    leaves_wrote tells (Err (exit.LaneTwice lane)) e nothing doubts w = absurd w
    leaves_wrote tells (Err (exit.LaneAhead lane fence epoch)) e nothing doubts w = absurd w
    leaves_wrote tells (Err (exit.LaneFault lane)) e nothing doubts w = absurd w

    pub leaves_kept : IsTrue g.tells → (p : Printing) (name : List ℕ) (result : Exit) → WroteNothing (g.seen old) (g.seen opened) (g.may_leave old) (g.may_leave opened)
        → KeepsSet g p opened new es name set result → Leaves result
    leaves_kept tells p name result nothing (wrote, writes, printed) =
        leaves_wrote tells wrote result nothing
        (λ may. doubts_printed p.held p.held' p.faults p.faults' (wrote_text name set wrote) (wrote_exit wrote) result may printed) writes

-- From what a call of the journal's opening, of the search for a change set and of its append say.
module _ {D : Type 0} (g : DiskGhosts D) (o : LibraryUse) (p : Printing) (schemas : List Schema) (old opened : D) (name : List ℕ) (choice : Choice) (x : World)
    (found : (es : List Entry) × Holds g.tells (g.seen old) es × (x ≡ world_left es)) (kept : IsTrue g.tells → KeepsRecord (g.seen old) (g.seen opened))
    (moments : IsTrue g.tells → LeavesOnly g.moment g.left_since old opened (IsOldOrKept (g.may_leave old) (g.seen old))) (room : g.room_of opened ≡ g.room_of old) (result : Exit) where
  was_opened : WasOpened g old opened found.0
  was_opened = record { held = found.1; holds = λ told. (kept told).same ∙ found.1 told; kept = kept; moments = moments; room = room }

  -- it was refused
  pub refused_so : (e : Exit) → RefusesChoice o purpose.Review schemas x name choice (status_refusal name x) e → PrintTells p.held p.held' p.faults p.faults' (ending_text e) e result
      → Reviews g o p schemas old opened name choice result
  refused_so e r printed = refused found.0 e was_opened (subst (λ (y : World). RefusesChoice o purpose.Review schemas y name choice (status_refusal name y) e) found.2 r) printed

  module _ (new : D) (set : Entry) (r : ReviewsBy o schemas x name choice set) where
    is_set : IsChangeSet set
    is_set = review_is_set schemas x name _ set r.is_review

    may_follow : MayFollow schemas (world_left found.0) [] set
    may_follow = subst (λ (y : World). MayFollow schemas y [] set) found.2 (r.may [])

    abbrev pub KeepsBehind : Type 0
    KeepsBehind = (es : List Entry) → (IsTrue g.tells → record_of (g.seen opened) ≡ Ok es) → KeepsSet g p opened new es name set result

    keeps_so : KeepsBehind → KeepsSet g p opened new found.0 name set result
    keeps_so keeps = keeps found.0 (λ told. (kept told).same ∙ found.1 told)

    pub reviewed_so : KeepsBehind → (IsTrue g.tells → LeavesOnly g.moment g.left_since opened new (IsBeforeOrAfter (record_of (g.seen opened)) set))
        → Reviews g o p schemas old new name choice result
    reviewed_so keeps second =
        reviewed found.0 opened set was_opened (subst (λ (y : World). ReviewsBy o schemas y name choice set) found.2 r) (keeps_so keeps)
        (λ told. moments_with g old opened new found.0 set (found.1 told) (kept told) (moments told) (second told))

    pub leaves_so : IsTrue g.tells → WroteNothing (g.seen old) (g.seen opened) (g.may_leave old) (g.may_leave opened) → KeepsBehind
        → LeavesAtMostOneSet schemas (g.seen old) (g.seen new) (g.may_leave old) (g.may_leave new) result
    leaves_so told nothing keeps = leaves_kept g schemas old opened new found.0 set (found.1 told) is_set may_follow told p name result nothing (keeps_so keeps)

-- So there is one change set at most, at each moment.
pub adds_one : {D : Type 0} (g : DiskGhosts D) (o : LibraryUse) (p : Printing) (schemas : List Schema) (old new : D) (name : List ℕ) (choice : Choice) (result : Exit) → IsTrue g.tells
    → Reviews g o p schemas old new name choice result → AddsOneSet g schemas old new
adds_one g o p schemas old new name choice result told (closed e cause unasked kept moments printed) = none (moments told)
adds_one g o p schemas old new name choice result told (refused es e was why printed) = none (was.moments told)
adds_one g o p schemas old new name choice result told (reviewed es opened set was r keeps moments) =
    one es set (was.held told) (review_is_set schemas (world_left es) name _ set r.is_review) (r.may []) (moments told)
