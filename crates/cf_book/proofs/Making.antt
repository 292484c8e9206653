-- What making a book comes to, from what its steps come to.
use Rattle.std.proofs.Common.{◌≡◌, inl, inr, ℕ, ◌≤◌, List, [], ◌∷◌, ◌++◌, Some, None, Result, Ok, Err, refl, sym, ◌∙◌, subst, arith, IsTrue}
use Rattle.std.specs.Prelude.{slice_get}
use Rattle.std.proofs.lemmas.Bool.{cases_lt}
use Rattle.cf_tree.specs.Counts.{HasRisen, last_count}
use Rattle.cf_disk.specs.Disk.{LeavesOnly}
use Rattle.cf_disk.specs.declared.disk.Disk.{Ghosts as DiskGhosts}
use Rattle.cf_entry.specs.declared.entry.Entry.{Entry}
use Rattle.cf_handler.specs.declared.fence.FenceAnswer.{FenceAnswer}
use Rattle.cf_handler.specs.declared.handler.Handler.{Ghosts as HandlerGhosts}
use Rattle.cf_journal.specs.Record.{IsOldOrKept, KeepsRecord, record_of}
use Rattle.cf_lane.specs.Lanes.{LaneNow}
use Rattle.cf_book.specs.Entering.{EntersAs, IsUnraised, IsUntouched, LeavesEither, LeavesOpening, MayEnter, MayOpenOn, RefusesAs, epoch_over, names_of, opened_over}
use Rattle.cf_book.specs.Fences.{StopsRaising, handed_in}
use Rattle.cf_book.specs.Finding.{AreLanesFor, EntersOver, KeepsJournal, RefusesDisk, RefusesHanded, RefusesOpening}
use Rattle.cf_book.specs.Record.{Fits, IsKnown, KeepsRoom, world_left}
use Rattle.cf_book.specs.State.{BookNow}
use Rattle.cf_book.specs.declared.refused.EnterFault.{EnterFault}
use Rattle.cf_book.specs.declared.refused.EnterFault.TheVariants as fault
use Rattle.cf_book.specs.declared.refused.Refused.{Refused}
use Rattle.cf_book.proofs.Ahead.{never_held}
use Rattle.cf_book.proofs.Entered.{leads_in, leads_out, leads_with, leads_without}
use Rattle.cf_book.proofs.Lengths.{fits_before, same_length}
use Rattle.cf_book.proofs.Opened.{lanes_apart, may_open}

-- a count that rose later rose
risen_before : (a b c : ℕ) → a ≤ b → b ≤ c → HasRisen b c → HasRisen a c
risen_before a b c l m h k = elim (cases_lt b last_count) [ inl s ↦ (let t = h s in omega (arith, l, t)) | inr n ↦ omega (arith, k, n, l, m) ]

module _ {D H : Type 0} (g : DiskGhosts D) (h : HandlerGhosts H) (disk mid : D) (lanes : List H) (keeps : KeepsJournal g disk mid)
    (counts_now : (d : D) (t : ℕ) (c : List ℕ) → IsTrue g.tells → t ≤ g.moment d → g.may_leave d c → g.left_since d t c) where
  abbrev here : List LaneNow
  here = handed_in h lanes

  untouched : (disk' : D) (lanes' : List H) → disk' ≡ mid → lanes' ≡ lanes → IsUntouched g disk disk' lanes lanes'
  untouched disk' lanes' d l = record {
    disk_keeps = λ t. subst (λ z. KeepsRecord (g.seen disk) (g.seen z)) (sym d) (keeps.record_keeps t);
    each = λ t file may.
        let m = keeps.moments t in
        m.each file (counts_now mid (g.moment disk) file t m.later (subst (λ z. g.may_leave z file) d may));
    moments = λ t.
        subst (λ z. LeavesOnly g.moment g.left_since disk z (IsOldOrKept (g.may_leave disk) (g.seen disk))) (sym d) (keeps.moments t);
    lanes_keep = l;
  }

  -- the disk was not found
  pub not_found : (f : EnterFault) → RefusesDisk g disk mid f → RefusesAs g h disk lanes mid lanes f
  not_found (fault.NotAJournal offset) r = (untouched mid lanes refl refl, r)
  not_found fault.DiskFault r = (r, inl (untouched mid lanes refl refl))
  not_found fault.NoMemory r = untouched mid lanes refl refl
  not_found (fault.LaneTwice name) r = absurd r
  not_found (fault.LaneMissing name) r = absurd r
  not_found (fault.Full long need room) r = absurd r
  not_found (fault.LaneAhead name stands epoch) r = absurd r
  not_found (fault.LaneFault name) r = absurd r

  module _ (es : List Entry) (found : IsTrue g.tells → record_of (g.seen mid) ≡ Ok es) where
    was_found : IsTrue g.tells → record_of (g.seen disk) ≡ Ok es
    was_found t = sym (keeps.record_keeps t).same ∙ found t

    over : AreLanesFor here (world_left es) → MayEnter g disk here es
    over may = record {
      found = was_found;
      named = may.named;
      differ = lanes_apart here may.complete.0;
      may = may_open (names_of here) (world_left es) may.complete.1;
    }

    over_it : AreLanesFor here (world_left es) → Fits g mid (opened_over here es) → MayOpenOn g disk here es
    over_it may fits = (over may, fits_before g disk mid (opened_over here es) keeps.record_keeps keeps.keeps fits)

    -- the lanes are refused
    lanes_refused : (f : EnterFault) (disk' : D) (lanes' : List H) → disk' ≡ mid → lanes' ≡ lanes → RefusesHanded here (world_left es) f
        → RefusesAs g h disk lanes disk' lanes' f
    lanes_refused (fault.LaneTwice name) disk' lanes' d l r = (untouched disk' lanes' d l, r, es, was_found)
    lanes_refused (fault.LaneMissing name) disk' lanes' d l r = (untouched disk' lanes' d l, r.0, es, was_found, r.1)
    lanes_refused fault.NoMemory disk' lanes' d l r = untouched disk' lanes' d l
    lanes_refused (fault.NotAJournal offset) disk' lanes' d l r = absurd r
    lanes_refused fault.DiskFault disk' lanes' d l r = absurd r
    lanes_refused (fault.Full long need room) disk' lanes' d l r = absurd r
    lanes_refused (fault.LaneAhead name stands epoch) disk' lanes' d l r = absurd r
    lanes_refused (fault.LaneFault name) disk' lanes' d l r = absurd r

    unraised : (disk' : D) (after : List LaneNow) (name : List ℕ) (x : FenceAnswer) → AreLanesFor here (world_left es)
        → IsKnown g disk' (es ++ opened_over here es ∷ []) None → (place : ℕ) (lane : LaneNow)
        → slice_get here place ≡ Some lane → lane.name ≡ name → StopsRaising here after place (epoch_over es) x
        → IsUnraised g es here after disk' name x
    unraised disk' after name x may known place lane at named stops = record {
      place = place;
      lane = lane;
      at = at;
      named = named;
      fences = stops;
      known = known;
      leads = λ schemas life was. leads_out schemas es here life was (over may).differ (over may).may after place x stops;
    }

    -- the opening is refused
    opening_refused : (f : EnterFault) (disk' : D) (lanes' : List H) → AreLanesFor here (world_left es)
        → RefusesOpening g h mid es (opened_over here es) lanes disk' lanes' f → RefusesAs g h disk lanes disk' lanes' f
    opening_refused (fault.Full long need room) disk' lanes' may (d, l, is, needs, rooms, past) = (
      untouched disk' lanes' d l,
      es,
      over may,
      (λ t. sym (same_length (g.seen disk) (g.seen mid) (keeps.record_keeps t)) ∙ is t),
      needs,
      rooms ∙ keeps.keeps.room,
      past,
    )
    opening_refused fault.DiskFault disk' lanes' may (l, (later, rose), known, fits) = (
      risen_before (g.count disk) (g.count mid) (g.count disk') keeps.keeps.count later rose,
      inr (
        l,
        es,
        over_it may fits,
        record {
          known = known;
          leads_with = λ schemas life was. leads_with schemas es here life was (over may).differ (over may).may;
          leads_without = λ schemas life was. leads_without schemas es here life was (over may).differ (over may).may;
        },
      ),
    )
    opening_refused fault.NoMemory disk' lanes' may (d, l) = untouched disk' lanes' d l
    opening_refused (fault.LaneAhead name stands epoch) disk' lanes' may (known, fits, stops) =
        let (named, of_it, is) = stops.why in
        let fences = subst (StopsRaising here (handed_in h lanes') stops.place (epoch_over es)) is stops.fences in (
          es,
          over_it may fits,
          of_it,
          unraised disk' (handed_in h lanes') name _ may known stops.place stops.lane stops.at (sym named) fences,
          never_held es here (handed_in h lanes') stops.place stands fences,
        )
    opening_refused (fault.LaneFault name) disk' lanes' may (known, fits, stops) =
        let (named, is) = stops.why in (
          es,
          over_it may fits,
          unraised disk' (handed_in h lanes') name _ may known stops.place stops.lane stops.at (sym named)
              (subst (StopsRaising here (handed_in h lanes') stops.place (epoch_over es)) is stops.fences),
        )
    opening_refused (fault.NotAJournal offset) disk' lanes' may r = absurd r
    opening_refused (fault.LaneTwice name) disk' lanes' may r = absurd r
    opening_refused (fault.LaneMissing name) disk' lanes' may r = absurd r

    -- all of it
    pub makes : (result : Result (BookNow D) (Refused D H)) → EntersOver g h mid lanes es result → EntersAs g h disk lanes result
    makes (Ok b) (may, (fits, disk', made)) = (
      es,
      over_it may fits,
      record {
        raised = made.raised;
        entries = made.entries;
        certain = made.certain;
        fences = made.fences;
        lanes_are = made.lanes_are;
        ungranted = made.ungranted;
        running = made.running;
        leads = λ schemas life was. leads_in schemas es here life was (over may).differ (over may).may made.raised made.fences b made.entries made.lanes_are made.ungranted;
      },
    )
    makes (Err r) (inl (d, l, why)) = lanes_refused r.fault r.disk r.lanes.items d l why
    makes (Err r) (inr (may, why)) = opening_refused r.fault r.disk r.lanes.items may why

    -- what a crash leaves before and after
    pub leaves_opening : (bytes : List ℕ) → IsTrue g.tells → LeavesEither es (opened_over here es) bytes → LeavesOpening g disk here bytes
    leaves_opening bytes t e = inr (es, was_found t, e)

-- the room stays, and the count does not fall, in one run and then another
pub kept_behind : {D : Type 0} (g : DiskGhosts D) (a b c : D) → KeepsRoom g a b → KeepsRoom g b c → KeepsRoom g a c
kept_behind g a b c one other = record { room = other.room ∙ one.room; count = omega (arith, one.count, other.count) }

-- two runs, one behind the other
module _ {D : Type 0} (moment : D → ℕ) (left_since : D → ℕ → List ℕ → Type 0) where
  pub behind :
      (old mid new : D) (P Q R : List ℕ → Type 0) → LeavesOnly moment left_since old mid P → LeavesOnly moment left_since mid new Q
      → ((c : List ℕ) → P c → R c) → ((c : List ℕ) → Q c → R c) → LeavesOnly moment left_since old new R
  behind old mid new P Q R a b f g = record {
    later = omega (arith, a.later, b.later);
    each = λ c left. elim (b.before (moment old) c a.later left) [ inl past ↦ f c (a.each c past) | inr q ↦ g c q ];
    before = λ t c le left.
        elim (b.before t c (omega (arith, le, a.later)) left) [
          | inl past ↦ elim (a.before t c le past) [ inl earlier ↦ inl earlier | inr p ↦ inr (f c p) ]
          | inr q ↦ inr (g c q)
        ];
  }
