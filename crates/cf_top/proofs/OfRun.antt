-- Each call of a run is of its operation, and is made behind its beginning.
use Rattle.std.proofs.Common.{◌≡◌, inl, inr, ℕ, Bool, true, false, cond, List, [], ◌∷◌, Result, Ok, Err, sym, ◌∙◌, ap, subst}
use Rattle.std.specs.Str.{bytes_eq}
use Rattle.cf_tree.specs.Lists.{In}
use Rattle.cf_disk.specs.declared.disk.Disk.{Ghosts}
use Rattle.cf_entry.specs.declared.entry.Entry.{Entry}
use Rattle.cf_entry.specs.declared.status.Status.{Status}
use Rattle.cf_lane.specs.Calling.{Granted}
use Rattle.cf_lane.specs.Lanes.{LaneNow}
use Rattle.cf_lane.specs.declared.told.Told.{Told}
use Rattle.cf_plan.proofs.Causing.{map_in}
use Rattle.cf_plan.proofs.Listed.{in_last, in_none}
use Rattle.cf_next.specs.Chosen.{entry_for}
use Rattle.cf_prepare.specs.declared.wish.Order.{Order}
use Rattle.cf_book.specs.Events.{outcome_by}
use Rattle.cf_book.specs.State.{BookLane, BookNow, at_home, come_home, with_lane}
use Rattle.cf_book.specs.declared.stop.StopFault.{StopFault}
use Rattle.cf_workers.specs.Driving.{CallMade, Course, DrivesTo, Round, intended, step_of}
use Rattle.cf_workers.specs.Growing.{Extends}
use Rattle.cf_workers.specs.Ordering.{RunsOrder, WasBegun}
use Rattle.cf_workers.specs.declared.drive.Drove.{Drove}
use Rattle.cf_workers.specs.declared.drive.Drove.TheVariants.{Over, Stopped}
use Rattle.cf_workers.proofs.Crashes.{extends_doubt, extends_itself, extends_on}

module _ (number : ℕ) where
  -- each call in the logs of the lanes is of this operation
  abbrev AreOf : List BookLane → Type 0
  AreOf lanes = (b : BookLane) → In b lanes → (t : Told) → In t b.lane.log → t.number ≡ number

  home_of_it : (after : LaneNow) (lanes : List BookLane) → AreOf lanes → ((t : Told) → In t after.log → t.number ≡ number) → AreOf (come_home after lanes)
  home_of_it after lanes are its b i =
      let (k, j, e) = map_in (with_lane after.name (at_home after)) b lanes i in
      subst (λ (z : BookLane). (t : Told) → In t z.lane.log → t.number ≡ number) e (by k j (bytes_eq after.name k.lane.name)) where
        by : (k : BookLane) → In k lanes → (c : Bool) → (t : Told) → In t (cond c (at_home after) k).lane.log → t.number ≡ number
        by k j true = its
        by k j false = are k j

  made_of_it : {es : List Entry} {lanes : List BookLane} (made : CallMade number es lanes) → AreOf lanes → (t : Told) → In t made.after.log → t.number ≡ number
  made_of_it made are t i = elim (in_last made.lane.log made.told t (subst (In t) made.called.log i)) [
    | inl j ↦ are (at_home made.lane) made.home t j
    | inr e ↦ ap (λ (u : Told). u.number) e ∙ ap (λ (k : Granted). k.number) made.called.granted_is
  ]

  module _ {D : Type 0} (g : Ghosts D) (first : BookNow D) where
    course_of_it : {last : BookNow D} → Course g number first last → AreOf first.lanes → AreOf last.lanes
    course_of_it Course.begins are = are
    course_of_it (Course.goes {old} {new} course (Round.moves n e comes writes other fits wrote lanes) grows rest) are =
        subst AreOf (sym lanes) (course_of_it course are)
    course_of_it (Course.goes {old} {new} course (Round.calls made r intends outcome wrote lanes) grows rest) are =
        subst AreOf (sym lanes) (home_of_it made.after old.lanes (course_of_it course are) (made_of_it made (course_of_it course are)))

    made_grown : (old : BookNow D) (made : CallMade number old.entries old.lanes) → Extends first.entries old.entries → Extends first.entries (intended made)
    made_grown old made grown =
        extends_on first.entries old.entries (intended made) grown (extends_doubt old.entries (entry_for number (step_of made)))

    course_grown : {last : BookNow D} → Course g number first last → Extends first.entries last.entries
    course_grown Course.begins = extends_itself first.entries
    course_grown (Course.goes {old} {new} course (Round.moves n e comes writes other fits wrote lanes) grows rest) =
        extends_on first.entries old.entries new.entries (course_grown course) (e ∷ [], wrote)
    course_grown (Course.goes {old} {new} course (Round.calls made r intends outcome wrote lanes) grows rest) =
        extends_on first.entries (intended made) new.entries (made_grown old made (course_grown course)) (outcome_by made.told r ∷ [], wrote)

    driven_of_it : (new : BookNow D) (drove : Drove) → DrivesTo g number first new drove → AreOf first.lanes → AreOf new.lanes
    driven_of_it new (Over status) (course, rested, ended, how) are = course_of_it course are
    driven_of_it new (Stopped fault) (last, course, (stopped, out, disk, inl (same, lanes, why)), keeps, grows) are =
        subst AreOf (sym lanes) (course_of_it course are)
    driven_of_it new (Stopped fault) (last, course, (stopped, out, disk, inr (made, intends, same, lanes, lacking)), keeps, grows) are =
        subst AreOf (sym lanes) (home_of_it made.after last.lanes (course_of_it course are) (made_of_it made (course_of_it course are)))

    driven_grown : (new : BookNow D) (drove : Drove) → DrivesTo g number first new drove → Extends first.entries new.entries
    driven_grown new (Over status) (course, rested, ended, how) = course_grown course
    driven_grown new (Stopped fault) (last, course, (stopped, out, disk, inl (same, lanes, why)), keeps, grows) =
        subst (Extends first.entries) (sym same) (course_grown course)
    driven_grown new (Stopped fault) (last, course, (stopped, out, disk, inr (made, intends, same, lanes, lacking)), keeps, grows) =
        subst (Extends first.entries) (sym same) (made_grown last made (course_grown course))

-- What is ordered was begun, and the call is of that operation.
pub record IsOfRun {D : Type 0} (g : Ghosts D) (entered ended : BookNow D) (ordered : Order) (t : Told) : Type 0 where
  pub number : ℕ
  pub begun : BookNow D
  pub begins : WasBegun g entered begun ordered number
  pub grown : Extends begun.entries ended.entries
  pub of_it : t.number ≡ number

-- so it is with each call in the logs of the lanes, where none had one before
module _ {D : Type 0} (g : Ghosts D) (entered ended : BookNow D) (silent : (b : BookLane) → In b entered.lanes → b.lane.log ≡ []) (b : BookLane) (i : In b ended.lanes) (t : Told)
    (j : In t b.lane.log) where
  pub none_called : ended.lanes ≡ entered.lanes → ⊥
  none_called lanes = in_none (subst (In t) (silent b (subst (In b) lanes i)) j)

  of_driven : (number : ℕ) (begun : BookNow D) (ordered : Order) (drove : Drove) → WasBegun g entered begun ordered number → DrivesTo g number begun ended drove
      → IsOfRun g entered ended ordered t
  of_driven number begun ordered drove begins tells = record {
    number = number;
    begun = begun;
    begins = begins;
    grown = driven_grown number g begun ended drove tells;
    of_it = driven_of_it number g begun ended drove tells (λ c k u l. absurd (in_none (subst (In u) (silent c (subst (In c) begins.1 k)) l))) b i t j;
  }

  pub of_run : (ordered : Order) (result : Result Status StopFault) → RunsOrder g entered ended ordered result → IsOfRun g entered ended ordered t
  of_run ordered (Ok status) (number, begun, goes, few) = of_driven number begun ordered (Over status) goes few.0
  of_run ordered (Err f) (inl (begins, lanes, known)) = absurd (none_called lanes)
  of_run ordered (Err f) (inr (number, begun, goes, few)) = of_driven number begun ordered (Stopped f) goes few.0
