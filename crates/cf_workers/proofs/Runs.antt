-- A run, round after round.
use Rattle.std.proofs.Common.{◌≡◌, inl, inr, ℕ, ◌≤◌, ◌<◌, ◌-◌, ◌^◌, List, [], ◌∷◌, ◌++◌, length, length-append, Option, Some, None, refl, sym, ◌∙◌, ap, subst, arith}
use Rattle.std.specs.Bool.{IsTrue}
use Rattle.cf_disk.specs.declared.disk.Disk.{Ghosts}
use Rattle.cf_entry.specs.declared.entry.Entry.{Entry}
use Rattle.cf_journal.proofs.Moments.{started}
use Rattle.cf_schema.specs.declared.described.Schema.{Schema}
use Rattle.cf_plan.specs.Life.{Life}
use Rattle.cf_core.specs.Theorem.{HoldsAlways}
use Rattle.cf_next.specs.Chosen.{entry_for}
use Rattle.cf_core.proofs.Always.{events_hold}
use Rattle.cf_book.specs.Ended.{end_status, ended_in}
use Rattle.cf_book.specs.Events.{outcome_by}
use Rattle.cf_book.specs.Granting.{HasBegun, IsStill}
use Rattle.cf_book.specs.Lives.{DescribeLanes, StandsFor}
use Rattle.cf_book.specs.Record.{HasKnown, KnowsDisk, with_doubt}
use Rattle.cf_book.specs.Steady.{IsSteady}
use Rattle.cf_book.specs.State.{BookNow, NoneOut}
use Rattle.cf_workers.specs.declared.drive.Drove.{Drove}
use Rattle.cf_workers.specs.declared.drive.Drove.TheVariants.{Over, Stopped}
use Rattle.cf_workers.specs.Growing.{IsBetween}
use Rattle.cf_workers.specs.Counting.{AreFewIn, calls_in}
use Rattle.cf_workers.specs.Driving.{CallMade, Course, DrivesTo, Grows, IsAtRest, Round, RoundTells, call_at, calls_of, intended, names_of, step_of, tries_of, tries_with}
use Rattle.cf_workers.specs.Leading.{Drives, IsStretch, LeadsWith}
use Rattle.cf_workers.proofs.Ahead.{never_ahead}
use Rattle.cf_workers.proofs.Courses.{logs_told, outcomes_told}
use Rattle.cf_workers.proofs.FewCalls.{are_low, few_between, keys_more, none_few, thrice_more}
use Rattle.cf_workers.proofs.SoFar.{AreLow, IsSoFar, answered_at, answered_so, begins_so, called_in, lent_so, made_so, round_so}
use Rattle.cf_workers.proofs.Paths.{of_stack}
use Rattle.cf_workers.proofs.Tries.{at_most, thrice}
use Rattle.cf_workers.proofs.Crashes.{extends_doubt, extends_itself, extends_on, grows_on}
use Rattle.cf_workers.proofs.Leading.{leads_on}
use Rattle.cf_workers.proofs.Lives.{one_record, stay}

pub stretch_on : {D : Type 0} (g : Ghosts D) (a b c : BookNow D) → b.doubt ≡ None → IsStretch g a b → IsStretch g b c → IsStretch g a c
stretch_on g a b c none h k = record {
  leads = leads_on a b c h.lanes k.lanes h.leads k.leads;
  grows = grows_on g a b c none h.grown (extends_on b.entries c.entries (with_doubt c.entries c.doubt) k.grown (extends_doubt c.entries c.doubt)) h.grows k.grows;
  grown = extends_on a.entries b.entries c.entries h.grown k.grown;
  disk = record { room = k.disk.room ∙ h.disk.room; count = omega (arith, h.disk.count, k.disk.count) };
  lanes = k.lanes ∙ h.lanes;
}

module _ {D : Type 0} (g : Ghosts D) (only_now : (d : D) (c : List ℕ) → IsTrue g.tells → g.left_since d (g.moment d) c → g.may_leave d c) where
  known_at : (b : BookNow D) → IsAtRest g b → (file : List ℕ) → HasKnown b.entries b.doubt file → IsBetween b.entries (with_doubt b.entries b.doubt) file
  known_at b rest file (inl q) = record { now = b.entries; record_is = q; no_shorter = extends_itself b.entries; no_longer = extends_doubt b.entries b.doubt }
  known_at b rest file (inr q) = record {
    now = with_doubt b.entries b.doubt;
    record_is = q;
    no_shorter = extends_doubt b.entries b.doubt;
    no_longer = extends_itself (with_doubt b.entries b.doubt);
  }

  -- before the first round
  pub no_stretch : (b : BookNow D) → IsAtRest g b → IsStretch g b b
  no_stretch b rest = record {
    leads = λ schemas life d stands holds es is. record {
      events = [];
      after = life;
      happen = refl;
      stands = stands;
      record_is = one_record b life.entries rest.certain stands.entries ∙ sym (one_record b es rest.certain is);
      keeps = stay (names_of b.lanes) life.lanes;
    };
    grows = λ told. started g.moment g.left_since b.disk (IsBetween b.entries (with_doubt b.entries b.doubt)) (λ c left. known_at b rest c (rest.known.each told c (only_now b.disk c told left)));
    grown = extends_itself b.entries;
    disk = record { room = refl; count = omega arith };
    lanes = refl;
  }

-- a book that is still is the same
abbrev the_book : {D : Type 0} → BookNow D → BookNow D
the_book b = b

same_book : {D : Type 0} (b c : BookNow D) → IsStill b c → b.stopped ≡ None → c.stopped ≡ None → c ≡ b
same_book b c s running stopped =
    ap (λ z. the_book (record { disk = z; entries = c.entries; doubt = c.doubt; lanes = c.lanes; has_granted = c.has_granted; stopped = c.stopped })) s.0.disk
    ∙ ap (λ z. the_book (record { disk = b.disk; entries = z; doubt = c.doubt; lanes = c.lanes; has_granted = c.has_granted; stopped = c.stopped })) s.0.entries
    ∙ ap (λ z. the_book (record { disk = b.disk; entries = b.entries; doubt = z; lanes = c.lanes; has_granted = c.has_granted; stopped = c.stopped })) s.0.doubt
    ∙ ap (λ z. the_book (record { disk = b.disk; entries = b.entries; doubt = b.doubt; lanes = z; has_granted = c.has_granted; stopped = c.stopped })) s.1.lanes
    ∙ ap (λ z. the_book (record { disk = b.disk; entries = b.entries; doubt = b.doubt; lanes = b.lanes; has_granted = z; stopped = c.stopped })) s.1.granted
    ∙ ap (λ z. the_book (record { disk = b.disk; entries = b.entries; doubt = b.doubt; lanes = b.lanes; has_granted = b.has_granted; stopped = z })) (stopped ∙ sym running)

-- the run so far
pub record IsRun {D : Type 0} (g : Ghosts D) (number : ℕ) (first b : BookNow D) : Type 0 where
  pub course : Course g number first b
  pub rest : IsAtRest g b
  pub begun : HasBegun b.entries number
  pub stretch : IsStretch g first b
  pub ends : ended_in b.entries ≡ ended_in first.entries
  pub certain : first.doubt ≡ None
  pub so_far : AreLow number first.entries → IsSoFar g number first course
  pub few : AreFewIn first (calls_of course)

-- before the first round
pub starts : {D : Type 0} (g : Ghosts D) (only_now : (d : D) (c : List ℕ) → IsTrue g.tells → g.left_since d (g.moment d) c → g.may_leave d c) (number : ℕ) (b : BookNow D)
    → IsAtRest g b → HasBegun b.entries number → IsRun g number b b
starts g only_now number b rest begun = record {
  course = Course.begins;
  rest = rest;
  begun = begun;
  stretch = no_stretch g only_now b rest;
  ends = refl;
  certain = rest.certain;
  so_far = begins_so g number b;
  few = λ schemas life described stands holds. none_few;
}

module _ {D : Type 0} (g : Ghosts D) (number : ℕ) (first b c : BookNow D) (run : IsRun g number first b) (more : IsStretch g b c) where
  whole : IsStretch g first c
  whole = stretch_on g first b c run.rest.certain run.stretch more

  -- what the run has called so far, in a life that its first book stands for; and a life that its last book stands for
  module _ (schemas : List Schema) (life : Life) (described : DescribeLanes schemas first.lanes) (stands : StandsFor first life) (holds : HoldsAlways schemas life) where
    known : life.entries ≡ first.entries
    known = one_record first life.entries run.certain stands.entries

    so : IsSoFar g number first run.course
    so = run.so_far (are_low schemas life holds number first.entries known)

    led : LeadsWith schemas life c c.entries
    led = whole.leads schemas life described stands holds c.entries (inl refl)

    held : HoldsAlways schemas led.after
    held = (events_hold schemas life led.after led.events holds led.happen).0

  -- the calls are few, after a round too
  few_on : (round : Round g number b c) (grows : Grows g b c) (rest : IsAtRest g c) → AreFewIn first (calls_of (Course.goes run.course round grows rest))
  few_on (Round.moves n e chosen writes other fits wrote lanes) grows rest = run.few
  few_on (Round.calls made r intends outcome wrote lanes) grows rest = λ schemas life described stands holds.
      let so_now = answered_so g number first run.course (so schemas life described stands holds) made r in
      let (t, at) = answered_at g number first run.course (so schemas life described stands holds) made r in
      let l = led schemas life described stands holds in
      few_between schemas life l.after holds (held schemas life described stands holds) number first.entries (intended made ++ outcome_by made.told r ∷ [])
      (known schemas life described stands holds) (l.record_is ∙ wrote) made.chosen.0 t at (called_in run.course ++ (made.path, made.token) ∷ [])
      (λ token. tries_with made token (tries_of token run.course)) (so_now made.chosen.0 t at) (thrice_more run.course made)
      (calls_of run.course ++ call_at made ∷ []) (keys_more run.course made)

  few_with : (made : CallMade number b.entries b.lanes) → c.entries ≡ intended made → AreFewIn first (calls_of run.course ++ call_at made ∷ [])
  few_with made same = λ schemas life described stands holds.
      let so_now = made_so g number first run.course (so schemas life described stands holds) made in
      let lent = lent_so g number first run.course (so schemas life described stands holds) made in
      let l = led schemas life described stands holds in
      few_between schemas life l.after holds (held schemas life described stands holds) number first.entries (intended made)
      (known schemas life described stands holds) (l.record_is ∙ same) made.chosen.0 lent.stack lent.stands (called_in run.course ++ (made.path, made.token) ∷ [])
      (λ token. tries_with made token (tries_of token run.course)) (so_now made.chosen.0 lent.stack lent.stands) (thrice_more run.course made)
      (calls_of run.course ++ call_at made ∷ []) (keys_more run.course made)

  -- one round more
  pub goes_on : RoundTells g number b c None → IsRun g number first c
  goes_on (round, rest, begun, same) = record {
    course = Course.goes run.course round more.grows rest;
    rest = rest;
    begun = begun;
    stretch = whole;
    ends = same ∙ run.ends;
    certain = run.certain;
    so_far = λ low. round_so g number first run.course (run.so_far low) round more.grows rest same;
    few = few_on round more.grows rest;
  }

  -- the same course, where the book is still
  still_so : IsStill b c → IsAtRest g c → (course : Course g number first c) × AreFewIn first (calls_of course)
  still_so s rest =
      subst (λ z. (course : Course g number first z) × AreFewIn first (calls_of course))
      (sym (same_book b c s run.rest.running rest.running)) (run.course, run.few)

  -- it comes to its end, or stops
  pub comes_to : (drove : Drove) → RoundTells g number b c (Some drove) → DrivesTo g number first c drove
  comes_to (Over status) (rest, ended, inl (round, last)) = (Course.goes run.course round more.grows rest, rest, ended, inr last)
  comes_to (Over status) (rest, ended, inr (s, stood)) =
      ((still_so s rest).0, rest, ended, inl (ap (end_status number) (sym run.ends) ∙ stood))
  comes_to (Stopped fault) stops = (b, run.course, stops, run.stretch.disk, more.grows)

  few_in : (drove : Drove) (tells : RoundTells g number b c (Some drove))
      → AreFewIn first (calls_in g number first c drove (comes_to drove tells))
  unfolding comes_to
  few_in (Over status) (rest, ended, inl (round, last)) = few_on round more.grows rest
  few_in (Over status) (rest, ended, inr (s, stood)) = (still_so s rest).1
  few_in (Stopped fault) (stopped, out, disk, inl before) = run.few
  few_in (Stopped fault) (stopped, out, disk, inr (made, intends, same, lanes, lacking)) = few_with made same

  pub all_of_it : IsAtRest g first → (drove : Drove) → RoundTells g number b c (Some drove) → Drives g number first c drove
  all_of_it rested drove tells = record {
    tells = comes_to drove tells;
    stretch = whole;
    never_old = λ schemas life described stands holds place fence epoch q.
        let l : LeadsWith schemas life b b.entries = run.stretch.leads schemas life described stands holds b.entries (inl refl) in
        never_ahead g number b c run.rest schemas life l (events_hold schemas life l.after l.events holds l.happen).0 place fence epoch
        (subst (λ d. RoundTells g number b c (Some d)) q tells);
    calls = λ last course. record { outcomes = outcomes_told course; logs = logs_told rested course; thrice = λ token. thrice g number token course; at_most = at_most g number course; of_stack = of_stack number last.entries last.lanes };
    few = few_in drove tells;
  }

-- a round that goes on appends an entry at least
longer_by : (es now : List Entry) (e : Entry) → now ≡ es ++ e ∷ [] → length es < length now
longer_by es now e q = omega (arith, ap length q, length-append es (e ∷ []))

with_more : (es : List Entry) (o : Option Entry) → length es ≤ length (with_doubt es o)
with_more es None = omega arith
with_more es (Some e) = omega (arith, length-append es (e ∷ []))

pub longer : {D : Type 0} (g : Ghosts D) (number : ℕ) (b c : BookNow D) → Round g number b c → length b.entries < length c.entries
longer g number b c (Round.moves n e comes q i fits w lanes) = longer_by b.entries c.entries e w
longer g number b c (Round.calls made r intends outcome w lanes) =
    let first : length b.entries ≤ length (intended made) = with_more b.entries (entry_for number (step_of made)) in
    omega (arith, first, ap length w, length-append (intended made) (outcome_by made.told r ∷ []))

pub smaller : {D : Type 0} (g : Ghosts D) (number : ℕ) (b c : BookNow D) → length b.entries < 2 ^ 64 → RoundTells g number b c None
    → 2 ^ 64 - length c.entries < 2 ^ 64 - length b.entries
smaller g number b c below tells = omega (arith, below, longer g number b c tells.0)

-- a book that has not stopped, with no call out, is at rest
pub rested : {D : Type 0} (g : Ghosts D) (b : BookNow D) → b.stopped ≡ None → NoneOut b.lanes → IsSteady g b → IsAtRest g b
rested g b running out steady = record { running = running; none_out = out; certain = steady.certain; known = steady.known; differ = steady.differ }

-- whatever a run comes to, no call is out then, and the disk is known
pub back_home : {D : Type 0} (g : Ghosts D) (number : ℕ) (old new : BookNow D) (drove : Drove) → DrivesTo g number old new drove → NoneOut new.lanes × KnowsDisk g new
back_home g number old new (Over status) (course, rest, ended, how) = (rest.none_out, rest.known)
back_home g number old new (Stopped fault) (last, course, stops, disk, grows) = (stops.1, stops.2)
