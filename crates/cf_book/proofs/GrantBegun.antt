-- An operation that has begun is in progress still, or has ended, as a step of it is taken.
use Rattle.std.proofs.Common.{◌≡◌, ◌==◌, ◌&&◌, ℕ, ◌+◌, Bool, true, false, List, [], ◌∷◌, ◌++◌, inl, inr, Option, Some, None, Result, Ok, Err, find, option_map, refl, sym, ◌∙◌, ap, subst}
use Rattle.std.specs.Prelude.{cond, is_some}
use Rattle.std.specs.Cmp.{first_so}
use Rattle.std.proofs.lemmas.Bool.{eq-eqb, eqb-true}
use Rattle.cf_disk.specs.declared.disk.Disk.{Ghosts}
use Rattle.cf_handler.specs.declared.handler.Handler.{Ghosts as HandlerGhosts}
use Rattle.cf_entry.specs.declared.entry.Entry.{Entry}
use Rattle.cf_entry.specs.declared.entry.Entry.TheVariants as entry
use Rattle.cf_entry.specs.declared.status.Status.{Status}
use Rattle.cf_entry.specs.declared.turn.Cause.{Cause}
use Rattle.cf_entry.specs.declared.turn.Phase.{Phase}
use Rattle.cf_effect.specs.Fold.{world_after}
use Rattle.cf_effect.specs.Status.{Stage, is_in_progress, stage_of}
use Rattle.cf_effect.specs.World.{StackState, World, empty_world, is_going, stack_of_operation}
use Rattle.cf_stacks.specs.Apart.{AreApart}
use Rattle.cf_stacks.proofs.Folded.{folded_more}
use Rattle.cf_plan.proofs.Frame.{found_passes}
use Rattle.cf_plan.proofs.Going.{IsLike, like_intended, like_kept}
use Rattle.cf_plan.specs.Run.{IsOwn}
use Rattle.cf_core.proofs.Operations.{at_it, at_other, left, like_goes, own_operation}
use Rattle.cf_core.proofs.Statuses.{turned_goes, turned_status}
use Rattle.cf_next.specs.Chosen.{IsInProgress}
use Rattle.cf_next.specs.declared.step.Next.{Next}
use Rattle.cf_next.specs.declared.step.Next.TheVariants as next
use Rattle.cf_book.specs.Ended.{end_status, ended_in, with_end}
use Rattle.cf_book.specs.Granting.{GrantsStep, HasBegun, TakesNext, TakesStep}
use Rattle.cf_book.specs.Record.{Writes, world_left}
use Rattle.cf_book.specs.State.{BookNow}
use Rattle.cf_book.specs.declared.ending.Ended.{Ended}
use Rattle.cf_book.specs.declared.granting.Grant.{Grant}
use Rattle.cf_book.specs.declared.stop.StopFault.{StopFault}
use Rattle.cf_book.specs.declared.stop.StopFault.TheVariants as stop
use Rattle.cf_book.proofs.Closing.{ended_more}

-- a status in which an operation is in progress has a stage
stage_there : (o : Option Stage) → is_some o ≡ true → (stage : Stage) × (o ≡ Some stage)
stage_there (Some stage) h = (stage, refl)
stage_there None h = let no : false ≡ true = h in absurd cc

module _ (x : World) (number : ℕ) (name : List ℕ) (s : StackState) (stage : Stage) (at : stack_of_operation number x ≡ Some (name, s))
    (is : stage_of s.status ≡ Some stage) where
  like_stays : (e : Entry) (own : IsOwn number e) → IsLike s (left x number name s at e own) → IsInProgress (world_after x e) number
  like_stays e own like =
      (name, left x number name s at e own, stage, at_it x number name s at e own (like_goes x number name s at e own like), ap stage_of like.status ∙ is)

  abbrev turned_on : Phase → Option Cause → StackState
  turned_on p cause = left x number name s at (entry.Phase number p cause) refl

  turned_stays : (p : Phase) (cause : Option Cause) → IsInProgress (world_after x (entry.Phase number p cause)) number
  turned_stays p cause = (name, turned_on p cause, there.0, at_it x number name s at (entry.Phase number p cause) refl goes, there.1) where
    moving : is_in_progress (turned_on p cause).status ≡ true
    moving = ap is_in_progress (turned_status (x.place + 1) number p s cause) ∙ turned_goes s.status p

    own : (s.operation == number) ≡ true
    own = first_so (s.operation == number) (is_in_progress s.status) (found_passes (λ (q : List ℕ × StackState). is_going number q.1) x.stacks (name, s) at)

    goes : is_going number (turned_on p cause) ≡ true
    goes = ap (λ m. m == number && is_in_progress (turned_on p cause).status) (own_operation (x.place + 1) number (entry.Phase number p cause) refl s)
        ∙ ap (λ b. b && is_in_progress (turned_on p cause).status) own ∙ moving

    there : (t : Stage) × (stage_of (turned_on p cause).status ≡ Some t)
    there = stage_there (stage_of (turned_on p cause).status) moving

-- an end that is noted behind others is found
found_end : (number : ℕ) (state : Status) (ends : List Ended)
    → (status : Status) × (end_status number (ends ++ record { number = number; status = state } ∷ []) ≡ Some status)
found_end number state [] = (
  state,
  ap (λ b. option_map (λ (e : Ended). e.status) (cond b (Some (record { number = number; status = state })) None)) (eq-eqb number number refl),
)
found_end number state (z ∷ ends) = by (number == z.number) refl (found_end number state ends) where
  more : List Ended
  more = ends ++ record { number = number; status = state } ∷ []

  pick : Bool → Option Status
  pick b = option_map (λ (e : Ended). e.status) (cond b (Some z) (find (λ (e : Ended). number == e.number) more))

  by : (b : Bool) → (number == z.number) ≡ b → (status : Status) × (end_status number more ≡ Some status)
      → (status : Status) × (end_status number (z ∷ more) ≡ Some status)
  by true e ih = (z.status, ap pick e)
  by false e ih = (ih.0, ap pick e ∙ ih.1)

module _ {D : Type 0} (g : Ghosts D) (old new : BookNow D) (number : ℕ) where
  abbrev Goes : Entry → Type 0
  Goes e = HasBegun (old.entries ++ e ∷ []) number

  same_begun : HasBegun old.entries number → new.entries ≡ old.entries → HasBegun new.entries number
  same_begun begun same = subst (λ es. HasBegun es number) (sym same) begun

  pub written_begun : {T : Type 0} (e : Entry) (result : Result T StopFault) → HasBegun old.entries number → Goes e → Writes g old new e result → HasBegun new.entries number
  written_begun e (Ok x) begun goes w = subst (λ es. HasBegun es number) (sym w.0) goes
  written_begun e (Err stop.NoMemory) begun goes w = same_begun begun w.1
  written_begun e (Err stop.DiskFault) begun goes w = same_begun begun w.0
  written_begun e (Err (stop.Full l need room)) begun goes w = same_begun begun w.0
  written_begun e (Err (stop.LaneAhead place fence epoch)) begun goes w = same_begun begun w.0

  entered_goes : (e : Entry) → IsInProgress (world_after (world_left old.entries) e) number → Goes e
  entered_goes e going = inl (subst (λ (y : World). IsInProgress y number) (folded_more empty_world old.entries e) going)

  ended_goes : (state : Status) (failed : List (List ℕ)) → Goes (entry.Done number state failed)
  ended_goes state failed =
      let (status, found) = found_end number state (ended_in old.entries) in
      inr (status, ap (end_status number) (ended_more old.entries (entry.Done number state failed)) ∙ found)

  module _ {H : Type 0} (h : HandlerGhosts H) (going : IsInProgress (world_left old.entries) number) where
    step_begun : (n : Next) (result : Result (Grant H) StopFault) → TakesStep g h old new number n result → HasBegun new.entries number
    step_begun (next.Step path lane token r true) (Ok x) t = same_begun (inl going) t.0.entries
    step_begun (next.Step path lane token r true) (Err stop.NoMemory) t = same_begun (inl going) t.0.entries
    step_begun (next.Step path lane token r true) (Err stop.DiskFault) t = absurd t.0
    step_begun (next.Step path lane token r true) (Err (stop.Full l need room)) t = absurd t.0
    step_begun (next.Step path lane token r true) (Err (stop.LaneAhead place fence epoch)) t = absurd t.0
    step_begun (next.Step path lane token r false) result t =
        let (name, s, stage, at, is) = going in
        let e : Entry = entry.Intent number token lane path r in
        let like = like_intended number (record { token = token; path = path; lane = lane; request = r }) s in
        written_begun e result (inl going) (entered_goes e (like_stays (world_left old.entries) number name s stage at is e refl
        (record { operation = like.operation; status = like.status }))) t.0
    step_begun (next.Keep path physical w) result t =
        let (name, s, stage, at, is) = going in
        let e : Entry = entry.Kept number path physical w in
        let like = like_kept path physical w s in
        written_begun e result (inl going) (entered_goes e (like_stays (world_left old.entries) number name s stage at is e refl
        (record { operation = like.operation; status = like.status }))) t.0
    step_begun (next.Turn p cause) result t =
        let (name, s, stage, at, is) = going in
        let e : Entry = entry.Phase number p cause in
        written_begun e result (inl going) (entered_goes e (turned_stays (world_left old.entries) number name s stage at is p cause)) t.0
    step_begun (next.End state failed) result t =
        written_begun (entry.Done number state failed) result (inl going) (ended_goes state failed) t.0
    step_begun next.Wait result t = same_begun (inl going) t.1.0.entries

  module _ {H : Type 0} (h : HandlerGhosts H) where
    next_begun : (result : Result (Grant H) StopFault) → HasBegun old.entries number → end_status number (ended_in old.entries) ≡ None
        → TakesNext g h old new number result → HasBegun new.entries number
    next_begun result begun none (inr still) = same_begun begun still.1.0.entries
    next_begun result (inl going) none (inl (n, comes, takes)) = step_begun h going n result takes
    next_begun result (inr (status, ended)) none (inl (n, comes, takes)) = let no : None ≡ Some status = sym none ∙ ended in absurd cc

    -- what was begun is begun still
    pub step_is_begun : (result : Result (Grant H) StopFault) → HasBegun old.entries number
        → GrantsStep g h old new number (end_status number (ended_in old.entries)) result → HasBegun new.entries number
    step_is_begun result begun grants = by (end_status number (ended_in old.entries)) refl grants where
      by : (o : Option Status) → end_status number (ended_in old.entries) ≡ o → GrantsStep g h old new number o result → HasBegun new.entries number
      by (Some status) is t = same_begun begun t.1.0.entries
      by None is t = next_begun result begun is t

-- an end that was noted is found where others are noted after it
still_found : (m : ℕ) (ends more : List Ended) (status : Status) → end_status m ends ≡ Some status → end_status m (ends ++ more) ≡ Some status
still_found m [] more status h = let no : None ≡ Some status = h in absurd cc
still_found m (z ∷ ends) more status h = by (m == z.number) refl (still_found m ends more status) where
  pick : List Ended → Bool → Option Status
  pick es b = option_map (λ (e : Ended). e.status) (cond b (Some z) (find (λ (e : Ended). m == e.number) es))

  by : (b : Bool) → (m == z.number) ≡ b → (end_status m ends ≡ Some status → end_status m (ends ++ more) ≡ Some status)
      → end_status m (z ∷ ends ++ more) ≡ Some status
  by true e ih = ap (pick (ends ++ more)) e ∙ sym (ap (pick ends) e) ∙ h
  by false e ih = ap (pick (ends ++ more)) e ∙ ih (sym (ap (pick ends) e) ∙ h)

-- An entry of an operation leaves every other one that had begun in progress, or ended.
module _ (es : List Entry) (number : ℕ) (name : List ℕ) (s : StackState) (at : stack_of_operation number (world_left es) ≡ Some (name, s))
    (apart : AreApart (world_left es)) (m : ℕ) (unlike : (m == number) ≡ false) where
  ends_stay : (e : Entry) → IsOwn number e → (ends : List Ended) (status : Status) → end_status m ends ≡ Some status
      → end_status m (with_end ends e) ≡ Some status
  ends_stay (entry.Done n state failed) own ends status h = still_found m ends (record { number = n; status = state } ∷ []) status h
  ends_stay (entry.Kept n path physical w) own ends status h = h
  ends_stay (entry.Intent n token lane path r) own ends status h = h
  ends_stay (entry.Outcome n token a before after) own ends status h = h
  ends_stay (entry.Phase n p cause) own ends status h = h
  ends_stay (entry.Begin n stack k) own ends status h = absurd own
  ends_stay (entry.Opened epoch lanes) own ends status h = absurd own
  ends_stay (entry.ChangeSet n stack source rows outputs) own ends status h = absurd own

  pub leaves_begun : (e : Entry) → IsOwn number e → HasBegun es m → HasBegun (es ++ e ∷ []) m
  leaves_begun e own (inl (other, z, stage, its, is)) =
      inl (subst (λ (y : World). IsInProgress y m) (folded_more empty_world es e) (
        other,
        z,
        stage,
        at_other (world_left es) number name s at e own apart (own_operation ((world_left es).place + 1) number e own s) m unlike ∙ its,
        is,
      ))
  leaves_begun e own (inr (status, ended)) =
      inr (status, ap (end_status m) (ended_more es e) ∙ ends_stay e own (ended_in es) status ended)

-- Whatever had begun has begun still where a step is taken.
module _ {D H : Type 0} (g : Ghosts D) (h : HandlerGhosts H) (old new : BookNow D) (number : ℕ) (apart : AreApart (world_left old.entries)) where
  module _ (going : IsInProgress (world_left old.entries) number) (m : ℕ) (unlike : (m == number) ≡ false) (was : HasBegun old.entries m) where
    same : new.entries ≡ old.entries → HasBegun new.entries m
    same e = subst (λ es. HasBegun es m) (sym e) was

    one_more : {T : Type 0} (e : Entry) → IsOwn number e → (result : Result T StopFault) → Writes g old new e result → HasBegun new.entries m
    one_more e own result w =
        let (name, s, stage, at, is) = going in
        written_begun g old new m e result was (leaves_begun old.entries number name s at apart m unlike e own was) w

    step_leaves : (n : Next) (result : Result (Grant H) StopFault) → TakesStep g h old new number n result → HasBegun new.entries m
    step_leaves (next.Step path lane token r true) (Ok x) t = same t.0.entries
    step_leaves (next.Step path lane token r true) (Err stop.NoMemory) t = same t.0.entries
    step_leaves (next.Step path lane token r true) (Err stop.DiskFault) t = absurd t.0
    step_leaves (next.Step path lane token r true) (Err (stop.Full l need room)) t = absurd t.0
    step_leaves (next.Step path lane token r true) (Err (stop.LaneAhead place fence epoch)) t = absurd t.0
    step_leaves (next.Step path lane token r false) result t = one_more (entry.Intent number token lane path r) refl result t.0
    step_leaves (next.Keep path physical w) result t = one_more (entry.Kept number path physical w) refl result t.0
    step_leaves (next.Turn p cause) result t = one_more (entry.Phase number p cause) refl result t.0
    step_leaves (next.End state failed) result t = one_more (entry.Done number state failed) refl result t.0
    step_leaves next.Wait result t = same t.1.0.entries

  module _ (result : Result (Grant H) StopFault) (begun : HasBegun old.entries number) (m : ℕ) (was : HasBegun old.entries m) where
    next_leaves : (m == number) ≡ false → HasBegun old.entries number → end_status number (ended_in old.entries) ≡ None
        → TakesNext g h old new number result → HasBegun new.entries m
    next_leaves unlike b none (inr still) = subst (λ es. HasBegun es m) (sym still.1.0.entries) was
    next_leaves unlike (inl going) none (inl (n, comes, takes)) = step_leaves going m unlike was n result takes
    next_leaves unlike (inr (status, ended)) none (inl (n, comes, takes)) = let no : None ≡ Some status = sym none ∙ ended in absurd cc

    pub step_still_begun : GrantsStep g h old new number (end_status number (ended_in old.entries)) result → HasBegun new.entries m
    step_still_begun grants = by (m == number) refl where
      other : (m == number) ≡ false → (o : Option Status) → end_status number (ended_in old.entries) ≡ o → GrantsStep g h old new number o result
          → HasBegun new.entries m
      other unlike (Some status) is t = subst (λ es. HasBegun es m) (sym t.1.0.entries) was
      other unlike None is t = next_leaves unlike begun is t

      by : (b : Bool) → (m == number) ≡ b → HasBegun new.entries m
      by true k = subst (HasBegun new.entries) (sym (eqb-true m number k)) (step_is_begun g old new number h result begun grants)
      by false unlike = other unlike (end_status number (ended_in old.entries)) refl grants
