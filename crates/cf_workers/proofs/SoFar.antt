-- What a run has called so far: each call has a row of the operation, or was open as the run began; and none was made too often.
use Rattle.std.proofs.Common.{◌≡◌, ◌⊎◌, inl, inr, ℕ, ◌+◌, ◌*◌, ◌≤◌, ◌<◌, ◌==◌, Bool, true, false, cond, List, [], ◌∷◌, ◌++◌, Option, Some, None, length, length-append, map, refl, sym, ◌∙◌, ap, subst, true≢false, arith}
use Rattle.std.specs.Prelude.{filter}
use Rattle.std.specs.Cmp.{first_so}
use Rattle.std.specs.List.{list_any}
use Rattle.std.specs.Option.{option_map_or}
use Rattle.std.proofs.lemmas.Bool.{and_from, eqb-true}
use Rattle.std.proofs.lemmas.List.Elements.{filter-append}
use Rattle.std.proofs.lemmas.List.Sums.{fold-append}
use Rattle.cf_tree.specs.Lists.{In}
use Rattle.cf_tree.specs.Lists.In.{here, there}
use Rattle.cf_tree.specs.declared.request.Request.{Request}
use Rattle.cf_disk.specs.declared.disk.Disk.{Ghosts}
use Rattle.cf_schema.specs.declared.described.Schema.{Schema}
use Rattle.cf_entry.proofs.Codec.{some_is}
use Rattle.cf_entry.specs.declared.entry.Entry.{Entry}
use Rattle.cf_entry.specs.declared.entry.Entry.TheVariants as entry
use Rattle.cf_entry.specs.declared.entry.Reply.{Reply}
use Rattle.cf_entry.specs.declared.status.Status.{Status}
use Rattle.cf_entry.specs.declared.status.Status.TheVariants as status
use Rattle.cf_entry.specs.declared.turn.Cause.{Cause}
use Rattle.cf_entry.specs.declared.turn.Phase.{Phase}
use Rattle.cf_entry.specs.declared.turn.Phase.TheVariants as phase
use Rattle.cf_entry.specs.declared.turn.Why.{Why}
use Rattle.cf_effect.specs.Calls.{anew, is_restore, new_call}
use Rattle.cf_effect.specs.Fold.{effect_at, is_intent}
use Rattle.cf_effect.specs.Reply.{intending, keeping, replied}
use Rattle.cf_effect.specs.Status.{Forward, is_in_progress, stage_of, turned}
use Rattle.cf_effect.specs.Words.{has_token, pending_of}
use Rattle.cf_effect.specs.World.{StackState, World, empty_world, is_going, stack_of_operation}
use Rattle.cf_effect.specs.declared.call.Call.{Call}
use Rattle.cf_effect.specs.declared.held.Pending.{Pending}
use Rattle.cf_stacks.proofs.Folded.{folded_more}
use Rattle.cf_plan.proofs.BlameMade.{answered_left}
use Rattle.cf_plan.proofs.Frame.{found_passes, token_after}
use Rattle.cf_plan.proofs.Going.{like_intended, like_kept, like_replied}
use Rattle.cf_plan.proofs.Listed.{in_last, in_map}
use Rattle.cf_plan.proofs.RunLists.{in_end, in_front, none_any}
use Rattle.cf_plan.specs.Follow.{MayTurn}
use Rattle.cf_plan.specs.Run.{IsOwn}
use Rattle.cf_core.proofs.Cleanups.{turned_by}
use Rattle.cf_core.proofs.FitKept.{after_token}
use Rattle.cf_core.proofs.Operations.{at_it, left, like_goes}
use Rattle.cf_core.proofs.Rows.{IsSameCall, anew_same, answered_row, answered_row_same, itself_same}
use Rattle.cf_core.proofs.Sent.{IsIntentOf, open_from}
use Rattle.cf_core.proofs.Statuses.{kept_way, turned_goes}
use Rattle.cf_lane.specs.Calling.{Granted}
use Rattle.cf_next.specs.Chosen.{entry_for, leases_of, schemas_of}
use Rattle.cf_next.specs.declared.step.Next.{Next}
use Rattle.cf_next.specs.declared.step.Next.TheVariants as next
use Rattle.cf_book.proofs.Called.{repeat_listed}
use Rattle.cf_book.specs.Ended.{ended_in, with_end}
use Rattle.cf_book.specs.Events.{outcome_by}
use Rattle.cf_book.specs.Granting.{ComesNext}
use Rattle.cf_book.specs.Record.{with_doubt, world_left}
use Rattle.cf_book.specs.State.{BookLane, BookNow, home_of}
use Rattle.cf_book.specs.declared.ending.Ended.{Ended}
use Rattle.cf_workers.proofs.Tries.{IsAt, IsLentAt, lent_at, stands, thrice}
use Rattle.cf_workers.specs.Driving.{CallMade, Course, Grows, IsAtRest, Round, ends_phase, intended, tries_of, tries_with}

-- how many phases an operation in this status has left behind since it began
abbrev pub phases_before : Status → ℕ
phases_before status.RollbackInProgress = 1
phases_before status.UpdateRollbackInProgress = 1
phases_before status.UpdateCompleteCleanupInProgress = 1
phases_before status.UpdateRollbackCompleteCleanupInProgress = 2
phases_before _ = 0

pub three_phases : (a : Status) → phases_before a ≤ 2
three_phases status.RollbackInProgress = omega arith
three_phases status.UpdateRollbackInProgress = omega arith
three_phases status.UpdateCompleteCleanupInProgress = omega arith
three_phases status.UpdateRollbackCompleteCleanupInProgress = omega arith
three_phases a = omega arith

-- a phase that may begin is a later one
back_later : (a : Status) → stage_of a ≡ Some Forward → phases_before a + 1 ≤ phases_before (turned a phase.Back)
back_later status.CreateInProgress e = omega arith
back_later status.UpdateInProgress e = omega arith
back_later a e = let never : ⊥ = cc in absurd never

one_later : (schemas : List Schema) (name : List ℕ) (x : World) (s : StackState) (p : Phase) (c : Option Cause) → MayTurn schemas name x s p c
    → phases_before s.status + 1 ≤ phases_before (turned s.status p)
one_later schemas name x s phase.Clean None may =
    subst (λ a. phases_before a + 1 ≤ phases_before (turned a phase.Clean)) (sym may.0) (omega arith)
one_later schemas name x s phase.Back (Some c) may = back_later s.status may.0
one_later schemas name x s phase.BackClean None may =
    subst (λ a. phases_before a + 1 ≤ phases_before (turned a phase.BackClean)) (sym may.0) (omega arith)
one_later schemas name x s phase.Clean (Some c) may = absurd may
one_later schemas name x s phase.Back None may = absurd may
one_later schemas name x s phase.BackClean (Some c) may = absurd may

-- A call by its path and its token: it has a row of the operation, or was one of those that were open as the run began.
abbrev HasRow : ℕ → StackState → List ℕ × ℕ → Type 0
HasRow number s c = (row : Call) × In row s.ledger × (row.number ≡ number) × (row.path ≡ c.0) × (row.token ≡ c.1)

abbrev WasOpen : List Pending → List ℕ × ℕ → Type 0
WasOpen ps c = (p : Pending) × In p ps × (p.path ≡ c.0) × (p.token ≡ c.1)

abbrev IsKnown : ℕ → List Pending → StackState → List ℕ × ℕ → Type 0
IsKnown number ps s c = HasRow number s c ⊎ WasOpen ps c

abbrev pub under : ℕ → List ℕ × ℕ → Bool
under token c = c.1 == token

abbrev call_of : Pending → List ℕ × ℕ
call_of p = (p.path, p.token)

-- The stack of an operation, where the last token is this one, these calls were made and were tried so often in the phase.
pub record HasCalled (number : ℕ) (ps : List Pending) (last : ℕ) (s : StackState) (calls : List (List ℕ × ℕ)) (tries : ℕ → ℕ) : Type 0 where
  pub open_low : (p : Pending) → In p s.tokens → p.token ≤ last
  pub open_known : (p : Pending) → In p s.tokens → IsKnown number ps s (call_of p)
  pub called_low : (c : List ℕ × ℕ) → In c calls → c.1 ≤ last
  pub called_known : (c : List ℕ × ℕ) → In c calls → IsKnown number ps s c
  pub few : (token : ℕ) → length (filter (under token) calls) ≤ 3 * phases_before s.status + tries token

abbrev KeepsRows : StackState → StackState → Type 0
KeepsRows s t = (row : Call) → In row s.ledger → (d : Call) × In d t.ledger × IsSameCall row d

-- one call more
one_more : (calls : List (List ℕ × ℕ)) (path : List ℕ) (called token : ℕ) (b : Bool) → (called == token) ≡ b
    → length (filter (under token) (calls ++ (path, called) ∷ [])) ≡ length (filter (under token) calls) + cond b 1 0
one_more calls path called token b e =
    let one : List (List ℕ × ℕ) = (path, called) ∷ [] in
    ap length (filter-append (under token) calls one) ∙ length-append (filter (under token) calls) (filter (under token) one)
    ∙ ap (λ n. length (filter (under token) calls) + n) (ap (λ k. length {A = List ℕ × ℕ} (cond k one [])) e ∙ by one refl b)
  where
    by : (one : List (List ℕ × ℕ)) → length one ≡ 1 → (k : Bool) → length {A = List ℕ × ℕ} (cond k one []) ≡ cond k 1 0
    by one is true = is
    by one is false = refl

none_under : (calls : List (List ℕ × ℕ)) (token : ℕ) → ((c : List ℕ × ℕ) → In c calls → c.1 < token) → length (filter (under token) calls) ≡ 0
none_under [] token low = refl
none_under (c ∷ calls) token low = by (c.1 == token) refl (none_under calls token (λ d i. low d (there i))) where
  by : (b : Bool) → (c.1 == token) ≡ b → length (filter (under token) calls) ≡ 0
      → length (cond b (c ∷ filter (under token) calls) (filter (under token) calls)) ≡ 0
  by true e none = let same = eqb-true c.1 token e in let less = low c here in absurd (omega (arith, same, less))
  by false e none = none

module _ (number : ℕ) (ps : List Pending) (last : ℕ) (s : StackState) (calls : List (List ℕ × ℕ)) (tries : ℕ → ℕ) (h : HasCalled number ps last s calls tries) where
  still_known : (t : StackState) → KeepsRows s t → (c : List ℕ × ℕ) → IsKnown number ps s c → IsKnown number ps t c
  still_known t rows c (inl (row, i, of_it, path, token)) =
      let (d, j, same) = rows row i in inl (d, j, same.number ∙ of_it, same.path ∙ path, same.token ∙ token)
  still_known t rows c (inr was) = inr was

  -- an entry opens no call
  opens_none : (t : StackState) (again : ℕ → ℕ) → ((p : Pending) → In p t.tokens → In p s.tokens) → KeepsRows s t
      → ((token : ℕ) → length (filter (under token) calls) ≤ 3 * phases_before t.status + again token) → HasCalled number ps last t calls again
  opens_none t again open_still rows few = record {
    open_low = λ p i. h.open_low p (open_still p i);
    open_known = λ p i. still_known t rows (call_of p) (h.open_known p (open_still p i));
    called_low = h.called_low;
    called_known = λ c i. still_known t rows c (h.called_known c i);
    few = few;
  }

  -- an open call goes out again
  goes_again : (p : Pending) → In p s.tokens
      → HasCalled number ps last s (calls ++ call_of p ∷ []) (λ token. cond (p.token == token) (tries token + 1) (tries token))
  goes_again p i = record {
    open_low = h.open_low;
    open_known = h.open_known;
    called_low = λ c j. elim (in_last calls (call_of p) c j) [
      | inl k ↦ h.called_low c k
      | inr e ↦ let low = h.open_low p i in let same = ap (λ (d : List ℕ × ℕ). d.1) e in omega (arith, low, same)
    ];
    called_known = λ c j. elim (in_last calls (call_of p) c j) [
      | inl k ↦ h.called_known c k
      | inr e ↦ subst (IsKnown number ps s) (sym e) (h.open_known p i)
    ];
    few = λ token. by token (p.token == token) refl;
  } where
    by : (token : ℕ) (b : Bool) → (p.token == token) ≡ b
        → length (filter (under token) (calls ++ call_of p ∷ [])) ≤ 3 * phases_before s.status + cond b (tries token + 1) (tries token)
    by token true e = let more = one_more calls p.path p.token token true e in let few = h.few token in omega (arith, more, few)
    by token false e = let more = one_more calls p.path p.token token false e in let few = h.few token in omega (arith, more, few)

  -- a new call goes out, under a token of its own
  module _ (p : Pending) (new : p.token ≡ last + 1) where
    abbrev sent : StackState
    sent = record s { tokens = s.tokens ++ p ∷ []; ledger = s.ledger ++ new_call number s.status p ∷ [] }

    its_row : HasRow number sent (call_of p)
    its_row = (new_call number s.status p, in_end (new_call number s.status p) s.ledger, refl, refl, refl)

    kept_rows : KeepsRows s sent
    kept_rows row i = (row, in_front row s.ledger (new_call number s.status p ∷ []) i, itself_same row)

    not_open : list_any (has_token p.token) s.tokens ≡ false
    not_open = none_any (has_token p.token) s.tokens (λ q i e.
        let same = eqb-true p.token q.token e in let low = h.open_low q i in omega (arith, same, low, new))

    is_sent : sent ≡ intending number p s
    is_sent = sym (ap (λ b. cond b s sent) not_open)

    goes_out : HasCalled number ps p.token sent (calls ++ call_of p ∷ []) (λ token. cond (p.token == token) 1 (tries token))
    goes_out = record {
      open_low = λ q i. elim (in_last s.tokens p q i) [
        | inl j ↦ let low = h.open_low q j in omega (arith, low, new)
        | inr e ↦ let same = ap (λ (z : Pending). z.token) e in omega (arith, same)
      ];
      open_known = λ q i. elim (in_last s.tokens p q i) [
        | inl j ↦ still_known sent kept_rows (call_of q) (h.open_known q j)
        | inr e ↦ subst (λ (z : Pending). IsKnown number ps sent (call_of z)) (sym e) (inl its_row)
      ];
      called_low = λ c j. elim (in_last calls (call_of p) c j) [
        | inl k ↦ let low = h.called_low c k in omega (arith, low, new)
        | inr e ↦ let same = ap (λ (d : List ℕ × ℕ). d.1) e in omega (arith, same)
      ];
      called_known = λ c j. elim (in_last calls (call_of p) c j) [
        | inl k ↦ still_known sent kept_rows c (h.called_known c k)
        | inr e ↦ subst (IsKnown number ps sent) (sym e) (inl its_row)
      ];
      few = λ token. by token (p.token == token) refl;
    } where
      by : (token : ℕ) (b : Bool) → (p.token == token) ≡ b
          → length (filter (under token) (calls ++ call_of p ∷ [])) ≤ 3 * phases_before s.status + cond b 1 (tries token)
      by token false e = let more = one_more calls p.path p.token token false e in let few = h.few token in omega (arith, more, few)
      by token true e =
          let more = one_more calls p.path p.token token true e in
          let its : p.token ≡ token = eqb-true p.token token e in
          let none = none_under calls token (λ c i. let low = h.called_low c i in omega (arith, low, new, its)) in
          omega (arith, more, none)

    goes_intended : HasCalled number ps p.token (intending number p s) (calls ++ call_of p ∷ []) (λ token. cond (p.token == token) 1 (tries token))
    goes_intended =
        subst (λ (t : StackState). HasCalled number ps p.token t (calls ++ call_of p ∷ []) (λ token. cond (p.token == token) 1 (tries token))) is_sent goes_out

-- the same of a stack whose calls and status are the same
as_it_was : {number : ℕ} {ps : List Pending} {last : ℕ} {s : StackState} {calls : List (List ℕ × ℕ)} {tries : ℕ → ℕ} (t : StackState)
    → HasCalled number ps last s calls tries → t.tokens ≡ s.tokens → t.ledger ≡ s.ledger → t.status ≡ s.status → HasCalled number ps last t calls tries
as_it_was {number} {ps} {last} {s} {calls} {tries} t h tokens ledger same =
    opens_none number ps last s calls tries h t tries (λ p i. subst (In p) tokens i) (λ row i. (row, subst (In row) (sym ledger) i, itself_same row))
    (λ token. subst (λ a. length (filter (under token) calls) ≤ 3 * phases_before a + tries token) (sym same) (h.few token))

-- rows that change one by one
rows_mapped : (f : Call → Call) (s t : StackState) → ((c : Call) → IsSameCall c (f c)) → t.ledger ≡ map f s.ledger → KeepsRows s t
rows_mapped f s t same ledger row i = (f row, subst (In (f row)) (sym ledger) (in_map f row s.ledger i), same row)

-- an answer changes the row of its call alone
replied_rows : (token : ℕ) (a : Reply) (s : StackState) (o : Option Pending) → KeepsRows s (replied token a o s)
replied_rows token a s None = λ row i. (row, i, itself_same row)
replied_rows token a s (Some p) =
    let was = (answered_left (is_restore token s) p.path p.request a s).as_was in
    rows_mapped (answered_row token a) s (replied token a (Some p) s) (answered_row_same token a) (ap (λ (z : StackState). map (answered_row token a) z.ledger) was)

-- So it is where the operation is in progress over these entries.
abbrev HasCalledOver : ℕ → List Pending → List Entry → List (List ℕ × ℕ) → (ℕ → ℕ) → Type 0
HasCalledOver number ps es calls tries =
    (name : List ℕ) (s : StackState) → IsAt number es name s → HasCalled number ps (world_left es).token s calls tries

last_token : (es : List Entry) (e : Entry) → (world_left (es ++ e ∷ [])).token ≡ token_after e (world_left es).token
last_token es e = ap (λ (x : World). x.token) (sym (folded_more empty_world es e)) ∙ after_token (world_left es) e

-- an entry that is no Intent opens no call
none_opened : (place : ℕ) (s : StackState) (e : Entry) → ((p : Pending) → IsIntentOf e p → ⊥) → (p : Pending) → In p (effect_at place e s).stack.tokens → In p s.tokens
none_opened place s e none p i = elim (open_from place s e p i) [ inl j ↦ j | inr intent ↦ absurd (none p intent) ]

-- an entry of the operation, which goes on
module _ (number : ℕ) (ps : List Pending) (es : List Entry) (name : List ℕ) (s : StackState) (at : IsAt number es name s) (e : Entry) (own : IsOwn number e)
    (calls : List (List ℕ × ℕ)) (tries : ℕ → ℕ) where
  abbrev now : StackState
  now = left (world_left es) number name s at e own

  follows : is_going number now ≡ true → HasCalled number ps (token_after e (world_left es).token) now calls tries
      → HasCalledOver number ps (es ++ e ∷ []) calls tries
  follows goes h other t its =
      subst (λ (q : List ℕ × StackState). HasCalled number ps (world_left (es ++ e ∷ [])).token q.1 calls tries) (some_is _ _ (sym stands_now ∙ its))
      (subst (λ n. HasCalled number ps n now calls tries) (sym (last_token es e)) h)
    where
      stands_now : IsAt number (es ++ e ∷ []) name now
      stands_now =
          ap (stack_of_operation number) (sym (folded_more empty_world es e)) ∙ at_it (world_left es) number name s at e own goes

module _ (number : ℕ) (ps : List Pending) (es : List Entry) (calls : List (List ℕ × ℕ)) (tries : ℕ → ℕ) (h : HasCalledOver number ps es calls tries)
    (name : List ℕ) (s : StackState) (at : IsAt number es name s) where
  goes_on : is_going number s ≡ true
  goes_on = found_passes (λ (p : List ℕ × StackState). is_going number p.1) (world_left es).stacks (name, s) at

  -- a resource is kept
  kept : (path physical : List ℕ) (w : Why) → HasCalledOver number ps (es ++ entry.Kept number path physical w ∷ []) calls tries
  kept path physical w =
      let e : Entry = entry.Kept number path physical w in
      let like = like_kept path physical w s in
      let t : StackState = left (world_left es) number name s at e refl in
      let ledger : (keeping path physical w s).ledger ≡ s.ledger = kept_way (λ (z : StackState). z.ledger ≡ s.ledger) s refl path physical w refl refl in
      follows number ps es name s at e refl calls tries
      (like_goes (world_left es) number name s at e refl (record { operation = like.operation; status = like.status }))
      (opens_none number ps (world_left es).token s calls tries (h name s at) t tries
      (none_opened ((world_left es).place + 1) s e (λ p i. let no : ⊥ = cc (i.1) in no))
      (λ row i. (row, subst (In row) (sym ledger) i, itself_same row))
      (λ token. subst (λ a. length (filter (under token) calls) ≤ 3 * phases_before a + tries token) (sym like.status) ((h name s at).few token)))

  -- a later phase begins
  turned_on : (p : Phase) (c : Option Cause) → phases_before s.status + 1 ≤ phases_before (turned s.status p) → ((token : ℕ) → tries token ≤ 3)
      → HasCalledOver number ps (es ++ entry.Phase number p c ∷ []) calls (λ token. 0)
  turned_on p c later thrice =
      let e : Entry = entry.Phase number p c in
      let t : StackState = left (world_left es) number name s at e refl in
      let l = turned_by ((world_left es).place + 1) number p c s in
      follows number ps es name s at e refl calls (λ token. 0)
      (and_from (t.operation == number) (is_in_progress t.status)
      (ap (λ n. n == number) l.0 ∙ first_so (s.operation == number) (is_in_progress s.status) goes_on)
      (ap is_in_progress l.2 ∙ turned_goes s.status p))
      (opens_none number ps (world_left es).token s calls tries (h name s at) t (λ token. 0)
      (none_opened ((world_left es).place + 1) s e (λ q i. let no : ⊥ = cc (i.1) in no))
      (rows_mapped anew s t anew_same l.1)
      (λ token. subst (λ a. length (filter (under token) calls) ≤ 3 * phases_before a + 0) (sym l.2)
      (let few = (h name s at).few token in let most = thrice token in omega (arith, few, most, later))))

  -- a call is answered
  heard : (n token : ℕ) (a : Reply) (before after : ℕ) (own : n ≡ number)
      → HasCalledOver number ps (es ++ entry.Outcome n token a before after ∷ []) calls tries
  heard n token a before after own =
      let e : Entry = entry.Outcome n token a before after in
      let t : StackState = left (world_left es) number name s at e own in
      let like = like_replied token a (pending_of token s) s in
      follows number ps es name s at e own calls tries
      (like_goes (world_left es) number name s at e own (record { operation = like.operation; status = like.status }))
      (opens_none number ps (world_left es).token s calls tries (h name s at) t tries
      (none_opened ((world_left es).place + 1) s e (λ p i. let no : ⊥ = cc (i.1) in no))
      (replied_rows token a s (pending_of token s))
      (λ k. subst (λ b. length (filter (under k) calls) ≤ 3 * phases_before b + tries k) (sym like.status) ((h name s at).few k)))

-- The call that comes next goes out.
goes : (number : ℕ) (ps : List Pending) (es : List Entry) (lanes : List BookLane) (calls : List (List ℕ × ℕ)) (tries : ℕ → ℕ)
    → HasCalledOver number ps es calls tries → (path lane : List ℕ) (token : ℕ) (r : Request) (repeated : Bool)
    → ComesNext lanes es number (next.Step path lane token r repeated)
    → HasCalledOver number ps (with_doubt es (entry_for number (next.Step path lane token r repeated))) (calls ++ (path, token) ∷ [])
    (λ k. cond (token == k) (cond repeated (tries k + 1) 1) (tries k))
goes number ps es lanes calls tries h path lane token r true (nm, z, stage, on, is, c) = λ name s at.
    let p : Pending = record { token = token; path = path; lane = lane; request = r } in
    let one : ◌≡◌ {A = List ℕ × StackState} (nm, z) (name, s) = some_is _ _ (sym on ∙ at) in
    goes_again number ps (world_left es).token s calls tries (h name s at) p
    (subst (λ (q : List ℕ × StackState). In p q.1.tokens) one (repeat_listed (schemas_of (map home_of lanes)) nm (world_left es) (leases_of (map home_of lanes)) z stage p c.may.repeats))
goes number ps es lanes calls tries h path lane token r false (nm, z, stage, on, is, c) =
    let p : Pending = record { token = token; path = path; lane = lane; request = r } in
    let e : Entry = entry.Intent number token lane path r in
    let like = like_intended number p z in
    let more : List (List ℕ × ℕ) = calls ++ (path, token) ∷ [] in
    let often : ℕ → ℕ = λ k. cond (token == k) 1 (tries k) in
    let t : StackState = left (world_left es) number nm z on e refl in
    follows number ps es nm z on e refl more often
    (like_goes (world_left es) number nm z on e refl (record { operation = like.operation; status = like.status }))
    (as_it_was t (goes_intended number ps (world_left es).token z calls tries (h nm z on) p c.may.next) refl refl refl)

-- The path and the token of each call of a course.
abbrev pub called_in : {D : Type 0} {g : Ghosts D} {number : ℕ} {first last : BookNow D} → Course g number first last → List (List ℕ × ℕ)
called_in Course.begins = []
called_in (Course.goes course (Round.moves n e next writes other fits wrote lanes) grows rest) = called_in course
called_in (Course.goes course (Round.calls made r intends outcome wrote lanes) grows rest) = called_in course ++ (made.path, made.token) ∷ []

-- the calls of an operation that are open over these entries
abbrev pub open_over : ℕ → List Entry → List Pending
open_over number es = option_map_or (λ (p : List ℕ × StackState). p.1.tokens) (stack_of_operation number (world_left es)) []

-- each token is that of the last Intent at most
abbrev pub AreLow : ℕ → List Entry → Type 0
AreLow number es = (name : List ℕ) (s : StackState) → IsAt number es name s → (p : Pending) → In p s.tokens → p.token ≤ (world_left es).token

-- an end is no move after which an operation goes on
never_ends : (es : List Entry) (n : ℕ) (state : Status) (failed : List (List ℕ)) → ended_in (es ++ entry.Done n state failed ∷ []) ≡ ended_in es → ⊥
never_ends es n state failed same =
    let one : List Ended = record { number = n; status = state } ∷ [] in
    let longer : length (ended_in es ++ one) ≡ length (ended_in es) + 1 = length-append (ended_in es) one in
    let is : length (ended_in es ++ one) ≡ length (ended_in es) =
    ap length (sym (fold-append with_end [] es (entry.Done n state failed ∷ [])) ∙ same) in
    omega (arith, longer, is)

module _ {D : Type 0} (g : Ghosts D) (number : ℕ) (first : BookNow D) where
  abbrev pub IsSoFar : {last : BookNow D} → Course g number first last → Type 0
  IsSoFar {last} course =
      HasCalledOver number (open_over number first.entries) last.entries (called_in course) (λ token. tries_of token course)

  pub begins_so : AreLow number first.entries → IsSoFar Course.begins
  begins_so low name s at = record {
    open_low = low name s at;
    open_known = λ p i. inr (p, subst (In p) (sym (ap (λ o. option_map_or (λ (q : List ℕ × StackState). q.1.tokens) o []) at)) i, refl, refl);
    called_low = λ c i. elim i [ ];
    called_known = λ c i. elim i [ ];
    few = λ token. omega arith;
  }

  module _ {old : BookNow D} (course : Course g number first old) (so : IsSoFar course) where
    abbrev ps : List Pending
    ps = open_over number first.entries

    -- an entry that is no call, and no end
    abbrev after_entry : Entry → Type 0
    after_entry e = HasCalledOver number ps (old.entries ++ e ∷ []) (called_in course) (λ token. cond (ends_phase e) 0 (tries_of token course))

    moves_so : (n : Next) (e : Entry) → ComesNext old.lanes old.entries number n → entry_for number n ≡ Some e → is_intent e ≡ false
        → ended_in (old.entries ++ e ∷ []) ≡ ended_in old.entries → after_entry e
    moves_so (next.Step path lane t r true) e chosen writes other same = let never : ⊥ = cc in absurd never
    moves_so (next.Step path lane t r false) e chosen writes other same = absurd (true≢false (ap is_intent (some_is _ _ writes) ∙ other))
    moves_so (next.Keep path physical w) e (name, s, stage, at, is, c) writes other same =
        subst after_entry (some_is _ _ writes)
        (kept number ps old.entries (called_in course) (λ token. tries_of token course) so name s at path physical w)
    moves_so (next.Turn p cause) e (name, s, stage, at, is, c) writes other same =
        subst after_entry (some_is _ _ writes)
        (turned_on number ps old.entries (called_in course) (λ token. tries_of token course) so name s at p cause
        (one_later _ name (world_left old.entries) s p cause c.may.1) (λ token. thrice g number token course))
    moves_so (next.End state failed) e chosen writes other same =
        absurd (never_ends old.entries number state failed (subst (λ f. ended_in (old.entries ++ f ∷ []) ≡ ended_in old.entries) (sym (some_is _ _ writes)) same))
    moves_so next.Wait e chosen writes other same = let never : ⊥ = cc in absurd never

    -- the call that comes next went out, and then its outcome is written
    module _ (made : CallMade number old.entries old.lanes) where
      pub made_so : HasCalledOver number ps (intended made) (called_in course ++ (made.path, made.token) ∷ []) (λ token. tries_with made token (tries_of token course))
      made_so =
          goes number ps old.entries old.lanes (called_in course) (λ token. tries_of token course) so made.path made.lane.name made.token made.request made.repeated
          made.chosen

      pub lent_so : IsLentAt number (intended made) made.chosen.0 made.chosen.1 made.token made.repeated
      lent_so = lent_at number old.entries made.chosen.0 made.chosen.1 made.chosen.3 made.path made.lane.name made.token made.request made.repeated

      of_it : made.told.number ≡ number
      of_it = ap (λ (c : Granted). c.number) made.called.granted_is

      pub answered_so : (r : Reply) → HasCalledOver number ps (intended made ++ outcome_by made.told r ∷ []) (called_in course ++ (made.path, made.token) ∷ [])
          (λ token. tries_with made token (tries_of token course))
      answered_so r =
          heard number ps (intended made) (called_in course ++ (made.path, made.token) ∷ []) (λ token. tries_with made token (tries_of token course)) made_so
          made.chosen.0 lent_so.stack lent_so.stands made.told.number made.told.token r made.told.before made.told.after of_it

      pub answered_at : (r : Reply) → (t : StackState) × IsAt number (intended made ++ outcome_by made.told r ∷ []) made.chosen.0 t
      answered_at r =
          let like = like_replied made.told.token r (pending_of made.told.token lent_so.stack) lent_so.stack in (
            left (world_left (intended made)) number made.chosen.0 lent_so.stack lent_so.stands (outcome_by made.told r) of_it,
            stands number (intended made) made.chosen.0 lent_so.stack lent_so.stands (outcome_by made.told r) of_it
                (record { operation = like.operation; status = like.status }),
          )

    -- So it is after each round in which no operation ends.
    pub round_so : {new : BookNow D} (round : Round g number old new) (grows : Grows g old new) (rest : IsAtRest g new)
        → ended_in new.entries ≡ ended_in old.entries → IsSoFar (Course.goes course round grows rest)
    round_so (Round.moves n e chosen writes other fits wrote lanes) grows rest same =
        subst (λ es. HasCalledOver number ps es (called_in course) (λ token. cond (ends_phase e) 0 (tries_of token course))) (sym wrote)
        (moves_so n e chosen writes other (ap ended_in (sym wrote) ∙ same))
    round_so (Round.calls made r intends outcome wrote lanes) grows rest same =
        subst (λ es. HasCalledOver number ps es (called_in course ++ (made.path, made.token) ∷ []) (λ token. tries_with made token (tries_of token course))) (sym wrote)
        (answered_so made r)
