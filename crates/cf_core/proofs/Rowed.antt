-- Each open call has its row in the ledger of its stack, whatever the entries are.
use Rattle.std.proofs.Common.{◌≡◌, inl, inr, ℕ, Bool, true, false, cond, List, [], ◌∷◌, ◌++◌, Option, Some, None, map, find, option_map, refl, sym, ◌∙◌, ap, subst, true≢false}
use Rattle.std.specs.Prelude.{filter, is_some}
use Rattle.std.specs.Option.{option_or}
use Rattle.std.proofs.lemmas.Bool.{eq-eqb, eqb-true}
use Rattle.std.proofs.lemmas.List.Folds.{find-append}
use Rattle.cf_tree.specs.Lists.{In}
use Rattle.cf_entry.specs.declared.entry.Begun.{Begun}
use Rattle.cf_entry.specs.declared.entry.Begun.TheVariants as begin
use Rattle.cf_entry.specs.declared.entry.Entry.{Entry}
use Rattle.cf_entry.specs.declared.entry.Entry.TheVariants as entry
use Rattle.cf_entry.specs.declared.entry.Reply.{Reply}
use Rattle.cf_entry.specs.declared.entry.Reply.TheVariants as reply
use Rattle.cf_entry.specs.declared.status.Status.{Status}
use Rattle.cf_entry.specs.declared.status.Status.TheVariants as status
use Rattle.cf_entry.specs.declared.turn.Phase.{Phase}
use Rattle.cf_entry.specs.declared.turn.Phase.TheVariants as phase
use Rattle.cf_entry.specs.declared.turn.Why.{Why}
use Rattle.cf_effect.specs.Begin.{beginning}
use Rattle.cf_effect.specs.Calls.{anew, answered_call, call_under, is_call, is_open_call, is_restore, new_call}
use Rattle.cf_effect.specs.End.{ended_effect, turned_effect}
use Rattle.cf_effect.specs.Fold.{effect_at, fold_of}
use Rattle.cf_effect.specs.Reply.{answered, closing, intending, keeping, replied, replying, still_open}
use Rattle.cf_effect.specs.Words.{has_token, pending_of}
use Rattle.cf_effect.specs.World.{StackState, World, empty_world, no_stack}
use Rattle.cf_effect.specs.declared.call.Call.{Call}
use Rattle.cf_effect.specs.declared.held.Pending.{Pending}
use Rattle.cf_plan.proofs.BlameMade.{answered_left}
use Rattle.cf_plan.proofs.ChangedLists.{find_left, find_mapped}
use Rattle.cf_plan.proofs.CreatedRight.{in_filter}
use Rattle.cf_plan.proofs.CreatedStays.{found_one}
use Rattle.cf_plan.proofs.Listed.{in_last}
use Rattle.cf_plan.proofs.RunLists.{any_of}
use Rattle.cf_core.proofs.{Each.all_left, Statuses.intended_way, Statuses.kept_way}

abbrev pub EachHasRow : StackState → Type 0
EachHasRow s = (p : Pending) → In p s.tokens → is_some (call_under p.token s) ≡ true

abbrev pub HaveRows : World → Type 0
HaveRows x = (q : List ℕ × StackState) → In q x.stacks → EachHasRow q.1

as_some : (f : Call → Call) (o : Option Call) → is_some (option_map f o) ≡ is_some o
as_some f None = refl
as_some f (Some c) = refl

-- rows that are changed one by one are there still
pub rows_mapped : (k : ℕ) (f : Call → Call) (cs : List Call) → ((c : Call) → is_call k (f c) ≡ is_call k c) → is_some (find (is_call k) (map f cs)) ≡ is_some (find (is_call k) cs)
rows_mapped k f cs same = ap is_some (find_mapped (is_call k) f cs same) ∙ as_some f (find (is_call k) cs)

module _ (s : StackState) (h : EachHasRow s) where
  opened_rows : EachHasRow (record s { ledger = map anew s.ledger })
  opened_rows p i = rows_mapped p.token anew s.ledger (λ c. refl) ∙ h p i

  kept_rows : (path physical : List ℕ) (w : Why) → EachHasRow (keeping path physical w s)
  kept_rows path physical w =
      kept_way EachHasRow s h path physical w (λ p i. h p (in_filter _ s.tokens p i).0) (λ p i. h p (in_filter _ s.tokens p i).0)

  -- a row more is in no one's way
  row_more : (k : ℕ) (c : Call) → is_some (call_under k s) ≡ true → is_some (find (is_call k) (s.ledger ++ c ∷ [])) ≡ true
  row_more k c there_is = ap is_some (find-append (is_call k) s.ledger (c ∷ [])) ∙ by (find (is_call k) s.ledger) there_is where
    by : (o : Option Call) → is_some o ≡ true → is_some (option_or o (find (is_call k) (c ∷ []))) ≡ true
    by (Some d) e = refl
    by None e = absurd (true≢false (sym e))

  row_new : (k : ℕ) (c : Call) → c.token ≡ k → is_some (find (is_call k) (s.ledger ++ c ∷ [])) ≡ true
  row_new k c same = ap is_some (find-append (is_call k) s.ledger (c ∷ [])) ∙ by (find (is_call k) s.ledger) where
    by : (o : Option Call) → is_some (option_or o (find (is_call k) (c ∷ []))) ≡ true
    by (Some d) = refl
    by None = ap (λ b. is_some (cond b (Some c) None)) (eq-eqb k c.token (sym same))

  intended_rows : (number : ℕ) (q : Pending) → EachHasRow (intending number q s)
  intended_rows number q = intended_way EachHasRow s h number q with_it where
    with_it : EachHasRow (record s { tokens = s.tokens ++ q ∷ []; ledger = s.ledger ++ new_call number s.status q ∷ [] })
    with_it p i = elim (in_last s.tokens q p i) [
      | inl j ↦ row_more p.token (new_call number s.status q) (h p j)
      | inr e ↦ row_new p.token (new_call number s.status q) (ap (λ (z : Pending). z.token) (sym e))
    ]

  -- an answer changes the row of its call alone, and may close it
  still : (token : ℕ) (a : Reply) (p : Pending) (ps : List Pending) → In p (still_open token a ps) → In p ps
  still token reply.Doubt p ps i = i
  still token (reply.Success physical attrs) p ps i = (in_filter _ ps p i).0
  still token (reply.Failed code) p ps i = (in_filter _ ps p i).0

  pub same_token : (token k : ℕ) (a : Reply) (c : Call) → is_call k (cond (is_call token c) (answered_call a c) c) ≡ is_call k c
  same_token token k a c = on (is_call token c) a where
    on : (b : Bool) (r : Reply) → is_call k (cond b (answered_call r c) c) ≡ is_call k c
    on true (reply.Success physical attrs) = refl
    on true (reply.Failed code) = refl
    on true reply.Doubt = refl
    on false r = refl

  closed_rows : (token : ℕ) (a : Reply) (t : StackState) → t.tokens ≡ s.tokens → t.ledger ≡ s.ledger → EachHasRow (closing token a t)
  closed_rows token a t tokens ledger p i =
      rows_mapped p.token (λ c. cond (is_call token c) (answered_call a c) c) t.ledger (same_token token p.token a) ∙ ap (λ cs. is_some (find (is_call p.token) cs)) ledger
      ∙ h p (subst (In p) tokens (still token a p t.tokens i))

  replied_rows : (token : ℕ) (a : Reply) → EachHasRow (replying token a s)
  replied_rows token a = by (pending_of token s) where
    by : (o : Option Pending) → EachHasRow (replied token a o s)
    by None = h
    by (Some q) =
        let left = (answered_left (is_restore token s) q.path q.request a s).as_was in
        closed_rows token a (answered (is_restore token s) q.path q.request a s) (ap (λ (z : StackState). z.tokens) left) (ap (λ (z : StackState). z.ledger) left)

  turned_rows : (p : Phase) → EachHasRow (turned_effect p s).stack
  turned_rows phase.Clean = opened_rows
  turned_rows phase.Back = opened_rows
  turned_rows phase.BackClean = opened_rows

  ended_rows : (state : Status) → EachHasRow (ended_effect state s).stack
  ended_rows status.CreateInProgress = h
  ended_rows status.CreateComplete = h
  ended_rows status.RollbackInProgress = h
  ended_rows status.RollbackComplete = h
  ended_rows status.RollbackFailed = h
  ended_rows status.UpdateInProgress = h
  ended_rows status.UpdateCompleteCleanupInProgress = h
  ended_rows status.UpdateComplete = h
  ended_rows status.UpdateRollbackInProgress = h
  ended_rows status.UpdateRollbackCompleteCleanupInProgress = h
  ended_rows status.UpdateRollbackComplete = h
  ended_rows status.UpdateRollbackFailed = h
  ended_rows status.DeleteInProgress = h
  ended_rows status.DeleteComplete = h
  ended_rows status.DeleteFailed = h
  ended_rows status.ReviewInProgress = h

  -- of the calls that are open the rows are kept as an operation begins
  open_rows : (p : Pending) → In p s.tokens → is_some (find (is_call p.token) (map anew (filter (is_open_call s.tokens) s.ledger))) ≡ true
  open_rows p i = rows_mapped p.token anew (filter (is_open_call s.tokens) s.ledger) (λ c. refl) ∙ by (call_under p.token s) refl (h p i) where
    by : (o : Option Call) → call_under p.token s ≡ o → is_some o ≡ true → is_some (find (is_call p.token) (filter (is_open_call s.tokens) s.ledger)) ≡ true
    by None e k = absurd (true≢false (sym k))
    by (Some c) e k =
        let its : p.token ≡ c.token = eqb-true p.token c.token (found_one (is_call p.token) s.ledger c e).1 in
        ap is_some (find_left (is_call p.token) (is_open_call s.tokens) s.ledger c e (any_of (has_token c.token) s.tokens p i (eq-eqb c.token p.token (sym its))))

  begun_rows : (name : List ℕ) (number : ℕ) (k : Begun) → EachHasRow (beginning name number k s)
  begun_rows name number (begin.Create source) p i = open_rows p i
  begun_rows name number (begin.Update source) p i = open_rows p i
  begun_rows name number (begin.Delete paths) p i = open_rows p i
  begun_rows name number (begin.Continue paths) p i = rows_mapped p.token anew s.ledger (λ c. refl) ∙ h p (in_filter _ s.tokens p i).0

  pub effect_rows : (place : ℕ) (e : Entry) → EachHasRow (effect_at place e s).stack
  effect_rows place (entry.Opened epoch lanes) = opened_rows
  effect_rows place (entry.Begin number name k) = begun_rows name number k
  effect_rows place (entry.Kept number path physical w) = kept_rows path physical w
  effect_rows place (entry.Intent number token lane path r) = intended_rows number (record { token = token; path = path; lane = lane; request = r })
  effect_rows place (entry.Outcome number token a before after) = replied_rows token a
  effect_rows place (entry.Phase number p c) = turned_rows p
  effect_rows place (entry.Done number state failed) = ended_rows state
  effect_rows place (entry.ChangeSet number name source rows outputs) = h

none_open : EachHasRow no_stack
none_open p i = elim i [ ]

-- so it is in each world
pub rows_left : (es : List Entry) → HaveRows (fold_of empty_world es)
rows_left es = all_left EachHasRow (λ e. Unit {0}) none_open (λ s h place e is. effect_rows s h place e) es (λ e i. tt)
