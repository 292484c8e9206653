-- What is read of all of some bytes is the entry whose spelling they are, and every such entry is read.
use Rattle.std.proofs.Common.{◌≡◌, ℕ, Bool, cond, eqb, List, [], ◌∷◌, ◌++◌, length, Option, Some, None, refl, sym, ap, subst, ◌∙◌, append_assoc}
use Rattle.std.specs.Prelude.{IsTrue, IfSome, ◌≢◌}
use Rattle.std.proofs.lemmas.Bool.{eqb-true}
use Rattle.std.proofs.lemmas.List.{append-nil, nil_from_length}
use Rattle.cf_tree.specs.declared.request.Request.{Request}
use Rattle.cf_tree.specs.declared.row.Row.{Row}
use Rattle.cf_tree.specs.declared.source.Source.{Source}
use Rattle.cf_entry.specs.declared.entry.Entry.{Entry}
use Rattle.cf_entry.specs.declared.entry.Entry.TheVariants as entry
use Rattle.cf_entry.specs.declared.entry.Begun.{Begun}
use Rattle.cf_entry.specs.declared.entry.Reply.{Reply}
use Rattle.cf_entry.specs.declared.status.Status.{Status}
use Rattle.cf_entry.specs.declared.turn.Cause.{Cause}
use Rattle.cf_entry.specs.declared.turn.Phase.{Phase}
use Rattle.cf_entry.specs.declared.turn.Why.{Why}
use Rattle.cf_entry.specs.Numbers.{why_number, why_of, phase_number, phase_of, has_cause}
use Rattle.cf_entry.specs.Status.{status_number, status_numbered, is_end}
use Rattle.cf_entry.specs.Bytes.{truth_byte, eight_bytes, text_bytes, list_bytes, option_bytes, pair_bytes, IsText, IsEight, IsPair, AreAll}
use Rattle.cf_entry.specs.Entry.{spelling_of, source_bytes, begun_bytes, request_bytes, reply_bytes, cause_bytes, row_bytes, IsRequest, IsReply, IsCauseText, IsRow, IsEntry}
use Rattle.cf_entry.specs.Reading.{◌>>=◌, then_at, pick_at, byte_at, eight_at, text_at, list_at, option_at, pair_at}
use Rattle.cf_entry.specs.EntryReading.{begun_at, request_at, reply_at, end_of, cause_at, row_at, set_at, turn_of, opened_at, begin_at, kept_at, intent_at, outcome_at, phase_at, done_at, change_set_at, entry_at, entry_of}
use Rattle.cf_entry.proofs.Codec.{IsBytes, IsBytes-rest, some_is, bind_some, test_some, Taken, Codes, codes_then, pick_again}
use Rattle.cf_entry.proofs.Fields.{codes_eight, codes_text, codes_list, codes_option, codes_pair}
use Rattle.cf_entry.proofs.Tagged.{tagged, first_of_8}
use Rattle.cf_entry.proofs.Entries.{codes_begun, codes_source, IsSourceFor, codes_request, codes_reply, codes_cause, codes_row, codes_end}
use Rattle.cf_entry.proofs.Numbers.{codes_why, codes_phase}
use Rattle.cf_entry.proofs.Values.{codes_truth}

-- ---- openings

abbrev Opening : Type 0
Opening = ℕ × List (List ℕ × List ℕ)

abbrev opening_bytes : Opening → List ℕ
opening_bytes p = eight_bytes p.0 ++ list_bytes pair_bytes p.1

abbrev IsOpening : Opening → Type 0
IsOpening p = IsEight p.0 × AreAll IsPair p.1

codes_opening : Codes opening_bytes IsOpening (then_at eight_at (list_at pair_at))
codes_opening = codes_then _ _ _ _ _ _ codes_eight (codes_list pair_bytes IsPair pair_at codes_pair)

opened_takes : (bytes : List ℕ) (x : Entry) (rest : List ℕ) → IsBytes bytes → opened_at bytes ≡ Some (x, rest) → Taken spelling_of IsEntry (1 ∷ bytes) x rest
unfolding opened_at
opened_takes bytes x rest h e = tagged 1 (λ p. Some (entry.Opened p.0 p.1)) opening_bytes IsOpening (then_at eight_at (list_at pair_at)) spelling_of IsEntry codes_opening
    (λ p y fits g. subst (λ z. (1 ∷ opening_bytes p ≡ spelling_of z) × IsEntry z) (some_is (entry.Opened p.0 p.1) y g) (refl, fits)) bytes x rest h e

-- ---- beginnings

begin_takes : (bytes : List ℕ) (x : Entry) (rest : List ℕ) → IsBytes bytes → begin_at bytes ≡ Some (x, rest) → Taken spelling_of IsEntry (2 ∷ bytes) x rest
unfolding begin_at
begin_takes bytes x rest h e =
    let a = bind_some (eight_at bytes) (λ number. text_at number.1 >>= λ stack. begun_at stack.0 stack.1 >>= λ kind. Some (entry.Begin number.0 stack.0 kind.0, kind.1)) (x, rest) e in
    let number = a.0.0 in
    let b = bind_some (text_at a.0.1) (λ stack. begun_at stack.0 stack.1 >>= λ kind. Some (entry.Begin number stack.0 kind.0, kind.1)) (x, rest) a.2 in
    let stack = b.0.0 in
    let c = bind_some (begun_at stack b.0.1) (λ kind. Some (entry.Begin number stack kind.0, kind.1)) (x, rest) b.2 in
    let kind = c.0.0 in
    let t = codes_eight.takes bytes number a.0.1 h a.1 in
    let u = codes_text.takes a.0.1 stack b.0.1 t.left b.1 in
    let v = (codes_begun stack).takes b.0.1 kind c.0.1 u.left c.1 in
    let later : a.0.1 ≡ (text_bytes stack ++ begun_bytes kind) ++ c.0.1 = u.parts ∙ ap (λ r. text_bytes stack ++ r) v.parts ∙ sym (append_assoc (text_bytes stack) (begun_bytes kind) c.0.1) in
    let all : bytes ≡ (eight_bytes number ++ (text_bytes stack ++ begun_bytes kind)) ++ c.0.1 = t.parts ∙ ap (λ r. eight_bytes number ++ r) later ∙ sym (append_assoc (eight_bytes number) (text_bytes stack ++ begun_bytes kind) c.0.1) in
    let made : Taken spelling_of IsEntry (2 ∷ bytes) (entry.Begin number stack kind) c.0.1 = record { parts = ap (λ r. 2 ∷ r) all; fits = (t.fits, u.fits, v.fits); left = v.left } in
    subst (λ (p : Entry × List ℕ). Taken spelling_of IsEntry (2 ∷ bytes) p.0 p.1) (some_is (entry.Begin number stack kind, c.0.1) (x, rest) c.2) made

begin_again : (number : ℕ) (stack : List ℕ) (kind : Begun) (rest : List ℕ) → IsEntry (entry.Begin number stack kind) → begin_at ((eight_bytes number ++ (text_bytes stack ++ begun_bytes kind)) ++ rest) ≡ Some (entry.Begin number stack kind, rest)
unfolding begin_at
begin_again number stack kind rest h =
    let regrouped : (eight_bytes number ++ (text_bytes stack ++ begun_bytes kind)) ++ rest ≡ eight_bytes number ++ (text_bytes stack ++ (begun_bytes kind ++ rest)) = append_assoc (eight_bytes number) (text_bytes stack ++ begun_bytes kind) rest ∙ ap (λ r. eight_bytes number ++ r) (append_assoc (text_bytes stack) (begun_bytes kind) rest) in
    let f : ℕ × List ℕ → Option (Entry × List ℕ) = λ n. text_at n.1 >>= λ s. begun_at s.0 s.1 >>= λ k. Some (entry.Begin n.0 s.0 k.0, k.1) in
    let g : List ℕ × List ℕ → Option (Entry × List ℕ) = λ s. begun_at s.0 s.1 >>= λ k. Some (entry.Begin number s.0 k.0, k.1) in
    ap begin_at regrouped ∙ ap (λ o. o >>= f) (codes_eight.again number (text_bytes stack ++ (begun_bytes kind ++ rest)) h.0) ∙ ap (λ o. o >>= g) (codes_text.again stack (begun_bytes kind ++ rest) h.1)
    ∙ ap (λ o. o >>= λ k. Some (entry.Begin number stack k.0, k.1)) ((codes_begun stack).again kind rest h.2)

-- ---- leftovers

abbrev Leaving : Type 0
Leaving = ℕ × (List ℕ × (List ℕ × Why))

abbrev leaving_bytes : Leaving → List ℕ
leaving_bytes p = eight_bytes p.0 ++ (text_bytes p.1.0 ++ (text_bytes p.1.1.0 ++ (why_number p.1.1.1 ∷ [])))

abbrev IsLeaving : Leaving → Type 0
IsLeaving p = IsEight p.0 × (IsText p.1.0 × (IsText p.1.1.0 × Unit {0}))

codes_leaving : Codes leaving_bytes IsLeaving (then_at eight_at (then_at text_at (then_at text_at (pick_at why_of byte_at))))
codes_leaving = codes_then _ _ _ _ _ _ codes_eight (codes_then _ _ _ _ _ _ codes_text (codes_then _ _ _ _ _ _ codes_text codes_why))

kept_takes : (bytes : List ℕ) (x : Entry) (rest : List ℕ) → IsBytes bytes → kept_at bytes ≡ Some (x, rest) → Taken spelling_of IsEntry (3 ∷ bytes) x rest
unfolding kept_at
kept_takes bytes x rest h e = tagged 3 (λ p. Some (entry.Kept p.0 p.1.0 p.1.1.0 p.1.1.1)) leaving_bytes IsLeaving (then_at eight_at (then_at text_at (then_at text_at (pick_at why_of byte_at)))) spelling_of IsEntry codes_leaving
    (λ p y fits g. subst (λ z. (3 ∷ leaving_bytes p ≡ spelling_of z) × IsEntry z) (some_is (entry.Kept p.0 p.1.0 p.1.1.0 p.1.1.1) y g) (refl, (fits.0, fits.1.0, fits.1.1.0))) bytes x rest h e

-- ---- intents

abbrev Asking : Type 0
Asking = ℕ × (ℕ × (List ℕ × (List ℕ × Request)))

abbrev asking_bytes : Asking → List ℕ
asking_bytes p = eight_bytes p.0 ++ (eight_bytes p.1.0 ++ (text_bytes p.1.1.0 ++ (text_bytes p.1.1.1.0 ++ request_bytes p.1.1.1.1)))

abbrev IsAsking : Asking → Type 0
IsAsking p = IsEight p.0 × (IsEight p.1.0 × (IsText p.1.1.0 × (IsText p.1.1.1.0 × IsRequest p.1.1.1.1)))

codes_asking : Codes asking_bytes IsAsking (then_at eight_at (then_at eight_at (then_at text_at (then_at text_at request_at))))
codes_asking = codes_then _ _ _ _ _ _ codes_eight (codes_then _ _ _ _ _ _ codes_eight (codes_then _ _ _ _ _ _ codes_text (codes_then _ _ _ _ _ _ codes_text codes_request)))

intent_takes : (bytes : List ℕ) (x : Entry) (rest : List ℕ) → IsBytes bytes → intent_at bytes ≡ Some (x, rest) → Taken spelling_of IsEntry (4 ∷ bytes) x rest
unfolding intent_at
intent_takes bytes x rest h e = tagged 4 (λ p. Some (entry.Intent p.0 p.1.0 p.1.1.0 p.1.1.1.0 p.1.1.1.1)) asking_bytes IsAsking (then_at eight_at (then_at eight_at (then_at text_at (then_at text_at request_at)))) spelling_of IsEntry codes_asking
    (λ p y fits g. subst (λ z. (4 ∷ asking_bytes p ≡ spelling_of z) × IsEntry z) (some_is (entry.Intent p.0 p.1.0 p.1.1.0 p.1.1.1.0 p.1.1.1.1) y g) (refl, (fits.0, fits.1.0, fits.1.1.0, fits.1.1.1.0, fits.1.1.1.1))) bytes x rest h e

-- ---- outcomes

abbrev Telling : Type 0
Telling = ℕ × (ℕ × (Reply × (ℕ × ℕ)))

abbrev telling_bytes : Telling → List ℕ
telling_bytes p = eight_bytes p.0 ++ (eight_bytes p.1.0 ++ (reply_bytes p.1.1.0 ++ (eight_bytes p.1.1.1.0 ++ eight_bytes p.1.1.1.1)))

abbrev IsTelling : Telling → Type 0
IsTelling p = IsEight p.0 × (IsEight p.1.0 × (IsReply p.1.1.0 × (IsEight p.1.1.1.0 × IsEight p.1.1.1.1)))

codes_telling : Codes telling_bytes IsTelling (then_at eight_at (then_at eight_at (then_at reply_at (then_at eight_at eight_at))))
codes_telling = codes_then _ _ _ _ _ _ codes_eight (codes_then _ _ _ _ _ _ codes_eight (codes_then _ _ _ _ _ _ codes_reply (codes_then _ _ _ _ _ _ codes_eight codes_eight)))

outcome_takes : (bytes : List ℕ) (x : Entry) (rest : List ℕ) → IsBytes bytes → outcome_at bytes ≡ Some (x, rest) → Taken spelling_of IsEntry (5 ∷ bytes) x rest
unfolding outcome_at
outcome_takes bytes x rest h e = tagged 5 (λ p. Some (entry.Outcome p.0 p.1.0 p.1.1.0 p.1.1.1.0 p.1.1.1.1)) telling_bytes IsTelling (then_at eight_at (then_at eight_at (then_at reply_at (then_at eight_at eight_at)))) spelling_of IsEntry codes_telling
    (λ p y fits g. subst (λ z. (5 ∷ telling_bytes p ≡ spelling_of z) × IsEntry z) (some_is (entry.Outcome p.0 p.1.0 p.1.1.0 p.1.1.1.0 p.1.1.1.1) y g) (refl, (fits.0, fits.1.0, fits.1.1.0, fits.1.1.1.0, fits.1.1.1.1))) bytes x rest h e

-- ---- turns

abbrev Turning : Type 0
Turning = ℕ × (Phase × Option Cause)

abbrev turning_bytes : Turning → List ℕ
turning_bytes p = eight_bytes p.0 ++ ((phase_number p.1.0 ∷ []) ++ option_bytes cause_bytes p.1.1)

abbrev IsTurning : Turning → Type 0
IsTurning p = IsEight p.0 × (Unit {0} × IfSome p.1.1 IsCauseText)

codes_turning : Codes turning_bytes IsTurning (then_at eight_at (then_at (pick_at phase_of byte_at) (option_at cause_at)))
codes_turning = codes_then _ _ _ _ _ _ codes_eight (codes_then _ _ _ _ _ _ codes_phase (codes_option cause_bytes IsCauseText cause_at codes_cause))

phase_takes : (bytes : List ℕ) (x : Entry) (rest : List ℕ) → IsBytes bytes → phase_at bytes ≡ Some (x, rest) → Taken spelling_of IsEntry (6 ∷ bytes) x rest
unfolding phase_at
phase_takes bytes x rest h e = tagged 6 turn_of turning_bytes IsTurning (then_at eight_at (then_at (pick_at phase_of byte_at) (option_at cause_at))) spelling_of IsEntry codes_turning
    (λ p y fits g. let t = test_some (has_cause p.1.0 p.1.1) (entry.Phase p.0 p.1.0 p.1.1) y g in subst (λ z. (6 ∷ turning_bytes p ≡ spelling_of z) × IsEntry z) t.1 (refl, (fits.0, fits.1.1, t.0))) bytes x rest h e

-- ---- ends

abbrev Ending : Type 0
Ending = ℕ × (Status × List (List ℕ))

abbrev ending_bytes : Ending → List ℕ
ending_bytes p = eight_bytes p.0 ++ ((status_number p.1.0 ∷ []) ++ list_bytes text_bytes p.1.1)

abbrev IsEnding : Ending → Type 0
IsEnding p = IsEight p.0 × (IsTrue (is_end p.1.0) × AreAll IsText p.1.1)

codes_ending : Codes ending_bytes IsEnding (then_at eight_at (then_at (pick_at end_of (pick_at status_numbered byte_at)) (list_at text_at)))
codes_ending = codes_then _ _ _ _ _ _ codes_eight (codes_then _ _ _ _ _ _ codes_end (codes_list text_bytes IsText text_at codes_text))

done_takes : (bytes : List ℕ) (x : Entry) (rest : List ℕ) → IsBytes bytes → done_at bytes ≡ Some (x, rest) → Taken spelling_of IsEntry (7 ∷ bytes) x rest
unfolding done_at
done_takes bytes x rest h e = tagged 7 (λ p. Some (entry.Done p.0 p.1.0 p.1.1)) ending_bytes IsEnding (then_at eight_at (then_at (pick_at end_of (pick_at status_numbered byte_at)) (list_at text_at))) spelling_of IsEntry codes_ending
    (λ p y fits g. subst (λ z. (7 ∷ ending_bytes p ≡ spelling_of z) × IsEntry z) (some_is (entry.Done p.0 p.1.0 p.1.1) y g) (refl, (fits.0, fits.1.0, fits.1.1))) bytes x rest h e

-- ---- change sets

abbrev Set : Type 0
Set = Source × (List Row × Bool)

abbrev set_bytes : Set → List ℕ
set_bytes p = source_bytes p.0 ++ (list_bytes row_bytes p.1.0 ++ (truth_byte p.1.1 ∷ []))

abbrev IsSet : List ℕ → Set → Type 0
IsSet stack p = IsSourceFor stack p.0 × (AreAll IsRow p.1.0 × Unit {0})

codes_set : (stack : List ℕ) → Codes set_bytes (IsSet stack) (set_at stack)
codes_set stack = codes_then _ _ _ _ _ _ (codes_source stack) (codes_then _ _ _ _ _ _ (codes_list row_bytes IsRow row_at codes_row) codes_truth)

change_set_takes : (bytes : List ℕ) (x : Entry) (rest : List ℕ) → IsBytes bytes → change_set_at bytes ≡ Some (x, rest) → Taken spelling_of IsEntry (8 ∷ bytes) x rest
unfolding change_set_at
change_set_takes bytes x rest h e =
    let a = bind_some (eight_at bytes) (λ number. text_at number.1 >>= λ stack. set_at stack.0 stack.1 >>= λ set. Some (entry.ChangeSet number.0 stack.0 set.0.0 set.0.1.0 set.0.1.1, set.1)) (x, rest) e in
    let number = a.0.0 in
    let b = bind_some (text_at a.0.1) (λ stack. set_at stack.0 stack.1 >>= λ set. Some (entry.ChangeSet number stack.0 set.0.0 set.0.1.0 set.0.1.1, set.1)) (x, rest) a.2 in
    let stack = b.0.0 in
    let c = bind_some (set_at stack b.0.1) (λ set. Some (entry.ChangeSet number stack set.0.0 set.0.1.0 set.0.1.1, set.1)) (x, rest) b.2 in
    let set = c.0.0 in
    let t = codes_eight.takes bytes number a.0.1 h a.1 in
    let u = codes_text.takes a.0.1 stack b.0.1 t.left b.1 in
    let v = (codes_set stack).takes b.0.1 set c.0.1 u.left c.1 in
    let later : a.0.1 ≡ (text_bytes stack ++ set_bytes set) ++ c.0.1 = u.parts ∙ ap (λ r. text_bytes stack ++ r) v.parts ∙ sym (append_assoc (text_bytes stack) (set_bytes set) c.0.1) in
    let all : bytes ≡ (eight_bytes number ++ (text_bytes stack ++ set_bytes set)) ++ c.0.1 = t.parts ∙ ap (λ r. eight_bytes number ++ r) later ∙ sym (append_assoc (eight_bytes number) (text_bytes stack ++ set_bytes set) c.0.1) in
    let made : Taken spelling_of IsEntry (8 ∷ bytes) (entry.ChangeSet number stack set.0 set.1.0 set.1.1) c.0.1 = record { parts = ap (λ r. 8 ∷ r) all; fits = (t.fits, u.fits, v.fits.0, v.fits.1.0); left = v.left } in
    subst (λ (p : Entry × List ℕ). Taken spelling_of IsEntry (8 ∷ bytes) p.0 p.1) (some_is (entry.ChangeSet number stack set.0 set.1.0 set.1.1, c.0.1) (x, rest) c.2) made

change_set_again : (number : ℕ) (stack : List ℕ) (set : Set) (rest : List ℕ) → IsEntry (entry.ChangeSet number stack set.0 set.1.0 set.1.1) → change_set_at ((eight_bytes number ++ (text_bytes stack ++ set_bytes set)) ++ rest) ≡ Some (entry.ChangeSet number stack set.0 set.1.0 set.1.1, rest)
unfolding change_set_at
change_set_again number stack set rest h =
    let regrouped : (eight_bytes number ++ (text_bytes stack ++ set_bytes set)) ++ rest ≡ eight_bytes number ++ (text_bytes stack ++ (set_bytes set ++ rest)) = append_assoc (eight_bytes number) (text_bytes stack ++ set_bytes set) rest ∙ ap (λ r. eight_bytes number ++ r) (append_assoc (text_bytes stack) (set_bytes set) rest) in
    let f : ℕ × List ℕ → Option (Entry × List ℕ) = λ n. text_at n.1 >>= λ s. set_at s.0 s.1 >>= λ k. Some (entry.ChangeSet n.0 s.0 k.0.0 k.0.1.0 k.0.1.1, k.1) in
    let g : List ℕ × List ℕ → Option (Entry × List ℕ) = λ s. set_at s.0 s.1 >>= λ k. Some (entry.ChangeSet number s.0 k.0.0 k.0.1.0 k.0.1.1, k.1) in
    ap change_set_at regrouped ∙ ap (λ o. o >>= f) (codes_eight.again number (text_bytes stack ++ (set_bytes set ++ rest)) h.0) ∙ ap (λ o. o >>= g) (codes_text.again stack (set_bytes set ++ rest) h.1)
    ∙ ap (λ o. o >>= λ k. Some (entry.ChangeSet number stack k.0.0 k.0.1.0 k.0.1.1, k.1)) ((codes_set stack).again set rest (h.2, (h.3, tt)))

-- ---- entries

entry_takes : (bytes : List ℕ) (x : Entry) (rest : List ℕ) → IsBytes bytes → entry_at bytes ≡ Some (x, rest) → Taken spelling_of IsEntry bytes x rest
unfolding entry_at
entry_takes [] x rest h e = absurd cc
entry_takes (k ∷ bytes) x rest h e =
    let Goal : ℕ → Type 0 = λ n. Taken spelling_of IsEntry (n ∷ bytes) x rest in
    let left = IsBytes-rest k bytes h in
    first_of_8 (x, rest) (Goal k) k (opened_at bytes) (begin_at bytes) (kept_at bytes) (intent_at bytes) (outcome_at bytes) (phase_at bytes) (done_at bytes) (change_set_at bytes) e
    (λ i f. subst Goal (sym i) (opened_takes bytes x rest left f))
    (λ i f. subst Goal (sym i) (begin_takes bytes x rest left f))
    (λ i f. subst Goal (sym i) (kept_takes bytes x rest left f))
    (λ i f. subst Goal (sym i) (intent_takes bytes x rest left f))
    (λ i f. subst Goal (sym i) (outcome_takes bytes x rest left f))
    (λ i f. subst Goal (sym i) (phase_takes bytes x rest left f))
    (λ i f. subst Goal (sym i) (done_takes bytes x rest left f))
    (λ i f. subst Goal (sym i) (change_set_takes bytes x rest left f))

entry_again : (x : Entry) (rest : List ℕ) → IsEntry x → entry_at (spelling_of x ++ rest) ≡ Some (x, rest)
unfolding entry_at opened_at kept_at intent_at outcome_at phase_at done_at
entry_again (entry.Opened epoch lanes) rest h = pick_again opening_bytes IsOpening (then_at eight_at (list_at pair_at)) (λ p. Some (entry.Opened p.0 p.1)) codes_opening (epoch, lanes) (entry.Opened epoch lanes) rest h refl
entry_again (entry.Begin number stack kind) rest h = begin_again number stack kind rest h
entry_again (entry.Kept number path physical why) rest h = pick_again leaving_bytes IsLeaving (then_at eight_at (then_at text_at (then_at text_at (pick_at why_of byte_at)))) (λ p. Some (entry.Kept p.0 p.1.0 p.1.1.0 p.1.1.1)) codes_leaving (number, (path, (physical, why))) (entry.Kept number path physical why) rest (h.0, (h.1, (h.2, tt))) refl
entry_again (entry.Phase number phase cause) rest h = pick_again turning_bytes IsTurning (then_at eight_at (then_at (pick_at phase_of byte_at) (option_at cause_at))) turn_of codes_turning (number, (phase, cause)) (entry.Phase number phase cause) rest (h.0, (tt, h.1)) (rw h.2 refl)
entry_again (entry.ChangeSet number stack source rows outputs) rest h = change_set_again number stack (source, (rows, outputs)) rest h
entry_again (entry.Intent number token lane path request) rest h = pick_again asking_bytes IsAsking (then_at eight_at (then_at eight_at (then_at text_at (then_at text_at request_at)))) (λ p. Some (entry.Intent p.0 p.1.0 p.1.1.0 p.1.1.1.0 p.1.1.1.1)) codes_asking (number, (token, (lane, (path, request)))) (entry.Intent number token lane path request) rest (h.0, (h.1, (h.2, (h.3, h.4)))) refl
entry_again (entry.Outcome number token answer before after) rest h = pick_again telling_bytes IsTelling (then_at eight_at (then_at eight_at (then_at reply_at (then_at eight_at eight_at)))) (λ p. Some (entry.Outcome p.0 p.1.0 p.1.1.0 p.1.1.1.0 p.1.1.1.1)) codes_telling (number, (token, (answer, (before, after)))) (entry.Outcome number token answer before after) rest (h.0, (h.1, (h.2, (h.3, h.4)))) refl
entry_again (entry.Done number status failed) rest h = pick_again ending_bytes IsEnding (then_at eight_at (then_at (pick_at end_of (pick_at status_numbered byte_at)) (list_at text_at))) (λ p. Some (entry.Done p.0 p.1.0 p.1.1)) codes_ending (number, (status, failed)) (entry.Done number status failed) rest (h.0, (h.1, h.2)) refl

-- a spelling and any bytes behind it tell the entry and these bytes, so that no spelling is the beginning of another
pub spelled_once : (x y : Entry) (rest more : List ℕ) → IsEntry x → IsEntry y → spelling_of x ++ rest ≡ spelling_of y ++ more → (x ≡ y) × (rest ≡ more)
spelled_once x y rest more h g e =
    let same = some_is (x, rest) (y, more) (sym (entry_again x rest h) ∙ ap entry_at e ∙ entry_again y more g) in
    (ap (λ (p : Entry × List ℕ). p.0) same, ap (λ (p : Entry × List ℕ). p.1) same)

pub read_is_spelled : (bytes : List ℕ) (x : Entry) → IsBytes bytes → entry_of bytes ≡ Some x → IsEntry x × (spelling_of x ≡ bytes)
unfolding entry_of
read_is_spelled bytes x h e =
    let a = bind_some (entry_at bytes) (λ p. cond (eqb (length p.1) 0) (Some p.0) None) x e in
    let b = test_some (eqb (length a.0.1) 0) a.0.0 x a.2 in
    let t = entry_takes bytes a.0.0 a.0.1 h a.1 in
    let none : a.0.1 ≡ [] = nil_from_length _ (eqb-true _ _ b.0) in
    let all : spelling_of a.0.0 ≡ bytes = sym (t.parts ∙ ap (λ r. spelling_of a.0.0 ++ r) none ∙ append-nil (spelling_of a.0.0)) in
    subst (λ y. IsEntry y × (spelling_of y ≡ bytes)) b.1 (t.fits, all)

pub spelled_is_read : (bytes : List ℕ) (x : Entry) → IsEntry x → spelling_of x ≡ bytes → entry_of bytes ≡ Some x
unfolding entry_of
spelled_is_read bytes x h e =
    let whole : entry_at (spelling_of x) ≡ Some (x, []) = ap entry_at (sym (append-nil (spelling_of x))) ∙ entry_again x [] h in
    let read : entry_of (spelling_of x) ≡ Some x = rw whole refl in
    subst (λ bs. entry_of bs ≡ Some x) e read

pub unread_is_not_spelled : (bytes : List ℕ) → entry_of bytes ≡ None → (x : Entry) → IsEntry x → spelling_of x ≢ bytes
unread_is_not_spelled bytes n x h e = let s = spelled_is_read bytes x h e in absurd (cc (s, n))
