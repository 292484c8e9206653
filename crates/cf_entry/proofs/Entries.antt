-- The readers of entries fit their spellings.
use Rattle.std.proofs.Common.{◌≡◌, ℕ, ◌<◌, ◌≤◌, Bool, cond, eqb, List, [], ◌∷◌, ◌++◌, length, Option, Some, None, refl, sym, ap, subst, length-append, arith, inl, inr}
use Rattle.std.specs.Prelude.{IsTrue, IfSome, ◌==◌}
use Rattle.std.proofs.lemmas.Bool.{eqb-true}
use Rattle.cf_tree.specs.Codes.{number_of, code_of}
use Rattle.cf_tree.specs.Datum.{Data, members_of}
use Rattle.cf_tree.specs.Keys.{ascends}
use Rattle.cf_tree.specs.declared.request.Request.{Request}
use Rattle.cf_tree.specs.declared.request.Request.TheVariants as request
use Rattle.cf_tree.specs.declared.source.Source.{Source}
use Rattle.cf_entry.specs.declared.entry.Begun.{Begun}
use Rattle.cf_entry.specs.declared.entry.Begun.TheVariants as begun
use Rattle.cf_entry.specs.declared.entry.Reply.{Reply}
use Rattle.cf_entry.specs.declared.entry.Reply.TheVariants as reply
use Rattle.cf_entry.specs.declared.status.Status.{Status}
use Rattle.cf_entry.specs.declared.status.Status.TheVariants as status
use Rattle.cf_entry.specs.declared.turn.Cause.{Cause}
use Rattle.cf_entry.specs.declared.turn.Cause.TheVariants as cause
use Rattle.cf_entry.specs.declared.turn.Reason.{Reason}
use Rattle.cf_entry.specs.Numbers.{reason_number, reason_of, action_number, attribute_number, recreation_number, evaluation_number, replacement_number, is_named}
use Rattle.cf_entry.specs.Status.{status_number, status_numbered, all_statuses, is_end}
use Rattle.cf_entry.specs.Bytes.{truth_byte, text_bytes, list_bytes, option_bytes, pair_bytes, IsText, IsPair, IsTemplate, AreAll}
use Rattle.cf_entry.specs.Value.{dict_bytes, IsDict}
use Rattle.cf_entry.specs.Entry.{source_bytes, begun_bytes, request_bytes, reply_bytes, cause_bytes, detail_bytes, row_bytes, texts_ascend, IsFor, IsSource, IsBegun, IsRequest, IsReply, IsCauseText, IsDetail, IsRow}
use Rattle.cf_entry.specs.Reading.{then_at, pick_at, byte_at, text_at, list_at, option_at, pair_at, template_at, ordered_of}
use Rattle.cf_entry.specs.EntryReading.{properties_at, source_read, source_at, begun_of, begun_at, request_at, reply_at, cause_at, detail_of, detail_at, row_of, row_at, end_of}
use Rattle.cf_entry.proofs.Codec.{IsBytes, IsBytes-rest, some_is, if_some, test_bind, test_some, Taken, Codes, codes_then, codes_pick, pick_again}
use Rattle.cf_entry.proofs.Fields.{codes_byte, codes_text, codes_list, codes_option, codes_pair, codes_template}
use Rattle.cf_entry.proofs.Numbers.{found_holds, codes_code, codes_reason, codes_action, codes_attribute, codes_recreation, codes_evaluation, codes_replacement}
use Rattle.cf_entry.proofs.Tagged.{tagged, first_of_3}
use Rattle.cf_entry.proofs.Values.{codes_truth, codes_value, dict_codes, levels_of_members, levels_few_members}

-- ---- properties

pub codes_properties : Codes dict_bytes IsDict properties_at
unfolding properties_at
codes_properties = record {
  takes = λ bytes x rest h e.
      let p = (dict_codes (length bytes) (codes_value (length bytes))).takes bytes x rest h e in
      record { parts = p.parts; fits = p.fits.0; left = p.left };
  again = λ x rest h.
      let bytes = dict_bytes x ++ rest in
      let few : levels_of_members (members_of x) ≤ length bytes = omega (arith, levels_few_members (members_of x), length-append (dict_bytes x) rest) in
      (dict_codes (length bytes) (codes_value (length bytes))).again x rest (h, few);
}

-- ---- requests and replies

codes_named : Codes (λ (p : List ℕ × List (List ℕ × Data)). text_bytes p.0 ++ dict_bytes p.1) (λ p. IsText p.0 × IsDict p.1) (then_at text_at properties_at)
codes_named = codes_then text_bytes IsText text_at dict_bytes IsDict properties_at codes_text codes_properties

abbrev Named : Type 0
Named = List ℕ × List (List ℕ × Data)

request_takes_at : (k : ℕ) (bytes : List ℕ) (x : Request) (rest : List ℕ) → IsBytes bytes → request_at (k ∷ bytes) ≡ Some (x, rest) → Taken request_bytes IsRequest (k ∷ bytes) x rest
unfolding request_at
request_takes_at k bytes x rest h e =
    let Goal : ℕ → Type 0 = λ n. Taken request_bytes IsRequest (n ∷ bytes) x rest in
    first_of_3 (x, rest) (Goal k) k 1 2 3
    (pick_at (λ p. Some (request.Create p.0 p.1)) (then_at text_at properties_at) bytes) (pick_at (λ p. Some (request.Update p.0 p.1)) (then_at text_at properties_at) bytes) (pick_at (λ t. Some (request.Delete t)) text_at bytes)
    e
    (λ i f. subst Goal (sym i) (tagged 1 (λ p. Some (request.Create p.0 p.1)) (λ (p : Named). text_bytes p.0 ++ dict_bytes p.1) (λ p. IsText p.0 × IsDict p.1) (then_at text_at properties_at) request_bytes IsRequest codes_named
    (λ p y fits g. subst (λ z. (1 ∷ (text_bytes p.0 ++ dict_bytes p.1) ≡ request_bytes z) × IsRequest z) (some_is (request.Create p.0 p.1) y g) (refl, fits)) bytes x rest h f))
    (λ i f. subst Goal (sym i) (tagged 2 (λ p. Some (request.Update p.0 p.1)) (λ (p : Named). text_bytes p.0 ++ dict_bytes p.1) (λ p. IsText p.0 × IsDict p.1) (then_at text_at properties_at) request_bytes IsRequest codes_named
    (λ p y fits g. subst (λ z. (2 ∷ (text_bytes p.0 ++ dict_bytes p.1) ≡ request_bytes z) × IsRequest z) (some_is (request.Update p.0 p.1) y g) (refl, fits)) bytes x rest h f))
    (λ i f. subst Goal (sym i) (tagged 3 (λ t. Some (request.Delete t)) text_bytes IsText text_at request_bytes IsRequest codes_text
    (λ t y fits g. subst (λ z. (3 ∷ text_bytes t ≡ request_bytes z) × IsRequest z) (some_is (request.Delete t) y g) (refl, fits)) bytes x rest h f))

request_takes : (bytes : List ℕ) (x : Request) (rest : List ℕ) → IsBytes bytes → request_at bytes ≡ Some (x, rest) → Taken request_bytes IsRequest bytes x rest
unfolding request_at
request_takes [] x rest h e = absurd cc
request_takes (k ∷ bytes) x rest h e = request_takes_at k bytes x rest (IsBytes-rest k bytes h) e

request_again : (x : Request) (rest : List ℕ) → IsRequest x → request_at (request_bytes x ++ rest) ≡ Some (x, rest)
unfolding request_at
request_again (request.Create kind props) rest h = pick_again (λ (p : Named). text_bytes p.0 ++ dict_bytes p.1) (λ p. IsText p.0 × IsDict p.1) (then_at text_at properties_at) (λ p. Some (request.Create p.0 p.1)) codes_named (kind, props) (request.Create kind props) rest h refl
request_again (request.Update physical props) rest h = pick_again (λ (p : Named). text_bytes p.0 ++ dict_bytes p.1) (λ p. IsText p.0 × IsDict p.1) (then_at text_at properties_at) (λ p. Some (request.Update p.0 p.1)) codes_named (physical, props) (request.Update physical props) rest h refl
request_again (request.Delete physical) rest h = pick_again text_bytes IsText text_at (λ t. Some (request.Delete t)) codes_text physical (request.Delete physical) rest h refl

pub codes_request : Codes request_bytes IsRequest request_at
codes_request = record { takes = request_takes; again = request_again }

reply_takes_at : (k : ℕ) (bytes : List ℕ) (x : Reply) (rest : List ℕ) → IsBytes bytes → reply_at (k ∷ bytes) ≡ Some (x, rest) → Taken reply_bytes IsReply (k ∷ bytes) x rest
unfolding reply_at
reply_takes_at k bytes x rest h e =
    let Goal : ℕ → Type 0 = λ n. Taken reply_bytes IsReply (n ∷ bytes) x rest in
    let doubt : Taken reply_bytes IsReply (3 ∷ bytes) reply.Doubt bytes = record { parts = refl; fits = tt; left = h } in
    first_of_3 (x, rest) (Goal k) k 1 2 3
    (pick_at (λ p. Some (reply.Success p.0 p.1)) (then_at text_at properties_at) bytes) (pick_at (λ c. Some (reply.Failed c)) (pick_at code_of byte_at) bytes) (Some (reply.Doubt, bytes))
    e
    (λ i f. subst Goal (sym i) (tagged 1 (λ p. Some (reply.Success p.0 p.1)) (λ (p : Named). text_bytes p.0 ++ dict_bytes p.1) (λ p. IsText p.0 × IsDict p.1) (then_at text_at properties_at) reply_bytes IsReply codes_named
    (λ p y fits g. subst (λ z. (1 ∷ (text_bytes p.0 ++ dict_bytes p.1) ≡ reply_bytes z) × IsReply z) (some_is (reply.Success p.0 p.1) y g) (refl, fits)) bytes x rest h f))
    (λ i f. subst Goal (sym i) (tagged 2 (λ c. Some (reply.Failed c)) (λ c. number_of c ∷ []) (λ c. Unit {0}) (pick_at code_of byte_at) reply_bytes IsReply codes_code
    (λ c y fits g. subst (λ z. (2 ∷ number_of c ∷ [] ≡ reply_bytes z) × IsReply z) (some_is (reply.Failed c) y g) (refl, tt)) bytes x rest h f))
    (λ i f. subst Goal (sym i) (subst (λ (p : Reply × List ℕ). Taken reply_bytes IsReply (3 ∷ bytes) p.0 p.1) (some_is (reply.Doubt, bytes) (x, rest) f) doubt))

reply_takes : (bytes : List ℕ) (x : Reply) (rest : List ℕ) → IsBytes bytes → reply_at bytes ≡ Some (x, rest) → Taken reply_bytes IsReply bytes x rest
unfolding reply_at
reply_takes [] x rest h e = absurd cc
reply_takes (k ∷ bytes) x rest h e = reply_takes_at k bytes x rest (IsBytes-rest k bytes h) e

reply_again : (x : Reply) (rest : List ℕ) → IsReply x → reply_at (reply_bytes x ++ rest) ≡ Some (x, rest)
unfolding reply_at
reply_again (reply.Success physical attrs) rest h = pick_again (λ (p : Named). text_bytes p.0 ++ dict_bytes p.1) (λ p. IsText p.0 × IsDict p.1) (then_at text_at properties_at) (λ p. Some (reply.Success p.0 p.1)) codes_named (physical, attrs) (reply.Success physical attrs) rest h refl
reply_again (reply.Failed c) rest h = pick_again (λ d. number_of d ∷ []) (λ d. Unit {0}) (pick_at code_of byte_at) (λ d. Some (reply.Failed d)) codes_code c (reply.Failed c) rest tt refl
reply_again reply.Doubt rest h = refl

pub codes_reply : Codes reply_bytes IsReply reply_at
codes_reply = record { takes = reply_takes; again = reply_again }

-- ---- sources, and what an operation sets out to do

ordered : {X : Type 0} (spell : List ℕ × X → List ℕ) (Is : List ℕ × X → Type 0) (one : List ℕ → Option ((List ℕ × X) × List ℕ)) → Codes spell Is one → Codes (list_bytes spell) (λ ps. AreAll Is ps × IsTrue (ascends ps)) (pick_at ordered_of (list_at one))
ordered spell Is one c = codes_pick (list_bytes spell) (AreAll Is) (list_at one) ordered_of (list_bytes spell) (λ ps. AreAll Is ps × IsTrue (ascends ps)) (codes_list spell Is one c)
    (λ a b fits e. let t = test_some (ascends a) a b e in (ap (list_bytes spell) t.1, subst (λ ps. AreAll Is ps × IsTrue (ascends ps)) t.1 (fits, t.0)))
    (λ b h. (b, h.0, rw h.1 refl, refl))

abbrev Fields : Type 0
Fields = List ℕ × (List (List ℕ × List ℕ) × (List (List ℕ × List ℕ) × List (List ℕ × List ℕ)))

codes_fields : Codes (λ (p : Fields). text_bytes p.0 ++ (list_bytes pair_bytes p.1.0 ++ (list_bytes pair_bytes p.1.1.0 ++ list_bytes pair_bytes p.1.1.1))) (λ p. IsText p.0 × ((AreAll IsTemplate p.1.0 × IsTrue (ascends p.1.0)) × ((AreAll IsPair p.1.1.0 × IsTrue (ascends p.1.1.0)) × (AreAll IsPair p.1.1.1 × IsTrue (ascends p.1.1.1))))) (then_at text_at (then_at (pick_at ordered_of (list_at template_at)) (then_at (pick_at ordered_of (list_at pair_at)) (pick_at ordered_of (list_at pair_at)))))
codes_fields =
    let templates = ordered pair_bytes IsTemplate template_at codes_template in
    let pairs = ordered pair_bytes IsPair pair_at codes_pair in
    codes_then text_bytes IsText text_at _ _ _ codes_text (codes_then _ _ _ _ _ _ templates (codes_then _ _ _ _ _ _ pairs pairs))

-- a source that tells this stack, and the number 0
abbrev pub IsSourceFor : List ℕ → Source → Type 0
IsSourceFor stack s = IsSource s × IsFor stack s

pub codes_source : (stack : List ℕ) → Codes source_bytes (IsSourceFor stack) (source_at stack)
unfolding source_at
codes_source stack = codes_pick _ _ _ (source_read stack) source_bytes (IsSourceFor stack) codes_fields
    (λ p s fits e. subst (λ z. ((text_bytes p.0 ++ (list_bytes pair_bytes p.1.0 ++ (list_bytes pair_bytes p.1.1.0 ++ list_bytes pair_bytes p.1.1.1))) ≡ source_bytes z) × IsSourceFor stack z) (some_is (record { root = p.0; texts = p.1.0; given = p.1.1.0; imports = p.1.1.1; stack = stack; number = 0 }) s e) (refl, ((fits.0, fits.1.0, fits.1.1.0, fits.1.1.1), (refl, refl))))
    (λ s h. ((s.root, (s.texts, (s.given, s.imports))), (h.0.0, (h.0.1, (h.0.2, h.0.3))), (λ i. Some (record { root = s.root; texts = s.texts; given = s.given; imports = s.imports; stack = sym h.1.0 i; number = sym h.1.1 i })), refl))

abbrev Parts : Type 0
Parts = ℕ × (Option Source × List (List ℕ))

abbrev parts_spelling : Parts → List ℕ
parts_spelling p = (p.0 ∷ []) ++ (option_bytes source_bytes p.1.0 ++ list_bytes text_bytes p.1.1)

abbrev AreParts : List ℕ → Parts → Type 0
AreParts stack p = (p.0 < 256) × (IfSome p.1.0 (IsSourceFor stack) × AreAll IsText p.1.1)

codes_parts : (stack : List ℕ) → Codes parts_spelling (AreParts stack) (then_at byte_at (then_at (option_at (source_at stack)) (list_at text_at)))
codes_parts stack = codes_then _ _ _ _ _ _ codes_byte (codes_then _ _ _ _ _ _ (codes_option source_bytes (IsSourceFor stack) (source_at stack) (codes_source stack)) (codes_list text_bytes IsText text_at codes_text))

begun_there : (stack : List ℕ) (k : ℕ) (o : Option Source) (ps : List (List ℕ)) (b : Begun) → AreParts stack (k, (o, ps)) → begun_of (k, (o, ps)) ≡ Some b → (parts_spelling (k, (o, ps)) ≡ begun_bytes b) × IsBegun stack b
begun_there stack k (Some s) [] b fits e =
    let Goal : ℕ → Begun → Type 0 = λ n c. (parts_spelling (n, (Some s, [])) ≡ begun_bytes c) × IsBegun stack c in
    elim (if_some (eqb k 1) (Some (begun.Create s)) (cond (eqb k 2) (Some (begun.Update s)) None) b e) [
      | inl a ↦ subst (λ n. Goal n b) (sym (eqb-true _ _ a.0)) (subst (Goal 1) (some_is (begun.Create s) b a.1) (refl, fits.1.0))
      | inr a ↦ let t = test_some (eqb k 2) (begun.Update s) b a.1 in subst (λ n. Goal n b) (sym (eqb-true _ _ t.0)) (subst (Goal 2) t.1 (refl, fits.1.0))
    ]
begun_there stack k (Some s) (p ∷ ps) b fits e = absurd cc
begun_there stack k None ps b fits e =
    let Goal : ℕ → Begun → Type 0 = λ n c. (parts_spelling (n, (None, ps)) ≡ begun_bytes c) × IsBegun stack c in
    let u = test_bind (texts_ascend ps) (cond (eqb k 3) (Some (begun.Delete ps)) (cond (eqb k 4) (Some (begun.Continue ps)) None)) b e in
    elim (if_some (eqb k 3) (Some (begun.Delete ps)) (cond (eqb k 4) (Some (begun.Continue ps)) None) b u.1) [
      | inl a ↦ subst (λ n. Goal n b) (sym (eqb-true _ _ a.0)) (subst (Goal 3) (some_is (begun.Delete ps) b a.1) (refl, (fits.1.1, u.0)))
      | inr a ↦ let t = test_some (eqb k 4) (begun.Continue ps) b a.1 in subst (λ n. Goal n b) (sym (eqb-true _ _ t.0)) (subst (Goal 4) t.1 (refl, (fits.1.1, u.0)))
    ]

begun_back : (stack : List ℕ) (b : Begun) → IsBegun stack b → (p : Parts) × AreParts stack p × (begun_of p ≡ Some b) × (parts_spelling p ≡ begun_bytes b)
begun_back stack (begun.Create s) h = ((1, (Some s, [])), (omega arith, (h, (omega arith, tt))), refl, refl)
begun_back stack (begun.Update s) h = ((2, (Some s, [])), (omega arith, (h, (omega arith, tt))), refl, refl)
begun_back stack (begun.Delete ps) h = ((3, (None, ps)), (omega arith, (tt, h.0)), rw h.1 refl, refl)
begun_back stack (begun.Continue ps) h = ((4, (None, ps)), (omega arith, (tt, h.0)), rw h.1 refl, refl)

pub codes_begun : (stack : List ℕ) → Codes begun_bytes (IsBegun stack) (begun_at stack)
unfolding begun_at
codes_begun stack = codes_pick parts_spelling (AreParts stack) (then_at byte_at (then_at (option_at (source_at stack)) (list_at text_at))) begun_of begun_bytes (IsBegun stack) (codes_parts stack)
    (λ p b fits e. begun_there stack p.0 p.1.0 p.1.1 b fits e)
    (begun_back stack)

-- ---- the status in which an operation ends

status_back : (s : Status) → IsTrue (is_end s) → (status_number s < 256) × (status_numbered (status_number s) ≡ Some s)
status_back status.CreateInProgress h = absurd cc
status_back status.CreateComplete h = (omega arith, refl)
status_back status.RollbackInProgress h = absurd cc
status_back status.RollbackComplete h = (omega arith, refl)
status_back status.RollbackFailed h = (omega arith, refl)
status_back status.UpdateInProgress h = absurd cc
status_back status.UpdateCompleteCleanupInProgress h = absurd cc
status_back status.UpdateComplete h = (omega arith, refl)
status_back status.UpdateRollbackInProgress h = absurd cc
status_back status.UpdateRollbackCompleteCleanupInProgress h = absurd cc
status_back status.UpdateRollbackComplete h = (omega arith, refl)
status_back status.UpdateRollbackFailed h = (omega arith, refl)
status_back status.DeleteInProgress h = absurd cc
status_back status.DeleteComplete h = (omega arith, refl)
status_back status.DeleteFailed h = (omega arith, refl)
status_back status.ReviewInProgress h = absurd cc

status_there : (n : ℕ) (s : Status) → status_numbered n ≡ Some s → n ≡ status_number s
status_there n s e = sym (eqb-true _ _ (found_holds (λ d. status_number d == n) all_statuses s e))

codes_status : Codes (λ s. status_number s ∷ []) (λ s. (status_number s < 256) × (status_numbered (status_number s) ≡ Some s)) (pick_at status_numbered byte_at)
codes_status = codes_pick (λ b. b ∷ []) (λ b. b < 256) byte_at status_numbered (λ s. status_number s ∷ []) (λ s. (status_number s < 256) × (status_numbered (status_number s) ≡ Some s)) codes_byte
    (λ n s fits e. let i = status_there n s e in (ap (λ m. m ∷ []) i, (subst (λ m. m < 256) i fits, subst (λ m. status_numbered m ≡ Some s) i e)))
    (λ s h. (status_number s, h.0, h.1, refl))

pub codes_end : Codes (λ s. status_number s ∷ []) (λ s. IsTrue (is_end s)) (pick_at end_of (pick_at status_numbered byte_at))
codes_end = codes_pick _ _ _ end_of (λ s. status_number s ∷ []) (λ s. IsTrue (is_end s)) codes_status
    (λ a b fits e. let t = test_some (is_end a) a b e in (ap (λ s. status_number s ∷ []) t.1, subst (λ s. IsTrue (is_end s)) t.1 t.0))
    (λ b h. (b, status_back b h, rw h refl, refl))

-- ---- causes

abbrev Blame : Type 0
Blame = List ℕ × Reason

abbrev blame_bytes : Blame → List ℕ
blame_bytes p = text_bytes p.0 ++ (reason_number p.1 ∷ [])

abbrev IsBlame : Blame → Type 0
IsBlame p = IsText p.0 × Unit {0}

codes_blame : Codes blame_bytes IsBlame (then_at text_at (pick_at reason_of byte_at))
codes_blame = codes_then _ _ _ _ _ _ codes_text codes_reason

cause_takes_at : (k : ℕ) (bytes : List ℕ) (x : Cause) (rest : List ℕ) → IsBytes bytes → cause_at (k ∷ bytes) ≡ Some (x, rest) → Taken cause_bytes IsCauseText (k ∷ bytes) x rest
unfolding cause_at
cause_takes_at k bytes x rest h e =
    let Goal : ℕ → Type 0 = λ n. Taken cause_bytes IsCauseText (n ∷ bytes) x rest in
    first_of_3 (x, rest) (Goal k) k 1 2 3
    (pick_at (λ p. Some (cause.Handler p.0 p.1)) (then_at text_at (pick_at reason_of byte_at)) bytes) (pick_at (λ t. Some (cause.Plan t)) text_at bytes) (pick_at (λ t. Some (cause.Export t)) text_at bytes)
    e
    (λ i f. subst Goal (sym i) (tagged 1 (λ p. Some (cause.Handler p.0 p.1)) blame_bytes IsBlame (then_at text_at (pick_at reason_of byte_at)) cause_bytes IsCauseText codes_blame
    (λ p y fits g. subst (λ z. (1 ∷ blame_bytes p ≡ cause_bytes z) × IsCauseText z) (some_is (cause.Handler p.0 p.1) y g) (refl, fits.0)) bytes x rest h f))
    (λ i f. subst Goal (sym i) (tagged 2 (λ t. Some (cause.Plan t)) text_bytes IsText text_at cause_bytes IsCauseText codes_text
    (λ t y fits g. subst (λ z. (2 ∷ text_bytes t ≡ cause_bytes z) × IsCauseText z) (some_is (cause.Plan t) y g) (refl, fits)) bytes x rest h f))
    (λ i f. subst Goal (sym i) (tagged 3 (λ t. Some (cause.Export t)) text_bytes IsText text_at cause_bytes IsCauseText codes_text
    (λ t y fits g. subst (λ z. (3 ∷ text_bytes t ≡ cause_bytes z) × IsCauseText z) (some_is (cause.Export t) y g) (refl, fits)) bytes x rest h f))

cause_takes : (bytes : List ℕ) (x : Cause) (rest : List ℕ) → IsBytes bytes → cause_at bytes ≡ Some (x, rest) → Taken cause_bytes IsCauseText bytes x rest
unfolding cause_at
cause_takes [] x rest h e = absurd cc
cause_takes (k ∷ bytes) x rest h e = cause_takes_at k bytes x rest (IsBytes-rest k bytes h) e

cause_again : (x : Cause) (rest : List ℕ) → IsCauseText x → cause_at (cause_bytes x ++ rest) ≡ Some (x, rest)
unfolding cause_at
cause_again (cause.Handler path reason) rest h = pick_again blame_bytes IsBlame (then_at text_at (pick_at reason_of byte_at)) (λ p. Some (cause.Handler p.0 p.1)) codes_blame (path, reason) (cause.Handler path reason) rest (h, tt) refl
cause_again (cause.Plan fault) rest h = pick_again text_bytes IsText text_at (λ t. Some (cause.Plan t)) codes_text fault (cause.Plan fault) rest h refl
cause_again (cause.Export name) rest h = pick_again text_bytes IsText text_at (λ t. Some (cause.Export t)) codes_text name (cause.Export name) rest h refl

pub codes_cause : Codes cause_bytes IsCauseText cause_at
codes_cause = record { takes = cause_takes; again = cause_again }

-- ---- rows

codes_detail : Codes detail_bytes IsDetail detail_at
unfolding detail_at
codes_detail = codes_pick _ _ _ detail_of detail_bytes IsDetail (codes_then _ _ _ _ _ _ codes_attribute (codes_then _ _ _ _ _ _ codes_text (codes_then _ _ _ _ _ _ codes_recreation codes_evaluation)))
    (λ p d fits e. let t = test_some (is_named p.0 p.1.0) (record { attribute = p.0; name = p.1.0; recreation = p.1.1.0; evaluation = p.1.1.1 }) d e in subst (λ z. (((attribute_number p.0 ∷ []) ++ (text_bytes p.1.0 ++ ((recreation_number p.1.1.0 ∷ []) ++ (evaluation_number p.1.1.1 ∷ [])))) ≡ detail_bytes z) × IsDetail z) t.1 (refl, (fits.1.0, t.0)))
    (λ d h. ((d.attribute, (d.name, (d.recreation, d.evaluation))), (tt, (h.0, (tt, tt))), ap (λ (b : Bool). cond b (Some d) None) h.1, refl))

pub codes_row : Codes row_bytes IsRow row_at
unfolding row_at
codes_row = codes_pick _ _ _ row_of row_bytes IsRow (codes_then _ _ _ _ _ _ codes_action (codes_then _ _ _ _ _ _ codes_text (codes_then _ _ _ _ _ _ codes_text (codes_then _ _ _ _ _ _ codes_replacement (codes_then _ _ _ _ _ _ codes_truth (codes_list detail_bytes IsDetail detail_at codes_detail))))))
    (λ p r fits e. subst (λ z. (((action_number p.0 ∷ []) ++ (text_bytes p.1.0 ++ (text_bytes p.1.1.0 ++ ((replacement_number p.1.1.1.0 ∷ []) ++ ((truth_byte p.1.1.1.1.0 ∷ []) ++ list_bytes detail_bytes p.1.1.1.1.1))))) ≡ row_bytes z) × IsRow z) (some_is (record { action = p.0; path = p.1.0; kind = p.1.1.0; replacement = p.1.1.1.0; unsure = p.1.1.1.1.0; details = p.1.1.1.1.1 }) r e) (refl, (fits.1.0, fits.1.1.0, fits.1.1.1.1.1)))
    (λ r h. ((r.action, (r.path, (r.kind, (r.replacement, (r.unsure, r.details))))), (tt, (h.0, (h.1, (tt, (tt, h.2))))), refl, refl))
