-- The handler in memory keeps what it promises when one more call is settled.
use Rattle.std.proofs.Common.{IfSome, Result, Ok, Err, IfOk, OnErr, ◌⊎◌, inl, inr}
use Rattle.std.proofs.Common.{◌≡◌, ℕ, ◌+◌, ◌^◌, ◌<◌, ◌≤◌, ◌==◌, pos, Bool, true, false, cond, ◌&&◌, ◌||◌, List, [], ◌∷◌, ◌++◌, length, Option, Some, None, refl, ap, sym, ◌∙◌, true≢false, map, arith, subst, nat_le, codes, eq-eqb, length-append}
use Rattle.std.specs.Prelude.{not, find, filter}
use Rattle.std.specs.List.{list_all}
use Rattle.std.specs.Str.{bytes_eq}
use Rattle.std.specs.Fmt.{decimal}
use Rattle.std.specs.Cmp.{first_so, second_so}
use Rattle.std.specs.Ordering.{nat_cmp, match_ordering}
use Rattle.std.specs.declared.cmp.Ordering.{Ordering}
use Rattle.std.specs.declared.cmp.Ordering.TheVariants.{Less, Equal, Greater}
use Rattle.std.specs.Cmp.Lexicographic.{slice_cmp}
use Rattle.std.proofs.lemmas.Bool.{leb-true, le-leb, ltb-true, lt-ltb}
use Rattle.std.proofs.lemmas.List.{append_cancel_left}
use Rattle.std.proofs.lemmas.Slice.Eq.{bytes_eq-Decides}
use Rattle.std.proofs.lemmas.Fmt.{decimal_injective, length-decimal-le}
use Rattle.cf_tree.specs.Datum.{Data, text, whole}
use Rattle.cf_tree.specs.Keys.{put}
use Rattle.cf_tree.specs.SizeOf.{size_of, size_of_text, size_of_dict}
use Rattle.cf_tree.specs.declared.request.Request.{Request}
use Rattle.cf_tree.specs.declared.request.Request.TheVariants.{Create, Update, Delete}
use Rattle.cf_handler.specs.declared.settled.Settlement.{Settlement}
use Rattle.cf_handler.specs.declared.settled.Settlement.TheVariants.{Success, Failed}
use Rattle.cf_handler.specs.declared.settled.Settled.{Settled}
use Rattle.cf_handler.specs.Move.{IsOfLane, MaySettle, LaneMove, with_settled}
use Rattle.cf_handler.specs.Answered.{answer_of}
use Rattle.cf_tree.specs.declared.request.Answer.{Answer}
use Rattle.cf_tree.specs.declared.request.Look.{Look}
use Rattle.cf_handler.specs.Look.{ShowsShort}
use Rattle.cf_tree.specs.declared.request.Answer.TheVariants as answer
use Rattle.cf_tree.specs.declared.code.Code.{Code}
use Rattle.cf_tree.specs.declared.code.Code.TheVariants as code
use Rattle.cf_schema.specs.declared.described.Schema.{Schema}
use Rattle.cf_fake.specs.declared.planned.Break.{Break}
use Rattle.cf_fake.specs.declared.planned.Break.TheVariants.{Refuse, FaultBefore, FaultAfter, FaultLater, FenceFault}
use Rattle.cf_fake.specs.Refusable.{may_refuse, may_break}
use Rattle.cf_fake.specs.Plan.{settled_by, told_by, IsWorked, new_entry}
use Rattle.cf_handler.specs.Lane.{LaneState, Live, live_after, live_of, live_changed, updated, has_id, is_used, succeeded_with, settlement_of}
use Rattle.cf_handler.specs.Name.{is_lane_name}
use Rattle.cf_answers.proofs.Free.{known-by}
use Rattle.cf_answers.proofs.Differ.{updated_id, differ_updated, differ_filtered, differ_made}
use Rattle.cf_answers.specs.Table.{id_of, is_of_id, is_settable, is_there, are_valid, is_taken, is_fixed, measured, attrs_of, update_answer, delete_answer, answer_to, look_at}
use Rattle.cf_answers.specs.Live.{differ, lives}
use Rattle.cf_answers.specs.declared.live.LiveResource.{LiveResource}
use Rattle.std.specs.declared.alloc.AllocError.{AllocError}
use Rattle.cf_fake.specs.Sound.{AnswersInLane, is_made_by, is_known, is_sound, are_sound, are_known, are_short, lane_of, IsSoundTable}

both : (a b : Bool) → a ≡ true → b ≡ true → (a && b) ≡ true
both true b h g = g
both false b h g = h

or_left : (a b : Bool) → a ≡ true → (a || b) ≡ true
or_left true b h = refl
or_left false b h = absurd (true≢false (sym h))

or_right : (a b : Bool) → b ≡ true → (a || b) ≡ true
or_right true b h = refl
or_right false b h = h

neither : (a b : Bool) → a ≡ false → b ≡ false → (a || b) ≡ false
neither true b h g = h
neither false b h g = g

-- what is live after one more call
pub live_more : (live : List Live) (ss : List Settled) (s : Settled) → live_after live (ss ++ s ∷ []) ≡ live_changed s.request s.settlement (live_after live ss)
live_more live [] s = refl
live_more live (x ∷ ss) s = live_more (live_changed x.request x.settlement live) ss s

-- an id that a token made is made by it still
known_more : (name : List ℕ) (ss : List Settled) (s : Settled) (id : List ℕ) → is_known name ss id ≡ true → is_known name (ss ++ s ∷ []) id ≡ true
known_more name [] s id h = absurd (true≢false (sym h))
known_more name (x ∷ ss) s id h = known-by (is_made_by name id x) (is_known name ss id) (is_known name (ss ++ s ∷ []) id) (known_more name ss s id) h

-- the new entry makes the id of its own token
known_new : (name : List ℕ) (ss : List Settled) (s : Settled) → s.token < 2 ^ 64 → is_known name (ss ++ s ∷ []) (id_of name s.token) ≡ true
known_new name [] s t = or_left _ _ (both _ _ ((bytes_eq-Decides (id_of name s.token) (id_of name s.token)).1 refl) (lt-ltb _ _ t))
known_new name (x ∷ ss) s t = or_right (is_made_by name (id_of name s.token) x) _ (known_new name ss s t)

sound_still : (name : List ℕ) (all : List Settled) (s : Settled) (x : Settlement) → is_sound name all x ≡ true → is_sound name (all ++ s ∷ []) x ≡ true
sound_still name all s (Success physical attrs) h = both _ _ (known_more name all s physical (first_so _ _ h)) (second_so (is_known name all physical) _ h)
sound_still name all s (Failed c) h = h

sounds_still : (name : List ℕ) (all : List Settled) (s : Settled) (ss : List Settled) → are_sound name all ss ≡ true → are_sound name (all ++ s ∷ []) ss ≡ true
sounds_still name all s [] h = refl
sounds_still name all s (x ∷ ss) h = both _ _ (sound_still name all s x.settlement (first_so _ _ h)) (sounds_still name all s ss (second_so (is_sound name all x.settlement) _ h))

sounds_with : (name : List ℕ) (all ss : List Settled) (s : Settled) → are_sound name all ss ≡ true → is_sound name all s.settlement ≡ true → are_sound name all (ss ++ s ∷ []) ≡ true
sounds_with name all [] s h g = both _ _ g refl
sounds_with name all (x ∷ ss) s h g = both _ _ (first_so _ _ h) (sounds_with name all ss s (second_so (is_sound name all x.settlement) _ h) g)

pub sound_more : (name : List ℕ) (ss : List Settled) (s : Settled) → are_sound name ss ss ≡ true → is_sound name (ss ++ s ∷ []) s.settlement ≡ true → are_sound name (ss ++ s ∷ []) (ss ++ s ∷ []) ≡ true
sound_more name ss s h g = sounds_with name (ss ++ s ∷ []) ss s (sounds_still name ss s ss h) g

knowns_still : (name : List ℕ) (ss : List Settled) (s : Settled) (live : List Live) → are_known name ss live ≡ true → are_known name (ss ++ s ∷ []) live ≡ true
knowns_still name ss s [] h = refl
knowns_still name ss s (r ∷ rs) h = both _ _ (known_more name ss s r.id (first_so _ _ h)) (knowns_still name ss s rs (second_so (is_known name ss r.id) _ h))

-- a pair that is put in adds its own size at most
size-by : (k : List ℕ) (v : Data) (p : List ℕ × Data) (ps : List (List ℕ × Data)) (o : Ordering) → size_of_dict (put k v ps) ≤ size_of_dict ps + size_of_text k + size_of v → size_of_dict (match_ordering o ((k, v) ∷ p ∷ ps) ((p.0, v) ∷ ps) (p ∷ put k v ps)) ≤ size_of_dict (p ∷ ps) + size_of_text k + size_of v
size-by k v p ps Less h = omega arith
size-by k v p ps Equal h = omega arith
size-by k v p ps Greater h = omega (arith, h)

size_put : (k : List ℕ) (v : Data) (ps : List (List ℕ × Data)) → size_of_dict (put k v ps) ≤ size_of_dict ps + size_of_text k + size_of v
size_put k v [] = omega arith
size_put k v (p ∷ ps) = size-by k v p ps (slice_cmp nat_cmp k p.0) (size_put k v ps)

-- an id is short, since names are
name_short : (name : List ℕ) → is_lane_name name ≡ true → length name ≤ 64
name_short name n = leb-true _ _ (first_so _ _ (second_so (nat_le 1 (length name)) _ n))

below_20 : (n : ℕ) → n < 2 ^ 64 → n < 10 ^ 20
below_20 n h = omega (arith, h)

id_short : (name : List ℕ) (token : ℕ) → is_lane_name name ≡ true → token < 2 ^ 64 → length (id_of name token) ≤ 85
id_short name token n t =
    let digits : length (decimal token) ≤ 20 = length-decimal-le 20 token (omega arith) (below_20 token t) t in
    rw (length-append name (58 ∷ decimal token)) (omega (arith, name_short name n, digits))

-- so the attributes of a resource are short
attrs_short : (g : Schema) (id : List ℕ) (props : List (List ℕ × Data)) → length id ≤ 85 → are_valid g props ≡ true → size_of_dict (attrs_of id props) ≤ 524288
attrs_short g id props h f =
    let short : size_of_dict props ≤ 262144 = leb-true _ _ (second_so (list_all (is_there props) g.required) _ (second_so (list_all (is_settable g) props) _ f)) in
    omega (arith, short, h, size_put (codes "Id") (text id) props, size_put (codes "Length") (whole (pos (length (measured props)))) (put (codes "Id") (text id) props))

either : (a b : Bool) → (a || b) ≡ true → (a ≡ true) ⊎ (b ≡ true)
either true b h = inl refl
either false b h = inr h

-- an id that a token made is short
known_short : (name : List ℕ) (ss : List Settled) (id : List ℕ) → is_lane_name name ≡ true → is_known name ss id ≡ true → length id ≤ 85
known_short name [] id n h = absurd (true≢false (sym h))
known_short name (x ∷ ss) id n h =
    elim (either (is_made_by name id x) (is_known name ss id) h) [
      | inl d ↦ subst (λ i. length i ≤ 85) ((bytes_eq-Decides (id_of name x.token) id).0 (first_so _ _ d)) (id_short name x.token n (ltb-true _ _ (second_so (bytes_eq (id_of name x.token) id) _ d)))
      | inr d ↦ known_short name ss id n d
    ]

-- and of the lane
known_of_lane : (name : List ℕ) (ss : List Settled) (id : List ℕ) → is_known name ss id ≡ true → IsOfLane name id
known_of_lane name [] id h = absurd (true≢false (sym h))
known_of_lane name (x ∷ ss) id h =
    elim (either (is_made_by name id x) (is_known name ss id) h) [
      | inl d ↦ (decimal x.token, sym ((bytes_eq-Decides (id_of name x.token) id).0 (first_so _ _ d)))
      | inr d ↦ known_of_lane name ss id d
    ]

some≢none : (X : Type 0) (x : X) → Some x ≡ None → ⊥
some≢none X x h = cc

-- an id is that of its token alone
same_token : (name : List ℕ) (m n : ℕ) → m < 2 ^ 64 → n < 2 ^ 64 → id_of name m ≡ id_of name n → m ≡ n
same_token name m n h g e = decimal_injective m n h g (append_cancel_left (58 ∷ []) _ _ (append_cancel_left name _ _ e))

not_both : (b : Bool) → (b ≡ true → ⊥) → b ≡ false
not_both true h = absurd (h refl)
not_both false h = refl

some_not_none : (b : Bool) (s : Option Settlement) (x : Settlement) → cond b (Some x) s ≡ None → (b ≡ false) × (s ≡ None)
some_not_none true s x h = absurd (some≢none Settlement x h)
some_not_none false s x h = (refl, h)

unlike_token : (a b : ℕ) (s : Option Settlement) (x : Settlement) → cond (a == b) (Some x) s ≡ None → a ≡ b → ⊥
unlike_token a b s x h e = true≢false (sym (eq-eqb a b e) ∙ (some_not_none (a == b) s x h).0)

unlike_later : (a b : ℕ) (s : Option Settlement) (x : Settlement) → cond (a == b) (Some x) s ≡ None → s ≡ None
unlike_later a b s x h = (some_not_none (a == b) s x h).1

-- no settled token made the id of a new one
unknown : (name : List ℕ) (token : ℕ) (ss : List Settled) → token < 2 ^ 64 → settlement_of token ss ≡ None → is_known name ss (id_of name token) ≡ false
unknown name token [] t e = refl
unknown name token (x ∷ ss) t e =
    neither _ _ (not_both _ (λ b. unlike_token token x.token (settlement_of token ss) x.settlement e (same_token name token x.token t (ltb-true _ _ (second_so (bytes_eq (id_of name x.token) (id_of name token)) _ b)) (sym ((bytes_eq-Decides (id_of name x.token) (id_of name token)).0 (first_so _ _ b))))))
    (unknown name token ss t (unlike_later token x.token (settlement_of token ss) x.settlement e))

not_succeeded : (name : List ℕ) (all : List Settled) (id : List ℕ) (s : Settlement) → is_sound name all s ≡ true → is_known name all id ≡ false → succeeded_with id s ≡ false
not_succeeded name all id (Success physical attrs) h u = not_both _ (λ b. true≢false (sym (first_so _ _ h) ∙ ap (is_known name all) (sym ((bytes_eq-Decides id physical).0 b)) ∙ u))
not_succeeded name all id (Failed c) h u = refl

none_succeeded : (name : List ℕ) (all ss : List Settled) (id : List ℕ) → are_sound name all ss ≡ true → is_known name all id ≡ false → is_used id (lane_of ss) ≡ false
none_succeeded name all [] id h u = refl
none_succeeded name all (x ∷ ss) id h u =
    neither _ _ (not_succeeded name all id x.settlement (first_so _ _ h) u) (none_succeeded name all ss id (second_so (is_sound name all x.settlement) _ h) u)

-- what the look-up by id finds
found_by : (b : Bool) (x r : Live) (o : Option Live) (c : Bool) → (o ≡ Some r → c ≡ true) → cond b (Some x) o ≡ Some r → (b || c) ≡ true
found_by true x r o c f h = refl
found_by false x r o c f h = f h

found_has : (id : List ℕ) (live : List Live) (r : Live) → find (is_of_id id) live ≡ Some r → has_id id live ≡ true
found_has id [] r h = absurd (some≢none Live r (sym h))
found_has id (x ∷ xs) r h = found_by (is_of_id id x) x r (find (is_of_id id) xs) (has_id id xs) (found_has id xs r) h

nowhere_by : (b : Bool) (x : Live) (o : Option Live) (c : Bool) → (o ≡ None → c ≡ false) → cond b (Some x) o ≡ None → (b || c) ≡ false
nowhere_by true x o c f h = absurd (some≢none Live x h)
nowhere_by false x o c f h = f h

nowhere_has : (id : List ℕ) (live : List Live) → find (is_of_id id) live ≡ None → has_id id live ≡ false
nowhere_has id [] h = refl
nowhere_has id (x ∷ xs) h = nowhere_by (is_of_id id x) x (find (is_of_id id) xs) (has_id id xs) (nowhere_has id xs) h

-- what is live has a known id
known_live : (name : List ℕ) (ss : List Settled) (live : List Live) (id : List ℕ) → are_known name ss live ≡ true → has_id id live ≡ true → is_known name ss id ≡ true
known_live name ss [] id k h = absurd (true≢false (sym h))
known_live name ss (r ∷ rs) id k h =
    elim (either (bytes_eq id r.id) (has_id id rs) h) [
      | inl d ↦ ap (is_known name ss) ((bytes_eq-Decides id r.id).0 d) ∙ first_so _ _ k
      | inr d ↦ known_live name ss rs id (second_so (is_known name ss r.id) _ k) d
    ]

-- ids after an update and after a deletion
knowns_updated : (name : List ℕ) (ss : List Settled) (id : List ℕ) (props attrs : List (List ℕ × Data)) (live : List Live) → are_known name ss (map (updated id props attrs) live) ≡ are_known name ss live
knowns_updated name ss id props attrs [] = refl
knowns_updated name ss id props attrs (r ∷ rs) = λ i. is_known name ss (updated_id id props attrs r i) && knowns_updated name ss id props attrs rs i

knowns_filtered-by : (b : Bool) (name : List ℕ) (ss : List Settled) (r : Live) (rs : List Live) → is_known name ss r.id ≡ true → are_known name ss rs ≡ true → are_known name ss (cond b (r ∷ rs) rs) ≡ true
knowns_filtered-by true name ss r rs h g = both _ _ h g
knowns_filtered-by false name ss r rs h g = g

knowns_filtered : (name : List ℕ) (ss : List Settled) (p : Live → Bool) (live : List Live) → are_known name ss live ≡ true → are_known name ss (filter p live) ≡ true
knowns_filtered name ss p [] h = refl
knowns_filtered name ss p (r ∷ rs) h = knowns_filtered-by (p r) name ss r (filter p rs) (first_so _ _ h) (knowns_filtered name ss p rs (second_so (is_known name ss r.id) _ h))

-- and after a creation
knowns_made : (name : List ℕ) (ss : List Settled) (live : List Live) (x : Live) → are_known name ss live ≡ true → is_known name ss x.id ≡ true → are_known name ss (live ++ x ∷ []) ≡ true
knowns_made name ss [] x h g = both _ true g refl
knowns_made name ss (r ∷ rs) x h g = both _ _ (first_so _ _ h) (knowns_made name ss rs x (second_so (is_known name ss r.id) _ h) g)

-- attributes stay short
shorts_made : (live : List Live) (x : Live) → are_short live ≡ true → nat_le (size_of_dict x.attrs) 524288 ≡ true → are_short (live ++ x ∷ []) ≡ true
shorts_made [] x h g = both _ true g refl
shorts_made (r ∷ rs) x h g = both _ _ (first_so _ _ h) (shorts_made rs x (second_so (nat_le (size_of_dict r.attrs) 524288) _ h) g)

short-by : (b : Bool) (props attrs : List (List ℕ × Data)) (r : Live) → nat_le (size_of_dict r.attrs) 524288 ≡ true → nat_le (size_of_dict attrs) 524288 ≡ true → nat_le (size_of_dict (cond b (record { id = r.id; kind = r.kind; props = props; attrs = attrs }) r).attrs) 524288 ≡ true
short-by true props attrs r h g = g
short-by false props attrs r h g = h

shorts_updated : (id : List ℕ) (props attrs : List (List ℕ × Data)) (live : List Live) → are_short live ≡ true → nat_le (size_of_dict attrs) 524288 ≡ true → are_short (map (updated id props attrs) live) ≡ true
shorts_updated id props attrs [] h g = refl
shorts_updated id props attrs (r ∷ rs) h g =
    both _ _ (short-by (bytes_eq id r.id) props attrs r (first_so _ _ h) g) (shorts_updated id props attrs rs (second_so (nat_le (size_of_dict r.attrs) 524288) _ h) g)

shorts_filtered-by : (b : Bool) (r : Live) (rs : List Live) → nat_le (size_of_dict r.attrs) 524288 ≡ true → are_short rs ≡ true → are_short (cond b (r ∷ rs) rs) ≡ true
shorts_filtered-by true r rs h g = both _ _ h g
shorts_filtered-by false r rs h g = g

shorts_filtered : (p : Live → Bool) (live : List Live) → are_short live ≡ true → are_short (filter p live) ≡ true
shorts_filtered p [] h = refl
shorts_filtered p (r ∷ rs) h = shorts_filtered-by (p r) r (filter p rs) (first_so _ _ h) (shorts_filtered p rs (second_so (nat_le (size_of_dict r.attrs) 524288) _ h))

found_short-by : (b : Bool) (x : Live) (o : Option Live) → nat_le (size_of_dict x.attrs) 524288 ≡ true → ShowsShort (look_at o) → ShowsShort (look_at (cond b (Some x) o))
found_short-by true x o h g = leb-true _ _ h
found_short-by false x o h g = g

found_short : (id : List ℕ) (live : List Live) → are_short live ≡ true → ShowsShort (look_at (find (is_of_id id) live))
found_short id [] h = tt
found_short id (r ∷ rs) h = found_short-by (is_of_id id r) r (find (is_of_id id) rs) (first_so _ _ h) (found_short id rs (second_so (nat_le (size_of_dict r.attrs) 524288) _ h))

-- so a look shows short attributes
pub shows_short : (id : List ℕ) (live : List Live) (r : Result Look AllocError) → are_short live ≡ true → IfOk r (λ l. l ≡ look_at (find (is_of_id id) live)) → IfOk r ShowsShort
shows_short id live (Ok l) h e = subst ShowsShort (sym e) (found_short id live h)
shows_short id live (Err e) h f = tt

-- What a new token may be settled with, so that the lane moves and all stays kept.
record Fits (name : List ℕ) (ss : List Settled) (token : ℕ) (request : Request) (s : Settlement) : Type 0 where
  may : MaySettle name (lane_of ss) request s
  kept : IsSoundTable name (ss ++ record { token = token; request = request; settlement = s } ∷ [])
  short : AnswersInLane name (answer_of s)

kept_from : (name : List ℕ) (ss : List Settled) (x : Settled) → IsSoundTable name ss → is_sound name (ss ++ x ∷ []) x.settlement ≡ true → are_known name (ss ++ x ∷ []) (live_changed x.request x.settlement (live_of (lane_of ss))) ≡ true → differ (live_changed x.request x.settlement (live_of (lane_of ss))) ≡ true → are_short (live_changed x.request x.settlement (live_of (lane_of ss))) ≡ true → IsSoundTable name (ss ++ x ∷ [])
kept_from name ss x k s e d f = record {
  sound = sound_more name ss x k.sound s;
  known = subst (λ live. are_known name (ss ++ x ∷ []) live ≡ true) (sym (live_more [] ss x)) e;
  differ = subst (λ live. differ live ≡ true) (sym (live_more [] ss x)) d;
  short = subst (λ live. are_short live ≡ true) (sym (live_more [] ss x)) f;
}

failed_same : (request : Request) (c : Code) (live : List Live) → live_changed request (Failed c) live ≡ live
failed_same (Create kind props) c live = refl
failed_same (Update id props) c live = refl
failed_same (Delete id) c live = refl

fits_failed : (name : List ℕ) (ss : List Settled) (token : ℕ) (request : Request) (c : Code) → IsSoundTable name ss → MaySettle name (lane_of ss) request (Failed c) → Fits name ss token request (Failed c)
fits_failed name ss token request c k m =
    let x : Settled = record { token = token; request = request; settlement = Failed c } in
    record {
      may = m;
      kept = kept_from name ss x k refl
          (subst (λ live. are_known name (ss ++ x ∷ []) live ≡ true) (sym (failed_same request c (live_of (lane_of ss)))) (knowns_still name ss x (live_of (lane_of ss)) k.known))
          (subst (λ live. differ live ≡ true) (sym (failed_same request c (live_of (lane_of ss)))) k.differ)
          (subst (λ live. are_short live ≡ true) (sym (failed_same request c (live_of (lane_of ss)))) k.short);
      short = tt;
    }

fits_created : (g : Schema) (name : List ℕ) (ss : List Settled) (token : ℕ) (kind : List ℕ) (props : List (List ℕ × Data)) → is_lane_name name ≡ true → token < 2 ^ 64 → IsSoundTable name ss → settlement_of token ss ≡ None → are_valid g props ≡ true → Fits name ss token (Create kind props) (Success (id_of name token) (attrs_of (id_of name token) props))
fits_created g name ss token kind props n t k e v =
    let id : List ℕ = id_of name token in
    let x : Settled = record { token = token; request = Create kind props; settlement = Success id (attrs_of id props) } in
    let made : Live = record { id = id; kind = kind; props = props; attrs = attrs_of id props } in
    let size : size_of_dict (attrs_of id props) ≤ 524288 = attrs_short g id props (id_short name token n t) v in
    let new : is_known name ss id ≡ false = unknown name token ss t e in
    record {
      may = ((decimal token, refl), omega (arith, id_short name token n t), none_succeeded name ss ss id k.sound new, size);
      kept = kept_from name ss x k (both _ _ (known_new name ss x t) (le-leb _ _ size))
          (knowns_made name (ss ++ x ∷ []) (live_of (lane_of ss)) made (knowns_still name ss x (live_of (lane_of ss)) k.known) (known_new name ss x t))
          (differ_made (live_of (lane_of ss)) made (not_both _ (λ b. true≢false (sym (known_live name ss (live_of (lane_of ss)) made.id k.known b) ∙ new))) k.differ) (shorts_made (live_of (lane_of ss)) made k.short (le-leb _ _ size));
      short = ((decimal token, refl), omega (arith, id_short name token n t), size);
    }

fits_updated : (g : Schema) (name : List ℕ) (ss : List Settled) (token : ℕ) (id : List ℕ) (props : List (List ℕ × Data)) → is_lane_name name ≡ true → IsSoundTable name ss → has_id id (live_of (lane_of ss)) ≡ true → are_valid g props ≡ true → Fits name ss token (Update id props) (Success id (attrs_of id props))
fits_updated g name ss token id props n k h v =
    let x : Settled = record { token = token; request = Update id props; settlement = Success id (attrs_of id props) } in
    let known : is_known name ss id ≡ true = known_live name ss (live_of (lane_of ss)) id k.known h in
    let size : size_of_dict (attrs_of id props) ≤ 524288 = attrs_short g id props (known_short name ss id n known) v in
    record {
      may = (refl, h, size);
      kept = kept_from name ss x k (both _ _ (known_more name ss x id known) (le-leb _ _ size))
          (knowns_updated name (ss ++ x ∷ []) id props (attrs_of id props) (live_of (lane_of ss)) ∙ knowns_still name ss x (live_of (lane_of ss)) k.known)
          (differ_updated id props (attrs_of id props) (live_of (lane_of ss)) ∙ k.differ)
          (shorts_updated id props (attrs_of id props) (live_of (lane_of ss)) k.short (le-leb _ _ size));
      short = (known_of_lane name ss id known, omega (arith, known_short name ss id n known), size);
    }

fits_deleted : (name : List ℕ) (ss : List Settled) (token : ℕ) (id : List ℕ) → is_lane_name name ≡ true → IsSoundTable name ss → has_id id (live_of (lane_of ss)) ≡ true → Fits name ss token (Delete id) (Success id [])
fits_deleted name ss token id n k h =
    let x : Settled = record { token = token; request = Delete id; settlement = Success id [] } in
    let known : is_known name ss id ≡ true = known_live name ss (live_of (lane_of ss)) id k.known h in
    let size : size_of_dict [] ≤ 524288 = omega arith in
    record {
      may = (refl, h, size);
      kept = kept_from name ss x k (both _ _ (known_more name ss x id known) (le-leb _ _ size))
          (knowns_filtered name (ss ++ x ∷ []) (λ r. not (bytes_eq id r.id)) (live_of (lane_of ss)) (knowns_still name ss x (live_of (lane_of ss)) k.known))
          (differ_filtered (λ r. not (bytes_eq id r.id)) (live_of (lane_of ss)) k.differ) (shorts_filtered (λ r. not (bytes_eq id r.id)) (live_of (lane_of ss)) k.short);
      short = (known_of_lane name ss id known, omega (arith, known_short name ss id n known), size);
    }

-- The answers of the table fit.
fits_create-by : (name : List ℕ) (ss : List Settled) (token : ℕ) (kind : List ℕ) (props : List (List ℕ × Data)) (valid taken : Bool) → IsSoundTable name ss → (valid ≡ true → Fits name ss token (Create kind props) (Success (id_of name token) (attrs_of (id_of name token) props))) → Fits name ss token (Create kind props) (cond valid (cond taken (Failed code.AlreadyExists) (Success (id_of name token) (attrs_of (id_of name token) props))) (Failed code.InvalidRequest))
fits_create-by name ss token kind props true true k h = fits_failed name ss token (Create kind props) code.AlreadyExists k tt
fits_create-by name ss token kind props true false k h = h refl
fits_create-by name ss token kind props false taken k h = fits_failed name ss token (Create kind props) code.InvalidRequest k tt

fits_update-by : (name : List ℕ) (ss : List Settled) (token : ℕ) (id : List ℕ) (props : List (List ℕ × Data)) (valid fixed : Bool) → IsSoundTable name ss → (valid ≡ true → Fits name ss token (Update id props) (Success id (attrs_of id props))) → Fits name ss token (Update id props) (cond valid (cond fixed (Failed code.NotUpdatable) (Success id (attrs_of id props))) (Failed code.InvalidRequest))
fits_update-by name ss token id props true true k h = fits_failed name ss token (Update id props) code.NotUpdatable k tt
fits_update-by name ss token id props true false k h = h refl
fits_update-by name ss token id props false fixed k h = fits_failed name ss token (Update id props) code.InvalidRequest k tt

fits_update : (g : Schema) (name : List ℕ) (ss : List Settled) (token : ℕ) (id : List ℕ) (props : List (List ℕ × Data)) (o : Option Live) → is_lane_name name ≡ true → IsSoundTable name ss → find (is_of_id id) (live_of (lane_of ss)) ≡ o → Fits name ss token (Update id props) (update_answer g id props o)
fits_update g name ss token id props None n k e = fits_failed name ss token (Update id props) code.NotFound k tt
fits_update g name ss token id props (Some r) n k e =
    fits_update-by name ss token id props (are_valid g props) (is_fixed g r.props props) k (λ v. fits_updated g name ss token id props n k (found_has id (live_of (lane_of ss)) r e) v)

fits_delete : (name : List ℕ) (ss : List Settled) (token : ℕ) (id : List ℕ) (o : Option Live) → is_lane_name name ≡ true → IsSoundTable name ss → find (is_of_id id) (live_of (lane_of ss)) ≡ o → Fits name ss token (Delete id) (delete_answer id o)
fits_delete name ss token id None n k e = fits_failed name ss token (Delete id) code.NotFound k (nowhere_has id (live_of (lane_of ss)) e)
fits_delete name ss token id (Some r) n k e = fits_deleted name ss token id n k (found_has id (live_of (lane_of ss)) r e)

fits_table : (g : Schema) (name : List ℕ) (ss : List Settled) (token : ℕ) (request : Request) → is_lane_name name ≡ true → token < 2 ^ 64 → IsSoundTable name ss → settlement_of token ss ≡ None → Fits name ss token request (answer_to g name token (live_of (lane_of ss)) request)
fits_table g name ss token (Create kind props) n t k e =
    fits_create-by name ss token kind props (are_valid g props) (is_taken g props (live_of (lane_of ss))) k (λ v. fits_created g name ss token kind props n t k e v)
fits_table g name ss token (Update id props) n t k e = fits_update g name ss token id props (find (is_of_id id) (live_of (lane_of ss))) n k refl
fits_table g name ss token (Delete id) n t k e = fits_delete name ss token id (find (is_of_id id) (live_of (lane_of ss))) n k refl

pub may_late : (g : Schema) (name : List ℕ) (ss : List Settled) (token : ℕ) (request : Request) → is_lane_name name ≡ true → token < 2 ^ 64 → IsSoundTable name ss → settlement_of token ss ≡ None → MaySettle name (lane_of ss) request (answer_to g name token (live_of (lane_of ss)) request)
may_late g name ss token request n t k e = (fits_table g name ss token request n t k e).may

may_refuse_deletion : (name : List ℕ) (lane : LaneState) (id : List ℕ) (c : Code) → may_refuse c ≡ true → MaySettle name lane (Delete id) (Failed c)
may_refuse_deletion name lane id code.NotUpdatable h = tt
may_refuse_deletion name lane id code.InvalidRequest h = tt
may_refuse_deletion name lane id code.AccessDenied h = tt
may_refuse_deletion name lane id code.InvalidCredentials h = tt
may_refuse_deletion name lane id code.AlreadyExists h = tt
may_refuse_deletion name lane id code.NotFound h = absurd (true≢false (sym h))
may_refuse_deletion name lane id code.ResourceConflict h = tt
may_refuse_deletion name lane id code.Throttling h = tt
may_refuse_deletion name lane id code.ServiceLimitExceeded h = tt
may_refuse_deletion name lane id code.NotStabilized h = tt
may_refuse_deletion name lane id code.GeneralServiceException h = tt
may_refuse_deletion name lane id code.ServiceInternalError h = tt
may_refuse_deletion name lane id code.NetworkFailure h = tt
may_refuse_deletion name lane id code.InternalFailure h = tt

refusal_settles : (name : List ℕ) (lane : LaneState) (request : Request) (c : Code) → may_refuse c ≡ true → MaySettle name lane request (Failed c)
refusal_settles name lane (Create kind props) c h = tt
refusal_settles name lane (Update id props) c h = tt
refusal_settles name lane (Delete id) c h = may_refuse_deletion name lane id c h

fits_new : (b : Option Break) (g : Schema) (name : List ℕ) (ss : List Settled) (token : ℕ) (request : Request) → is_lane_name name ≡ true → token < 2 ^ 64 → IsSoundTable name ss → settlement_of token ss ≡ None → IfSome b (λ x. may_break x ≡ true) → Fits name ss token request (settled_by b (answer_to g name token (live_of (lane_of ss)) request))
fits_new None g name ss token request n t k e f = fits_table g name ss token request n t k e
fits_new (Some (Refuse c)) g name ss token request n t k e f = fits_failed name ss token request c k (refusal_settles name (lane_of ss) request c f)
fits_new (Some FaultBefore) g name ss token request n t k e f = fits_table g name ss token request n t k e
fits_new (Some FaultAfter) g name ss token request n t k e f = fits_table g name ss token request n t k e
fits_new (Some (FaultLater later)) g name ss token request n t k e f = fits_table g name ss token request n t k e
fits_new (Some FenceFault) g name ss token request n t k e f = fits_table g name ss token request n t k e

-- so all stays kept when a new token is settled
pub kept_more : (b : Option Break) (g : Schema) (name : List ℕ) (ss : List Settled) (token : ℕ) (request : Request) → is_lane_name name ≡ true → token < 2 ^ 64 → IsSoundTable name ss → settlement_of token ss ≡ None → IfSome b (λ x. may_break x ≡ true) → IsSoundTable name (ss ++ new_entry b g name token request ss ∷ [])
kept_more b g name ss token request n t k e f = (fits_new b g name ss token request n t k e f).kept

pub kept_with : (b : Option Break) (g : Schema) (name : List ℕ) (ss : List Settled) (token : ℕ) (request : Request) (s : Settlement) → is_lane_name name ≡ true → token < 2 ^ 64 → IsSoundTable name ss → settlement_of token ss ≡ None → IfSome b (λ x. may_break x ≡ true) → s ≡ settled_by b (answer_to g name token (live_of (lane_of ss)) request) → IsSoundTable name (ss ++ record { token = token; request = request; settlement = s } ∷ [])
kept_with b g name ss token request s n t k e f d =
    subst (λ (y : Settlement). IsSoundTable name (ss ++ record { token = token; request = request; settlement = y } ∷ [])) (sym d) (kept_more b g name ss token request n t k e f)

-- A call of the handler is a move of its lane, and its answer is within the limits.
told_short : (b : Option Break) (name : List ℕ) (s : Settlement) → AnswersInLane name (answer_of s) → AnswersInLane name (told_by b s)
told_short None name s h = h
told_short (Some (Refuse c)) name s h = h
told_short (Some FaultBefore) name s h = tt
told_short (Some FaultAfter) name s h = tt
told_short (Some (FaultLater later)) name s h = tt
told_short (Some FenceFault) name s h = h

new_move : (name : List ℕ) (lane : LaneState) (token : ℕ) (request : Request) (s : Settlement) → settlement_of token lane.settled ≡ None → MaySettle name lane request s → LaneMove name lane (with_settled lane (record { token = token; request = request; settlement = s })) token request (answer_of s)
new_move name lane token request (Success physical attrs) e m = rw e (m, refl)
new_move name lane token request (Failed c) e m = rw e (m, refl)

new_fault : (name : List ℕ) (lane : LaneState) (token : ℕ) (request : Request) (s : Settlement) → settlement_of token lane.settled ≡ None → MaySettle name lane request s → LaneMove name lane (with_settled lane (record { token = token; request = request; settlement = s })) token request answer.Fault
new_fault name lane token request s e m = inr (s, e, rw e (m, refl))

told_new : (b : Option Break) (name : List ℕ) (lane : LaneState) (token : ℕ) (request : Request) (s : Settlement) → settlement_of token lane.settled ≡ None → MaySettle name lane request s → LaneMove name lane (with_settled lane (record { token = token; request = request; settlement = s })) token request (told_by b s)
told_new None name lane token request s e m = new_move name lane token request s e m
told_new (Some (Refuse c)) name lane token request s e m = new_move name lane token request s e m
told_new (Some FaultBefore) name lane token request s e m = new_fault name lane token request s e m
told_new (Some FaultAfter) name lane token request s e m = new_fault name lane token request s e m
told_new (Some (FaultLater later)) name lane token request s e m = new_fault name lane token request s e m
told_new (Some FenceFault) name lane token request s e m = new_move name lane token request s e m

same_move : (name : List ℕ) (lane : LaneState) (token : ℕ) (request : Request) (s : Settlement) → settlement_of token lane.settled ≡ Some s → LaneMove name lane lane token request (answer_of s)
same_move name lane token request (Success physical attrs) e = rw e (refl, refl)
same_move name lane token request (Failed c) e = rw e (refl, refl)

told_again : (b : Option Break) (name : List ℕ) (lane : LaneState) (token : ℕ) (request : Request) (s : Settlement) → settlement_of token lane.settled ≡ Some s → LaneMove name lane lane token request (told_by b s)
told_again None name lane token request s e = same_move name lane token request s e
told_again (Some (Refuse c)) name lane token request s e = same_move name lane token request s e
told_again (Some FaultBefore) name lane token request s e = inl refl
told_again (Some FaultAfter) name lane token request s e = inl refl
told_again (Some (FaultLater later)) name lane token request s e = inl refl
told_again (Some FenceFault) name lane token request s e = same_move name lane token request s e

sound_short : (name : List ℕ) (all : List Settled) (s : Settlement) → is_lane_name name ≡ true → is_sound name all s ≡ true → AnswersInLane name (answer_of s)
sound_short name all (Success physical attrs) n h = (known_of_lane name all physical (first_so _ _ h), omega (arith, known_short name all physical n (first_so _ _ h)), leb-true _ _ (second_so (is_known name all physical) _ h))
sound_short name all (Failed c) n h = tt

again-by : (b : Bool) (s x : Settlement) (o : Option Settlement) → cond b (Some x) o ≡ Some s → (x ≡ s) ⊎ (o ≡ Some s)
again-by true s x o h = inl cc
again-by false s x o h = inr h

again_short : (name : List ℕ) (token : ℕ) (all ss : List Settled) (s : Settlement) → is_lane_name name ≡ true → are_sound name all ss ≡ true → settlement_of token ss ≡ Some s → AnswersInLane name (answer_of s)
again_short name token all [] s n h e = absurd (some≢none Settlement s (sym e))
again_short name token all (x ∷ ss) s n h e =
    elim (again-by (token == x.token) s x.settlement (settlement_of token ss) e) [
      | inl d ↦ subst (λ y. AnswersInLane name (answer_of y)) d (sound_short name all x.settlement n (first_so _ _ h))
      | inr d ↦ again_short name token all ss s n (second_so (is_sound name all x.settlement) _ h) d
    ]

-- what holds of a call by which the lane came to after
abbrev Moves : List ℕ → List Settled → List Settled → ℕ → Request → Answer → Type 0
Moves name before after token request a = AnswersInLane name a × LaneMove name (lane_of before) (lane_of after) token request a

moves_as : (name : List ℕ) (before after after' : List Settled) (token : ℕ) (request : Request) (a a' : Answer) → a ≡ a' → after ≡ after' → Moves name before after' token request a' → Moves name before after token request a
moves_as name before after after' token request a a' d e m = subst (λ x. Moves name before x token request a) (sym e) (subst (λ x. Moves name before after' token request x) (sym d) m)

worked_moves : (b : Option Break) (g : Schema) (name : List ℕ) (ss after : List Settled) (token : ℕ) (request : Request) (o : Option Settlement) (a : Answer) → is_lane_name name ≡ true → token < 2 ^ 64 → IsSoundTable name ss → IfSome b (λ x. may_break x ≡ true) → settlement_of token ss ≡ o → IsWorked b o (new_entry b g name token request ss) ss after a → Moves name ss after token request a
worked_moves b g name ss after token request (Some s) a n t k f e w =
    moves_as name ss after ss token request a (told_by b s) w.0 w.1 (told_short b name s (again_short name token ss ss s n k.sound e), told_again b name (lane_of ss) token request s e)
worked_moves b g name ss after token request None a n t k f e w =
    let s : Settlement = settled_by b (answer_to g name token (live_of (lane_of ss)) request) in
    let fits : Fits name ss token request s = fits_new b g name ss token request n t k e f in
    moves_as name ss after (ss ++ new_entry b g name token request ss ∷ []) token request a (told_by b s) w.0 w.1 (told_short b name s fits.short, told_new b name (lane_of ss) token request s e fits.may)

-- so a call that is worked
pub works : (b : Option Break) (g : Schema) (name : List ℕ) (ss after : List Settled) (token : ℕ) (request : Request) (r : Result Answer AllocError) → is_lane_name name ≡ true → token < 2 ^ 64 → IsSoundTable name ss → IfSome b (λ x. may_break x ≡ true) → IfOk r (λ a. IsWorked b (settlement_of token ss) (new_entry b g name token request ss) ss after a) → IfOk r (λ a. AnswersInLane name a × LaneMove name (lane_of ss) (lane_of after) token request a)
works b g name ss after token request (Ok a) n t k f w = worked_moves b g name ss after token request (settlement_of token ss) a n t k f refl w
works b g name ss after token request (Err e) n t k f w = tt

-- The handler stays as it promises, whether a token was settled or there was no room.
pub kept_after : (name : List ℕ) (ss after : List Settled) (x : Settled) (r : Result (Unit {0}) AllocError) → IsSoundTable name ss → IsSoundTable name (ss ++ x ∷ []) → IfOk r (λ _. after ≡ ss ++ x ∷ []) → OnErr r (after ≡ ss) → IsSoundTable name after
kept_after name ss after x (Ok y) k k' o w = subst (IsSoundTable name) (sym o) k'
kept_after name ss after x (Err y) k k' o w = subst (IsSoundTable name) (sym w) k

pub same_after : (ss after : List Settled) (live live' : List LiveResource) (token : ℕ) (request : Request) (s : Settlement) (r : Result (Unit {0}) AllocError) → lives live ≡ live_of (lane_of ss) → IfOk r (λ _. after ≡ ss ++ record { token = token; request = request; settlement = s } ∷ []) → IfOk r (λ _. lives live' ≡ live_changed request s (lives live)) → OnErr r (after ≡ ss) → OnErr r (live' ≡ live) → lives live' ≡ live_of (lane_of after)
same_after ss after live live' token request s (Ok x) e o l w v =
    l ∙ ap (live_changed request s) e ∙ sym (live_more [] ss (record { token = token; request = request; settlement = s })) ∙ ap (λ (xs : List Settled). live_of (lane_of xs)) (sym o)
same_after ss after live live' token request s (Err x) e o l w v = ap lives v ∙ e ∙ ap (λ (xs : List Settled). live_of (lane_of xs)) (sym w)
