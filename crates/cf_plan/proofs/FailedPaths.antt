-- The paths that failed are those under which the walk over outcomes and resources leaves true.
use Rattle.std.proofs.Common.{◌≡◌, ◌↔◌, ℕ, ◌==◌, Bool, true, false, ◌&&◌, ◌||◌, nat_lt, List, [], ◌∷◌, reverse, Option, Some, None, Result, Ok, Err, filter, find, fold, map, option_map, cond, refl, ap, sym, ◌∙◌, true≢false, subst}
use Rattle.std.specs.Prelude.{IfOk}
use Rattle.std.specs.List.{list_any}
use Rattle.std.specs.Option.{option_or}
use Rattle.std.specs.Str.{bytes_eq}
use Rattle.std.specs.Cmp.{first_so, second_so}
use Rattle.std.proofs.lemmas.List.{reverse-append}
use Rattle.std.proofs.lemmas.List.Folds.{find-append}
use Rattle.std.proofs.lemmas.Slice.Eq.{bytes_eq-Decides}
use Rattle.cf_tree.specs.Keys.{value_at, put, ascends, ascends_from, bytes_lt}
use Rattle.cf_tree.proofs.Lookups.{put_here, put_else}
use Rattle.cf_entry.specs.Entry.{texts_ascend, texts_ascend_from}
use Rattle.cf_entry.specs.declared.entry.Entry.{Entry}
use Rattle.cf_entry.specs.declared.entry.Entry.TheVariants as entry
use Rattle.cf_entry.specs.declared.entry.Reply.{Reply}
use Rattle.cf_entry.specs.declared.status.Status.TheVariants as status
use Rattle.cf_effect.specs.declared.held.Held.{Held}
use Rattle.cf_effect.specs.World.{StackState}
use Rattle.cf_effect.specs.Words.{resources_of}
use Rattle.cf_effect.specs.declared.call.Call.{Call}
use Rattle.cf_effect.specs.Operation.{Response, replies_in, is_of}
use Rattle.cf_effect.specs.Calls.{call_under, refusals_of}
use Rattle.cf_tree.specs.Lists.{there}
use Rattle.cf_tree.specs.Lists.{here}
use Rattle.cf_tree.specs.Lists.{In}
use Rattle.cf_plan.specs.Follow.{is_bad_outcome, has_path, last_at, is_bad_last, is_failed_path, AreFailed}
use Rattle.cf_plan.specs.Blaming.{BadPaths, with_outcome, noted_call, bad_paths, with_refused, blames_of, bad_among}
use Rattle.cf_plan.proofs.Members.{not_both, in_first}
use Rattle.cf_plan.proofs.Orders.{lower, not_below_itself}
use Rattle.std.proofs.lemmas.Bool.{cond_both}
use Rattle.cf_tree.proofs.Order.{ascends_put}
use Rattle.std.specs.declared.alloc.AllocError.{AllocError}

-- what is put under a name, as a look-up sees it
pub put_is : {X : Type 0} (p k : List ℕ) (v : X) (ps : List (List ℕ × X)) → value_at p (put k v ps) ≡ cond (bytes_eq p k) (Some v) (value_at p ps)
put_is p k v ps = by (bytes_eq p k) refl
  where
    by : (b : Bool) → bytes_eq p k ≡ b → value_at p (put k v ps) ≡ cond b (Some v) (value_at p ps)
    by true e = subst (λ (q : List ℕ). value_at q (put k v ps) ≡ Some v) (sym ((bytes_eq-Decides p k).0 e)) (put_here k v ps)
    by false e = put_else p k v ps e

abbrev told : ℕ → Reply → ℕ → ℕ → Response
told token answer before after = record { token = token; answer = answer; before = before; after = after }

or_assoc : {X : Type 0} (a b c : Option X) → option_or (option_or a b) c ≡ option_or a (option_or b c)
or_assoc None b c = refl
or_assoc (Some y) b c = refl

module _ (s : StackState) (p : List ℕ) where
  abbrev last_in : List Entry → Option Response
  last_in es = find (λ r. has_path p (call_under r.token s)) (reverse (replies_in (filter (is_of s.operation) es)))

  abbrev verdict : Option Response → Option Bool
  verdict o = option_map (λ r. is_bad_outcome (call_under r.token s) r.answer) o

  -- one more outcome: the last at the path stays, where there is one
  last_first : (r : Response) (rs : List Response)
      → find (λ q. has_path p (call_under q.token s)) (reverse (r ∷ rs))
      ≡ option_or (find (λ q. has_path p (call_under q.token s)) (reverse rs)) (cond (has_path p (call_under r.token s)) (Some r) None)
  last_first r rs =
      ap (find (λ q. has_path p (call_under q.token s))) (reverse-append (r ∷ []) rs)
      ∙ find-append (λ q. has_path p (call_under q.token s)) (reverse rs) (r ∷ [])

  verdict_or : (a b : Option Response) → verdict (option_or a b) ≡ option_or (verdict a) (verdict b)
  verdict_or None b = refl
  verdict_or (Some r) b = refl

  call_put : (o : Option Call) (answer : Reply) (vs : BadPaths)
      → value_at p (noted_call o answer vs) ≡ option_or (cond (has_path p o) (Some (is_bad_outcome o answer)) None) (value_at p vs)
  call_put None answer vs = refl
  call_put (Some c) answer vs = put_is p c.path (is_bad_outcome (Some c) answer) vs ∙ by (bytes_eq p c.path)
    where
      by : (b : Bool) → cond b (Some (is_bad_outcome (Some c) answer)) (value_at p vs)
          ≡ option_or (cond b (Some (is_bad_outcome (Some c) answer)) None) (value_at p vs)
      by true = refl
      by false = refl

  verdict_if : (b : Bool) (r : Response) → verdict (cond b (Some r) None) ≡ cond b (Some (is_bad_outcome (call_under r.token s) r.answer)) None
  verdict_if true r = refl
  verdict_if false r = refl

  -- the walk leaves under the path what its last outcome is
  walked : (es : List Entry) (vs : BadPaths) → value_at p (fold (with_outcome s) vs es) ≡ option_or (verdict (last_in es)) (value_at p vs)
  walked [] vs = refl
  walked (entry.Outcome number token answer before after ∷ es) vs = by (s.operation == number) (walked es)
    where
      by : (b : Bool) → ((ws : BadPaths) → value_at p (fold (with_outcome s) ws es) ≡ option_or (verdict (last_in es)) (value_at p ws))
          → value_at p (fold (with_outcome s) (cond b (noted_call (call_under token s) answer vs) vs) es)
          ≡ option_or (verdict (find (λ q. has_path p (call_under q.token s))
          (reverse (replies_in (cond b (entry.Outcome number token answer before after ∷ filter (is_of s.operation) es) (filter (is_of s.operation) es))))))
          (value_at p vs)
      by false rest = rest vs
      by true rest =
          rest (noted_call (call_under token s) answer vs)
          ∙ (ap (λ (o : Option Bool). option_or (verdict (last_in es)) o)
          (call_put (call_under token s) answer vs ∙ ap (λ (o : Option Bool). option_or o (value_at p vs)) (sym (verdict_if (has_path p (call_under token s)) (told token answer before after))))
          ∙ (sym (or_assoc (verdict (last_in es)) (verdict (cond (has_path p (call_under token s)) (Some (told token answer before after)) None)) (value_at p vs))
          ∙ ap (λ (o : Option Bool). option_or o (value_at p vs))
          (sym (verdict_or (last_in es) (cond (has_path p (call_under token s)) (Some (told token answer before after)) None))
          ∙ ap verdict (sym (last_first (told token answer before after) (replies_in (filter (is_of s.operation) es)))))))
  walked (entry.Opened epoch lanes ∷ es) vs = walked es vs
  walked (entry.ChangeSet number stack source rows outputs ∷ es) vs = walked es vs
  walked (entry.Begin number stack kind ∷ es) vs = passed (s.operation == number) (walked es vs)
    where
      passed : (b : Bool) → value_at p (fold (with_outcome s) vs es) ≡ option_or (verdict (last_in es)) (value_at p vs)
          → value_at p (fold (with_outcome s) vs es)
          ≡ option_or (verdict (find (λ q. has_path p (call_under q.token s))
          (reverse (replies_in (cond b (entry.Begin number stack kind ∷ filter (is_of s.operation) es) (filter (is_of s.operation) es)))))) (value_at p vs)
      passed true h = h
      passed false h = h
  walked (entry.Kept number path physical w ∷ es) vs = passed (s.operation == number) (walked es vs)
    where
      passed : (b : Bool) → value_at p (fold (with_outcome s) vs es) ≡ option_or (verdict (last_in es)) (value_at p vs)
          → value_at p (fold (with_outcome s) vs es)
          ≡ option_or (verdict (find (λ k. has_path p (call_under k.token s))
          (reverse (replies_in (cond b (entry.Kept number path physical w ∷ filter (is_of s.operation) es) (filter (is_of s.operation) es)))))) (value_at p vs)
      passed true h = h
      passed false h = h
  walked (entry.Intent number token lane path r ∷ es) vs = passed (s.operation == number) (walked es vs)
    where
      passed : (b : Bool) → value_at p (fold (with_outcome s) vs es) ≡ option_or (verdict (last_in es)) (value_at p vs)
          → value_at p (fold (with_outcome s) vs es)
          ≡ option_or (verdict (find (λ k. has_path p (call_under k.token s))
          (reverse (replies_in (cond b (entry.Intent number token lane path r ∷ filter (is_of s.operation) es) (filter (is_of s.operation) es)))))) (value_at p vs)
      passed true h = h
      passed false h = h
  walked (entry.Phase number q c ∷ es) vs = passed (s.operation == number) (walked es vs)
    where
      passed : (b : Bool) → value_at p (fold (with_outcome s) vs es) ≡ option_or (verdict (last_in es)) (value_at p vs)
          → value_at p (fold (with_outcome s) vs es)
          ≡ option_or (verdict (find (λ k. has_path p (call_under k.token s))
          (reverse (replies_in (cond b (entry.Phase number q c ∷ filter (is_of s.operation) es) (filter (is_of s.operation) es)))))) (value_at p vs)
      passed true h = h
      passed false h = h
  walked (entry.Done number state failed ∷ es) vs = passed (s.operation == number) (walked es vs)
    where
      passed : (b : Bool) → value_at p (fold (with_outcome s) vs es) ≡ option_or (verdict (last_in es)) (value_at p vs)
          → value_at p (fold (with_outcome s) vs es)
          ≡ option_or (verdict (find (λ k. has_path p (call_under k.token s))
          (reverse (replies_in (cond b (entry.Done number state failed ∷ filter (is_of s.operation) es) (filter (is_of s.operation) es)))))) (value_at p vs)
      passed true h = h
      passed false h = h

  -- and a resource whose deletion was refused leaves true
  abbrev is_blamed : Held → Bool
  is_blamed r = bytes_eq p r.path && nat_lt 0 (refusals_of r.physical s)

  blamed_is : (r : Held) (vs : BadPaths) → value_at p (with_refused s vs r) ≡ cond (is_blamed r) (Some true) (value_at p vs)
  blamed_is r vs = by (nat_lt 0 (refusals_of r.physical s))
    where
      at : (b : Bool) → cond b (Some true) (value_at p vs) ≡ cond (b && true) (Some true) (value_at p vs)
      at true = refl
      at false = refl

      not_at : (b : Bool) → value_at p vs ≡ cond (b && false) (Some true) (value_at p vs)
      not_at true = refl
      not_at false = refl

      by : (c : Bool) → value_at p (cond c (put r.path true vs) vs) ≡ cond (bytes_eq p r.path && c) (Some true) (value_at p vs)
      by true = put_is p r.path true vs ∙ at (bytes_eq p r.path)
      by false = not_at (bytes_eq p r.path)

  blames_are : (rs : List Held) (vs : BadPaths) → value_at p (fold (with_refused s) vs rs) ≡ cond (list_any is_blamed rs) (Some true) (value_at p vs)
  blames_are [] vs = refl
  blames_are (r ∷ rs) vs =
      blames_are rs (with_refused s vs r)
      ∙ (ap (λ (o : Option Bool). cond (list_any is_blamed rs) (Some true) o) (blamed_is r vs) ∙ by (is_blamed r) (list_any is_blamed rs))
    where
      by : (b c : Bool) → cond c (Some true) (cond b (Some true) (value_at p vs)) ≡ cond (b || c) (Some true) (value_at p vs)
      by true true = refl
      by true false = refl
      by false true = refl
      by false false = refl

  bad_last_is : (o : Option Response) → (option_or (verdict o) None ≡ Some true) ↔ (is_bad_last s o ≡ true)
  bad_last_is None = (λ e. absurd cc, λ e. absurd (true≢false (sym e)))
  bad_last_is (Some r) = (λ e. cc, λ e. ap Some e)

  either_way : (b : Bool) (o : Option Response)
      → (cond b (Some true) (option_or (verdict o) None) ≡ Some true) ↔ ((is_bad_last s o || b) ≡ true)
  either_way true o = (λ e. by (is_bad_last s o), λ e. refl)
    where
      by : (c : Bool) → (c || true) ≡ true
      by true = refl
      by false = refl
  either_way false o = (λ e. to (is_bad_last s o) ((bad_last_is o).0 e), λ e. (bad_last_is o).1 (from (is_bad_last s o) e))
    where
      to : (c : Bool) → c ≡ true → (c || false) ≡ true
      to c t = rw t refl

      from : (c : Bool) → (c || false) ≡ true → c ≡ true
      from true t = refl
      from false t = t

  failed_is : (value_at p (blames_of s) ≡ Some true) ↔ (is_failed_path s p ≡ true)
  failed_is =
      let e : value_at p (blames_of s) ≡ cond (list_any is_blamed (resources_of s)) (Some true) (option_or (verdict (last_at p s)) None) =
      blames_are (resources_of s) (bad_paths s) ∙ ap (λ (o : Option Bool). cond (list_any is_blamed (resources_of s)) (Some true) o) (walked s.entries []) in
      let w = either_way (list_any is_blamed (resources_of s)) (last_at p s) in
      (λ h. w.0 (sym e ∙ h), λ h. e ∙ w.1 h)

-- the names under which true stands ascend, and are just those that a look-up finds
module _ where
  names_from : (k : List ℕ) (vs : BadPaths) → ascends_from k vs ≡ true → texts_ascend_from k (bad_among vs) ≡ true
  names_from k [] h = refl
  names_from k (v ∷ vs) h =
      by (first_so (bytes_lt k v.0) (ascends_from v.0 vs) h) (names_from v.0 vs (second_so (bytes_lt k v.0) (ascends_from v.0 vs) h))
      (λ below. names_from k vs (further k v.0 vs below (second_so (bytes_lt k v.0) (ascends_from v.0 vs) h))) v.1
    where
      further : (j l : List ℕ) (ws : BadPaths) → bytes_lt j l ≡ true → ascends_from l ws ≡ true → ascends_from j ws ≡ true
      further j l [] below a = refl
      further j l (w ∷ ws) below a =
          rw (lower j l w.0 below (first_so (bytes_lt l w.0) (ascends_from w.0 ws) a)) (second_so (bytes_lt l w.0) (ascends_from w.0 ws) a)

      by : bytes_lt k v.0 ≡ true → texts_ascend_from v.0 (bad_among vs) ≡ true
          → (bytes_lt k v.0 ≡ true → texts_ascend_from k (bad_among vs) ≡ true) → (b : Bool)
          → texts_ascend_from k (map (λ u. u.0) (cond b (v ∷ filter (λ u. u.1) vs) (filter (λ u. u.1) vs))) ≡ true
      by below rest skip true = rw below rest
      by below rest skip false = skip below

pub names_ascend : (vs : BadPaths) → ascends vs ≡ true → texts_ascend (bad_among vs) ≡ true
names_ascend [] h = refl
names_ascend (v ∷ vs) h = by (names_from v.0 vs h) v.1
  where
    -- what ascends behind a name ascends
    apart : (ts : List (List ℕ)) → texts_ascend_from v.0 ts ≡ true → texts_ascend ts ≡ true
    apart [] a = refl
    apart (t ∷ ts) a = second_so (bytes_lt v.0 t) (texts_ascend_from t ts) a

    by : texts_ascend_from v.0 (bad_among vs) ≡ true → (b : Bool) → texts_ascend (map (λ u. u.0) (cond b (v ∷ filter (λ u. u.1) vs) (filter (λ u. u.1) vs))) ≡ true
    by a true = a
    by a false = apart (bad_among vs) a

-- a name that stands behind another is not the same
not_behind : (vs : BadPaths) (k p : List ℕ) → ascends_from k vs ≡ true → In p (bad_among vs) → bytes_lt k p ≡ true
not_behind [] k p h i = elim i [ ]
not_behind (v ∷ vs) k p h i =
    by (first_so (bytes_lt k v.0) (ascends_from v.0 vs) h) (λ q j. not_behind vs v.0 q (second_so (bytes_lt k v.0) (ascends_from v.0 vs) h) j) v.1 i
  where
    by : bytes_lt k v.0 ≡ true → ((q : List ℕ) → In q (bad_among vs) → bytes_lt v.0 q ≡ true) → (b : Bool)
        → In p (map (λ u. u.0) (cond b (v ∷ filter (λ u. u.1) vs) (filter (λ u. u.1) vs))) → bytes_lt k p ≡ true
    by below rest true j = in_first (λ q. bytes_lt k q ≡ true) v.0 (bad_among vs) below (λ q l. lower k v.0 q below (rest q l)) p j
    by below rest false j = lower k v.0 p below (rest p j)

listed : (p : List ℕ) (vs : BadPaths) → ascends vs ≡ true → In p (bad_among vs) ↔ (value_at p vs ≡ Some true)
listed p [] h = (λ i. elim i [ ], λ e. absurd cc)
listed p (v ∷ vs) h = by (bytes_eq p v.0) refl v.1 (listed p vs (apart vs h))
  where
    apart : (ws : BadPaths) → ascends_from v.0 ws ≡ true → ascends ws ≡ true
    apart [] a = refl
    apart (w ∷ ws) a = second_so (bytes_lt v.0 w.0) (ascends_from w.0 ws) a

    same : bytes_eq p v.0 ≡ true → p ≡ v.0
    same e = (bytes_eq-Decides p v.0).0 e

    away : bytes_eq p v.0 ≡ true → In p (bad_among vs) → ⊥
    away e i =
        not_both (bytes_lt v.0 p) (not_behind vs v.0 p h i) (subst (λ (q : List ℕ). bytes_lt v.0 q ≡ false) (sym (same e)) (not_below_itself v.0))

    other : bytes_eq p v.0 ≡ false → In p (v.0 ∷ bad_among vs) → In p (bad_among vs)
    other n j =
        in_first (λ q. bytes_eq q v.0 ≡ false → In q (bad_among vs)) v.0 (bad_among vs)
        (λ m. absurd (not_both (bytes_eq v.0 v.0) ((bytes_eq-Decides v.0 v.0).1 refl) m)) (λ q l m. l) p j n

    by : (b : Bool) → bytes_eq p v.0 ≡ b → (c : Bool) → (In p (bad_among vs) ↔ (value_at p vs ≡ Some true))
        → In p (map (λ u. u.0) (cond c (v ∷ filter (λ u. u.1) vs) (filter (λ u. u.1) vs))) ↔ (cond b (Some c) (value_at p vs) ≡ Some true)
    by true e true rest = (λ i. refl, λ t. subst (λ (q : List ℕ). In q (v.0 ∷ bad_among vs)) (sym (same e)) here)
    by true e false rest = (λ i. absurd (away e i), λ t. absurd cc)
    by false n true rest = (λ i. rest.0 (other n i), λ t. there (rest.1 t))
    by false n false rest = rest

-- the list of the failed paths, made or not
pub failing : {E : Type 0} (s : StackState) (vs : BadPaths) (made : Result (List (List ℕ)) E) → ascends vs ≡ true → vs ≡ blames_of s
    → IfOk made (λ ns. ns ≡ bad_among vs) → IfOk made (λ ns. AreFailed s status.RollbackFailed ns)
failing s vs (Err fault) a e h = h
failing s vs (Ok ns) a e h =
    subst (λ (ts : List (List ℕ)). AreFailed s status.RollbackFailed ts) (sym h) (
      names_ascend vs a,
      λ p.
          let l = listed p vs a in
          let f = failed_is s p in
          (λ i. f.0 (ap (value_at p) (sym e) ∙ l.0 i), λ t. l.1 (ap (value_at p) e ∙ f.1 t)),
    )

-- the failed paths of an end
module _ {A : Type 0} (f : BadPaths → A → BadPaths) (keeps : (vs : BadPaths) (a : A) → ascends vs ≡ true → ascends (f vs a) ≡ true) where
  all_ascend : (xs : List A) (vs : BadPaths) → ascends vs ≡ true → ascends (fold f vs xs) ≡ true
  all_ascend [] vs e = e
  all_ascend (x ∷ xs) vs e = all_ascend xs (f vs x) (keeps vs x e)

noted_ascends : (s : StackState) (vs : BadPaths) (e : Entry) → ascends vs ≡ true → ascends (with_outcome s vs e) ≡ true
noted_ascends s vs (entry.Outcome number token a before after) h = cond_both (s.operation == number) _ vs (λ ws. ascends ws ≡ true) (λ e. by (call_under token s)) (λ e. h) where
  by : (o : Option Call) → ascends (noted_call o a vs) ≡ true
  by None = h
  by (Some c) = ascends_put c.path _ vs h
noted_ascends s vs e h = h

abbrev pub failed_list : StackState → List (List ℕ)
failed_list s = bad_among (blames_of s)

pub are_failed : (s : StackState) → AreFailed s status.RollbackFailed (failed_list s)
are_failed s =
    failing {E = AllocError} s (blames_of s) (Ok (failed_list s))
    (all_ascend (with_refused s) (λ vs r e. cond_both (nat_lt 0 (refusals_of r.physical s)) _ vs (λ ws. ascends ws ≡ true) (λ f. ascends_put r.path true vs e) (λ f. e)) (resources_of s)
    (bad_paths s) (all_ascend (with_outcome s) (noted_ascends s) s.entries [] refl)) refl refl
