-- A run makes few calls: at most 54 of one path.
use Rattle.std.proofs.Common.{◌≡◌, inl, inr, ℕ, ◌+◌, ◌≤◌, ◌==◌, Bool, true, false, cond, List, [], ◌∷◌, ◌++◌, Option, Some, None, length, length-append, map, refl, sym, ◌∙◌, ap, subst, arith}
use Rattle.std.specs.Prelude.{filter}
use Rattle.std.specs.Cmp.{first_so}
use Rattle.std.specs.Option.{option_map_or}
use Rattle.std.specs.Str.{bytes_eq}
use Rattle.std.proofs.lemmas.Bool.{eq-eqb, eqb-true}
use Rattle.std.proofs.lemmas.List.{length-map, map-append}
use Rattle.cf_tree.specs.Lists.{In}
use Rattle.cf_disk.specs.declared.disk.Disk.{Ghosts}
use Rattle.cf_schema.specs.declared.described.Schema.{Schema}
use Rattle.cf_entry.specs.declared.entry.Entry.{Entry}
use Rattle.cf_effect.specs.Calls.{is_call, own_calls}
use Rattle.cf_effect.specs.Status.{is_in_progress}
use Rattle.cf_effect.specs.World.{StackState, is_going, stack_at, stack_of_operation}
use Rattle.cf_effect.specs.declared.call.Call.{Call}
use Rattle.cf_effect.specs.declared.held.Pending.{Pending}
use Rattle.cf_stacks.proofs.Worlds.{found_stands}
use Rattle.cf_plan.proofs.CreatedRight.{in_filter}
use Rattle.cf_plan.proofs.CreatedStays.{found_one}
use Rattle.cf_plan.proofs.Frame.{found_passes}
use Rattle.cf_plan.proofs.Listed.{in_map, same_bytes}
use Rattle.cf_plan.proofs.RunLists.{in_back, in_front, in_kept}
use Rattle.cf_plan.specs.Life.{Life, world_of}
use Rattle.cf_core.proofs.FewCalls.{one_is_open, tokens_are_few}
use Rattle.cf_core.specs.FewCalls.{is_call_at, is_open_at}
use Rattle.cf_core.specs.Theorem.{HoldsAlways}
use Rattle.cf_core.specs.Tokens.{number_of}
use Rattle.cf_lane.specs.Calling.{Granted}
use Rattle.cf_book.specs.Record.{world_left}
use Rattle.cf_book.specs.State.{BookLane, BookNow}
use Rattle.cf_workers.proofs.Grouped.{all_each, filtered_less, grouped, nine_each}
use Rattle.cf_workers.proofs.SoFar.{AreLow, HasCalled, called_in, open_over, three_phases, under}
use Rattle.cf_workers.proofs.Tries.{IsAt, at_most, thrice}
use Rattle.cf_workers.specs.Counting.{AreFew, is_of_path}
use Rattle.cf_workers.specs.Driving.{CallAt, CallMade, Course, Round, call_at, calls_of, tries_of, tries_with}

-- a call by its path and its token
abbrev pub key : CallAt → List ℕ × ℕ
key c = (c.path, c.told.token)

filtered_keys : (p : List ℕ × ℕ → Bool) (cs : List CallAt) → length (filter p (map key cs)) ≡ length (filter (λ (c : CallAt). p (key c)) cs)
filtered_keys p [] = refl
filtered_keys p (c ∷ cs) = by (p (key c)) (filtered_keys p cs) where
  by : (b : Bool) → length (filter p (map key cs)) ≡ length (filter (λ (d : CallAt). p (key d)) cs)
      → length (cond b (key c ∷ filter p (map key cs)) (filter p (map key cs))) ≡ length (cond b (c ∷ filter (λ (d : CallAt). p (key d)) cs) (filter (λ (d : CallAt). p (key d)) cs))
  by true more = omega (arith, more)
  by false more = more

abbrev is_at : List ℕ → List ℕ × ℕ → Bool
is_at path c = bytes_eq path c.0

abbrev is_same : ℕ → ℕ → Bool
is_same a b = b == a

-- the calls of a run, by their paths and tokens, where a path has few rows and few open calls
module _ (number : ℕ) (ps : List Pending) (last : ℕ) (s : StackState) (calls : List (List ℕ × ℕ)) (tries : ℕ → ℕ) (h : HasCalled number ps last s calls tries)
    (most_tries : (token : ℕ) → tries token ≤ 3) (of_it : s.operation ≡ number) (five : (path : List ℕ) → number_of (is_call_at path) s ≤ 5)
    (one : (path : List ℕ) → length (filter (is_open_at path) ps) ≤ 1) where
  abbrev tokens_at : List ℕ → List ℕ
  tokens_at path = map (λ (c : Call). c.token) (filter (is_call_at path) (own_calls s)) ++ map (λ (p : Pending). p.token) (filter (is_open_at path) ps)

  six : (path : List ℕ) → length (tokens_at path) ≤ 6
  six path =
      let own = five path in
      let open_ = one path in
      let both = length-append (map (λ (c : Call). c.token) (filter (is_call_at path) (own_calls s))) (map (λ (p : Pending). p.token) (filter (is_open_at path) ps)) in
      let rows = length-map (filter (is_call_at path) (own_calls s)) (λ (c : Call). c.token) in
      let pending = length-map (filter (is_open_at path) ps) (λ (p : Pending). p.token) in
      omega (arith, own, open_, both, rows, pending)

  among : (path : List ℕ) (c : List ℕ × ℕ) → In c (filter (is_at path) calls) → In c.1 (tokens_at path)
  among path c i = let f = in_filter (is_at path) calls c i in elim (h.called_known c f.0) [
    | inl (row, j, its, at, token) ↦
        let own : In row (own_calls s) = in_kept (λ (r : Call). r.number == s.operation) s.ledger row j (eq-eqb row.number s.operation (its ∙ sym of_it)) in
        let here_ : In row (filter (is_call_at path) (own_calls s)) = in_kept (is_call_at path) (own_calls s) row own (ap (bytes_eq path) at ∙ f.1) in
        in_front c.1 (map (λ (r : Call). r.token) (filter (is_call_at path) (own_calls s))) (map (λ (p : Pending). p.token) (filter (is_open_at path) ps))
        (subst (λ t. In t (map (λ (r : Call). r.token) (filter (is_call_at path) (own_calls s)))) token (in_map (λ (r : Call). r.token) row (filter (is_call_at path) (own_calls s)) here_))
    | inr (p, j, at, token) ↦
        let here_ : In p (filter (is_open_at path) ps) = in_kept (is_open_at path) ps p j (ap (bytes_eq path) at ∙ f.1) in
        in_back c.1 (map (λ (r : Call). r.token) (filter (is_call_at path) (own_calls s))) (map (λ (q : Pending). q.token) (filter (is_open_at path) ps))
        (subst (λ t. In t (map (λ (q : Pending). q.token) (filter (is_open_at path) ps))) token (in_map (λ (q : Pending). q.token) p (filter (is_open_at path) ps) here_))
  ]

  nine : (token : ℕ) → length (filter (under token) calls) ≤ 9
  nine token = let few = h.few token in let most = three_phases s.status in let tried = most_tries token in omega (arith, few, most, tried)

  nine_at : (path : List ℕ) (token : ℕ) → length (filter (under token) (filter (is_at path) calls)) ≤ 9
  nine_at path token = let less = filtered_less (is_at path) (under token) calls in let few = nine token in omega (arith, less, few)

  at_path : (path : List ℕ) → length (filter (is_at path) calls) ≤ 54
  at_path path =
      let all = grouped is_same (λ k. eq-eqb k k refl) (λ (c : List ℕ × ℕ). c.1) 9 (tokens_at path) (filter (is_at path) calls) (among path) (nine_at path) in
      let each = nine_each (tokens_at path) in
      let few = six path in
      omega (arith, all, each, few)

  -- so the calls of these paths and tokens are few
  module _ (cs : List CallAt) (same : map key cs ≡ calls) where
    six_of : (path : List ℕ) (c : CallAt) → In c cs → c.path ≡ path → In c.told.token (tokens_at path)
    six_of path c i at =
        among path (key c) (in_kept (is_at path) calls (key c) (subst (In (key c)) same (in_map key c cs i)) (ap (bytes_eq path) at ∙ same_bytes path))

    as_many : (p : List ℕ × ℕ → Bool) → length (filter p calls) ≡ length (filter (λ (c : CallAt). p (key c)) cs)
    as_many p = ap (λ ks. length (filter p ks)) (sym same) ∙ filtered_keys p cs

    few_at : (path : List ℕ) → length (filter (is_of_path path) cs) ≤ 54
    few_at path = subst (λ n. n ≤ 54) (as_many (is_at path)) (at_path path)

    pub are_few : AreFew cs
    are_few = record {
      six = λ path. (tokens_at path, six path, six_of path);
      nine = λ token. subst (λ n. n ≤ 9) (as_many (under token)) (nine token);
      few = few_at;
      in_all = λ paths has.
          let all = grouped bytes_eq same_bytes (λ (c : CallAt). c.path) 54 paths cs has few_at in
          let each = all_each paths in
          omega (arith, all, each);
    }

-- the tokens of a life's open calls are those of earlier Intents
module _ (schemas : List Schema) (life : Life) (holds : HoldsAlways schemas life) (number : ℕ) (es : List Entry) (known : life.entries ≡ es) where
  stands_at : (name : List ℕ) (s : StackState) → IsAt number es name s → stack_at name (world_of life) ≡ Some s
  stands_at name s at =
      found_stands (λ (p : List ℕ × StackState). is_going number p.1) (world_of life).stacks (name, s) holds.sound.orderly.apart.names
      (ap (λ ds. stack_of_operation number (world_left ds)) known ∙ at)

  pub are_low : AreLow number es
  are_low name s at p i =
      let fits = holds.sound.fitted name s (stands_at name s at) in
      let (c, found, of_it) = fits.rows p i in
      let (j, mine) = found_one (is_call p.token) s.ledger c found in
      let same : p.token ≡ c.token = eqb-true p.token c.token mine in
      let low : c.token ≤ (world_of life).token = fits.last c j in
      let now : (world_of life).token ≡ (world_left es).token = ap (λ ds. (world_left ds).token) known in
      omega (arith, same, low, now)

  pub one_at : (path : List ℕ) → length (filter (is_open_at path) (open_over number es)) ≤ 1
  one_at path = by (stack_of_operation number (world_left es)) refl where
    by : (o : Option (List ℕ × StackState)) → stack_of_operation number (world_left es) ≡ o
        → length (filter (is_open_at path) (option_map_or (λ (p : List ℕ × StackState). p.1.tokens) o [])) ≤ 1
    by None e = omega arith
    by (Some (name, s)) e = one_is_open (world_of life) s (holds.sound.fitted name s (stands_at name s e)) path

  pub five_at : (name : List ℕ) (s : StackState) → IsAt number es name s → (path : List ℕ) → number_of (is_call_at path) s ≤ 5
  five_at name s at path = tokens_are_few schemas life name s holds (stands_at name s at) path

operation_is : (number : ℕ) (es : List Entry) (name : List ℕ) (s : StackState) → IsAt number es name s → s.operation ≡ number
operation_is number es name s at =
    eqb-true s.operation number (first_so (s.operation == number) (is_in_progress s.status)
    (found_passes (λ (p : List ℕ × StackState). is_going number p.1) (world_left es).stacks (name, s) at))

-- From a life that the first entries are of to one that the last are of.
module _ (schemas : List Schema) (begun life : Life) (held : HoldsAlways schemas begun) (holds : HoldsAlways schemas life) (number : ℕ) (first es : List Entry)
    (known : begun.entries ≡ first) (now : life.entries ≡ es) where
  pub few_between : (name : List ℕ) (s : StackState) → IsAt number es name s → (calls : List (List ℕ × ℕ)) (tries : ℕ → ℕ)
      → HasCalled number (open_over number first) (world_left es).token s calls tries → ((token : ℕ) → tries token ≤ 3) → (cs : List CallAt) → map key cs ≡ calls → AreFew cs
  few_between name s at calls tries h most_tries cs same =
      are_few number (open_over number first) (world_left es).token s calls tries h most_tries (operation_is number es name s at)
      (five_at schemas life holds number es now name s at) (one_at schemas begun held number first known) cs same

-- none are few
pub none_few : AreFew []
none_few = record {
  six = λ path. ([], omega arith, λ c i. elim i [ ]);
  nine = λ token. omega arith;
  few = λ path. omega arith;
  in_all = λ paths has. omega arith;
}

-- one call more
keys_so : {number : ℕ} {es : List Entry} {lanes : List BookLane} (made : CallMade number es lanes) (cs : List CallAt) (called : List (List ℕ × ℕ)) → map key cs ≡ called
    → map key (cs ++ call_at made ∷ []) ≡ called ++ (made.path, made.token) ∷ []
keys_so made cs called same =
    map-append key cs (call_at made ∷ []) ∙ ap (λ ks. ks ++ key (call_at made) ∷ []) same
    ∙ ap (λ token. called ++ (made.path, token) ∷ []) (ap (λ (c : Granted). c.token) made.called.granted_is)

module _ {D : Type 0} {g : Ghosts D} {number : ℕ} {first : BookNow D} where
  -- the calls of a course have its paths and tokens, with the one that comes next too
  pub keys_are : {last : BookNow D} (course : Course g number first last) → map key (calls_of course) ≡ called_in course
  keys_are Course.begins = refl
  keys_are (Course.goes course (Round.moves n e chosen writes other fits wrote lanes) grows rest) = keys_are course
  keys_are (Course.goes course (Round.calls made r intends outcome wrote lanes) grows rest) = keys_so made (calls_of course) (called_in course) (keys_are course)

  pub keys_more : {last : BookNow D} (course : Course g number first last) (made : CallMade number last.entries last.lanes)
      → map key (calls_of course ++ call_at made ∷ []) ≡ called_in course ++ (made.path, made.token) ∷ []
  keys_more course made = keys_so made (calls_of course) (called_in course) (keys_are course)

  -- none is made more than three times in a phase, the one that comes next neither
  pub thrice_more : {last : BookNow D} (course : Course g number first last) (made : CallMade number last.entries last.lanes) (token : ℕ)
      → tries_with made token (tries_of token course) ≤ 3
  thrice_more course made token = by (made.token == token) refl where
    by : (b : Bool) → (made.token == token) ≡ b → cond b (cond made.repeated (tries_of token course + 1) 1) (tries_of token course) ≤ 3
    by false e = thrice g number token course
    by true e =
        let its : made.token ≡ token = eqb-true made.token token e in
        subst (λ t. cond made.repeated (tries_of t course + 1) 1 ≤ 3) its
        (subst (λ b. cond b (cond made.repeated (tries_of made.token course + 1) 1) (tries_of made.token course) ≤ 3) (eq-eqb made.token made.token refl)
        (at_most g number course made))
