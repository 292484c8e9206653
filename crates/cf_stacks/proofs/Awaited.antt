-- A call that is awaited stays so.
use Rattle.std.proofs.Common.{◌≡◌, ℕ, ◌==◌, inl, Bool, true, false, ◌||◌, not, List, [], ◌∷◌, ◌++◌, Option, Some, None, filter, refl, sym, ap, ◌∙◌, subst, arith, cond, option_map}
use Rattle.std.proofs.lemmas.Slice.Eq.{bytes_eq-Decides}
use Rattle.std.specs.Str.{bytes_eq}
use Rattle.std.specs.Option.{option_map_or, unwrap_or}
use Rattle.cf_tree.specs.Keys.{put, value_at}
use Rattle.cf_tree.proofs.Lookups.{put_here, put_else}
use Rattle.cf_tree.specs.declared.request.Request.{Request}
use Rattle.cf_entry.specs.declared.entry.Begun.TheVariants as begin
use Rattle.cf_entry.specs.declared.entry.Entry.{Entry}
use Rattle.cf_entry.specs.declared.entry.Entry.TheVariants as entry
use Rattle.cf_entry.specs.declared.entry.Reply.{Reply}
use Rattle.cf_effect.specs.World.{StackState, World, stack_at, stack_of_operation}
use Rattle.cf_effect.specs.Bounds.{IsShortReply}
use Rattle.cf_stacks.specs.Room.{Standing, has_call, is_awaited, stack_of_call, stepped, with_awaited, with_room, without_awaited}
use Rattle.cf_stacks.specs.RoomStays.{RoomAct, MakesRoom, Steps, AwaitedStays, RepeatIsAwaited, RoomStays, Spare, room_acted, all_acted, spares}

same_number : (t : ℕ) → (t == t) ≡ true
same_number t = Prim.grind (arith)

left : (a b : Bool) → a ≡ true → (a || b) ≡ true
left true b e = refl
left false b e = cc

right : (a b : Bool) → b ≡ true → (a || b) ≡ true
right true b e = refl
right false b e = e

more : (a b c : Bool) → (b ≡ true → c ≡ true) → (a || b) ≡ true → (a || c) ≡ true
more true b c f e = refl
more false b c f e = f e

has_last : (t : ℕ) (ts : List ℕ) → has_call t (ts ++ t ∷ []) ≡ true
has_last t [] = left (t == t) false (same_number t)
has_last t (u ∷ ts) = right (t == u) (has_call t (ts ++ t ∷ [])) (has_last t ts)

has_more : (t u : ℕ) (ts : List ℕ) → has_call t ts ≡ true → has_call t (ts ++ u ∷ []) ≡ true
has_more t u [] e = cc
has_more t u (v ∷ ts) h = more (t == v) (has_call t ts) (has_call t (ts ++ u ∷ [])) (has_more t u ts) h

kept_one : (t v : ℕ) (ts : List ℕ) (test : ℕ → Bool) (s b : Bool) → (t == v) ≡ s → test v ≡ b → ((t == v) ≡ true → test v ≡ true)
    → (has_call t ts ≡ true → has_call t (filter test ts) ≡ true) → (s || has_call t ts) ≡ true → has_call t (cond b (v ∷ filter test ts) (filter test ts)) ≡ true
kept_one t v ts test true true se te f ih h = left (t == v) (has_call t (filter test ts)) se
kept_one t v ts test true false se te f ih h = let k = f se in absurd cc
kept_one t v ts test false true se te f ih h = right (t == v) (has_call t (filter test ts)) (ih h)
kept_one t v ts test false false se te f ih h = ih h

kept_in : (t : ℕ) (test : ℕ → Bool) (ts : List ℕ) → ((v : ℕ) → (t == v) ≡ true → test v ≡ true) → has_call t ts ≡ true → has_call t (filter test ts) ≡ true
kept_in t test [] f e = cc
kept_in t test (v ∷ ts) f h = kept_one t v ts test (t == v) (test v) refl refl (f v) (kept_in t test ts f) h

not_true : (b : Bool) → b ≡ false → not b ≡ true
not_true true e = cc
not_true false e = refl

is_false : (b : Bool) → not b ≡ true → b ≡ false
is_false true e = cc
is_false false e = refl

other_number : (t u v : ℕ) → (u == t) ≡ false → (t == v) ≡ true → (u == v) ≡ false
other_number t u v n e = Prim.grind (arith)

number_same : (t u : ℕ) → (u == t) ≡ true → t ≡ u
number_same t u e = Prim.grind (arith)

kept_without : (t u : ℕ) (ts : List ℕ) → (u == t) ≡ false → has_call t ts ≡ true → has_call t (without_awaited u ts) ≡ true
kept_without t u ts n h = kept_in t (λ v. not (u == v)) ts (λ v e. not_true (u == v) (other_number t u v n e)) h

joined : (t : ℕ) (ts : List ℕ) → has_call t (with_awaited t ts) ≡ true
joined t ts = has_last t (without_awaited t ts)

kept_with : (t u : ℕ) (ts : List ℕ) → has_call t ts ≡ true → has_call t (with_awaited u ts) ≡ true
kept_with t u ts h = by (u == t) refl
  where
    by : (b : Bool) → (u == t) ≡ b → has_call t (with_awaited u ts) ≡ true
    by true e = let same : t ≡ u = number_same t u e in subst (λ v. has_call t (with_awaited v ts) ≡ true) same (joined t ts)
    by false e = has_more t u (without_awaited u ts) (kept_without t u ts e h)

-- the calls under a name
abbrev calls_at : List ℕ → List (List ℕ × List ℕ) → List ℕ
calls_at name all = unwrap_or (value_at name all) []

-- they are those that were put under it, or else stay
stays_put : (name other : List ℕ) (t : ℕ) (ts : List ℕ) (all : List (List ℕ × List ℕ)) → (name ≡ other → has_call t ts ≡ true) → has_call t (calls_at name all) ≡ true
    → has_call t (calls_at name (put other ts all)) ≡ true
stays_put name other t ts all f h = by (bytes_eq name other) refl
  where
    by : (b : Bool) → bytes_eq name other ≡ b → has_call t (calls_at name (put other ts all)) ≡ true
    by true e =
        let same : name ≡ other = (bytes_eq-Decides name other).0 e in
        let here : value_at name (put other ts all) ≡ Some ts = subst (λ (k : List ℕ). value_at k (put other ts all) ≡ Some ts) (sym same) (put_here other ts all) in
        ap (λ (o : Option (List ℕ)). has_call t (unwrap_or o [])) here ∙ f same
    by false e = ap (λ (o : Option (List ℕ)). has_call t (unwrap_or o [])) (put_else name other ts all e) ∙ h

stays_by : (name : List ℕ) (t : ℕ) (all : List (List ℕ × List ℕ)) (change : List ℕ → List ℕ) (o : Option (List ℕ × StackState)) → ((ts : List ℕ) → has_call t ts ≡ true → has_call t (change ts) ≡ true)
    → has_call t (calls_at name all) ≡ true → has_call t (calls_at name (option_map_or (λ (s : List ℕ × StackState). put s.0 (change (calls_at s.0 all)) all) o all)) ≡ true
stays_by name t all change None f h = h
stays_by name t all change (Some s) f h =
    stays_put name s.0 t (change (calls_at s.0 all)) all (λ same. f (calls_at s.0 all) (subst (λ (k : List ℕ). has_call t (calls_at k all) ≡ true) same h)) h

-- an operation that begins on another stack
stays_apart : (name other : List ℕ) (t : ℕ) (all : List (List ℕ × List ℕ)) (o : Option StackState) → bytes_eq name other ≡ false → has_call t (calls_at name all) ≡ true
    → has_call t (calls_at name (option_map_or (λ (s : List ℕ × StackState). put s.0 [] all) (option_map (λ (s : StackState). (other, s)) o) all)) ≡ true
stays_apart name other t all None n h = h
stays_apart name other t all (Some s) n h = stays_put name other t [] all (λ same. let e : bytes_eq name other ≡ true = (bytes_eq-Decides name other).1 same in absurd (cc)) h

stays : (name : List ℕ) (t : ℕ) (x : Standing) (e : Entry) → spares name t e ≡ true → has_call t (calls_at name x.awaited) ≡ true → has_call t (calls_at name (stepped x e).awaited) ≡ true
stays name t x (entry.Opened epoch lanes) n h = h
stays name t x (entry.Begin number other (begin.Create source)) n h =
    stays_put name other t [] x.awaited (λ same. let e : bytes_eq name other ≡ true = (bytes_eq-Decides name other).1 same in let d : bytes_eq name other ≡ false = is_false (bytes_eq name other) n in absurd (cc)) h
stays name t x (entry.Begin number other (begin.Update source)) n h = stays_apart name other t x.awaited (stack_at other x.world) (is_false (bytes_eq name other) n) h
stays name t x (entry.Begin number other (begin.Delete paths)) n h = stays_by name t x.awaited (λ ts. ts) (option_map (λ (s : StackState). (other, s)) (stack_at other x.world)) (λ ts k. k) h
stays name t x (entry.Begin number other (begin.Continue paths)) n h = stays_by name t x.awaited (λ ts. ts) (option_map (λ (s : StackState). (other, s)) (stack_at other x.world)) (λ ts k. k) h
stays name t x (entry.Kept number path physical w) n h = stays_by name t x.awaited (λ ts. ts) (stack_of_operation number x.world) (λ ts k. k) h
stays name t x (entry.Intent number u lane path r) n h = stays_by name t x.awaited (with_awaited u) (stack_of_operation number x.world) (λ ts k. kept_with t u ts k) h
stays name t x (entry.Outcome number u answer before after) n h =
    stays_by name t x.awaited (without_awaited u) (stack_of_operation number x.world) (λ ts k. kept_without t u ts (is_false (u == t) n) k) h
stays name t x (entry.Phase number p cause) n h = stays_by name t x.awaited (λ ts. ts) (stack_of_operation number x.world) (λ ts k. k) h
stays name t x (entry.Done number state failed) n h = stays_by name t x.awaited (λ ts. ts) (stack_of_operation number x.world) (λ ts k. k) h
stays name t x (entry.ChangeSet number other source rows outputs) n h =
    stays_put name other t (calls_at other x.awaited) x.awaited (λ same. subst (λ (k : List ℕ). has_call t (calls_at k x.awaited) ≡ true) same h) h

stays_room : (name : List ℕ) (t : ℕ) (x : Standing) (e : Entry) → has_call t (calls_at name x.awaited) ≡ true → has_call t (calls_at name (with_room e x).awaited) ≡ true
stays_room name t x (entry.Opened epoch lanes) h = h
stays_room name t x (entry.Begin number other k) h = h
stays_room name t x (entry.Kept number path physical w) h = h
stays_room name t x (entry.Intent number u lane path r) h = stays_by name t x.awaited (with_awaited u) (stack_of_call u x.world) (λ ts k. kept_with t u ts k) h
stays_room name t x (entry.Outcome number u answer before after) h = h
stays_room name t x (entry.Phase number p cause) h = h
stays_room name t x (entry.Done number state failed) h = h
stays_room name t x (entry.ChangeSet number other source rows outputs) h = h

stays_all : (name : List ℕ) (t : ℕ) (x : Standing) (acts : List RoomAct) → Spare name t acts → has_call t (calls_at name x.awaited) ≡ true → has_call t (calls_at name (all_acted x acts).awaited) ≡ true
stays_all name t x [] n h = h
stays_all name t x (MakesRoom e ∷ acts) n h = stays_all name t (room_acted x (MakesRoom e)) acts n (stays_room name t x e h)
stays_all name t x (Steps e ∷ acts) n h = stays_all name t (room_acted x (Steps e)) acts n.1 (stays name t x e n.0 h)

intended : (name : List ℕ) (t : ℕ) (s : StackState) (all : List (List ℕ × List ℕ)) (o : Option (List ℕ × StackState)) → o ≡ Some (name, s)
    → has_call t (calls_at name (option_map_or (λ (s : List ℕ × StackState). put s.0 (with_awaited t (calls_at s.0 all)) all) o all)) ≡ true
intended name t s all o e =
    subst (λ (p : Option (List ℕ × StackState)). has_call t (calls_at name (option_map_or (λ (s : List ℕ × StackState). put s.0 (with_awaited t (calls_at s.0 all)) all) p all)) ≡ true) (sym e)
    (ap (λ (q : Option (List ℕ)). has_call t (unwrap_or q [])) (put_here name (with_awaited t (calls_at name all)) all) ∙ joined t (calls_at name all))

answered_in : (name : List ℕ) (t : ℕ) (s : StackState) (all : List (List ℕ × List ℕ)) (o : Option (List ℕ × StackState)) → o ≡ Some (name, s) → has_call t (calls_at name all) ≡ true
    → option_map_or (λ (s : List ℕ × StackState). has_call t (calls_at s.0 all)) o false ≡ true
answered_in name t s all o e h = subst (λ (p : Option (List ℕ × StackState)). option_map_or (λ (s : List ℕ × StackState). has_call t (calls_at s.0 all)) p false ≡ true) (sym e) h

pub room_stays : RoomStays
room_stays x number token lane path name r acts later before after answer s t going spare then_going short =
    let y = stepped x (entry.Intent number token lane path r) in
    inl (
      answered_in name token t (all_acted y acts).awaited (stack_of_operation later (all_acted y acts).world) then_going
          (stays_all name token y acts spare (intended name token s x.awaited (stack_of_operation number x.world) going)),
      short,
    )

pub awaited_stays : AwaitedStays
awaited_stays x name token acts spare h = stays_all name token x acts spare h

pub repeat_is_awaited : RepeatIsAwaited
repeat_is_awaited x number token lane path name r s found = intended name token s x.awaited (stack_of_call token x.world) found
