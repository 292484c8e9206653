-- What frames of a journal say.
use Rattle.std.proofs.Common.{◌≡◌, ◌≢◌, inl, inr, ℕ, zero, suc, ◌+◌, ◌<◌, ◌≤◌, Bool, true, false, cond, List, [], ◌∷◌, ◌++◌, length, take, drop, nat_lt, nat_eq, Option, Some, None, Ok, Err, refl, sym, ◌∙◌, ap, subst, arith, append_assoc, length-append, length-drop, take-append-drop}
use Rattle.std.proofs.lemmas.Bool.{cases_eq, cases_Bool}
use Rattle.std.proofs.lemmas.Bool.Decides.{nat_tests}
use Rattle.std.proofs.lemmas.List.{take_at, drop_at, take-append-le, drop-append-le, take-take, drop-take, length-take-le}
use Rattle.std.specs.Int.{w32, from_be_bytes}
use Rattle.cf_journal.specs.Frames.{Reading, body_size, is_whole, body_of, next_of, with_frame, frames_from, frames_of, length_in, with_front}

front_again : {E : Type 0} (at : ℕ) (e : E) (es : List E) (read : Reading E) → with_frame at (Some e) (with_front es read) ≡ with_front (e ∷ es) read
front_again at e es (Ok read) = refl
front_again at e es (Err offset) = refl

no_front : {E : Type 0} (read : Reading E) → with_front [] read ≡ read
no_front (Ok read) = refl
no_front (Err offset) = refl

length_next : (bytes : List ℕ) → length (next_of bytes) ≤ length bytes
length_next bytes = omega (arith, length-drop (4 + body_size bytes) bytes)

ltb_true : (m n : ℕ) → m < n → nat_lt m n ≡ true
ltb_true m n less = grind (arith, nat_tests)

entries_in : {E : Type 0} → Reading E → List E
entries_in (Ok read) = read.0
entries_in (Err offset) = []

one_reading : {E : Type 0} (read : Reading E) (es fs : List E) (n m : ℕ) → read ≡ Ok (es, n) → read ≡ Ok (fs, m) → (es ≡ fs) × (n ≡ m)
unfolding entries_in
one_reading read es fs n m a b = (ap entries_in (sym a ∙ b), ap length_in (sym a ∙ b))

not_both : {E : Type 0} (read : Reading E) (es : List E) (n at : ℕ) → read ≡ Ok (es, n) → read ≡ Err at → ⊥
not_both read es n at a b = cc

-- a frame behind its gate, whole
record Whole (head : List ℕ) (size : ℕ) (tail : List ℕ) : Type 0 where
  whole : is_whole (head ++ tail) ≡ true
  says : body_size (head ++ tail) ≡ size
  body : body_of (head ++ tail) ≡ drop 4 head
  next : next_of (head ++ tail) ≡ tail

whole : (head : List ℕ) (size : ℕ) (tail : List ℕ) → length head ≡ 4 + size → body_size head ≡ size → 0 < length tail → Whole head size tail
whole head size tail long says some =
    let same : body_size (head ++ tail) ≡ size = ap (λ (l : List ℕ). from_be_bytes w32 l) (take-append-le 4 head tail (omega arith)) ∙ says in
    let all : length (head ++ tail) ≡ length head + length tail = length-append head tail in
    record {
      whole = ltb_true (4 + body_size (head ++ tail)) (length (head ++ tail)) (omega arith);
      says = same;
      body = ap (λ (n : ℕ). take n (drop 4 (head ++ tail))) same ∙ ap (λ (l : List ℕ). take size l) (drop-append-le 4 head tail (omega arith)) ∙ take_at (drop 4 head) tail size (omega (arith, length-drop 4 head));
      next = drop_at head tail (4 + body_size (head ++ tail)) (omega arith);
    }

-- what was read is a frame and others
record Framed {E : Type 0} (maybe : Option E) (read : Reading E) (es : List E) (size : ℕ) : Type 0 where
  first : E
  entry : maybe ≡ Some first
  others : List E
  rest : read ≡ Ok (others, size)
  all : es ≡ first ∷ others

pub frame_parts : (behind : List ℕ) → is_whole behind ≡ true → 4 + length (body_of behind) + length (next_of behind) ≡ length behind
frame_parts behind is =
    let low : 4 + body_size behind < length behind = grind (arith, nat_tests) in
    omega (arith, length-take-le (body_size behind) (drop 4 behind) (omega (arith, length-drop 4 behind)), length-drop (4 + body_size behind) behind)

module _ {E : Type 0} (entry_of : List ℕ → Option E) where
  -- more than enough frames may be asked for
  pub enough : (n m at : ℕ) (bytes : List ℕ) → length bytes ≤ n → length bytes ≤ m → frames_from entry_of n at bytes ≡ frames_from entry_of m at bytes
  enough zero zero at bytes low high = refl
  enough zero (suc m) at [] low high = refl
  enough zero (suc m) at (gate ∷ bytes) low high = absurd (omega arith)
  enough (suc n) zero at [] low high = refl
  enough (suc n) zero at (gate ∷ bytes) low high = absurd (omega arith)
  enough (suc n) (suc m) at [] low high = refl
  enough (suc n) (suc m) at (gate ∷ bytes) low high =
      ap (λ (r : Reading E). cond (nat_eq gate 1) (cond (is_whole bytes) (with_frame at (entry_of (body_of bytes)) r) (Err at)) (Ok ([], at + 1)))
      (enough n m (at + 5 + body_size bytes) (next_of bytes) (omega (arith, length_next bytes)) (omega (arith, length_next bytes)))

  -- the frame behind an open gate
  pub frame_first : (at : ℕ) (bytes : List ℕ) → is_whole bytes ≡ true
      → frames_of entry_of at (1 ∷ bytes) ≡ with_frame at (entry_of (body_of bytes)) (frames_of entry_of (at + 5 + body_size bytes) (next_of bytes))
  frame_first at bytes whole =
      ap (λ (b : Bool). cond b (with_frame at (entry_of (body_of bytes)) (frames_from entry_of (length bytes) (at + 5 + body_size bytes) (next_of bytes))) (Err at)) whole
      ∙ ap (λ (r : Reading E). with_frame at (entry_of (body_of bytes)) r)
      (enough (length bytes) (length (next_of bytes)) (at + 5 + body_size bytes) (next_of bytes) (length_next bytes) (omega arith))

  pub frame_broken : (at : ℕ) (bytes : List ℕ) → is_whole bytes ≡ false → frames_of entry_of at (1 ∷ bytes) ≡ Err at
  frame_broken at bytes cut = ap (λ (b : Bool). cond b (with_frame at (entry_of (body_of bytes)) (frames_from entry_of (length bytes) (at + 5 + body_size bytes) (next_of bytes))) (Err at)) cut

  -- a gate that is not open ends them, whatever follows
  pub gate_shut : (at gate : ℕ) (bytes : List ℕ) → gate ≢ 1 → frames_of entry_of at (gate ∷ bytes) ≡ Ok ([], at + 1)
  gate_shut at gate bytes shut = grind (arith, nat_tests)

  -- a frame, by its length and its body, and a gate behind it
  pub frame_then : (at : ℕ) (head : List ℕ) (size : ℕ) (tail : List ℕ) → length head ≡ 4 + size → body_size head ≡ size → 0 < length tail
      → frames_of entry_of at (1 ∷ head ++ tail) ≡ with_frame at (entry_of (drop 4 head)) (frames_of entry_of (at + 5 + size) tail)
  frame_then at head size tail long says some =
      let is : Whole head size tail = whole head size tail long says some in
      frame_first at (head ++ tail) is.whole
      ∙ ap (λ (b : List ℕ). with_frame at (entry_of b) (frames_of entry_of (at + 5 + body_size (head ++ tail)) (next_of (head ++ tail)))) is.body
      ∙ ap (λ (n : ℕ). with_frame at (entry_of (drop 4 head)) (frames_of entry_of (at + 5 + n) (next_of (head ++ tail)))) is.says
      ∙ ap (λ (l : List ℕ). with_frame at (entry_of (drop 4 head)) (frames_of entry_of (at + 5 + size) l)) is.next

  -- Frames, and what is read of them whatever gate stands behind them, open or not.
  pub record Parts (at : ℕ) (bytes : List ℕ) (es : List E) (size : ℕ) : Type 0 where
    pub front : List ℕ
    pub gate : ℕ
    pub behind : List ℕ
    pub split : bytes ≡ front ++ gate ∷ behind
    pub shut : gate ≢ 1
    pub ends : at + length front + 1 ≡ size
    pub again : (g : ℕ) (rest : List ℕ) → frames_of entry_of at (front ++ g ∷ rest) ≡ with_front es (frames_of entry_of (at + length front) (g ∷ rest))

  -- no frame
  no_parts : (at gate : ℕ) (bytes : List ℕ) (es : List E) (size : ℕ) → gate ≢ 1 → frames_of entry_of at (gate ∷ bytes) ≡ Ok (es, size) → Parts at (gate ∷ bytes) es size
  no_parts at gate bytes es size shut read =
      let same = one_reading (frames_of entry_of at (gate ∷ bytes)) [] es (at + 1) size (gate_shut at gate bytes shut) read in
      record {
        front = [];
        gate = gate;
        behind = bytes;
        split = refl;
        shut = shut;
        ends = omega (arith, same.1);
        again = λ g rest. sym (ap (λ (l : List E). with_front l (frames_of entry_of (at + 0) (g ∷ rest))) (sym same.0) ∙ no_front (frames_of entry_of (at + 0) (g ∷ rest)) ∙ ap (λ (n : ℕ). frames_of entry_of n (g ∷ rest)) (omega arith));
      }

  -- one frame more
  more_parts : (at : ℕ) (bytes : List ℕ) (e : E) (es : List E) (size : ℕ) → is_whole bytes ≡ true → entry_of (body_of bytes) ≡ Some e
      → Parts (at + 5 + body_size bytes) (next_of bytes) es size → Parts at (1 ∷ bytes) (e ∷ es) size
  more_parts at bytes e es size is entry rest =
      let n = body_size bytes in
      let head = take (4 + n) bytes in
      let low : 4 + n < length bytes = grind (arith, nat_tests) in
      let long : length head ≡ 4 + n = length-take-le (4 + n) bytes (omega arith) in
      let says : body_size head ≡ n = ap (λ (l : List ℕ). from_be_bytes w32 l) (take-take 4 (4 + n) bytes (omega arith)) in
      let body : drop 4 head ≡ body_of bytes = drop-take 4 n bytes in
      record {
        front = 1 ∷ head ++ rest.front;
        gate = rest.gate;
        behind = rest.behind;
        split = ap (λ (l : List ℕ). 1 ∷ l) (sym (take-append-drop (4 + n) bytes) ∙ ap (λ (l : List ℕ). head ++ l) rest.split ∙ sym (append_assoc head rest.front (rest.gate ∷ rest.behind)));
        shut = rest.shut;
        ends = omega (arith, rest.ends, length-append head rest.front);
        again = λ g more.
            let tail = rest.front ++ g ∷ more in
            let some : 0 < length tail = omega (arith, length-append rest.front (g ∷ more)) in
            ap (λ (l : List ℕ). frames_of entry_of at (1 ∷ l)) (append_assoc head rest.front (g ∷ more))
            ∙ frame_then at head n tail long says some
            ∙ ap (λ (b : List ℕ). with_frame at (entry_of b) (frames_of entry_of (at + 5 + n) tail)) body
            ∙ ap (λ (o : Option E). with_frame at o (frames_of entry_of (at + 5 + n) tail)) entry
            ∙ ap (λ (r : Reading E). with_frame at (Some e) r) (rest.again g more)
            ∙ front_again at e es (frames_of entry_of (at + 5 + n + length rest.front) (g ∷ more))
            ∙ ap (λ (k : ℕ). with_front (e ∷ es) (frames_of entry_of k (g ∷ more))) (omega (arith, length-append head rest.front));
      }

  framed : (at : ℕ) (entry : Option E) (read : Reading E) (es : List E) (size : ℕ) → with_frame at entry read ≡ Ok (es, size) → Framed entry read es size
  unfolding entries_in
  framed at None read es size is = absurd cc
  framed at (Some e) (Err offset) es size is = absurd cc
  framed at (Some e) (Ok read) es size is = record { first = e; entry = refl; others = read.0; rest = ap (λ (k : ℕ). Ok (read.0, k)) (ap length_in is); all = sym (ap entries_in is) }

  parts_from : (n at : ℕ) (bytes : List ℕ) (es : List E) (size : ℕ) → length bytes ≤ n → frames_of entry_of at bytes ≡ Ok (es, size) → Parts at bytes es size
  parts_from zero at [] es size low read = absurd cc
  parts_from zero at (gate ∷ bytes) es size low read = absurd (omega arith)
  parts_from (suc n) at [] es size low read = absurd cc
  parts_from (suc n) at (gate ∷ bytes) es size low read = elim (cases_eq gate 1) [
    | inr shut ↦ no_parts at gate bytes es size shut read
    | inl is_open ↦ elim (cases_Bool (is_whole bytes)) [
      | inr cut ↦
          absurd (not_both (frames_of entry_of at (gate ∷ bytes)) es size at read (ap (λ (g : ℕ). frames_of entry_of at (g ∷ bytes)) is_open ∙ frame_broken at bytes cut))
      | inl is ↦
          let f : Framed (entry_of (body_of bytes)) (frames_of entry_of (at + 5 + body_size bytes) (next_of bytes)) es size =
          framed at (entry_of (body_of bytes)) (frames_of entry_of (at + 5 + body_size bytes) (next_of bytes)) es size
          (sym (ap (λ (g : ℕ). frames_of entry_of at (g ∷ bytes)) is_open ∙ frame_first at bytes is) ∙ read) in
          let rest = parts_from n (at + 5 + body_size bytes) (next_of bytes) f.others size (omega (arith, length_next bytes)) f.rest in
          subst (λ (l : List E). Parts at (gate ∷ bytes) l size) (sym f.all) (subst (λ (g : ℕ). Parts at (g ∷ bytes) (f.first ∷ f.others) size) (sym is_open) (more_parts at bytes f.first f.others size is f.entry rest))
    ]
  ]

  pub parts : (at : ℕ) (bytes : List ℕ) (es : List E) (size : ℕ) → frames_of entry_of at bytes ≡ Ok (es, size) → Parts at bytes es size
  parts at bytes es size read = parts_from (length bytes) at bytes es size (omega arith) read

  front_more : (at : ℕ) (es : List E) (e : E) (read : Reading E) → with_front (es ++ e ∷ []) read ≡ with_front es (with_frame at (Some e) read)
  front_more at es e (Ok read) = ap (λ (l : List E). Ok (l, read.1)) (append_assoc es (e ∷ []) read.0)
  front_more at es e (Err offset) = refl

  -- a loop reads one frame more
  pub front_step : (at : ℕ) (es : List E) (e : E) (behind body next : List ℕ) → is_whole behind ≡ true → body ≡ body_of behind → next ≡ next_of behind → Some e ≡ entry_of body
      → with_front (es ++ e ∷ []) (frames_of entry_of (at + (5 + length body)) next) ≡ with_front es (frames_of entry_of at (1 ∷ behind))
  front_step at es e behind body next is body-is next-is entry =
      let low : 4 + body_size behind < length behind = grind (arith, nat_tests) in
      let size : length body ≡ body_size behind = ap length body-is ∙ length-take-le (body_size behind) (drop 4 behind) (omega (arith, length-drop 4 behind)) in
      front_more at es e (frames_of entry_of (at + (5 + length body)) next)
      ∙ ap (λ (l : List ℕ). with_front es (with_frame at (Some e) (frames_of entry_of (at + (5 + length body)) l))) next-is
      ∙ ap (λ (n : ℕ). with_front es (with_frame at (Some e) (frames_of entry_of n (next_of behind)))) (omega (arith, size))
      ∙ ap (λ (o : Option E). with_front es (with_frame at o (frames_of entry_of (at + 5 + body_size behind) (next_of behind)))) (entry ∙ ap (λ (b : List ℕ). entry_of b) body-is)
      ∙ ap (λ (r : Reading E). with_front es r) (sym (frame_first at behind is))
