-- What a crash leaves while a frame is put behind the last gate.
use Rattle.std.proofs.Common.{◌≡◌, ◌≢◌, ◌⊎◌, inl, inr, ℕ, ◌+◌, ◌-◌, ◌<◌, ◌≤◌, ◌^◌, List, [], ◌∷◌, ◌++◌, length, take, drop, get_or, Option, Some, Ok, refl, sym, ◌∙◌, ap, arith, append_assoc, length-append, take-append-drop}
use Rattle.std.proofs.lemmas.Bool.{cases_eq}
use Rattle.std.proofs.lemmas.Bool.Decides.{nat_tests}
use Rattle.std.proofs.lemmas.List.{take_at, drop_at, drop_more, append-nil}
use Rattle.std.proofs.lemmas.Nat.{from_be_bytes-to_be_bytes_4}
use Rattle.std.specs.Int.{w32, to_be_bytes, from_be_bytes}
use Rattle.cf_disk.specs.Disk.{Torn}
use Rattle.cf_journal.specs.Head.{head_of, made}
use Rattle.cf_journal.specs.Frames.{Reading, frame_of, body_size, with_frame, frames_of, read_by_head, reading_by, with_front}
use Rattle.cf_journal.specs.Runs.{staged, gate_opened}
use Rattle.cf_journal.specs.declared.head.Head.{Head}
use Rattle.cf_journal.specs.declared.head.Head.TheVariants.{Made}
use Rattle.cf_journal.proofs.Bodies.{frame_then, gate_shut, Parts, parts}

head_made : (frames : List ℕ) → head_of (made frames) ≡ Made
head_made frames = grind (arith, nat_tests)

module _ {E : Type 0} (entry_of : List ℕ → Option E) where
  pub reading_made : (frames : List ℕ) → reading_by entry_of (made frames) ≡ frames_of entry_of 9 frames
  reading_made frames = ap (λ (h : Head). read_by_head entry_of h (made frames)) (head_made frames)

  module _ (file : List ℕ) (is_made : file ≡ made (drop 9 file)) (es : List E) (end : ℕ) (read : reading_by entry_of file ≡ Ok (es, end)) where
    p : Parts entry_of 9 (drop 9 file) es end
    p = parts entry_of 9 (drop 9 file) es end (sym (ap (λ (l : List ℕ). reading_by entry_of l) is_made ∙ reading_made (drop 9 file)) ∙ read)

    base : List ℕ
    base = made p.front

    ends : length base + 1 ≡ end
    unfolding base
    ends = omega (arith, p.ends)

    split : file ≡ base ++ p.gate ∷ p.behind
    unfolding base
    split = is_made ∙ ap (λ (l : List ℕ). made l) p.split

    pub long : end ≤ length file
    long = omega (arith, ap length split, length-append base (p.gate ∷ p.behind), ends)

    front : take end file ≡ base ++ p.gate ∷ []
    front = ap (λ (l : List ℕ). take end l) (split ∙ sym (append_assoc base (p.gate ∷ []) p.behind)) ∙ take_at (base ++ p.gate ∷ []) p.behind end (omega (arith, length-append base (p.gate ∷ []), ends))

    -- what is read up to the last gate, and then from there on
    again : (gate : ℕ) (rest : List ℕ) → reading_by entry_of (base ++ gate ∷ rest) ≡ with_front es (frames_of entry_of (9 + length p.front) (gate ∷ rest))
    unfolding base
    again gate rest = reading_made (p.front ++ gate ∷ rest) ∙ p.again gate rest

    shut_again : (gate : ℕ) (rest : List ℕ) → gate ≢ 1 → reading_by entry_of (base ++ gate ∷ rest) ≡ Ok (es, end)
    shut_again gate rest shut =
        again gate rest ∙ ap (λ (r : Reading E). with_front es r) (gate_shut entry_of (9 + length p.front) gate rest shut)
        ∙ ap (λ (l : List E). Ok (l, 9 + length p.front + 1)) (append-nil es) ∙ ap (λ (n : ℕ). Ok (es, n)) p.ends

    -- the shut gate stands in each outcome of the first write
    pub torn_behind : (n : ℕ) (c : List ℕ) → Torn end n file c → reading_by entry_of c ≡ Ok (es, end)
    torn_behind n c torn =
        let whole : c ≡ base ++ p.gate ∷ drop end c = sym (take-append-drop end c) ∙ ap (λ (l : List ℕ). l ++ drop end c) (torn.before ∙ front) ∙ append_assoc base (p.gate ∷ []) (drop end c) in
        ap (λ (l : List ℕ). reading_by entry_of l) whole ∙ shut_again p.gate (drop end c) p.shut

    module _ (body : List ℕ) (e : E) (entry : entry_of body ≡ Some e) (small : length body < 2 ^ 32) where
      head : List ℕ
      head = to_be_bytes w32 (length body) ++ body

      abbrev pub frame : List ℕ
      frame = frame_of body

      size : length frame ≡ 5 + length body
      unfolding head
      size = omega (arith, length-append (to_be_bytes w32 (length body) ++ body) (0 ∷ []))

      tail : List ℕ
      tail = drop (end + length frame) file

      staged_is : staged file end frame ≡ base ++ p.gate ∷ (frame ++ tail)
      unfolding tail
      staged_is = ap (λ (l : List ℕ). l ++ frame ++ drop (end + length frame) file) front ∙ ap (λ (l : List ℕ). l ++ drop (end + length frame) file) (append_assoc base (p.gate ∷ []) frame)
          ∙ append_assoc base (p.gate ∷ frame) (drop (end + length frame) file)

      staged_long : end + length frame ≤ length (staged file end frame)
      staged_long = omega (arith, ap length staged_is, length-append base (p.gate ∷ (frame ++ tail)), length-append frame tail, ends)

      before_gate : take (end - 1) (staged file end frame) ≡ base
      before_gate = ap (λ (l : List ℕ). take (end - 1) l) staged_is ∙ take_at base (p.gate ∷ (frame ++ tail)) (end - 1) (omega (arith, ends))

      behind_gate : drop (end - 1 + 1) (staged file end frame) ≡ frame ++ tail
      behind_gate = ap (λ (l : List ℕ). drop (end - 1 + 1) l) (staged_is ∙ sym (append_assoc base (p.gate ∷ []) (frame ++ tail)))
          ∙ drop_at (base ++ p.gate ∷ []) (frame ++ tail) (end - 1 + 1) (omega (arith, length-append base (p.gate ∷ []), ends))

      -- the frame is there, and its gate is open
      open_again : reading_by entry_of (base ++ 1 ∷ (frame ++ tail)) ≡ Ok (es ++ e ∷ [], end + length frame)
      unfolding head
      open_again =
          let at = 9 + length p.front in
          let whole : frame ++ tail ≡ head ++ 0 ∷ tail = append_assoc head (0 ∷ []) tail in
          let says : body_size head ≡ length body = ap (λ (l : List ℕ). from_be_bytes w32 l) (take_at (to_be_bytes w32 (length body)) body 4 refl) ∙ from_be_bytes-to_be_bytes_4 (length body) small in
          let here : drop 4 head ≡ body = drop_at (to_be_bytes w32 (length body)) body 4 refl in
          let first : frames_of entry_of at (1 ∷ head ++ 0 ∷ tail) ≡ Ok (e ∷ [], at + 5 + length body + 1) =
          frame_then entry_of at head (length body) (0 ∷ tail) (length-append (to_be_bytes w32 (length body)) body) says (omega arith)
          ∙ ap (λ (b : List ℕ). with_frame at (entry_of b) (frames_of entry_of (at + 5 + length body) (0 ∷ tail))) here
          ∙ ap (λ (o : Option E). with_frame at o (frames_of entry_of (at + 5 + length body) (0 ∷ tail))) entry
          ∙ ap (λ (r : Reading E). with_frame at (Some e) r) (gate_shut entry_of (at + 5 + length body) 0 tail (omega arith)) in
          again 1 (frame ++ tail) ∙ ap (λ (l : List ℕ). with_front es (frames_of entry_of at (1 ∷ l))) whole ∙ ap (λ (r : Reading E). with_front es r) first
          ∙ ap (λ (n : ℕ). Ok (es ++ e ∷ [], n)) (omega (arith, p.ends, size))

      -- the frame stands whole in each outcome of the second write
      pub torn_gate : (c : List ℕ) → Torn (end - 1) 1 (staged file end frame) c → (reading_by entry_of c ≡ Ok (es, end)) ⊎ (reading_by entry_of c ≡ Ok (es ++ e ∷ [], end + length frame))
      torn_gate c torn =
          let gate = get_or c (end - 1) 0 in
          let rest : drop (end - 1) c ≡ gate ∷ (frame ++ tail) = drop_more c (end - 1) 0 (omega (arith, torn.no_shorter, staged_long, ends, size)) ∙ ap (λ (l : List ℕ). gate ∷ l) (torn.after ∙ behind_gate) in
          let whole : c ≡ base ++ gate ∷ (frame ++ tail) = sym (take-append-drop (end - 1) c) ∙ ap (λ (l : List ℕ). l ++ drop (end - 1) c) (torn.before ∙ before_gate) ∙ ap (λ (l : List ℕ). base ++ l) rest in
          elim (cases_eq gate 1) [
            | inl is_open ↦ inr (ap (λ (l : List ℕ). reading_by entry_of l) whole ∙ ap (λ (g : ℕ). reading_by entry_of (base ++ g ∷ (frame ++ tail))) is_open ∙ open_again)
            | inr shut ↦ inl (ap (λ (l : List ℕ). reading_by entry_of l) whole ∙ shut_again gate (frame ++ tail) shut)
          ]

      opened_is : gate_opened file end frame ≡ base ++ 1 ∷ (frame ++ tail)
      opened_is = ap (λ (l : List ℕ). l ++ (1 ∷ []) ++ drop (end - 1 + 1) (staged file end frame)) before_gate ∙ ap (λ (l : List ℕ). (base ++ 1 ∷ []) ++ l) behind_gate ∙ append_assoc base (1 ∷ []) (frame ++ tail)

      pub reading_opened : reading_by entry_of (gate_opened file end frame) ≡ Ok (es ++ e ∷ [], end + length frame)
      reading_opened = ap (λ (l : List ℕ). reading_by entry_of l) opened_is ∙ open_again

      pub opened_made : gate_opened file end frame ≡ made (drop 9 (gate_opened file end frame))
      unfolding base
      opened_made = opened_is ∙ ap (λ (l : List ℕ). made (drop 9 l)) (sym opened_is)
