-- The readers of numbers, texts, lists and options fit their spellings.
use Rattle.std.proofs.Common.{◌≡◌, ℕ, zero, suc, ◌^◌, ◌<◌, ◌≤◌, false, cond, ltb, eqb, List, [], ◌∷◌, ◌++◌, length, take, drop, Option, Some, None, refl, sym, ap, subst, ◌∙◌, append_assoc, arith, inl, inr}
use Rattle.std.specs.Prelude.{IfSome}
use Rattle.std.specs.Int.{Width, byte_len, w32, w64, from_be_bytes, to_be_bytes}
use Rattle.std.specs.List.{flat_map, AllByRecursion}
use Rattle.std.specs.Str.{is_utf8}
use Rattle.std.proofs.lemmas.Bool.{ltb-false, le-ltb, eqb-true}
use Rattle.std.proofs.lemmas.List.{take_at, drop_at, take-append-drop, length-append, length-take}
use Rattle.std.proofs.lemmas.Nat.{be_bytes_4, be_bytes_8, from_be_bytes-to_be_bytes_4, from_be_bytes-to_be_bytes_8}
use Rattle.std.proofs.lemmas.Str.{is_utf8-from_IsUtf8, IsUtf8-from_is_utf8}
use Rattle.cf_entry.specs.Bytes.{four_bytes, eight_bytes, text_bytes, list_bytes, option_bytes, pair_bytes, IsRun, IsText, IsEight, IsPair, IsTemplate, AreAll}
use Rattle.cf_entry.specs.Reading.{◌>>=◌, byte_at, four_at, eight_at, run_at, utf8_of, text_at, many_at, list_at, option_at, pair_at, template_at}
use Rattle.cf_entry.proofs.Codec.{IsBytes, IsBytes-take, IsBytes-drop, IsBytes-rest, some_is, bind_some, if_some, guard_some, test_some, test_bind, Taken, Codes, codes_then, codes_pick}

-- ---- numbers

byte_takes : (bytes : List ℕ) (x : ℕ) (rest : List ℕ) → IsBytes bytes → byte_at bytes ≡ Some (x, rest) → Taken (λ b. b ∷ []) (λ b. b < 256) bytes x rest
byte_takes [] x rest h e = absurd cc
byte_takes (b ∷ bytes) x rest h e =
    subst (λ (p : ℕ × List ℕ). Taken (λ c. c ∷ []) (λ c. c < 256) (b ∷ bytes) p.0 p.1) (some_is (b, bytes) (x, rest) e) (record { parts = refl; fits = h 0; left = IsBytes-rest b bytes h })

pub codes_byte : Codes (λ b. b ∷ []) (λ b. b < 256) byte_at
codes_byte = record { takes = byte_takes; again = λ x rest h. refl }

-- numbers of any width, so that nothing computes
module _ (w : Width) (limit : ℕ) where
  number_at : List ℕ → Option (ℕ × List ℕ)
  number_at bytes = cond (ltb (length bytes) (byte_len w)) None (Some (from_be_bytes w (take (byte_len w) bytes), drop (byte_len w) bytes))

  record IsWide : Type 0 where
    len : (n : ℕ) → length (to_be_bytes w n) ≡ byte_len w
    back : (bytes : List ℕ) → length bytes ≡ byte_len w → IsBytes bytes → to_be_bytes w (from_be_bytes w bytes) ≡ bytes
    again : (n : ℕ) → n < limit → from_be_bytes w (to_be_bytes w n) ≡ n
    below : (bytes : List ℕ) → IsBytes bytes → from_be_bytes w bytes < limit

  number_takes : IsWide → (bytes : List ℕ) (n : ℕ) (rest : List ℕ) → IsBytes bytes → number_at bytes ≡ Some (n, rest) → Taken (to_be_bytes w) (λ m. m < limit) bytes n rest
  unfolding number_at
  number_takes wide bytes n rest h e =
      let g = guard_some (ltb (length bytes) (byte_len w)) (from_be_bytes w (take (byte_len w) bytes), drop (byte_len w) bytes) (n, rest) e in
      let long : byte_len w ≤ length bytes = ltb-false _ _ g.0 in
      let front = take (byte_len w) bytes in
      let fits : IsBytes front = IsBytes-take (byte_len w) bytes h in
      let back : to_be_bytes w (from_be_bytes w front) ≡ front = wide.back front (omega (arith, length-take (byte_len w) bytes)) fits in
      let made : Taken (to_be_bytes w) (λ m. m < limit) bytes (from_be_bytes w front) (drop (byte_len w) bytes) = record { parts = rw back (sym (take-append-drop (byte_len w) bytes)); fits = wide.below front fits; left = IsBytes-drop (byte_len w) bytes h } in
      subst (λ (p : ℕ × List ℕ). Taken (to_be_bytes w) (λ m. m < limit) bytes p.0 p.1) g.1 made

  number_again : IsWide → (n : ℕ) (rest : List ℕ) → n < limit → number_at (to_be_bytes w n ++ rest) ≡ Some (n, rest)
  unfolding number_at
  number_again wide n rest lt =
      let len = wide.len n in
      let long : ltb (length (to_be_bytes w n ++ rest)) (byte_len w) ≡ false = le-ltb _ _ (omega (arith, length-append (to_be_bytes w n) rest)) in
      rw (long, take_at (to_be_bytes w n) rest (byte_len w) len, drop_at (to_be_bytes w n) rest (byte_len w) len, wide.again n lt) refl

  codes_number : IsWide → Codes (to_be_bytes w) (λ m. m < limit) number_at
  codes_number wide = record { takes = number_takes wide; again = number_again wide }

pub codes_four : Codes four_bytes (λ n. n < 2 ^ 32) four_at
unfolding number_at
codes_four = codes_number w32 (2 ^ 32) (record {
  len = λ n. refl;
  back = λ bytes len fits. be_bytes_4 bytes _ len fits refl;
  again = λ n lt. from_be_bytes-to_be_bytes_4 n lt;
  below = λ bytes fits. omega (arith, fits 0, fits 1, fits 2, fits 3);
})

pub codes_eight : Codes eight_bytes IsEight eight_at
unfolding number_at
codes_eight = codes_number w64 (2 ^ 64) (record {
  len = λ n. refl;
  back = λ bytes len fits. be_bytes_8 bytes _ len fits refl;
  again = λ n lt. from_be_bytes-to_be_bytes_8 n lt;
  below = λ bytes fits. omega (arith, fits 0, fits 1, fits 2, fits 3, fits 4, fits 5, fits 6, fits 7);
})

-- ---- texts

run_takes : (bytes text rest : List ℕ) → IsBytes bytes → run_at bytes ≡ Some (text, rest) → Taken text_bytes IsRun bytes text rest
unfolding run_at
run_takes bytes text rest h e =
    let b = bind_some (four_at bytes) (λ n. cond (ltb (length n.1) n.0) None (Some (take n.0 n.1, drop n.0 n.1))) (text, rest) e in
    let n = b.0 in
    let t = codes_four.takes bytes n.0 n.1 h b.1 in
    let g = guard_some (ltb (length n.1) n.0) (take n.0 n.1, drop n.0 n.1) (text, rest) b.2 in
    let long : n.0 ≤ length n.1 = ltb-false _ _ g.0 in
    let len : length (take n.0 n.1) ≡ n.0 = omega (arith, length-take n.0 n.1) in
    let small = t.fits in
    let parts : bytes ≡ (four_bytes n.0 ++ take n.0 n.1) ++ drop n.0 n.1 = t.parts ∙ ap (λ r. four_bytes n.0 ++ r) (sym (take-append-drop n.0 n.1)) in
    let made : Taken text_bytes IsRun bytes (take n.0 n.1) (drop n.0 n.1) = record { parts = subst (λ (k : ℕ). bytes ≡ (four_bytes k ++ take n.0 n.1) ++ drop n.0 n.1) (sym len) parts; fits = omega arith; left = IsBytes-drop n.0 n.1 t.left } in
    subst (λ (p : List ℕ × List ℕ). Taken text_bytes IsRun bytes p.0 p.1) g.1 made

run_again : (text rest : List ℕ) → length text < 2 ^ 32 → run_at (text_bytes text ++ rest) ≡ Some (text, rest)
unfolding run_at
run_again text rest lt =
    let long : ltb (length (text ++ rest)) (length text) ≡ false = le-ltb _ _ (omega (arith, length-append text rest)) in
    rw (codes_four.again (length text) (text ++ rest) lt, long, take_at text rest (length text) refl, drop_at text rest (length text) refl) refl

pub codes_run : Codes text_bytes IsRun run_at
codes_run = record { takes = run_takes; again = run_again }

pub codes_text : Codes text_bytes IsText text_at
unfolding text_at
codes_text = codes_pick text_bytes IsRun run_at utf8_of text_bytes IsText codes_run
    (λ a b run e. let t = test_some (is_utf8 a) a b e in (ap text_bytes t.1, subst IsText t.1 (run, IsUtf8-from_is_utf8 a t.0)))
    (λ b h. (b, h.0, rw (is_utf8-from_IsUtf8 b h.1) refl, refl))

-- ---- lists

module _ {X : Type 0} (spell : X → List ℕ) (Is : X → Type 0) (one : List ℕ → Option (X × List ℕ)) (c : Codes spell Is one) where
  -- what a reader of n members took
  record Many (bytes : List ℕ) (n : ℕ) (xs : List X) (rest : List ℕ) : Type 0 where
    parts : bytes ≡ flat_map spell xs ++ rest
    number : length xs ≡ n
    fits : AllByRecursion Is xs
    left : IsBytes rest

  many_takes : (n : ℕ) (bytes : List ℕ) (xs : List X) (rest : List ℕ) → IsBytes bytes → many_at one n bytes ≡ Some (xs, rest) → Many bytes n xs rest
  unfolding many_at
  many_takes zero bytes xs rest h e =
      subst (λ (p : List X × List ℕ). Many bytes 0 p.0 p.1) (some_is ([], bytes) (xs, rest) e) (record { parts = refl; number = refl; fits = tt; left = h })
  many_takes (suc n) bytes xs rest h e =
      let a = bind_some (one bytes) (λ x. many_at one n x.1 >>= λ ys. Some (x.0 ∷ ys.0, ys.1)) (xs, rest) e in
      let b = bind_some (many_at one n a.0.1) (λ ys. Some (a.0.0 ∷ ys.0, ys.1)) (xs, rest) a.2 in
      let t = c.takes bytes a.0.0 a.0.1 h a.1 in
      let m = many_takes n a.0.1 b.0.0 b.0.1 t.left b.1 in
      let made : Many bytes (suc n) (a.0.0 ∷ b.0.0) b.0.1 = record {
        parts = t.parts ∙ ap (λ r. spell a.0.0 ++ r) m.parts ∙ sym (append_assoc (spell a.0.0) (flat_map spell b.0.0) b.0.1);
        number = ap suc m.number;
        fits = (t.fits, m.fits);
        left = m.left;
      } in
      subst (λ (p : List X × List ℕ). Many bytes (suc n) p.0 p.1) (some_is (a.0.0 ∷ b.0.0, b.0.1) (xs, rest) b.2) made

  many_again : (xs : List X) (rest : List ℕ) → AllByRecursion Is xs → many_at one (length xs) (flat_map spell xs ++ rest) ≡ Some (xs, rest)
  unfolding many_at
  many_again [] rest h = refl
  many_again (x ∷ xs) rest h =
      let regrouped : flat_map spell (x ∷ xs) ++ rest ≡ spell x ++ (flat_map spell xs ++ rest) = append_assoc (spell x) (flat_map spell xs) rest in
      ap (many_at one (suc (length xs))) regrouped ∙ rw (c.again x (flat_map spell xs ++ rest) h.0, many_again xs rest h.1) refl

  list_takes : (bytes : List ℕ) (xs : List X) (rest : List ℕ) → IsBytes bytes → list_at one bytes ≡ Some (xs, rest) → Taken (list_bytes spell) (AreAll Is) bytes xs rest
  unfolding list_at
  list_takes bytes xs rest h e =
      let a = bind_some (four_at bytes) (λ n. many_at one n.0 n.1) (xs, rest) e in
      let t = codes_four.takes bytes a.0.0 a.0.1 h a.1 in
      let m = many_takes a.0.0 a.0.1 xs rest t.left a.2 in
      let parts : bytes ≡ (four_bytes a.0.0 ++ flat_map spell xs) ++ rest = t.parts ∙ ap (λ r. four_bytes a.0.0 ++ r) m.parts in
      record {
        parts = subst (λ (k : ℕ). bytes ≡ (four_bytes k ++ flat_map spell xs) ++ rest) (sym m.number) parts;
        fits = (rw m.number t.fits, m.fits);
        left = m.left;
      }

  list_again : (xs : List X) (rest : List ℕ) → AreAll Is xs → list_at one (list_bytes spell xs ++ rest) ≡ Some (xs, rest)
  unfolding list_at
  list_again xs rest h = rw (codes_four.again (length xs) (flat_map spell xs ++ rest) h.0) (many_again xs rest h.1)

  pub codes_list : Codes (list_bytes spell) (AreAll Is) (list_at one)
  codes_list = record { takes = list_takes; again = list_again }

  option_takes : (bytes : List ℕ) (o : Option X) (rest : List ℕ) → IsBytes bytes → option_at one bytes ≡ Some (o, rest) → Taken (option_bytes spell) (λ p. IfSome p Is) bytes o rest
  unfolding option_at
  option_takes [] o rest h e = absurd cc
  option_takes (b ∷ bytes) o rest h e =
      let none : Taken (option_bytes spell) (λ p. IfSome p Is) (0 ∷ bytes) None bytes = record { parts = refl; fits = tt; left = IsBytes-rest b bytes h } in
      elim (if_some (eqb b 0) (Some (None, bytes)) (cond (eqb b 1) (one bytes >>= λ x. Some (Some x.0, x.1)) None) (o, rest) e) [
        | inl a ↦ subst (λ (k : ℕ). Taken (option_bytes spell) (λ p. IfSome p Is) (k ∷ bytes) o rest) (sym (eqb-true _ _ a.0)) (subst (λ (p : Option X × List ℕ). Taken (option_bytes spell) (λ q. IfSome q Is) (0 ∷ bytes) p.0 p.1) (some_is (None, bytes) (o, rest) a.1) none)
        | inr a ↦
            let g = test_bind (eqb b 1) (one bytes >>= λ x. Some (Some x.0, x.1)) (o, rest) a.1 in
            let s = bind_some (one bytes) (λ x. Some (Some x.0, x.1)) (o, rest) g.1 in
            let t = c.takes bytes s.0.0 s.0.1 (IsBytes-rest b bytes h) s.1 in
            let made : Taken (option_bytes spell) (λ p. IfSome p Is) (1 ∷ bytes) (Some s.0.0) s.0.1 = record { parts = ap (λ r. 1 ∷ r) t.parts; fits = t.fits; left = t.left } in
            subst (λ (k : ℕ). Taken (option_bytes spell) (λ p. IfSome p Is) (k ∷ bytes) o rest) (sym (eqb-true _ _ g.0)) (subst (λ (p : Option X × List ℕ). Taken (option_bytes spell) (λ q. IfSome q Is) (1 ∷ bytes) p.0 p.1) (some_is (Some s.0.0, s.0.1) (o, rest) s.2) made)
      ]

  option_again : (o : Option X) (rest : List ℕ) → IfSome o Is → option_at one (option_bytes spell o ++ rest) ≡ Some (o, rest)
  unfolding option_at
  option_again None rest h = refl
  option_again (Some x) rest h = rw (c.again x rest h) refl

  pub codes_option : Codes (option_bytes spell) (λ o. IfSome o Is) (option_at one)
  codes_option = record { takes = option_takes; again = option_again }

-- ---- pairs

pub codes_pair : Codes pair_bytes IsPair pair_at
codes_pair = codes_then text_bytes IsText text_at text_bytes IsText text_at codes_text codes_text

pub codes_template : Codes pair_bytes IsTemplate template_at
codes_template = codes_then text_bytes IsText text_at text_bytes IsRun run_at codes_text codes_run
