-- The parts of a text with holes, hole by hole.
use Rattle.std.proofs.Common.{◌≡◌, ℕ, zero, suc, ◌+◌, ◌<◌, ◌≤◌, List, [], ◌∷◌, ◌++◌, length, take, drop, Bool, true, false, Option, Some, None, Result, Ok, Err, option_map, append_assoc, length-append, refl, ap, sym, ◌∙◌, nat_eq, arith, cond, subst, codes, ◌==◌, ◌≢◌, eqb-true, true≢false, ◌⊎◌, inl, inr}
use Rattle.std.specs.Prelude.{⊤}
use Rattle.std.specs.Char.{encode_utf8}
use Rattle.std.proofs.lemmas.Str.{encode_ascii}
use Rattle.cf_funcs.proofs.Found.{false_from}
use Rattle.cf_tree.specs.declared.parts.Part.TheVariants as part
use Rattle.std.specs.List.{starts_with}
use Rattle.std.proofs.lemmas.List.{take-append-drop}
use Rattle.std.proofs.lemmas.Slice.Eq.{bytes_eq-Decides}
use Rattle.cf_funcs.specs.Pieces.{cut_at}
use Rattle.cf_funcs.proofs.Parts.{cut_shorter}
use Rattle.cf_tree.specs.declared.parts.Part.{Part}
use Rattle.cf_template.specs.declared.subs.SubFault.{SubFault}
use Rattle.cf_template.specs.declared.subs.SubFault.TheVariants as fault
use Rattle.cf_template.specs.Subs.{plain_parts, hole_part, in_front, behind_part, hole_closed, hole_opened, parts_up_to, parts_of}

-- how long the pieces of a cut are
abbrev Fits : List ℕ → List ℕ → Option (List ℕ × List ℕ) → Type 0
Fits d s None = ⊤
Fits d s (Some k) = length s ≡ length k.0 + length d + length k.1

starts_at : (d s : List ℕ) → starts_with nat_eq s d ≡ true → s ≡ d ++ drop (length d) s
starts_at d s e = sym (take-append-drop (length d) s) ∙ ap (λ t. t ++ drop (length d) s) (sym ((bytes_eq-Decides d (take (length d) s)).0 e))

fits_step : (d : List ℕ) (b : ℕ) (bs : List ℕ) (t : Bool) → starts_with nat_eq (b ∷ bs) d ≡ t → (r : Option (List ℕ × List ℕ)) → Fits d bs r
    → Fits d (b ∷ bs) (cond t (Some ([], drop (length d) (b ∷ bs))) (option_map (λ cut. (b ∷ cut.0, cut.1)) r))
fits_step d b bs true e r h = omega (arith, ap length (starts_at d (b ∷ bs) e), length-append d (drop (length d) (b ∷ bs)))
fits_step d b bs false e None h = tt
fits_step d b bs false e (Some k) h = omega (arith, h)

fits : (d s : List ℕ) → Fits d s (cut_at d s)
fits d [] = tt
fits d (b ∷ bs) = fits_step d b bs (starts_with nat_eq (b ∷ bs) d) refl (cut_at d bs) (fits d bs)

pub cut_length : (d s : List ℕ) (k : List ℕ × List ℕ) → cut_at d s ≡ Some k → length s ≡ length k.0 + length d + length k.1
cut_length d s k e = let P : Option (List ℕ × List ℕ) → Type 0 = λ o. Fits d s o in subst P e (fits d s)

abbrev More : Type 0
More = ℕ → List ℕ → Result (List Part) SubFault

-- more holes than a text has bytes change nothing
closed_same : (f g : More) (at : ℕ) (s : List ℕ) (o : Option (List ℕ × List ℕ)) → cut_at (codes "}") s ≡ o
    → ((later : ℕ) (t : List ℕ) → length t < length s → f later t ≡ g later t) → hole_closed f at o ≡ hole_closed g at o
closed_same f g at s None e h = refl
closed_same f g at s (Some k) e h =
    ap (λ r. behind_part (hole_part at k.0) (λ p. in_front (p ∷ []) r)) (h (at + length k.0 + 3) k.1 (cut_shorter (codes "}") s k (omega arith) e))

opened_same : (f g : More) (at : ℕ) (s : List ℕ) (o : Option (List ℕ × List ℕ)) → cut_at (codes "${") s ≡ o
    → ((later : ℕ) (t : List ℕ) → length t < length s → f later t ≡ g later t) → hole_opened f at s o ≡ hole_opened g at s o
opened_same f g at s None e h = refl
opened_same f g at s (Some k) e h =
    let shorter = cut_shorter (codes "${") s k (omega arith) e in
    ap (in_front (plain_parts k.0)) (closed_same f g (at + length k.0) k.1 (cut_at (codes "}") k.1) refl (λ later t l. h later t (omega arith)))

enough : (m n at : ℕ) (s : List ℕ) → length s ≤ m → length s ≤ n → parts_up_to m at s ≡ parts_up_to n at s
enough zero zero at s a b = refl
enough zero (suc n) at [] a b = refl
enough zero (suc n) at (c ∷ cs) a b = absurd (omega arith)
enough (suc m) zero at [] a b = refl
enough (suc m) zero at (c ∷ cs) a b = absurd (omega arith)
enough (suc m) (suc n) at s a b =
    opened_same (λ later rest. parts_up_to m later rest) (λ later rest. parts_up_to n later rest) at s (cut_at (codes "${") s) refl
    (λ later t l. enough m n later t (omega arith) (omega arith))

-- the parts of a text that stands at a place
abbrev pub parts_at : ℕ → List ℕ → Result (List Part) SubFault
parts_at at s = parts_up_to (length s) at s

pub parts_opened : (at : ℕ) (s : List ℕ) → parts_at at s ≡ hole_opened parts_at at s (cut_at (codes "${") s)
parts_opened at [] = refl
parts_opened at (c ∷ cs) =
    opened_same (λ later rest. parts_up_to (length cs) later rest) parts_at at (c ∷ cs) (cut_at (codes "${") (c ∷ cs)) refl
    (λ later t l. enough (length cs) (length t) later t (omega arith) (omega arith))

in_front_twice : (ps qs : List Part) (r : Result (List Part) SubFault) → in_front ps (in_front qs r) ≡ in_front (ps ++ qs) r
in_front_twice ps qs (Ok rs) = ap Ok (sym (append_assoc ps qs rs))
in_front_twice ps qs (Err e) = refl

nothing : (r : Result (List Part) SubFault) → r ≡ in_front [] r
nothing (Ok rs) = refl
nothing (Err e) = refl

-- what is left of a text gives what was found before it and then its own parts
pub parts_begun : (text : List ℕ) → parts_of text ≡ in_front [] (parts_at 0 text)
parts_begun text = nothing (parts_at 0 text)

module _ (all : Result (List Part) SubFault) (found : List Part) (at : ℕ) (s : List ℕ) (so_far : all ≡ in_front found (parts_at at s)) where
  -- no hole is left
  pub ended : None ≡ cut_at (codes "${") s → all ≡ Ok (found ++ plain_parts s)
  ended e = so_far ∙ ap (in_front found) (parts_opened at s ∙ ap (hole_opened parts_at at s) (sym e))

  module _ (k : List ℕ × List ℕ) (begun : Some k ≡ cut_at (codes "${") s) where
    in_hole : all ≡ in_front found (in_front (plain_parts k.0) (hole_closed parts_at (at + length k.0) (cut_at (codes "}") k.1)))
    in_hole = so_far ∙ ap (in_front found) (parts_opened at s ∙ ap (hole_opened parts_at at s) (sym begun))

    pub unclosed : None ≡ cut_at (codes "}") k.1 → all ≡ Err (fault.Unclosed (at + length k.0))
    unclosed e = in_hole ∙ ap (λ o. in_front found (in_front (plain_parts k.0) (hole_closed parts_at (at + length k.0) o))) (sym e)

    module _ (h : List ℕ × List ℕ) (close : Some h ≡ cut_at (codes "}") k.1) where
      in_part : all ≡ in_front found (in_front (plain_parts k.0) (behind_part (hole_part (at + length k.0) h.0) (λ p. in_front (p ∷ []) (parts_at (at + length k.0 + length h.0 + 3) h.1))))
      in_part = in_hole ∙ ap (λ o. in_front found (in_front (plain_parts k.0) (hole_closed parts_at (at + length k.0) o))) (sym close)

      pub refused : (e : SubFault) → hole_part (at + length k.0) h.0 ≡ Err e → all ≡ Err e
      refused e r = in_part ∙ ap (λ o. in_front found (in_front (plain_parts k.0) (behind_part o (λ p. in_front (p ∷ []) (parts_at (at + length k.0 + length h.0 + 3) h.1))))) r

      pub passed : (p : Part) → hole_part (at + length k.0) h.0 ≡ Ok p
          → all ≡ in_front ((found ++ plain_parts k.0) ++ p ∷ []) (parts_at (at + length k.0 + length h.0 + 3) h.1)
      passed p r =
          in_part ∙ ap (λ o. in_front found (in_front (plain_parts k.0) (behind_part o (λ q. in_front (q ∷ []) (parts_at (at + length k.0 + length h.0 + 3) h.1))))) r
          ∙ in_front_twice found (plain_parts k.0) _ ∙ in_front_twice (found ++ plain_parts k.0) (p ∷ []) _

no_mark : (b : ℕ) (bs : List ℕ) → ((rest : List ℕ) → b ∷ bs ≢ encode_utf8 33 ++ rest) → (b == 33) ≡ false
no_mark b bs h = false_from _ (λ e. h bs (ap (λ n. n ∷ bs) (eqb-true b 33 e) ∙ ap (λ c. c ++ bs) (sym (encode_ascii 33 (omega arith)))))

-- a hole that has a name and doesn't begin with `!` is that name
pub named : (at : ℕ) (name : List ℕ) → ((rest : List ℕ) → name ≢ encode_utf8 33 ++ rest) → (length name == 0) ≡ false → hole_part at name ≡ Ok (part.Name name)
named at [] h e = absurd (true≢false e)
named at (b ∷ bs) h e = rw (no_mark b bs h) refl

-- the same of a cut at `${`, and at `}`
pub opened_length : (s x y : List ℕ) → Some (x, y) ≡ cut_at (codes "${") s → length s ≡ length x + 2 + length y
opened_length s x y e = cut_length (codes "${") s (x, y) (sym e)

pub closed_length : (s x y : List ℕ) → Some (x, y) ≡ cut_at (codes "}") s → length s ≡ length x + 1 + length y
closed_length s x y e = cut_length (codes "}") s (x, y) (sym e)

-- a hole that is refused, or for which memory was not there
pub refused_or : (all : Result (List Part) SubFault) (found : List Part) (at : ℕ) (s : List ℕ) → all ≡ in_front found (parts_at at s)
    → (k : List ℕ × List ℕ) → Some k ≡ cut_at (codes "${") s → (h : List ℕ × List ℕ) → Some h ≡ cut_at (codes "}") k.1
    → (e : SubFault) → (e ≡ fault.NoMemory) ⊎ (hole_part (at + length k.0) h.0 ≡ Err e) → (e ≡ fault.NoMemory) ⊎ (all ≡ Err e)
refused_or all found at s a k b h c e (inl m) = inl m
refused_or all found at s a k b h c e (inr r) = inr (refused all found at s a k b h c e r)
