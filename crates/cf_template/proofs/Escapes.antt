-- A text with a word in place of each byte, piece by piece.
use Rattle.std.proofs.Common.{◌≡◌, ℕ, ◌&&◌, List, [], ◌∷◌, ◌++◌, length, slice_index, Bool, true, false, Option, Some, None, option_map, append_assoc, refl, ap, sym, ◌∙◌, nat_eq, arith, cond, subst}
use Rattle.std.specs.List.{starts_with}
use Rattle.cf_funcs.specs.Pieces.{cut_at}
use Rattle.cf_template.specs.Places.{replaced}

abbrev Says : ℕ → List ℕ → List ℕ → Option (List ℕ × List ℕ) → Type 0
Says b w s None = replaced b w s ≡ s
Says b w s (Some k) = replaced b w s ≡ k.0 ++ (w ++ replaced b w k.1)

and_true : (a : Bool) → (a && true) ≡ a
and_true true = refl
and_true false = refl

starts_one : (b c : ℕ) (cs : List ℕ) → starts_with nat_eq (c ∷ cs) (b ∷ []) ≡ nat_eq b c
starts_one b c cs = and_true (nat_eq b c)

says_step : (b : ℕ) (w : List ℕ) (c : ℕ) (cs : List ℕ) (t : Bool) → nat_eq b c ≡ t → (r : Option (List ℕ × List ℕ)) → Says b w cs r
    → Says b w (c ∷ cs) (cond t (Some ([], cs)) (option_map (λ cut. (c ∷ cut.0, cut.1)) r))
says_step b w c cs true e r h = rw e refl
says_step b w c cs false e None h = rw e (ap (λ t. c ∷ t) h)
says_step b w c cs false e (Some k) h = rw e (ap (λ t. c ∷ t) h)

says : (b : ℕ) (w s : List ℕ) → Says b w s (cut_at (b ∷ []) s)
says b w [] = refl
says b w (c ∷ cs) = rw (starts_one b c cs) (says_step b w c cs (nat_eq b c) refl (cut_at (b ∷ []) cs) (says b w cs))

says_of : (d w s : List ℕ) → length d ≡ 1 → Says (slice_index d 0) w s (cut_at d s)
says_of [] w s h = absurd (omega (arith, h))
says_of (b ∷ []) w s h = says b w s
says_of (b ∷ c ∷ ds) w s h = absurd (omega (arith, h))

pub replaced_cut : (d w s : List ℕ) (k : List ℕ × List ℕ) → length d ≡ 1 → cut_at d s ≡ Some k
    → replaced (slice_index d 0) w s ≡ k.0 ++ (w ++ replaced (slice_index d 0) w k.1)
replaced_cut d w s k h e = let P : Option (List ℕ × List ℕ) → Type 0 = λ o. Says (slice_index d 0) w s o in subst P e (says_of d w s h)

pub replaced_whole : (d w s : List ℕ) → length d ≡ 1 → cut_at d s ≡ None → replaced (slice_index d 0) w s ≡ s
replaced_whole d w s h e = let P : Option (List ℕ × List ℕ) → Type 0 = λ o. Says (slice_index d 0) w s o in subst P e (says_of d w s h)

-- what was added before, then a piece and the word, and what the text behind that gives, is all
pub grown : (d w all text middle later s : List ℕ) (k : List ℕ × List ℕ) → length d ≡ 1 → Some k ≡ cut_at d s
    → all ≡ text ++ replaced (slice_index d 0) w s → middle ≡ text ++ k.0 → later ≡ middle ++ w
    → all ≡ later ++ replaced (slice_index d 0) w k.1
grown d w all text middle later s k h e a m l =
    a ∙ ap (λ t. text ++ t) (replaced_cut d w s k h (sym e)) ∙ sym (append_assoc text k.0 (w ++ replaced (slice_index d 0) w k.1))
    ∙ sym (append_assoc (text ++ k.0) w (replaced (slice_index d 0) w k.1)) ∙ ap (λ t. t ++ replaced (slice_index d 0) w k.1) (ap (λ t. t ++ w) (sym m) ∙ sym l)
