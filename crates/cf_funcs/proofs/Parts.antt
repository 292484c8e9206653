-- What a text's pieces are: joined they are the text, and none has the delimiter.
use Rattle.std.proofs.Common.{◌≡◌, ℕ, zero, suc, ◌<◌, ◌≤◌, List, [], ◌∷◌, ◌++◌, length, take, drop, Bool, true, false, Option, Some, None, option_map, refl, ap, sym, ◌∙◌, nat_eq, arith, append_assoc, length-append, cond, subst, map, append-nil, true≢false}
use Rattle.std.specs.Prelude.{All}
use Rattle.std.specs.List.{starts_with, flat_map}
use Rattle.std.specs.Option.{option_map_or}
use Rattle.std.specs.Str.Iter.{HasSubslice}
use Rattle.std.proofs.lemmas.Option.{none-some}
use Rattle.std.proofs.lemmas.List.{take-append-drop}
use Rattle.std.proofs.lemmas.List.Elements.{All-nil, All-cons}
use Rattle.std.proofs.lemmas.Slice.Eq.{bytes_eq-Decides}
use Rattle.cf_funcs.proofs.Found.{starts_yes}
use Rattle.cf_funcs.specs.Pieces.{cut_at, cut_up_to, pieces_of, joined}

-- where a text is cut
record IsCut (d s x y : List ℕ) : Type 0 where
  whole : s ≡ x ++ (d ++ y)
  first : (a b : List ℕ) → x ≡ a ++ (d ++ b) → ⊥

none : (d a b : List ℕ) → 0 < length d → [] ≡ a ++ (d ++ b) → ⊥
none d a b h e = omega (arith, length-append a (d ++ b), length-append d b, ap length e)

tail_of : List ℕ → List ℕ
tail_of [] = []
tail_of (x ∷ xs) = xs

tails : (b c : ℕ) (xs ys : List ℕ) → b ∷ xs ≡ c ∷ ys → xs ≡ ys
unfolding tail_of
tails b c xs ys e = ap tail_of e

starts_at : (d s : List ℕ) → starts_with nat_eq s d ≡ true → s ≡ d ++ drop (length d) s
starts_at d s e = sym (take-append-drop (length d) s) ∙ ap (λ t. t ++ drop (length d) s) (sym ((bytes_eq-Decides d (take (length d) s)).0 e))

-- d doesn't stand at the front of s, and so the first piece begins with s's first byte
first_more : (d : List ℕ) (b : ℕ) (bs x y : List ℕ) → starts_with nat_eq (b ∷ bs) d ≡ false → IsCut d bs x y → (a e : List ℕ) → b ∷ x ≡ a ++ (d ++ e) → ⊥
first_more d b bs x y lacks c [] e q =
    let at_front : b ∷ bs ≡ d ++ (e ++ (d ++ y)) = ap (λ t. b ∷ t) c.whole ∙ ap (λ t. t ++ (d ++ y)) q ∙ append_assoc d e (d ++ y) in
    true≢false (sym (starts_yes d (b ∷ bs) (e ++ (d ++ y)) at_front) ∙ lacks)
first_more d b bs x y lacks c (a ∷ as') e q = c.first as' e (tails b a _ _ q)

none_more : (d : List ℕ) (b : ℕ) (bs : List ℕ) → starts_with nat_eq (b ∷ bs) d ≡ false → ((a e : List ℕ) → bs ≡ a ++ (d ++ e) → ⊥) → (a e : List ℕ) → b ∷ bs ≡ a ++ (d ++ e) → ⊥
none_more d b bs lacks n [] e q = true≢false (sym (starts_yes d (b ∷ bs) e q) ∙ lacks)
none_more d b bs lacks n (a ∷ as') e q = n as' e (tails b a _ _ q)

abbrev IsCutOr : List ℕ → List ℕ → Option (List ℕ × List ℕ) → Type 0
IsCutOr d s None = (a b : List ℕ) → s ≡ a ++ (d ++ b) → ⊥
IsCutOr d s (Some c) = IsCut d s c.0 c.1

step : (d : List ℕ) (b : ℕ) (bs : List ℕ) (t : Bool) → 0 < length d → starts_with nat_eq (b ∷ bs) d ≡ t → (r : Option (List ℕ × List ℕ)) → IsCutOr d bs r
    → IsCutOr d (b ∷ bs) (cond t (Some ([], drop (length d) (b ∷ bs))) (option_map (λ cut. (b ∷ cut.0, cut.1)) r))
step d b bs true h e r k = record { whole = starts_at d (b ∷ bs) e; first = λ x y q. none d x y h q }
step d b bs false h e None k = none_more d b bs e k
step d b bs false h e (Some c) k = record { whole = ap (λ t. b ∷ t) k.whole; first = first_more d b bs c.0 c.1 e k }

cuts : (d s : List ℕ) → 0 < length d → IsCutOr d s (cut_at d s)
cuts d [] h = λ x y q. none d x y h q
cuts d (b ∷ bs) h = step d b bs (starts_with nat_eq (b ∷ bs) d) h refl (cut_at d bs) (cuts d bs h)

is_cut : (d s : List ℕ) (c : List ℕ × List ℕ) → 0 < length d → cut_at d s ≡ Some c → IsCut d s c.0 c.1
is_cut d s c h e = let P : Option (List ℕ × List ℕ) → Type 0 = λ o. IsCutOr d s o in subst P e (cuts d s h)

-- what is left after a cut is shorter
pub cut_shorter : (d s : List ℕ) (c : List ℕ × List ℕ) → 0 < length d → cut_at d s ≡ Some c → length c.1 < length s
cut_shorter d s c h e =
    let whole = (is_cut d s c h e).whole in
    omega (arith, ap length whole, length-append c.0 (d ++ c.1), length-append d c.1)

-- more cuts than a text has bytes change nothing
enough_after : (d s : List ℕ) (m n : ℕ) (o : Option (List ℕ × List ℕ))
    → ((c : List ℕ × List ℕ) → o ≡ Some c → cut_up_to m d c.1 ≡ cut_up_to n d c.1)
    → option_map_or (λ cut. cut.0 ∷ cut_up_to m d cut.1) o (s ∷ []) ≡ option_map_or (λ cut. cut.0 ∷ cut_up_to n d cut.1) o (s ∷ [])
enough_after d s m n None k = refl
enough_after d s m n (Some c) k = ap (λ ps. c.0 ∷ ps) (k c refl)

uncut : (n : ℕ) (d : List ℕ) → cut_up_to n d [] ≡ [] ∷ []
uncut zero d = refl
uncut (suc n) d = refl

no_bytes : (s : List ℕ) → length s ≤ 0 → s ≡ []
no_bytes [] h = refl
no_bytes (b ∷ bs) h = absurd (omega arith)

enough : (d : List ℕ) → 0 < length d → (m n : ℕ) (s : List ℕ) → length s ≤ m → length s ≤ n → cut_up_to m d s ≡ cut_up_to n d s
enough d h zero n s a b = rw (no_bytes s a) (sym (uncut n d))
enough d h (suc m) zero s a b = rw (no_bytes s b) refl
enough d h (suc m) (suc n) s a b =
    enough_after d s m n (cut_at d s)
    (λ c e. let shorter = cut_shorter d s c h e in enough d h m n c.1 (omega arith) (omega arith))

-- a text that is cut has its first piece and then those of what is left
pub pieces-cut : (d s : List ℕ) (c : List ℕ × List ℕ) → 0 < length d → cut_at d s ≡ Some c → pieces_of d s ≡ c.0 ∷ pieces_of d c.1
pieces-cut d [] c h e = absurd (none-some c e)
pieces-cut d (b ∷ bs) c h e =
    let shorter = cut_shorter d (b ∷ bs) c h e in
    rw e (ap (λ ps. c.0 ∷ ps) (enough d h (length bs) (length c.1) c.1 (omega arith) (omega arith)))

-- a text that isn't cut is its only piece
pub pieces-whole : (d s : List ℕ) → cut_at d s ≡ None → pieces_of d s ≡ s ∷ []
pieces-whole d [] e = refl
pieces-whole d (b ∷ bs) e = rw e refl

spread : (d : List ℕ) (ps : List (List ℕ)) → 0 < length ps → flat_map (λ p. d ++ p) ps ≡ d ++ joined d ps
spread d [] h = absurd (omega arith)
spread d (p ∷ ps) h = append_assoc d p _

some_after : (n : ℕ) (d s : List ℕ) (o : Option (List ℕ × List ℕ)) → 0 < length (option_map_or (λ cut. cut.0 ∷ cut_up_to n d cut.1) o (s ∷ []))
some_after n d s None = omega arith
some_after n d s (Some c) = omega arith

some_pieces : (n : ℕ) (d s : List ℕ) → 0 < length (cut_up_to n d s)
some_pieces zero d s = omega arith
some_pieces (suc n) d s = some_after n d s (cut_at d s)

joined_after : (n : ℕ) (d s : List ℕ) (o : Option (List ℕ × List ℕ)) → IsCutOr d s o
    → ((c : List ℕ × List ℕ) → joined d (cut_up_to n d c.1) ≡ c.1)
    → joined d (option_map_or (λ cut. cut.0 ∷ cut_up_to n d cut.1) o (s ∷ [])) ≡ s
joined_after n d s None k rest = append-nil s
joined_after n d s (Some c) k rest =
    ap (λ t. c.0 ++ t) (spread d (cut_up_to n d c.1) (some_pieces n d c.1) ∙ ap (λ t. d ++ t) (rest c)) ∙ sym k.whole

joined_up_to : (n : ℕ) (d s : List ℕ) → 0 < length d → joined d (cut_up_to n d s) ≡ s
joined_up_to zero d s h = append-nil s
joined_up_to (suc n) d s h = joined_after n d s (cut_at d s) (cuts d s h) (λ c. joined_up_to n d c.1 h)

-- the pieces joined are the text
pub joined-pieces_of : (d s : List ℕ) → 0 < length d → joined d (pieces_of d s) ≡ s
joined-pieces_of d s h = joined_up_to (length s) d s h

abbrev Lacks : List ℕ → List ℕ → Type 0
Lacks d piece = ¬ (HasSubslice piece d)

apart_after : (n : ℕ) (d s : List ℕ) (o : Option (List ℕ × List ℕ)) → IsCutOr d s o
    → ((c : List ℕ × List ℕ) → o ≡ Some c → All (Lacks d) (cut_up_to n d c.1))
    → All (Lacks d) (option_map_or (λ cut. cut.0 ∷ cut_up_to n d cut.1) o (s ∷ []))
apart_after n d s None k rest = All-cons (Lacks d) s [] (λ t. k t.0 t.1 t.2) (All-nil (Lacks d))
apart_after n d s (Some c) k rest = All-cons (Lacks d) c.0 (cut_up_to n d c.1) (λ t. k.first t.0 t.1 t.2) (rest c refl)

apart_up_to : (n : ℕ) (d s : List ℕ) → 0 < length d → length s ≤ n → All (Lacks d) (cut_up_to n d s)
apart_up_to zero d s h few =
    All-cons (Lacks d) s [] (λ t. none d t.0 t.1 h (sym (no_bytes s few) ∙ t.2)) (All-nil (Lacks d))
apart_up_to (suc n) d s h few =
    apart_after n d s (cut_at d s) (cuts d s h)
    (λ c e. let shorter = cut_shorter d s c h e in apart_up_to n d c.1 h (omega arith))

-- no piece has the delimiter
pub apart-pieces_of : (d s : List ℕ) → 0 < length d → All (λ piece. ¬ (HasSubslice piece d)) (pieces_of d s)
apart-pieces_of d s h = apart_up_to (length s) d s h (omega arith)

-- a piece more, and the pieces of what is left
pub piece_more : (d s text : List ℕ) (done more : List (List ℕ)) (c : List ℕ × List ℕ) → 0 < length d → Some c ≡ cut_at d s
    → pieces_of d text ≡ done ++ pieces_of d s → more ≡ done ++ c.0 ∷ [] → pieces_of d text ≡ more ++ pieces_of d c.1
piece_more d s text done more c h e k m =
    k ∙ ap (λ ps. done ++ ps) (pieces-cut d s c h (sym e)) ∙ sym (append_assoc done (c.0 ∷ []) (pieces_of d c.1)) ∙ ap (λ ps. ps ++ pieces_of d c.1) (sym m)

-- the same of members, each of which f makes of its piece
pub member_more : (d s : List ℕ) (all done more : List (List ℕ)) (f : List ℕ → List ℕ) (c : List ℕ × List ℕ) (member : List ℕ) → 0 < length d → Some c ≡ cut_at d s
    → all ≡ done ++ map f (pieces_of d s) → member ≡ f c.0 → more ≡ done ++ member ∷ [] → all ≡ more ++ map f (pieces_of d c.1)
member_more d s all done more f c member h e k g m =
    k ∙ ap (λ ps. done ++ map f ps) (pieces-cut d s c h (sym e)) ∙ sym (append_assoc done (f c.0 ∷ []) (map f (pieces_of d c.1)))
    ∙ ap (λ t. (done ++ t ∷ []) ++ map f (pieces_of d c.1)) (sym g) ∙ ap (λ ps. ps ++ map f (pieces_of d c.1)) (sym m)
