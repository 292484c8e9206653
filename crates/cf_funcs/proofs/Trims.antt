-- What `trim_start_matches` and `trim_end_matches` leave of a text at a space is the text without the spaces there.
use Rattle.std.proofs.Common.{◌≡◌, ◌≢◌, ℕ, ◌-◌, List, [], ◌∷◌, ◌++◌, length, take, drop, reverse, Some, None, refl, ap, sym, ◌∙◌, arith, eqb-true, nat_eq}
use Rattle.std.specs.Char.{encode_utf8}
use Rattle.std.specs.Str.Pattern.{FindsCharPrefix, FindsCharSuffix, CutsPrefixes, CutsSuffixes, IsFullyTrimmed, IsTrimStartMatches, IsTrimEndMatches}
use Rattle.std.proofs.lemmas.Str.{encode_ascii}
use Rattle.std.proofs.lemmas.Str.Pattern.{drop_at_char}
use Rattle.std.proofs.lemmas.List.{take-append-drop, reverse-append, reverse-reverse}
use Rattle.std.proofs.Math.Seq.{drop-length}
use Rattle.cf_funcs.proofs.Found.{false_from}
use Rattle.cf_funcs.specs.Pieces.{past_spaces}

space : encode_utf8 32 ≡ 32 ∷ []
space = encode_ascii 32 (omega arith)

-- a text that doesn't begin with a space has none to lose
at_front : (s : List ℕ) → ((rest : List ℕ) → s ≢ 32 ∷ rest) → past_spaces s ≡ s
at_front [] h = refl
at_front (b ∷ bs) h = rw (false_from (nat_eq b 32) (λ e. h bs (ap (λ n. n ∷ bs) (eqb-true b 32 e)))) refl

cut_fronts : (ns : List ℕ) (s r : List ℕ) → CutsPrefixes (FindsCharPrefix 32) s ns r → past_spaces s ≡ past_spaces r
cut_fronts [] s r e = ap past_spaces (sym e)
cut_fronts (n ∷ ns) s r (m, before, has, e) =
    cut_fronts ns s m before ∙ ap past_spaces (drop_at_char 32 m 0 n has (omega arith)) ∙ ap past_spaces (sym e)

front_done : (r : List ℕ) → IsFullyTrimmed (FindsCharPrefix 32) r → past_spaces r ≡ r
front_done r (None, f, z) = at_front r (λ rest e. f rest (e ∙ ap (λ t. t ++ rest) (sym space)))
front_done r (Some n, f, z) = absurd (omega (arith, f.ends))

pub front_trimmed : (s r : List ℕ) → IsTrimStartMatches (FindsCharPrefix 32) s r → r ≡ past_spaces s
front_trimmed s r ((ns, cuts), done) = sym (cut_fronts ns s r cuts ∙ front_done r done)

ends_with_space : (m : List ℕ) (n : ℕ) → FindsCharSuffix 32 m (Some n) → m ≡ take (length m - n) m ++ 32 ∷ []
ends_with_space m n has =
    let last : drop (length m - n) m ≡ 32 ∷ [] = has.1.split ∙ ap (λ t. t ++ drop (length m) m) space ∙ ap (λ t. 32 ∷ t) (drop-length m) in
    sym (take-append-drop (length m - n) m) ∙ ap (λ t. take (length m - n) m ++ t) last

cut_ends : (ns : List ℕ) (s r : List ℕ) → CutsSuffixes (FindsCharSuffix 32) s ns r → past_spaces (reverse s) ≡ past_spaces (reverse r)
cut_ends [] s r e = ap (λ t. past_spaces (reverse t)) (sym e)
cut_ends (n ∷ ns) s r (m, before, has, e) =
    cut_ends ns s m before ∙ ap (λ t. past_spaces (reverse t)) (ends_with_space m n has) ∙ ap past_spaces (reverse-append (take (length m - n) m) (32 ∷ []))
    ∙ ap (λ t. past_spaces (reverse t)) (sym e)

end_done : (r : List ℕ) → IsFullyTrimmed (FindsCharSuffix 32) r → past_spaces (reverse r) ≡ reverse r
end_done r (None, f, z) = at_front (reverse r) (λ rest e. f (reverse rest) (sym (reverse-reverse r) ∙ ap reverse e ∙ reverse-append (32 ∷ []) rest ∙ ap (λ t. reverse rest ++ t) (sym space)))
end_done r (Some n, f, z) = absurd (omega (arith, f.1.ends))

pub end_trimmed : (s r : List ℕ) → IsTrimEndMatches (FindsCharSuffix 32) s r → r ≡ reverse (past_spaces (reverse s))
end_trimmed s r ((ns, cuts), done) =
    sym (ap reverse (cut_ends ns s r cuts ∙ end_done r done) ∙ reverse-reverse r)
