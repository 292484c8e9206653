use Rattle.std.proofs.Common.{◌≡◌, ◌∙◌, All, ap, map, string_bytes, sym, List, ℕ, subst}
use Rattle.std.specs.Str.Iter.{HasSubslice}
use Rattle.std.proofs.lemmas.Result.{IfOk-weaker}
use Rattle.cf_funcs.specs.Pieces.{joined, pieces_of}
use Rattle.cf_funcs.proofs.Parts.{joined-pieces_of, apart-pieces_of}
use Rattle.cf_funcs.proofs.cuts.split.Goals as goal

pub returns-clause-joined : goal.returns-clause-joined
returns-clause-joined c =
    let d = c.args.delimiter.now in
    IfOk-weaker c.pieces.result (λ v. map string_bytes v.items ≡ pieces_of d c.args.text.now) (λ v. joined d (map string_bytes v.items) ≡ c.args.text.now)
    (λ v e. ap (joined d) e ∙ joined-pieces_of d c.args.text.now c.requires) c.pieces.ensures

pub returns-clause-apart : goal.returns-clause-apart
returns-clause-apart c =
    let d = c.args.delimiter.now in
    let AreApart : List (List ℕ) → Type 0 = All (λ piece. ¬ (HasSubslice piece d)) in
    IfOk-weaker c.pieces.result (λ v. map string_bytes v.items ≡ pieces_of d c.args.text.now) (λ v. AreApart (map string_bytes v.items))
    (λ v e. subst AreApart (sym e) (apart-pieces_of d c.args.text.now c.requires)) c.pieces.ensures
