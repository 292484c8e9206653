-- The template that was opened last stands at the end of those that are open.
use Rattle.std.proofs.Common.{◌≡◌, ℕ, suc, ◌-◌, List, [], ◌∷◌, ◌++◌, Some, None, length, refl, sym, ap, ◌∙◌, arith}
use Rattle.std.specs.Prelude.{slice_get}
use Rattle.cf_desired.specs.declared.frames.Frame as kept_frame
use Rattle.cf_desired.specs.Kept.{frame_in, frames_in}
use Rattle.cf_desired.specs.Turns.{Frame}

pub frames_pushed : (fs : List kept_frame.Frame) (f : kept_frame.Frame) → frames_in (fs ++ f ∷ []) ≡ frame_in f ∷ frames_in fs
frames_pushed [] f = refl
frames_pushed (g ∷ fs) f = ap (λ xs. xs ++ frame_in g ∷ []) (frames_pushed fs f)

-- the rest below the last one
abbrev pub below_top : List kept_frame.Frame → List Frame
below_top [] = []
below_top (f ∷ []) = []
below_top (f ∷ (g ∷ fs)) = below_top (g ∷ fs) ++ frame_in f ∷ []

top_same : (g k : kept_frame.Frame) (fs : List kept_frame.Frame) → slice_get (g ∷ (k ∷ fs)) (length (g ∷ (k ∷ fs)) - 1) ≡ slice_get (k ∷ fs) (length (k ∷ fs) - 1)
top_same g k fs =
    let more : length (g ∷ (k ∷ fs)) - 1 ≡ suc (length fs) = omega arith in
    let less : length (k ∷ fs) - 1 ≡ length fs = omega arith in
    ap (λ (i : ℕ). slice_get (g ∷ (k ∷ fs)) i) more ∙ sym (ap (λ (i : ℕ). slice_get (k ∷ fs) i) less)

pub on_top : (fs : List kept_frame.Frame) (f : kept_frame.Frame) → slice_get fs (length fs - 1) ≡ Some f → frames_in fs ≡ frame_in f ∷ below_top fs
on_top [] f h = let no : ⊥ = cc in absurd no
on_top (g ∷ []) f h = let same : g ≡ f = cc in ap (λ x. frame_in x ∷ []) same
on_top (g ∷ (k ∷ fs)) f h = ap (λ xs. xs ++ frame_in g ∷ []) (on_top (k ∷ fs) f (sym (top_same g k fs) ∙ h))

-- one that is open stands on top
some_on_top : (fs : List kept_frame.Frame) (g : kept_frame.Frame) → slice_get (g ∷ fs) (length (g ∷ fs) - 1) ≡ None → ⊥
some_on_top [] g h = cc
some_on_top (k ∷ fs) g h = some_on_top fs k (sym (top_same g k fs) ∙ h)

pub none_on_top : (fs : List kept_frame.Frame) → slice_get fs (length fs - 1) ≡ None → frames_in fs ≡ []
none_on_top [] h = refl
none_on_top (g ∷ fs) h = absurd (some_on_top fs g h)
