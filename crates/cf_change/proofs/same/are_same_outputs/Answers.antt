use Rattle.std.proofs.Common.{◌≡◌, ◌≢◌, suc, List, [], ◌∷◌, Bool, true, false, ◌&&◌, length, refl, ap, sym, ◌∙◌}
use Rattle.cf_export.specs.declared.Output.{Output}
use Rattle.cf_desired.specs.declared.wanted.WantedOutput.{WantedOutput}
use Rattle.cf_change.specs.Changes.{are_same_outputs, is_same_output}
use Rattle.cf_change.proofs.same.are_same_outputs.Goals as goal

neither : (b : Bool) → (b && false) ≡ false
neither true = refl
neither false = refl

unlike : (hs : List Output) (ws : List WantedOutput) → length hs ≢ length ws → are_same_outputs hs ws ≡ false
unlike [] [] n = absurd (n refl)
unlike [] (w ∷ ws) n = refl
unlike (h ∷ hs) [] n = refl
unlike (h ∷ hs) (w ∷ ws) n = ap (λ b. is_same_output h w && b) (unlike hs ws (λ e. n (ap suc e))) ∙ neither (is_same_output h w)

pub returns-then-held-wanted : goal.returns-then-held-wanted
returns-then-held-wanted c = sym (unlike c.args.held.now c.args.wanted.now c.if-held-wanted.true)
