-- What a vector holds after two pieces were appended, one after another.
use Rattle.std.proofs.Common.{ℕ, List, ◌++◌, append_assoc, length-append, arith, ap, ◌∙◌}
use Rattle.std.specs.Global.{Vec}
use Rattle.cf_entry.specs.Bytes.{AddsBytes}

pub adds_then : (u v w : Vec ℕ) (a b : List ℕ) → AddsBytes u v a → AddsBytes v w b → AddsBytes u w (a ++ b)
adds_then u v w a b p q = (q.0 ∙ ap (λ t. t ++ b) p.0 ∙ append_assoc u.items a b, omega (arith, length-append a b), omega arith)
