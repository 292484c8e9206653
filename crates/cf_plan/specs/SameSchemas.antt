-- Which schemas what may follow asks for (this project's own): in an operation that goes forward, those of the types that its stack holds
-- and held as the operation began.
use Rattle.std.specs.Prelude.{◌≡◌, true, List}
use Rattle.cf_schema.specs.declared.described.Schema.{Schema}
use Rattle.cf_schema.specs.Kinds.{found}
use Rattle.cf_tree.specs.Lists.{In}
use Rattle.cf_effect.specs.Status.{goes_forward}
use Rattle.cf_effect.specs.World.{StackState}
use Rattle.cf_effect.specs.declared.held.Held.{Held}

-- two lists of schemas tell the same of the types of what a stack holds, and held as its operation began
pub record TellSame (a b : List Schema) (s : StackState) : Type 0 where
  pub held : (h : Held) → In h s.held → found h.kind a ≡ found h.kind b
  pub before : (h : Held) → In h s.before → found h.kind a ≡ found h.kind b

-- they do where the stack goes forward
abbrev pub TellForward : List Schema → List Schema → StackState → Type 0
TellForward a b s = goes_forward s.status ≡ true → TellSame a b s
