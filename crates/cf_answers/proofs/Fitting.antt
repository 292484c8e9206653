-- The id that a token makes is one of its lane.
use Rattle.std.proofs.Common.{◌≡◌, ℕ, List, true}
use Rattle.std.specs.Fmt.{decimal}
use Rattle.std.specs.Str.{bytes_eq}
use Rattle.std.proofs.lemmas.Slice.Eq.{bytes_eq-Decides}
use Rattle.cf_handler.specs.Move.{IsOfLane}
use Rattle.cf_answers.specs.Table.{id_of}

pub made_of_lane : (name : List ℕ) (token : ℕ) (id : List ℕ) → bytes_eq id (id_of name token) ≡ true → IsOfLane name id
made_of_lane name token id e = (decimal token, (bytes_eq-Decides id (id_of name token)).0 e)
