-- What a list is once a borrow of its members is over (`Vec::as_mut_slice`).
use Rattle.std.specs.Prelude.{List, ◌++◌, length, take, drop}
use Rattle.std.specs.Borrow.{Lends, MutBor, Fml, RattleType, Array}
use Rattle.cf_tree.specs.contracts.list.Listing.{the_row}

-- the list has the members that the borrow leaves: as many as there were
abbrev pub lent_back : {X : Type 0} → List X → List X → List X
lent_back old left = take (length old) (left ++ drop (length left) old)

abbrev pub LendsMembers : (T : RattleType) → MutBor (List T.Denot) → MutBor (List T.Denot) → Fml
LendsMembers T s r = Lends (the_row T) (Array T 0) s r (lent_back s.now)
