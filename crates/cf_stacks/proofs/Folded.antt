-- The fold of entries, one at a time, and the room that is made for each.
use Rattle.std.proofs.Common.{◌≡◌, List, [], ◌∷◌, ◌++◌, refl, inr}
use Rattle.cf_entry.specs.declared.entry.Entry.{Entry}
use Rattle.cf_entry.specs.declared.entry.Entry.TheVariants as entry
use Rattle.cf_effect.specs.Fold.{fold_of, world_after}
use Rattle.cf_stacks.specs.Room.{HasRoom, Standing, with_room}
use Rattle.cf_effect.specs.World.{World}

pub folded_more : (x : World) (es : List Entry) (e : Entry) → world_after (fold_of x es) e ≡ fold_of x (es ++ e ∷ [])
folded_more x [] e = refl
folded_more x (f ∷ es) e = folded_more (world_after x f) es e

pub room_made : (e : Entry) (x : Standing) → HasRoom (with_room e x) e
room_made (entry.Opened epoch lanes) x = refl
room_made (entry.Begin number name k) x = refl
room_made (entry.Kept number path physical w) x = refl
room_made (entry.Intent number token lane path r) x = refl
room_made (entry.Outcome number token answer before after) x = inr refl
room_made (entry.Phase number p cause) x = refl
room_made (entry.Done number state failed) x = refl
room_made (entry.ChangeSet number name source rows outputs) x = refl
