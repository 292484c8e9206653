-- What is given for parameters keeps the order of its names, and why it can't be bound.
use Rattle.std.proofs.Common.{◌≡◌, ℕ, false, List, map, Result, Err, refl, true≢false}
use Rattle.cf_tree.specs.Keys.{ascends}
use Rattle.cf_tree.proofs.Order.{ascends_map}
use Rattle.cf_param.specs.Fault.{Binds}
use Rattle.cf_param.specs.declared.fault.BindFault.{BindFault}
use Rattle.cf_param.specs.declared.fault.BindFault.TheVariants as unbound
use Rattle.cf_desired.specs.Kept.{is_no_memory, piece_of}

pub pieces_ascend : (given : List (List ℕ × List ℕ)) → ascends (map piece_of given) ≡ ascends given
pieces_ascend given = ascends_map piece_of (λ g. refl) given

-- a fault that is no want of memory is the one that is told
pub binds_fault : {A : Type 0} (told : Result A BindFault) (f : BindFault) → is_no_memory f ≡ false → Binds told (Err f) → told ≡ Err f
binds_fault told (unbound.Undeclared name) h e = e
binds_fault told (unbound.Missing name) h e = e
binds_fault told (unbound.NotANumber name) h e = e
binds_fault told (unbound.TooShort name) h e = e
binds_fault told (unbound.TooLong name) h e = e
binds_fault told (unbound.TooSmall name) h e = e
binds_fault told (unbound.TooLarge name) h e = e
binds_fault told (unbound.NotAllowed name) h e = e
binds_fault told (unbound.NoMatch name) h e = e
binds_fault told (unbound.BadPattern name) h e = e
binds_fault told unbound.NoMemory h e = absurd (true≢false h)
