use Rattle.std.proofs.Common.{◌≡◌, take}
use Rattle.cf_io.specs.Stores.{stored_texts}
use Rattle.cf_io.proofs.steady_library.copied_texts.Given as goal

abbrev pub invariant-loop-name : goal.invariant-loop-name
invariant-loop-name l = stored_texts l.copies.items ≡ stored_texts (take l.name-index l.texts)
