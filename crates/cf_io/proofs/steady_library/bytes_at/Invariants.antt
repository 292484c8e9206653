use Rattle.std.proofs.Common.{◌≡◌, drop}
use Rattle.cf_io.specs.Library.{text_named}
use Rattle.cf_io.specs.Stores.{stored_texts}
use Rattle.cf_io.proofs.steady_library.bytes_at.Given as goal

abbrev pub invariant-loop-at : goal.invariant-loop-at
invariant-loop-at l = text_named l.name (stored_texts l.texts) ≡ text_named l.name (stored_texts (drop l.at-index l.texts))
