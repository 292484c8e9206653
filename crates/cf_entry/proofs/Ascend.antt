-- Texts that ascend behind a text, where there is one.
use Rattle.std.proofs.Common.{ℕ, Bool, List, Option, Some, None}
use Rattle.cf_entry.specs.Entry.{texts_ascend, texts_ascend_from}

abbrev pub texts_ascend_after : Option (List ℕ) → List (List ℕ) → Bool
texts_ascend_after None ts = texts_ascend ts
texts_ascend_after (Some k) ts = texts_ascend_from k ts
