-- An outcome whose answer is short has a short spelling.
use Rattle.std.proofs.Common.{◌≤◌, ℕ, ◌++◌, length, arith, length-append}
use Rattle.cf_entry.specs.declared.entry.Entry.TheVariants as entry
use Rattle.cf_entry.specs.declared.entry.Reply.{Reply}
use Rattle.cf_entry.specs.declared.entry.Reply.TheVariants as reply
use Rattle.cf_entry.specs.Bytes.{text_bytes, eight_bytes}
use Rattle.cf_entry.specs.Value.{dict_bytes}
use Rattle.cf_entry.specs.Entry.{spelling_of, reply_bytes}
use Rattle.cf_entry.proofs.Sizes.{dict_is_long}
use Rattle.cf_effect.specs.Bounds.{IsShortReply}

-- 1 + 4 + 1024 + 524288
reply_short : (a : Reply) → IsShortReply a → length (reply_bytes a) ≤ 525317
reply_short (reply.Success physical attrs) h = omega (arith, length-append (text_bytes physical) (dict_bytes attrs), dict_is_long attrs, h.0, h.1)
reply_short (reply.Failed code) h = omega arith
reply_short reply.Doubt h = omega arith

pub outcome_short : (n t : ℕ) (a : Reply) (b c : ℕ) → IsShortReply a → length (spelling_of (entry.Outcome n t a b c)) ≤ 525350
outcome_short n t a b c h = omega (arith, length-append (reply_bytes a) (eight_bytes b ++ eight_bytes c), reply_short a h)
