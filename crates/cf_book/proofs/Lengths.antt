-- How long a journal is: one without entries has one length, so a disk that keeps its record keeps the journal's length.
use Rattle.std.proofs.Common.{◌≡◌, inl, inr, ℕ, ◌+◌, ◌≤◌, ◌==◌, Bool, true, false, List, [], ◌∷◌, Option, Some, None, Ok, Err, length, drop, refl, sym, ◌∙◌, ap, subst, cond}
use Rattle.std.specs.Prelude.{IsTrue}
use Rattle.cf_disk.specs.declared.disk.Disk.{Ghosts}
use Rattle.cf_entry.specs.EntryReading.{entry_of}
use Rattle.cf_entry.specs.declared.entry.Entry.{Entry}
use Rattle.cf_journal.specs.Frames.{Reading, body_of, body_size, frames_from, frames_of, is_whole, length_in, next_of, read_by_head, record_in, with_frame}
use Rattle.cf_journal.specs.Head.{head_of}
use Rattle.cf_journal.specs.Record.{KeepsRecord, length_of, record_of}
use Rattle.cf_journal.specs.declared.head.Head.{Head}
use Rattle.cf_journal.specs.declared.head.Head.TheVariants.{New, Foreign, Made}
use Rattle.cf_book.specs.Record.{Fits, KeepsRoom, need_of}

framed_more : (o : Option Entry) (r : Reading Entry) → record_in (with_frame 9 o r) ≡ Ok [] → length_in (with_frame 9 o r) ≡ 10
framed_more None r e = absurd (cc)
framed_more (Some x) (Err offset) e = absurd (cc)
framed_more (Some x) (Ok read) e = absurd (cc)

gated : (open_ whole : Bool) (o : Option Entry) (r : Reading Entry)
    → record_in (cond open_ (cond whole (with_frame 9 o r) (Err 9)) (Ok ([], 10))) ≡ Ok []
    → length_in (cond open_ (cond whole (with_frame 9 o r) (Err 9)) (Ok ([], 10))) ≡ 10
gated true true o r e = framed_more o r e
gated true false o r e = absurd (cc)
gated false whole o r e = refl

without_frames : (bytes : List ℕ) → record_in (frames_of entry_of 9 bytes) ≡ Ok [] → length_in (frames_of entry_of 9 bytes) ≡ 10
without_frames [] e = absurd (cc)
without_frames (gate ∷ bytes) e =
    gated (gate == 1) (is_whole bytes) (entry_of (body_of bytes)) (frames_from entry_of (length bytes) (9 + 5 + body_size bytes) (next_of bytes)) e

-- the length of a journal without entries
ten : (bytes : List ℕ) → record_of bytes ≡ Ok [] → length_of bytes ≡ 10
ten bytes = by (head_of bytes) where
  by : (h : Head) → record_in (read_by_head entry_of h bytes) ≡ Ok [] → length_in (read_by_head entry_of h bytes) ≡ 10
  by New e = refl
  by Foreign e = absurd (cc)
  by Made e = without_frames (drop 9 bytes) e

pub same_length : (old new : List ℕ) → KeepsRecord old new → length_of new ≡ length_of old
same_length old new k = elim k.bytes [
  | inl none ↦ ten new (k.same ∙ none) ∙ sym (ten old none)
  | inr same ↦ ap length_of same
]

-- where an entry fits behind a record that is kept, it fits behind it as it was
pub fits_before : {D : Type 0} (g : Ghosts D) (old new : D) (e : Entry) → (IsTrue g.tells → KeepsRecord (g.seen old) (g.seen new)) → KeepsRoom g old new
    → Fits g new e → Fits g old e
fits_before g old new e kept keeps fits t =
    subst (λ n. n + need_of e ≤ g.room_of old) (same_length (g.seen old) (g.seen new) (kept t))
    (subst (λ r. length_of (g.seen new) + need_of e ≤ r) keeps.room (fits t))
