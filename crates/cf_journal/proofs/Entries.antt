-- What an entry that is put behind the others leaves, in terms of entries.
use Rattle.std.proofs.Common.{◌≡◌, inl, inr, arith, length-append, ℕ, ◌+◌, ◌<◌, ◌≤◌, ◌^◌, List, [], ◌∷◌, ◌++◌, length, drop, Result, Ok, Err, Some, IsOk, is_ok, sym, ◌∙◌, ap}
use Rattle.std.specs.Int.{w32, to_be_bytes}
use Rattle.cf_entry.specs.EntryReading.{entry_of}
use Rattle.cf_entry.specs.declared.entry.Entry.{Entry}
use Rattle.cf_journal.specs.Head.{made}
use Rattle.cf_journal.specs.Frames.{Reading, frame_of, length_in, record_in}
use Rattle.cf_journal.specs.Record.{reading_of, record_of, length_of, one_more, IsBeforeOrAfter}
use Rattle.cf_journal.specs.Runs.{gate_opened, IsMidway}
use Rattle.cf_journal.proofs.Appending.{long, torn_behind, torn_gate, reading_opened, opened_made}

-- entries were read, and the journal has this length
pub record IsRead (read : Reading Entry) (end : ℕ) : Type 0 where
  pub entries : List Entry
  pub is : read ≡ Ok (entries, end)

pub read_whole : (read : Reading Entry) (end : ℕ) → IsOk (record_in read) → length_in read ≡ end → IsRead read end
read_whole (Ok r) end ok ends = record { entries = r.0; is = ap (λ (n : ℕ). Ok (r.0, n)) ends }
read_whole (Err offset) end ok ends = absurd cc

module _ (file : List ℕ) (is_made : file ≡ made (drop 9 file)) (end : ℕ) (r : IsRead (reading_of file) end) where
  pub starts : end ≤ length file
  starts = long entry_of file is_made r.entries end r.is

  record_is : record_of file ≡ Ok r.entries
  record_is = ap record_in r.is

  module _ (e : Entry) (body : List ℕ) (spells : entry_of body ≡ Some e) (small : length body < 2 ^ 32) where
    more_is : one_more (record_of file) e ≡ Ok (r.entries ++ e ∷ [])
    more_is = ap (λ (x : Result (List Entry) ℕ). one_more x e) record_is

    pub midway : (c : List ℕ) → IsMidway file end (frame_of body) c → IsBeforeOrAfter (record_of file) e c
    midway c (inl torn) = inl (ap record_in (torn_behind entry_of file is_made r.entries end r.is (length (frame_of body)) c torn) ∙ sym record_is)
    midway c (inr torn) = elim (torn_gate entry_of file is_made r.entries end r.is body e spells small c torn) [
      | inl before ↦ inl (ap record_in before ∙ sym record_is)
      | inr after ↦ inr (ap record_in after ∙ sym more_is)
    ]

    pub added : record_of (gate_opened file end (frame_of body)) ≡ one_more (record_of file) e
    added = ap record_in (reading_opened entry_of file is_made r.entries end r.is body e spells small) ∙ sym more_is

    pub added_read : IsRead (reading_of (gate_opened file end (frame_of body))) (end + length (frame_of body))
    added_read = record { entries = r.entries ++ e ∷ []; is = reading_opened entry_of file is_made r.entries end r.is body e spells small }

    pub added_made : gate_opened file end (frame_of body) ≡ made (drop 9 (gate_opened file end (frame_of body)))
    added_made = opened_made entry_of file is_made r.entries end r.is body e spells small

pub read_ok : (read : Reading Entry) (end : ℕ) → IsRead read end → IsOk (record_in read) × (length_in read ≡ end)
read_ok read end r = (ap (λ (x : Result (List Entry) ℕ). is_ok x) (ap record_in r.is), ap length_in r.is)

-- the new disk holds a journal with the new entry
pub record Holds (file new : List ℕ) (end : ℕ) (e : Entry) : Type 0 where
  pub is_made : new ≡ made (drop 9 new)
  pub is_read : IsOk (record_of new)
  pub length_is : length_of new ≡ end
  pub has : record_of new ≡ one_more (record_of file) e

pub frame_size : (body : List ℕ) → length (frame_of body) ≡ 5 + length body
frame_size body = omega (arith, length-append (to_be_bytes w32 (length body) ++ body) (0 ∷ []), length-append (to_be_bytes w32 (length body)) body)

pub holds : (file new : List ℕ) (end size : ℕ) (e : Entry) (body : List ℕ) → file ≡ made (drop 9 file) → IsOk (record_of file) → length_of file ≡ end → entry_of body ≡ Some e → length body < 2 ^ 32
    → new ≡ gate_opened file end (frame_of body) → size ≡ end + (5 + length body) → Holds file new size e
holds file new end size e body is_made ok ends spells small is grown =
    let r = read_whole (reading_of file) end ok ends in
    let after = read_ok (reading_of (gate_opened file end (frame_of body))) (end + length (frame_of body)) (added_read file is_made end r e body spells small) in
    record {
      is_made = is ∙ added_made file is_made end r e body spells small ∙ ap (λ (f : List ℕ). made (drop 9 f)) (sym is);
      is_read = ap (λ (f : List ℕ). is_ok (record_of f)) is ∙ after.0;
      length_is = ap (λ (f : List ℕ). length_of f) is ∙ after.1 ∙ omega (arith, frame_size body, grown);
      has = ap (λ (f : List ℕ). record_of f) is ∙ added file is_made end r e body spells small;
    }
