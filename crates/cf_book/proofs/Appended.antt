-- What an append leaves of a record, and of what a crash may leave.
use Rattle.std.proofs.Common.{◌≡◌, ◌⊎◌, inl, inr, ℕ, suc, ◌≤◌, Bool, List, [], ◌∷◌, ◌++◌, Option, Some, None, Ok, Err, ◌<◌, ◌+◌, map, length, refl, sym, ◌∙◌, ap, subst, arith, IsTrue, Result}
use Rattle.std.proofs.lemmas.List.{length-append, length-map, map-append}
use Rattle.std.specs.declared.snapshot.Snapshot.{Snapshot}
use Rattle.cf_disk.specs.Disk.{LeavesOnly}
use Rattle.cf_disk.specs.declared.disk.Disk.{Ghosts}
use Rattle.cf_entry.specs.declared.entry.Entry.{Entry}
use Rattle.cf_effect.specs.World.{World, empty_world}
use Rattle.cf_effect.specs.Fold.{fold_of, world_after}
use Rattle.cf_journal.proofs.Moments.{started}
use Rattle.cf_journal.specs.Record.{IsBeforeOrAfter, one_more, record_of}
use Rattle.cf_journal.specs.Faults.{HasAppendCause, IsAfterFault}
use Rattle.cf_journal.specs.declared.faults.AppendFault.{AppendFault}
use Rattle.cf_journal.specs.declared.faults.AppendFault.TheVariants as append
use Rattle.cf_tree.specs.Counts.{HasRisen}
use Rattle.cf_book.specs.Inside.{IsOpen, doubt_in, entries_in, known_in}
use Rattle.cf_book.specs.declared.record.Record.{Record}
use Rattle.cf_stacks.specs.Room.{Standing, stepped}
use Rattle.cf_stacks.proofs.Folded.{folded_more}
use Rattle.cf_book.specs.Record.{HasKnown, IsKnown, KeepsRoom, LeavesOneMore, with_doubt, world_left}

-- entries, one more of them
pub entries_more : (xs : List (Snapshot Entry)) (s : Snapshot Entry) (e : Entry) → s.value ≡ e → map (λ (x : Snapshot Entry). x.value) (xs ++ s ∷ []) ≡ map (λ (x : Snapshot Entry). x.value) xs ++ e ∷ []
entries_more xs s e h = map-append (λ (x : Snapshot Entry). x.value) xs (s ∷ []) ∙ ap (λ v. map (λ (x : Snapshot Entry). x.value) xs ++ v ∷ []) h

-- the world of one entry more
pub world_more : (was now : Standing) (es more : List Entry) (e : Entry) → was.world ≡ world_left es → now ≡ stepped was e → more ≡ es ++ e ∷ [] → now.world ≡ world_left more
world_more was now es more e left step m =
    ap (λ (x : Standing). x.world) step ∙ ap (λ (x : World). world_after x e) left ∙ folded_more empty_world es e ∙ ap world_left (sym m)

-- what is known of a disk that is open
pub known_open : {D : Type 0} (g : Ghosts D) (r : Record D) → IsOpen g r → known_in g r
known_open g r h = record {
  now = λ t. inl (h.holds t);
  each = λ t bytes l. inl (ap record_of (h.stands.durable t bytes l) ∙ h.holds t);
}

-- an append without room changed nothing, and says why
pub full_unmoved : (P : Type 0) (broken : Bool) (f : AppendFault) (length need room : ℕ) → f ≡ append.Full length need room → IsAfterFault P broken f → P
full_unmoved P broken f length need room q h = subst (IsAfterFault P broken) q h

pub full_since : (T : Type 0) (l n r before after : ℕ) (f : AppendFault) (length need room : ℕ) → f ≡ append.Full length need room
    → HasAppendCause {T = T} l n r before after (Err f) → (r < l + n) × (length ≡ l) × (need ≡ n) × (room ≡ r)
full_since T l n r before after f length need room q h = subst (λ x. HasAppendCause {T = T} l n r before after (Err x)) q h

pub fault_since : (T : Type 0) (l n r before after : ℕ) (f : AppendFault) → f ≡ append.DiskFault
    → HasAppendCause {T = T} l n r before after (Err f) → (l + n ≤ r) × HasRisen before after
fault_since T l n r before after f q h = subst (λ x. HasAppendCause {T = T} l n r before after (Err x)) q h

-- the record as it was, or with the entry
pub known_either : (es : List Entry) (e : Entry) (before : Result (List Entry) ℕ) (bytes : List ℕ) → before ≡ Ok es → IsBeforeOrAfter before e bytes → HasKnown es (Some e) bytes
known_either es e before bytes is h = elim h [ inl b ↦ inl (b ∙ is) | inr b ↦ inr (b ∙ ap (λ r. one_more r e) is) ]

pub one_more_whole : (es more : List Entry) (doubt : Option Entry) (e : Entry) (before : Result (List Entry) ℕ) (bytes : List ℕ) → before ≡ Ok es → more ≡ es ++ e ∷ []
    → IsBeforeOrAfter before e bytes → LeavesOneMore es more doubt bytes
one_more_whole es more doubt e before bytes is m h =
    elim h [ inl b ↦ inl (b ∙ is) | inr b ↦ inr (inl (b ∙ ap (λ r. one_more r e) is ∙ ap Ok (sym m))) ]

pub one_more_doubt : (es : List Entry) (e : Entry) (before : Result (List Entry) ℕ) (bytes : List ℕ) → before ≡ Ok es → IsBeforeOrAfter before e bytes
    → LeavesOneMore es es (Some e) bytes
one_more_doubt es e before bytes is h =
    elim h [ inl b ↦ inl (b ∙ is) | inr b ↦ inr (inr (b ∙ ap (λ r. one_more r e) is)) ]

-- where nothing is written, a crash leaves what it might have left before
pub unmoved : {D : Type 0} (g : Ghosts D) (disk : D) (es : List Entry) (doubt : Option Entry) → IsTrue g.tells
    → ((bytes : List ℕ) → g.left_since disk (g.moment disk) bytes → g.may_leave disk bytes) → IsKnown g disk es doubt
    → LeavesOnly g.moment g.left_since disk disk (LeavesOneMore es es doubt)
unmoved g disk es doubt told now known =
    started g.moment g.left_since disk (LeavesOneMore es es doubt)
    (λ bytes left. elim (known.each told bytes (now bytes left)) [ inl whole ↦ inl whole | inr more ↦ inr (inr more) ])

-- a list of one more is one longer
pub one_longer : {A B : Type 0} (f : A → B) (xs ys : List A) (b : B) → map f ys ≡ map f xs ++ b ∷ [] → length ys ≡ suc (length xs)
one_longer f xs ys b h =
    let more = length-map ys f in
    let few = length-map xs f in
    let one = length-append (map f xs) (b ∷ []) in
    let same = ap length h in
    omega (arith, more, few, one, same)

-- a disk that is as it was keeps its room and its count
pub same_room : {D : Type 0} (g : Ghosts D) (disk : D) → KeepsRoom g disk disk
same_room g disk = record { room = refl; count = omega arith }
