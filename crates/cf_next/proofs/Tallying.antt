-- The tallies that code makes are those of the operation's deletions.
use Rattle.std.proofs.Common.{◌≡◌, ℕ, suc, ◌+◌, ◌==◌, nat_lt, arith, Bool, true, false, ◌&&◌, List, [], ◌∷◌, Option, Result, Ok, Err, cond, filter, fold, length, refl, ap, sym, ◌∙◌}
use Rattle.std.specs.Prelude.{IfOk, count_by}
use Rattle.std.specs.Option.{unwrap_or}
use Rattle.std.specs.Str.{bytes_eq}
use Rattle.std.proofs.lemmas.Bool.{ltb-false, ltb-true}
use Rattle.std.proofs.lemmas.List.Sums.{length-filter}
use Rattle.cf_tree.specs.declared.request.Request.{Request}
use Rattle.cf_tree.specs.declared.request.Request.TheVariants as request
use Rattle.cf_tree.specs.Keys.{put}
use Rattle.cf_tree.proofs.Lookups.{put_else, put_here}
use Rattle.cf_effect.specs.declared.call.Call.{Call}
use Rattle.cf_effect.specs.Calls.{one_more, was_refused}
use Rattle.cf_effect.specs.Words.{deletes}
use Rattle.cf_effect.specs.World.{StackState}
use Rattle.cf_plan.proofs.Listed.{bytes_same}
use Rattle.cf_next.specs.declared.tallies.Tally.{Tally}
use Rattle.cf_next.specs.Tallies.{deleted_id, no_tally, one_tallied, tallied_under, tally_of, tally_under, up_to_three, with_call}

-- one more, of up to three
more_than : (n : ℕ) → one_more (up_to_three n) ≡ up_to_three (n + 1)
more_than n = by (nat_lt n 3) refl (nat_lt (n + 1) 3) refl
  where
    by : (b : Bool) → nat_lt n 3 ≡ b → (c : Bool) → nat_lt (n + 1) 3 ≡ c → one_more (cond b n 3) ≡ cond c (n + 1) 3
    by true e true f = rw e refl
    by true e false f = rw e (omega (arith, ltb-true n 3 e, ltb-false (n + 1) 3 f))
    by false e true f = absurd (omega (arith, ltb-false n 3 e, ltb-true (n + 1) 3 f))
    by false e false f = refl

module _ (id : List ℕ) where
  -- what is under an id once a call is counted
  abbrev tallied_if : Bool → Call → Tally → Tally
  tallied_if b c t = cond b (one_tallied c t) t

  under_id : (other : List ℕ) (c : Call) (ts : List (List ℕ × Tally)) (b : Bool) → bytes_eq id other ≡ b
      → tally_under id (put other (one_tallied c (tally_under other ts)) ts) ≡ tallied_if b c (tally_under id ts)
  under_id other c ts true e =
      let same : id ≡ other = bytes_same id other e in
      ap (λ (n : List ℕ). tally_under id (put n (one_tallied c (tally_under n ts)) ts)) (sym same)
      ∙ ap (λ (o : Option Tally). unwrap_or o no_tally) (put_here id (one_tallied c (tally_under id ts)) ts)
  under_id other c ts false e = ap (λ (o : Option Tally). unwrap_or o no_tally) (put_else id other (one_tallied c (tally_under other ts)) ts e)

  one_call : (c : Call) (r : Request) (ts : List (List ℕ × Tally))
      → tally_under id (tallied_under (deleted_id r) c ts) ≡ tallied_if (deletes id r) c (tally_under id ts)
  one_call c (request.Delete other) ts = under_id other c ts (bytes_eq id other) refl
  one_call c (request.Create kind props) ts = refl
  one_call c (request.Update other props) ts = refl

  -- the tally of a number of calls, on top of some
  abbrev counted : ℕ → ℕ → Tally
  counted n m = record { begun = up_to_three n; refused = up_to_three m }

  abbrev is_deletion : Call → Bool
  is_deletion c = deletes id c.request

  module _ (number : ℕ) where
    abbrev own : List Call → List Call
    own cs = filter is_deletion (filter (λ c. c.number == number) cs)

    abbrev refused : List Call → List Call
    refused cs = filter was_refused (own cs)

    -- counts are the same where their numbers are
    same_counts : (n m j k : ℕ) → n ≡ j → m ≡ k → counted n m ≡ counted j k
    same_counts n m j k e f = ap (λ (i : ℕ). counted i m) e ∙ ap (counted j) f

    abbrev Counts : List Call → Type 0
    Counts cs = (n m : ℕ) (ts : List (List ℕ × Tally)) → tally_under id ts ≡ counted n m
        → tally_under id (fold (with_call number) ts cs) ≡ counted (n + length (own cs)) (m + length (refused cs))

    called : (c : Call) (ts : List (List ℕ × Tally)) (b : Bool)
        → tally_under id (cond b (tallied_under (deleted_id c.request) c ts) ts) ≡ tallied_if (b && is_deletion c) c (tally_under id ts)
    called c ts true = one_call c c.request ts
    called c ts false = refl

    module _ (c : Call) (cs : List Call) (rest : Counts cs) (n m : ℕ) (ts : List (List ℕ × Tally)) (e : tally_under id ts ≡ counted n m) where
      abbrev these : List Call
      these = filter (λ k. k.number == number) cs

      abbrev Counted : List Call → Type 0
      Counted ks = tally_under id (fold (with_call number) (with_call number ts c) cs)
          ≡ counted (n + length (filter is_deletion ks)) (m + length (filter was_refused (filter is_deletion ks)))

      refused_one : (b : Bool) → was_refused c ≡ b → is_deletion c ≡ true
          → tally_under id (with_call number ts c) ≡ tallied_if true c (tally_under id ts)
          → Counted (c ∷ these)
      refused_one true r d t =
          let now : tally_under id (with_call number ts c) ≡ counted (n + 1) (m + 1) =
          t ∙ (ap (one_tallied c) e ∙ rw r (ap (λ (i : ℕ). record { begun = i; refused = one_more (up_to_three m) }) (more_than n)
          ∙ ap (λ (i : ℕ). record { begun = up_to_three (n + 1); refused = i }) (more_than m))) in
          rw d (rw r (rest (n + 1) (m + 1) (with_call number ts c) now
          ∙ same_counts (n + 1 + length (own cs)) (m + 1 + length (refused cs)) (n + suc (length (own cs))) (m + suc (length (refused cs))) (omega arith) (omega arith)))
      refused_one false r d t =
          let now : tally_under id (with_call number ts c) ≡ counted (n + 1) m =
          t ∙ (ap (one_tallied c) e ∙ rw r (ap (λ (i : ℕ). record { begun = i; refused = up_to_three m }) (more_than n))) in
          rw d (rw r (rest (n + 1) m (with_call number ts c) now
          ∙ same_counts (n + 1 + length (own cs)) (m + length (refused cs)) (n + suc (length (own cs))) (m + length (refused cs)) (omega arith) refl))

      deleted_one : (b : Bool) → is_deletion c ≡ b → tally_under id (with_call number ts c) ≡ tallied_if b c (tally_under id ts)
          → Counted (c ∷ these)
      deleted_one true d t = refused_one (was_refused c) refl d t
      deleted_one false d t = rw d (rest n m (with_call number ts c) (t ∙ e))

      counts_one : (b : Bool) → tally_under id (with_call number ts c) ≡ tallied_if (b && is_deletion c) c (tally_under id ts)
          → Counted (cond b (c ∷ these) these)
      counts_one true t = deleted_one (is_deletion c) refl t
      counts_one false t = rest n m (with_call number ts c) (t ∙ e)

    counts : (cs : List Call) → Counts cs
    counts [] n m ts e = e ∙ same_counts n m (n + 0) (m + 0) (omega arith) (omega arith)
    counts (c ∷ cs) n m ts e = counts_one c cs (counts cs) n m ts e (c.number == number) (called c ts (c.number == number))

    pub counts_all : (cs : List Call)
        → tally_under id (fold (with_call number) [] cs)
        ≡ record { begun = up_to_three (length (own cs)); refused = up_to_three (count_by was_refused (own cs)) }
    counts_all cs =
        counts cs 0 0 [] refl
        ∙ same_counts (0 + length (own cs)) (0 + length (refused cs)) (length (own cs)) (count_by was_refused (own cs)) (omega arith)
        (omega (arith, length-filter was_refused (own cs)))

pub told_tallies : {E : Type 0} (s : StackState) (number : ℕ) (calls : List Call) (made : Result (List (List ℕ × Tally)) E)
    → number ≡ s.operation → calls ≡ s.ledger
    → IfOk made (λ tallies. tallies ≡ fold (with_call number) [] calls)
    → IfOk made (λ tallies. (id : List ℕ) → tally_under id tallies ≡ tally_of id s)
told_tallies s number calls (Ok tallies) n l e = λ id.
    ap (tally_under id) (e ∙ (ap (λ (k : ℕ). fold (with_call k) [] calls) n ∙ ap (fold (with_call s.operation) []) l)) ∙ counts_all id s.operation s.ledger
told_tallies s number calls (Err fault) n l e = e
