-- The call of an outcome that fails a forward phase has its row in the ledger.
use Rattle.std.proofs.Common.{◌≡◌, ℕ, ◌==◌, Bool, true, false, ◌&&◌, List, [], ◌∷◌, ◌++◌, Option, Some, None, cond, option_map, refl, ap, sym, subst, true≢false}
use Rattle.std.specs.Prelude.{is_some}
use Rattle.std.specs.Option.{option_or}
use Rattle.std.proofs.lemmas.Bool.{and_parts}
use Rattle.std.proofs.lemmas.Option.{same_Some}
use Rattle.cf_tree.specs.declared.code.Code.{Code}
use Rattle.cf_entry.specs.declared.entry.Entry.{Entry}
use Rattle.cf_entry.specs.declared.entry.Entry.TheVariants as entry
use Rattle.cf_entry.specs.declared.entry.Reply.TheVariants as reply
use Rattle.cf_entry.specs.declared.turn.Reason.{Reason}
use Rattle.cf_entry.specs.declared.turn.Reason.TheVariants as reason
use Rattle.cf_schema.specs.declared.described.Schema.{Schema}
use Rattle.cf_effect.specs.declared.call.Call.{Call}
use Rattle.cf_effect.specs.Calls.{call_under}
use Rattle.cf_effect.specs.Operation.{doubts_in, forward_of, is_turn_or_opening, now_of, up_to_last}
use Rattle.cf_effect.specs.World.{StackState}
use Rattle.cf_plan.specs.Forward.{doubting, first_failing, first_failing_behind, first_refusing, is_refused_call, path_of_token, refusing}

module _ (schemas : List Schema) (s : StackState) where
  abbrev HasRow : ℕ × Reason → Type 0
  HasRow a = is_some (call_under a.0 s) ≡ true

  where_so : (b : Bool) (t : ℕ) (r : Reason) (a : ℕ × Reason) → (b ≡ true → is_some (call_under t s) ≡ true) → cond b (Some (t, r)) None ≡ Some a → HasRow a
  where_so true t r a h e = subst (λ u. is_some (call_under u s) ≡ true) (ap (λ (p : ℕ × Reason). p.0) (same_Some (t, r) a e)) (h refl)
  where_so false t r a h e = let no : ⊥ = cc in absurd no

  refused_row : (o : Option Call) (c : Code) → is_refused_call schemas s o c ≡ true → is_some o ≡ true
  refused_row None c e = absurd (true≢false (sym e))
  refused_row (Some call) c e = refl

  refusing_called : (e : Entry) (a : ℕ × Reason) → refusing schemas s e ≡ Some a → HasRow a
  refusing_called (entry.Outcome number token (reply.Failed c) before after) a f =
      where_so (is_refused_call schemas s (call_under token s) c) token (reason.Code c) a (refused_row (call_under token s) c) f
  refusing_called e a f = let no : ⊥ = cc in absurd no

  doubting_called : (earlier : List Entry) (e : Entry) (a : ℕ × Reason) → doubting s earlier e ≡ Some a → HasRow a
  doubting_called earlier (entry.Outcome number token reply.Doubt before after) a f =
      where_so (is_some (call_under token s) && doubts_in token earlier == 2) token reason.Fault a
      (λ t. (and_parts (is_some (call_under token s)) (doubts_in token earlier == 2) t).0) f
  doubting_called earlier e a f = let no : ⊥ = cc in absurd no

  one_called : (o rest : Option (ℕ × Reason)) → ((a : ℕ × Reason) → o ≡ Some a → HasRow a) → ((a : ℕ × Reason) → rest ≡ Some a → HasRow a)
      → (a : ℕ × Reason) → option_or o rest ≡ Some a → HasRow a
  one_called None rest f g a e = g a e
  one_called (Some b) rest f g a e = f a e

  refused_called : (es : List Entry) (a : ℕ × Reason) → first_refusing schemas s es ≡ Some a → HasRow a
  refused_called [] a f = let no : ⊥ = cc in absurd no
  refused_called (e ∷ es) a f = one_called (refusing schemas s e) (first_refusing schemas s es) (refusing_called e) (refused_called es) a f

  behind_called : (es earlier : List Entry) (a : ℕ × Reason) → first_failing_behind schemas s earlier es ≡ Some a → HasRow a
  behind_called [] earlier a f = let no : ⊥ = cc in absurd no
  behind_called (e ∷ es) earlier a f =
      one_called (refusing schemas s e) (option_or (doubting s earlier e) (first_failing_behind schemas s (earlier ++ e ∷ []) es)) (refusing_called e)
      (one_called (doubting s earlier e) (first_failing_behind schemas s (earlier ++ e ∷ []) es) (doubting_called earlier e) (behind_called es (earlier ++ e ∷ []))) a f

  pub failing_called : (a : ℕ × Reason) → first_failing schemas s ≡ Some a → is_some (path_of_token a.0 s) ≡ true
  failing_called a f = has_path (call_under a.0 s)
      (one_called (first_refusing schemas s (up_to_last is_turn_or_opening (forward_of s))) (first_failing_behind schemas s [] (now_of s))
      (refused_called (up_to_last is_turn_or_opening (forward_of s))) (behind_called (now_of s) []) a f) where
        has_path : (o : Option Call) → is_some o ≡ true → is_some (option_map (λ (c : Call). c.path) o) ≡ true
        has_path None e = absurd (true≢false (sym e))
        has_path (Some c) e = refl
