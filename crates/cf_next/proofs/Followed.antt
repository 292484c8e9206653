-- What is chosen may follow.
use Rattle.std.proofs.Common.{◌≡◌, ℕ, suc, ◌<◌, ◌+◌, arith, true, false, List, [], ◌∷◌, ◌++◌, length, take, get_or, Some, None, ap, sym, ◌∙◌, subst}
use Rattle.std.specs.List.{cons_option}
use Rattle.std.proofs.Math.Seq.{take-suc}
use Rattle.std.proofs.lemmas.List.Elements.{filter_map-append}
use Rattle.cf_schema.specs.declared.described.Schema.{Schema}
use Rattle.cf_entry.specs.declared.entry.Entry.{Entry}
use Rattle.cf_entry.specs.declared.entry.Entry.TheVariants as entry
use Rattle.cf_entry.proofs.Codec.{some_is}
use Rattle.cf_effect.specs.World.{StackState, World, stack_of_operation}
use Rattle.cf_effect.specs.Status.{Stage, stage_of}
use Rattle.cf_next.specs.declared.home.Home.{Home}
use Rattle.cf_next.specs.declared.step.Next.{Next}
use Rattle.cf_next.specs.declared.step.Next.TheVariants as next
use Rattle.cf_plan.specs.Follow.{MayFollow}
use Rattle.cf_next.specs.Chosen.{MayStart, IsNext, entry_for, leases_of}

pub none_is : {A B : Type 0} (a : A) → None ≡ Some a → B
none_is a e = absurd cc

module _ (schemas : List Schema) (x : World) (out : List ℕ) (number : ℕ) (name : List ℕ) (s : StackState) (stage : Stage)
    (going : stack_of_operation number x ≡ Some (name, s)) (in_stage : stage_of s.status ≡ Some stage) (e : Entry) where
  written : (f : Entry) → Some f ≡ Some e → MayFollow schemas x out f → MayFollow schemas x out e
  written f q w = subst (MayFollow schemas x out) (some_is f e q) w

  follows : (n : Next) → MayStart schemas name x out s stage n → entry_for number n ≡ Some e → MayFollow schemas x out e
  follows (next.Step path lane token r true) w q = none_is e q
  follows (next.Step path lane token r false) w q = written (entry.Intent number token lane path r) q (name, s, stage, going, in_stage, w)
  follows (next.Keep path physical y) w q = written (entry.Kept number path physical y) q (name, s, stage, going, in_stage, w)
  follows (next.Turn p cause) w q = written (entry.Phase number p cause) q (name, s, stage, going, in_stage, w)
  follows (next.End state failed) w q = written (entry.Done number state failed) q (name, s, stage, going, in_stage, w)
  follows next.Wait w q = none_is e q

-- the entry that writes the next step down may follow
pub next_follows : (schemas : List Schema) (x : World) (out : List ℕ) (number : ℕ) (n : Next) (e : Entry)
    → IsNext schemas x out number n → entry_for number n ≡ Some e → MayFollow schemas x out e
next_follows schemas x out number n e (name, s, stage, going, in_stage, chosen) q =
    follows schemas x out number name s stage going in_stage e n chosen.may q

up : (i : ℕ) → suc i ≡ i + 1
up i = omega arith

-- one more lane tells of its lease
pub leases_more : (homes all : List Home) (i : ℕ) (home : Home) → all ≡ homes → i < length all → home ≡ get_or all i home
    → leases_of (take i homes) ++ cons_option home.out [] ≡ leases_of (take (i + 1) homes)
leases_more homes all i home same l e =
    sym (filter_map-append (λ (h : Home). h.out) (take i homes) (home ∷ []))
    ∙ (ap leases_of (ap (λ (h : Home). take i homes ++ h ∷ []) (e ∙ ap (λ (hs : List Home). get_or hs i home) same)
    ∙ sym (take-suc homes i home (subst (λ (hs : List Home). i < length hs) same l)))
    ∙ ap (λ (n : ℕ). leases_of (take n homes)) (up i))
