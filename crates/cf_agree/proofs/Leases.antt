-- What is out stays so: each move of a lane and of the account keeps the leases.
use Rattle.std.proofs.Common.{arith, ◌≡◌, ◌≢◌, ◌⊎◌, inl, inr, ℕ, List, [], ◌∷◌, Bool, true, false, Option, Some, filter, refl, sym, ap, subst, ◌∙◌}
use Rattle.std.specs.Prelude.{cond}
use Rattle.cf_tree.specs.{declared.request.Request.Request, Lists.In, Lists.here, Lists.there}
use Rattle.cf_handler.specs.declared.{settled.Settled.Settled, settled.Settlement.Settlement}
use Rattle.cf_agree.specs.{Account.Account, Lanes.Lanes, Lanes.settled_under}
use Rattle.cf_agree.specs.Moves.{IsOut, CallOut, AreLeased, lease_replied, leases_replied, returned, leases_granted}
use Rattle.cf_agree.proofs.Words.{in_cons, in_either, number_or, at_same, at_other}

in_map : (t : ℕ) (x : Option Settlement) (l : CallOut) (ls : List CallOut) → In l (leases_replied t x ls) → (m : CallOut) × In m ls × (l ≡ lease_replied t x m)
in_map t x l [] i = elim i [ ]
in_map t x l (m ∷ ls) i = grind (arith, in_cons l (lease_replied t x m) (leases_replied t x ls) i, in_map t x l ls, here, there)

pub in_kept : {A : Type 0} (test : A → Bool) (x : A) (xs : List A) → In x (filter test xs) → In x xs × (test x ≡ true)
in_kept test x [] i = elim i [ ]
in_kept test x (y ∷ xs) i = grind (arith, in_kept test x xs, in_cons, here, there)

-- the lease keeps its call
same_call : (t : ℕ) (x : Option Settlement) (m : CallOut) → ((lease_replied t x m).token ≡ m.token) × ((lease_replied t x m).lane ≡ m.lane) × ((lease_replied t x m).request ≡ m.request)
same_call t x m = grind arith

-- settled entries stay
pub record Stays (w w' : Lanes) : Type 0 where
  pub entries : (n : List ℕ) (t : ℕ) (s : Settled) → settled_under w n t ≡ Some s → settled_under w' n t ≡ Some s

module _ (a : Account) (w w' : Lanes) (ls : List CallOut) (h : AreLeased a w ls) (st : Stays w w') where
  pub leased_still : AreLeased a w' ls
  leased_still = record {
    once = h.once;
    out = h.out;
    replies = λ l x i e. let (s, y, z) = h.replies l x i e in (s, st.entries l.lane l.token s y, z);
  }

  -- the lease that was called has its answer
  pub leased_replied : (l : CallOut) (x : Option Settlement) → In l ls → ((y : Settlement) → x ≡ Some y → (s : Settled) × (settled_under w' l.lane l.token ≡ Some s) × (s.settlement ≡ y)) → AreLeased a w' (leases_replied l.token x ls)
  leased_replied l x mine answers = record {
    once = λ m k i j e. let (m', i', me) = in_map l.token x m ls i in
        let (k', j', ke) = in_map l.token x k ls j in
        me ∙ ap (lease_replied l.token x) (h.once m' k' i' j' (cc ((same_call l.token x m').0, (same_call l.token x k').0))) ∙ sym ke;
    out = λ m i. grind (arith, in_map l.token x m ls i, same_call l.token x, h.out);
    replies = λ m y i e. let (m', i', me) = in_map l.token x m ls i in
        elim (number_or l.token m'.token) [
          | inl n ↦ (let z = at_same l.token m'.token (record m' { reply = x }) m' n in
              let one = h.once l m' mine i' n in let (s, p, q) = answers y (cc) in (s, cc, q))
          | inr n ↦ (let z = at_other l.token m'.token (record m' { reply = x }) m' n in
              let (s, p, q) = h.replies m' y i' (cc) in (s, let k = st.entries m'.lane m'.token s p in cc, q))
        ];
  }

-- an account that keeps what is out keeps the leases
module _ (a a' : Account) (w : Lanes) (ls : List CallOut) (h : AreLeased a w ls) where
  pub leased_by : ((l : CallOut) → In l ls → IsOut a l.lane l.token l.request → IsOut a' l.lane l.token l.request) → AreLeased a' w ls
  leased_by keep = record { once = h.once; out = λ l i. keep l i (h.out l i); replies = h.replies }

  -- a lease comes back
  pub leased_returned : (t : ℕ) → ((l : CallOut) → In l ls → l.token ≢ t → IsOut a l.lane l.token l.request → IsOut a' l.lane l.token l.request) → AreLeased a' w (returned t ls)
  leased_returned t keep = grind (arith, in_kept)

  -- a call is granted
  pub leased_granted : (t : ℕ) (lane : List ℕ) (r : Request) → ((l : CallOut) → In l ls → IsOut a l.lane l.token l.request → IsOut a' l.lane l.token l.request) → ((l : CallOut) → In l ls → l.token ≢ t) → IsOut a' lane t r → AreLeased a' w (leases_granted t lane r ls)
  leased_granted t lane r keep new out = record {
    once = λ l m i j e. grind (arith, in_either l ls _ i, in_either m ls _ j, h.once l m, new l, new m);
    out = λ l i. grind (arith, in_either l ls _ i, keep, h.out);
    replies = λ l x i e. grind (arith, in_either l ls _ i, h.replies);
  }
