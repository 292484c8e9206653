-- What an entry of an operation leaves of its stack, beside resources and open calls: the operation, what it works by, the entries before it
-- and the calls.
use Rattle.std.proofs.Common.{◌≡◌, ℕ, ◌+◌, List, [], ◌∷◌, ◌++◌, Option, Some, None, true, false, true≢false, refl, ap, sym, ◌∙◌, subst, map}
use Rattle.std.specs.Option.{option_map}
use Rattle.cf_core.proofs.Words.{AreApart, Begun, Call, Entry, IsOwn, Pending, Phase, Reply, StackState, Status, Why, World, anew, begins_from, call_under, effect_at, ended_effect, fold_of, intending, is_call, is_opening, is_restore, keeping, known_stack, new_call, no_stack, pending_of, replied, stack_at, stack_for, turned_effect, unwrap_or, world_after}
use Rattle.cf_core.proofs.Lemmas.{answered_left, found_still, some_is}
use Rattle.cf_core.proofs.FitKept.{at_name, of_another, of_it, stack_known}
use Rattle.cf_core.proofs.Rows.{IsSameCall, anew_same, answered_row, answered_row_same, itself_same, row_found}
use Rattle.cf_core.proofs.Statuses.{intended_way, kept_way}
use Rattle.cf_plan.proofs.Frame.{own_apart}
use Rattle.cf_plan.specs.Forward.{path_of_token}
use Rattle.cf_tree.specs.Lists.{In}
use Rattle.cf_tree.specs.Lists.In.{here, there}
use Rattle.cf_core.specs.Books.{row_in}

-- the calls of a stack keep their rows, as rows of the same calls; so their paths stay
abbrev pub KeepsCalls : StackState → StackState → Type 0
KeepsCalls s t = (token : ℕ) (c : Call) → call_under token s ≡ Some c → (d : Call) × (call_under token t ≡ Some d) × IsSameCall c d

abbrev pub KeepsPaths : StackState → StackState → Type 0
KeepsPaths s t = (token : ℕ) (path : List ℕ) → path_of_token token s ≡ Some path → path_of_token token t ≡ Some path

-- the call of a token whose path is known
pub call_there : (o : Option Call) (path : List ℕ) → option_map (λ (c : Call). c.path) o ≡ Some path → (call : Call) × (o ≡ Some call) × (call.path ≡ path)
call_there None path h = let no : ⊥ = cc in absurd no
call_there (Some call) path h = (call, refl, some_is _ _ h)

pub paths_of : (s t : StackState) → KeepsCalls s t → KeepsPaths s t
paths_of s t kept token path h =
    let (c, was, at_path) = call_there (call_under token s) path h in
    let (d, found, same) = kept token c was in
    ap (option_map (λ (x : Call). x.path)) found ∙ ap (λ (p : List ℕ). Some p) (same.path ∙ at_path)

pub same_calls : (s t : StackState) → t.ledger ≡ s.ledger → KeepsCalls s t
same_calls s t e token c h = (c, ap (row_in token) e ∙ h, itself_same c)

-- whatever joins behind them, and whatever is changed of rows that stay those of their calls
more_calls : (s t : StackState) (cs : List Call) → t.ledger ≡ s.ledger ++ cs → KeepsCalls s t
more_calls s t cs e token c h = (c, ap (row_in token) e ∙ found_still (is_call token) s.ledger cs c h, itself_same c)

changed_calls : (f : Call → Call) → ((c : Call) → IsSameCall c (f c)) → (s t : StackState) → t.ledger ≡ map f s.ledger → KeepsCalls s t
changed_calls f same s t e token c h = (f c, ap (row_in token) e ∙ row_found f same token s.ledger c h, same c)

pub calls_anew : (s t : StackState) → t.ledger ≡ map anew s.ledger → KeepsCalls s t
calls_anew s t e = changed_calls anew anew_same s t e

same_then : (c d e : Call) → IsSameCall c d → IsSameCall d e → IsSameCall c e
same_then c d e a b = record {
  number = b.number ∙ a.number;
  token = b.token ∙ a.token;
  lane = b.lane ∙ a.lane;
  path = b.path ∙ a.path;
  request = b.request ∙ a.request;
  status = b.status ∙ a.status;
}

pub calls_then : (s t u : StackState) → KeepsCalls s t → KeepsCalls t u → KeepsCalls s u
calls_then s t u a b token c h =
    let (d, found, same) = a token c h in
    let (e, there_too, as_well) = b token d found in
    (e, there_too, same_then c d e same as_well)

-- the operation, what it works by, the entries, the calls and the status that a stack had
pub record IsKin (s t : StackState) : Type 0 where
  pub operation : t.operation ≡ s.operation
  pub going : t.going ≡ s.going
  pub before : t.before ≡ s.before
  pub entries : t.entries ≡ s.entries
  pub ledger : t.ledger ≡ s.ledger
  pub status : t.status ≡ s.status

kindred : (s : StackState) → IsKin s s
kindred s = record { operation = refl; going = refl; before = refl; entries = refl; ledger = refl; status = refl }

pub kept_alike : (path physical : List ℕ) (w : Why) (s : StackState) → IsKin s (keeping path physical w s)
kept_alike path physical w s =
    kept_way (IsKin s) s (kindred s) path physical w (record { operation = refl; going = refl; before = refl; entries = refl; ledger = refl; status = refl })
    (record { operation = refl; going = refl; before = refl; entries = refl; ledger = refl; status = refl })

-- the operation, what it works by and the entries that a stack had, and its calls
pub record IsLike (s t : StackState) : Type 0 where
  pub operation : t.operation ≡ s.operation
  pub going : t.going ≡ s.going
  pub before : t.before ≡ s.before
  pub entries : t.entries ≡ s.entries
  pub calls : KeepsCalls s t

pub like_kin : (s t : StackState) → IsKin s t → IsLike s t
like_kin s t k = record {
  operation = k.operation;
  going = k.going;
  before = k.before;
  entries = k.entries;
  calls = same_calls s t k.ledger;
}

-- a call that goes out joins the others
pub like_intended : (number : ℕ) (p : Pending) (s : StackState) → IsLike s (intending number p s)
like_intended number p s = intended_way (IsLike s) s (like_kin s s (kindred s)) number p (record {
  operation = refl;
  going = refl;
  before = refl;
  entries = refl;
  calls = more_calls s (record s { tokens = s.tokens ++ p ∷ []; ledger = s.ledger ++ new_call number s.status p ∷ [] }) (new_call number s.status p ∷ []) refl;
})

-- an answer changes no token and no path of a call
pub like_replied : (token : ℕ) (a : Reply) (o : Option Pending) (s : StackState) → IsLike s (replied token a o s)
like_replied token a None s = like_kin s s (kindred s)
like_replied token a (Some p) s =
    let left = (answered_left (is_restore token s) p.path p.request a s).as_was in
    record {
      operation = ap (λ (z : StackState). z.operation) left;
      going = ap (λ (z : StackState). z.going) left;
      before = ap (λ (z : StackState). z.before) left;
      entries = ap (λ (z : StackState). z.entries) left;
      calls = changed_calls (answered_row token a) (answered_row_same token a) s (replied token a (Some p) s)
          (ap (λ (z : StackState). map (answered_row token a) z.ledger) left);
    }

pub like_turned : (p : Phase) (s : StackState) → IsLike s (turned_effect p s).stack
like_turned Phase.Clean s =
    record { operation = refl; going = refl; before = refl; entries = refl; calls = calls_anew s (turned_effect Phase.Clean s).stack refl }
like_turned Phase.Back s =
    record { operation = refl; going = refl; before = refl; entries = refl; calls = calls_anew s (turned_effect Phase.Back s).stack refl }
like_turned Phase.BackClean s =
    record { operation = refl; going = refl; before = refl; entries = refl; calls = calls_anew s (turned_effect Phase.BackClean s).stack refl }

pub like_ended : (state : Status) (s : StackState) → IsLike s (ended_effect state s).stack
like_ended Status.CreateComplete s = record { operation = refl; going = refl; before = refl; entries = refl; calls = same_calls s (ended_effect Status.CreateComplete s).stack refl }
like_ended Status.RollbackFailed s = record { operation = refl; going = refl; before = refl; entries = refl; calls = same_calls s (ended_effect Status.RollbackFailed s).stack refl }
like_ended Status.UpdateRollbackComplete s = record { operation = refl; going = refl; before = refl; entries = refl; calls = same_calls s (ended_effect Status.UpdateRollbackComplete s).stack refl }
like_ended Status.RollbackComplete s = record { operation = refl; going = refl; before = refl; entries = refl; calls = same_calls s (ended_effect Status.RollbackComplete s).stack refl }
like_ended Status.DeleteComplete s = record { operation = refl; going = refl; before = refl; entries = refl; calls = same_calls s (ended_effect Status.DeleteComplete s).stack refl }
like_ended state s = record { operation = refl; going = refl; before = refl; entries = refl; calls = same_calls s (ended_effect state s).stack refl }

-- An entry of the operation joins the stack's own, and the operation is the same, works by the same and keeps its calls.
pub record TakesEntry (e : Entry) (s t : StackState) : Type 0 where
  pub operation : t.operation ≡ s.operation
  pub going : t.going ≡ s.going
  pub before : t.before ≡ s.before
  pub entries : t.entries ≡ s.entries ++ e ∷ []
  pub calls : KeepsCalls s t

takes : (e : Entry) (s u : StackState) (lines : List (List ℕ)) → IsLike s u → TakesEntry e s (record u { entries = u.entries ++ e ∷ []; events = lines })
takes e s u lines k =
    record { operation = k.operation; going = k.going; before = k.before; entries = ap (λ (es : List Entry). es ++ e ∷ []) k.entries; calls = k.calls }

pub terms_stay : (place n : ℕ) (e : Entry) (s : StackState) → IsOwn n e → TakesEntry e s (effect_at place e s).stack
terms_stay place n (Entry.Kept m path physical w) s own =
    takes (Entry.Kept m path physical w) s (keeping path physical w s) _ (like_kin s (keeping path physical w s) (kept_alike path physical w s))
terms_stay place n (Entry.Intent m token lane path r) s own =
    let p : Pending = record { token = token; path = path; lane = lane; request = r } in
    takes (Entry.Intent m token lane path r) s (intending m p s) _ (like_intended m p s)
terms_stay place n (Entry.Outcome m token a before after) s own =
    takes (Entry.Outcome m token a before after) s (replied token a (pending_of token s) s) _ (like_replied token a (pending_of token s) s)
terms_stay place n (Entry.Phase m p c) s own = takes (Entry.Phase m p c) s (turned_effect p s).stack _ (like_turned p s)
terms_stay place n (Entry.Done m state failed) s own = takes (Entry.Done m state failed) s (ended_effect state s).stack _ (like_ended state s)
terms_stay place n e s own = absurd own

-- What the entries of an operation keep of every stack, its own or another.
pub record KeepsTerms (s t : StackState) : Type 0 where
  pub operation : t.operation ≡ s.operation
  pub going : t.going ≡ s.going
  pub before : t.before ≡ s.before
  pub calls : KeepsCalls s t

itself : (s : StackState) → KeepsTerms s s
itself s = record { operation = refl; going = refl; before = refl; calls = same_calls s s refl }

then_too : (s t u : StackState) → KeepsTerms s t → KeepsTerms t u → KeepsTerms s u
then_too s t u a b = record {
  operation = b.operation ∙ a.operation;
  going = b.going ∙ a.going;
  before = b.before ∙ a.before;
  calls = calls_then s t u a.calls b.calls;
}

-- an entry of an operation is no opening
pub own_no_opening : (n : ℕ) (e : Entry) → IsOwn n e → is_opening e ≡ false
own_no_opening n (Entry.Opened epoch lanes) own = absurd own
own_no_opening n e own = refl

module _ (number : ℕ) where
  kept_once : (x : World) → AreApart x → (e : Entry) → IsOwn number e → (name : List ℕ) → KeepsTerms (known_stack name x) (known_stack name (world_after x e))
  kept_once x apart e own name = elim (at_name x e name (own_no_opening number e own)) [
    | of_it s mine now ↦
        let k = terms_stay (x.place + 1) number e s own in
        let kept : KeepsTerms s (effect_at (x.place + 1) e s).stack = record { operation = k.operation; going = k.going; before = k.before; calls = k.calls } in
        subst (λ z. KeepsTerms z (known_stack name (world_after x e))) (sym (stack_known x apart e name s mine))
        (subst (KeepsTerms s) (sym (ap (λ (o : Option StackState). unwrap_or o no_stack) now)) kept)
    | of_another never now ↦
        subst (KeepsTerms (known_stack name x)) (sym (ap (λ (o : Option StackState). unwrap_or o no_stack) now)) (itself (known_stack name x))
  ]

  pub terms_kept : (x : World) → AreApart x → (es : List Entry) → ((e : Entry) → In e es → IsOwn number e) → (name : List ℕ)
      → KeepsTerms (known_stack name x) (known_stack name (fold_of x es))
  terms_kept x apart [] own name = itself (known_stack name x)
  terms_kept x apart (e ∷ es) own name =
      then_too (known_stack name x) (known_stack name (world_after x e)) (known_stack name (fold_of (world_after x e) es))
      (kept_once x apart e (own e here) name)
      (terms_kept (world_after x e) (own_apart number x apart e (own e here)) es (λ d i. own d (there i)) name)

-- An operation begins on its stack, which a creation makes where there is none.
module _ (x : World) (number : ℕ) (name : List ℕ) where
  abbrev beginning_with : Begun → Entry
  beginning_with k = Entry.Begin number name k

  -- a stack from whose status it begins is there, but for that of a creation
  standing : (k : Begun) (o : Option StackState) → begins_from k (unwrap_or o no_stack).status ≡ true → begins_from k no_stack.status ≡ false
      → option_map {U = List ℕ × StackState} (λ (s : StackState). (name, s)) o ≡ Some (name, unwrap_or o no_stack)
  standing k None from none = absurd (true≢false (sym from ∙ none))
  standing k (Some s) from none = refl

  pub begins_on : (k : Begun) → begins_from k (known_stack name x).status ≡ true → stack_for (beginning_with k) x ≡ Some (name, known_stack name x)
  begins_on (Begun.Create source) from = refl
  begins_on (Begun.Update source) from = standing (Begun.Update source) (stack_at name x) from refl
  begins_on (Begun.Delete paths) from = standing (Begun.Delete paths) (stack_at name x) from refl
  begins_on (Begun.Continue paths) from = standing (Begun.Continue paths) (stack_at name x) from refl

  pub begun_known : (k : Begun) → begins_from k (known_stack name x).status ≡ true
      → known_stack name (world_after x (beginning_with k)) ≡ (effect_at (x.place + 1) (beginning_with k) (known_stack name x)).stack
  begun_known k from = elim (at_name x (beginning_with k) name refl) [
    | of_it s mine now ↦
        let same : s ≡ known_stack name x = ap (λ (o : Option (List ℕ × StackState)). (unwrap_or o (name, s)).1) (sym mine ∙ begins_on k from) in
        ap (λ (o : Option StackState). unwrap_or o no_stack) now ∙ ap (λ (z : StackState). (effect_at (x.place + 1) (beginning_with k) z).stack) same
    | of_another never now ↦ absurd (never (known_stack name x) (begins_on k from))
  ]
