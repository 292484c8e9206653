-- What the agreement of journal and lanes reads of a world and its entries, and the few ways in which it changes (this project's own).
use Rattle.std.specs.Prelude.{ℕ, ◌+◌, ◌==◌, Bool, true, false, ◌||◌, ◌&&◌, List, Option, Some, None, if◌then◌else◌}
use Rattle.std.specs.Str.{bytes_eq}
use Rattle.cf_tree.specs.declared.request.Request.{Request}
use Rattle.cf_tree.specs.declared.request.Request.TheVariants as request
use Rattle.cf_tree.specs.declared.code.Code.TheVariants as code
use Rattle.cf_handler.specs.declared.settled.Settlement.{Settlement}
use Rattle.cf_handler.specs.declared.settled.Settlement.TheVariants.{Success, Failed}
use Rattle.cf_agree.specs.Base.{Dict}

-- a resource that a stack holds or has made; it is sure where what it has is known
pub record Thing : Type 0 where
  pub stack : List ℕ
  pub path : List ℕ
  pub kind : List ℕ
  pub props : Dict
  pub attrs : Dict
  pub sure : Bool

-- what an id is to the stacks
pub data Role : Type 0 where
  Stranger : Role
  Resource : (thing : Thing) → Role
  Leftover : Role

-- a call that the journal has
pub record Called : Type 0 where
  pub path : List ℕ
  pub lane : List ℕ
  pub request : Request

-- a call that is open on a stack
pub record Open : Type 0 where
  pub stack : List ℕ
  pub path : List ℕ
  pub lane : List ℕ
  pub request : Request

abbrev pub called_of : Open → Called
called_of o = record { path = o.path; lane = o.lane; request = o.request }

pub record Account : Type 0 where
  -- by physical id
  pub role : List ℕ → Role
  -- by token: the open calls, the creates that were given up, each call that was written down, and each answer for good
  pub open_ : ℕ → Option Open
  pub lost : ℕ → Bool
  pub call : ℕ → Option Called
  pub told : ℕ → Option Settlement
  -- by stack: no operation is in progress, and an opening stands after its last end
  pub resting : List ℕ → Bool
  -- by lane: the type of each that the last opening names
  pub named : List ℕ → Option (List ℕ)
  -- the last token and the last opening
  pub last : ℕ
  pub epoch : ℕ

-- an opening
abbrev pub opened : (List ℕ → Option (List ℕ)) → (List ℕ → Bool) → Account → Account
opened named resting a = record a { named = named; resting = resting; epoch = a.epoch + 1 }

-- an operation begins, or ends
abbrev pub rested : (List ℕ → Bool) → Account → Account
rested resting a = record a { resting = resting }

-- a call is written down
abbrev pub intended : Open → Account → Account
intended o a = record a {
  open_ = λ t. if t == a.last + 1 then Some o else a.open_ t;
  call = λ t. if t == a.last + 1 then Some (called_of o) else a.call t;
  last = a.last + 1;
}

-- an open call is answered for good
abbrev pub made_thing : Open → List ℕ → Dict → Dict → Thing
made_thing o kind props attrs = record { stack = o.stack; path = o.path; kind = kind; props = props; attrs = attrs; sure = true }

abbrev pub set_thing : Dict → Dict → Role → Role
set_thing props attrs (Resource r) = Resource (record r { props = props; attrs = attrs; sure = true })
set_thing props attrs Stranger = Stranger
set_thing props attrs Leftover = Leftover

abbrev pub role_after : Open → Request → Settlement → (List ℕ → Role) → List ℕ → Role
role_after o (request.Create kind props) (Success id attrs) role i = if bytes_eq i id then Resource (made_thing o kind props attrs) else
    role i
role_after o (request.Update id props) (Success physical attrs) role i = if bytes_eq i id then set_thing props attrs (role i) else role i
role_after o (request.Delete id) (Success physical attrs) role i = if bytes_eq i id then Stranger else role i
role_after o (request.Delete id) (Failed code.NotFound) role i = if bytes_eq i id then Stranger else role i
role_after o r x role i = role i

abbrev pub answered : ℕ → Open → Settlement → Account → Account
answered t o x a = record a {
  role = role_after o o.request x a.role;
  open_ = λ u. if u == t then None else a.open_ u;
  told = λ u. if u == t then Some x else a.told u;
}

-- Some open calls are given up, and roles change with them: the creates among them are lost.
abbrev pub creates : Request → Bool
creates (request.Create kind props) = true
creates (request.Update id props) = false
creates (request.Delete id) = false

abbrev pub is_open_create : Option Open → Bool
is_open_create None = false
is_open_create (Some o) = creates o.request

abbrev pub dropped : (ℕ → Bool) → (List ℕ → Role) → Account → Account
dropped drop role a = record a {
  role = role;
  open_ = λ t. if drop t then None else a.open_ t;
  lost = λ t. a.lost t || (drop t && is_open_create (a.open_ t));
}
