-- A request that may begin, with its path (this project's own).
use Rattle.std.specs.Prelude.{ℕ, List}
use Rattle.cf_tree.specs.declared.request.Request.{Request}

pub record Start : Type 0 where
  pub path : List ℕ
  pub request : Request
