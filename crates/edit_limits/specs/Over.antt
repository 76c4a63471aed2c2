-- Which limit is passed by some counts.
use Rattle.std.specs.Prelude.{ℕ, List, [], ◌∷◌, if◌then◌else◌, nat_lt, Option, Some, None}
use Rattle.doc_model.specs.declared.refusal.Limit.{Limit}
use Rattle.doc_model.specs.Limits.{limit_number}

-- a limit with what it would measure
pub record Reached : Type 0 where
  pub limit : Limit
  pub count : ℕ

-- the first of some limits that is passed, if one is
abbrev pub first_over : List Reached → Option Limit
first_over [] = None
first_over (reached ∷ more) = if nat_lt (limit_number reached.limit) reached.count then Some reached.limit else first_over more
