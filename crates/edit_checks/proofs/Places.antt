-- Places of texts.
use Rattle.std.proofs.Common.{◌≡◌, ℕ, ◌<◌, ◌^◌, Bool, List, length, sym, arith, Option, Some, None}
use Rattle.std.specs.Prelude.{position, IfSome}
use Rattle.std.proofs.lemmas.List.Quantifiers.{position-Some}

-- a place that is found in a short text is small
pub small_place : (test : ℕ → Bool) (text : List ℕ) (place : Option ℕ) → place ≡ position test text → length text < 2 ^ 32 → IfSome place (λ before. before < 2 ^ 32)
small_place test text None is short = tt
small_place test text (Some before) is short = let within = (position-Some test text before 0 (sym is)).0 in omega (arith, within)
