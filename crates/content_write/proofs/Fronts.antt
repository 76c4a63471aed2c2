-- A list that isn't empty is its first item and the rest.
use Rattle.std.proofs.Common.{◌≡◌, ℕ, suc, ◌-◌, ◌≤◌, List, [], ◌∷◌, length, take, drop, get_or, ap, sym, ◌∙◌, arith}
use Rattle.std.proofs.Math.Seq.{take-length}

less_one : (n : ℕ) → suc n - 1 ≡ n
less_one n = omega arith

module _ {X : Type 0} where
  -- the items behind the first
  abbrev pub rest : List X → List X
  rest items = take (length items - 1) (drop 1 items)

  rest-cons : (x : X) (items : List X) → rest (x ∷ items) ≡ items
  rest-cons x items = ap (λ (n : ℕ). take n items) (less_one (length items)) ∙ take-length items

  pub front : (items : List X) (first other : X) → 1 ≤ length items → first ≡ get_or items 0 other → items ≡ first ∷ rest items
  front [] first other some e = absurd (omega (arith, some))
  front (x ∷ items) first other some e = ap (λ (item : X). item ∷ items) (sym e) ∙ ap (λ (more : List X). first ∷ more) (sym (rest-cons x items))
