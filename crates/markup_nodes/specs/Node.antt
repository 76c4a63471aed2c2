-- What stands in an element.
use Rattle.std.specs.Prelude.{◌≡◌, ℕ, ◌⊎◌}
use Rattle.std.specs.Coded.{Coded, code_by, coded_ℕ, coded⊎}
use mathlib.Core.Logic.{inl, inr}
use mathlib.Core.Path.{refl}

-- an element or a character
pub data Node (X : Type 0) : Type 0 where
  Element : (x : X) → Node X
  Char : (c : ℕ) → Node X

-- a node as a sum, and back
abbrev pub node_split : {X : Type 0} → Node X → X ⊎ ℕ
node_split (Element x) = inl x
node_split (Char c) = inr c

abbrev pub node_join : {X : Type 0} → X ⊎ ℕ → Node X
node_join (inl x) = Element x
node_join (inr c) = Char c

pub join-split : {X : Type 0} (node : Node X) → node_join (node_split node) ≡ node
join-split (Element x) = refl
join-split (Char c) = refl

pub split-join : {X : Type 0} (sum : X ⊎ ℕ) → node_split (node_join sum) ≡ sum
split-join (inl x) = refl
split-join (inr c) = refl

abbrev pub node_code : {X : Type 0} → Coded X → Coded (Node X)
node_code {X} c = code_by (X ⊎ ℕ) (coded⊎ c coded_ℕ) node_split node_join join-split
