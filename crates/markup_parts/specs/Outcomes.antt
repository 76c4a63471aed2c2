-- What reading a construct at the front of a text comes to. A construct is a relation between a text that begins with it,
-- its value and what stands after it. A construct without a value is whole, but refused for what it says.
use Rattle.std.specs.Prelude.{◌≡◌, List, ℕ, ◌++◌, Option, Some, None, Result, Ok, Err}
use Rattle.markup_parts.specs.declared.stop.Stop.{Stop}
use Rattle.markup_parts.specs.declared.stop.Stop.TheVariants.{Broken, Cut, Refused}

abbrev pub Construct : Type 0 → Type 1
Construct V = List ℕ → Option V → List ℕ → Type 0

-- however the text goes on, it doesn't begin with the construct
abbrev pub IsBroken : {V : Type 0} → Construct V → List ℕ → Type 0
IsBroken {V} Is text = (more : List ℕ) (value : Option V) (after : List ℕ) → Is (text ++ more) value after → ⊥

-- the text doesn't begin with the construct, but may go on so that it does
pub record IsCut {V : Type 0} (Is : Construct V) (text : List ℕ) : Type 0 where
  pub none : (value : Option V) (after : List ℕ) → Is text value after → ⊥
  pub more : List ℕ
  pub value : Option V
  pub after : List ℕ
  pub whole : Is (text ++ more) value after

-- the same, and the construct can be completed with anything after it
pub record IsUnfinished {V : Type 0} (Is : Construct V) (text : List ℕ) : Type 0 where
  pub none : (value : Option V) (after : List ℕ) → Is text value after → ⊥
  pub more : List ℕ
  pub value : Option V
  pub whole : (after : List ℕ) → Is (text ++ (more ++ after)) value after

-- the text begins with the construct of this value, and with no other, however it goes on
pub record IsRead {V : Type 0} (Is : Construct V) (text : List ℕ) (value : V) (after : List ℕ) : Type 0 where
  pub is : (more : List ℕ) → Is (text ++ more) (Some value) (after ++ more)
  pub only : (more : List ℕ) (other : Option V) (rest : List ℕ) → Is (text ++ more) other rest → (other ≡ Some value) × (rest ≡ after ++ more)

-- the text begins with a refused construct, and with no other, however it goes on
pub record IsRefused {V : Type 0} (Is : Construct V) (text : List ℕ) : Type 0 where
  pub after : List ℕ
  pub is : (more : List ℕ) → Is (text ++ more) None (after ++ more)
  pub only : (more : List ℕ) (other : Option V) (rest : List ℕ) → Is (text ++ more) other rest → other ≡ None

-- what reading comes to: a value and the text after it, or why it stopped
pub data Outcome (V : Type 0) : Type 0 where
  Found : (value : V) (after : List ℕ) → Outcome V
  Stopped : (stop : Stop) → Outcome V

-- an outcome is right for a text
abbrev pub Reads : {V : Type 0} → Construct V → List ℕ → Outcome V → Type 0
Reads Is text (Found value after) = IsRead Is text value after
Reads Is text (Stopped Broken) = IsBroken Is text
Reads Is text (Stopped Cut) = IsUnfinished Is text
Reads Is text (Stopped Refused) = IsRefused Is text

-- the outcome of a function's result, by the value and the text after it that are seen in it
abbrev pub outcome : {X V : Type 0} → (X → V) → (X → List ℕ) → Result X Stop → Outcome V
outcome value after (Ok x) = Found (value x) (after x)
outcome value after (Err stop) = Stopped stop
