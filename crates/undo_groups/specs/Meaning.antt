-- What primitives mean on the values of a target, one after another.
use Rattle.std.specs.Prelude.{List, [], ◌∷◌, reverse}

-- What the primitives of a target mean on its values.
pub record Meaning (V P : Type 0) : Type 1 where
  -- whether the primitive may be applied to the value
  pub fits : V → P → Type 0
  -- the value that applying it leaves
  pub changed : V → P → V
  -- the primitive that applying it answers, which takes the change back
  pub answer : V → P → P

-- The primitives fit one after another: each fits the value that those before it leave.
abbrev pub FitInOrder : {V P : Type 0} → Meaning V P → V → List P → Type 0
FitInOrder m v [] = Unit {0}
FitInOrder m v (p ∷ ps) = m.fits v p × FitInOrder m (m.changed v p) ps

-- What applying each of the primitives answers, the first one first.
abbrev pub answers : {V P : Type 0} → Meaning V P → V → List P → List P
answers m v [] = []
answers m v (p ∷ ps) = m.answer v p ∷ answers m (m.changed v p) ps

-- The group that is kept of the primitives: what applying each of them answers, in the opposite order.
abbrev pub inverse : {V P : Type 0} → Meaning V P → V → List P → List P
inverse m v ps = reverse (answers m v ps)
