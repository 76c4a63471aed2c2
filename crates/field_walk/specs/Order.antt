-- Spots in reading order.
use Rattle.std.specs.Prelude.{List}
use Rattle.std.specs.List.Sorted.{IsNonDecreasingBy}
use Rattle.field_model.specs.declared.gathered.Spot.{Spot}

-- each is read behind those in front of it
pub record IsRising {X : Type 0} (spot : X → Spot) (xs : List X) : Type 0 where
  pub anchors : IsNonDecreasingBy (λ x. (spot x).anchor) xs
  pub places : IsNonDecreasingBy (λ x. (spot x).at) xs
