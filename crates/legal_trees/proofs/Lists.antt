-- What holds of each in a list.
use Rattle.std.proofs.Common.{List, [], ◌∷◌, ◌++◌}
use Rattle.std.specs.List.{flat_map, AllByRecursion as Each}

pub each_append : {X : Type 0} (P : X → Type 0) (xs ys : List X) → Each P xs → Each P ys → Each P (xs ++ ys)
each_append P [] ys one other = other
each_append P (x ∷ xs) ys one other = (one.0, each_append P xs ys one.1 other)

pub each_both : {X : Type 0} (P : X → Type 0) (xs ys : List X) → Each P (xs ++ ys) → Each P xs × Each P ys
each_both P [] ys each = (tt, each)
each_both P (x ∷ xs) ys each = let rest = each_both P xs ys each.1 in ((each.0, rest.0), rest.1)

-- all that parts hold, and the parts
pub each_part : {X Y : Type 0} (P : Y → Type 0) (f : X → List Y) (xs : List X) → Each P (flat_map f xs) → Each (λ x. Each P (f x)) xs
each_part P f [] each = tt
each_part P f (x ∷ xs) each = let both = each_both P (f x) (flat_map f xs) each in (both.0, each_part P f xs both.1)

pub each_whole : {X Y : Type 0} (P : Y → Type 0) (f : X → List Y) (xs : List X) → Each (λ x. Each P (f x)) xs → Each P (flat_map f xs)
each_whole P f [] each = tt
each_whole P f (x ∷ xs) each = each_append P (f x) (flat_map f xs) each.0 (each_whole P f xs each.1)
