-- What holds of each in a list, or of one in it.
use Rattle.std.proofs.Common.{Bool, true, false, cond, List, [], ◌∷◌, ◌++◌, map, filter}
use Rattle.std.specs.List.{flat_map, AllByRecursion as Each}

pub each_append : {X : Type 0} (P : X → Type 0) (xs ys : List X) → Each P xs → Each P ys → Each P (xs ++ ys)
each_append P [] ys one other = other
each_append P (x ∷ xs) ys one other = (one.0, each_append P xs ys one.1 other)

pub each_both : {X : Type 0} (P : X → Type 0) (xs ys : List X) → Each P (xs ++ ys) → Each P xs × Each P ys
each_both P [] ys each = (tt, each)
each_both P (x ∷ xs) ys each = let rest = each_both P xs ys each.1 in ((each.0, rest.0), rest.1)

-- all that parts hold, and the parts
pub each_part : {X Y : Type 0} (P : Y → Type 0) (f : X → List Y) (xs : List X) → Each P (flat_map f xs) → Each (λ x. Each P (f x)) xs
each_part P f [] each = tt
each_part P f (x ∷ xs) each = let both = each_both P (f x) (flat_map f xs) each in (both.0, each_part P f xs both.1)

pub each_whole : {X Y : Type 0} (P : Y → Type 0) (f : X → List Y) (xs : List X) → Each (λ x. Each P (f x)) xs → Each P (flat_map f xs)
each_whole P f [] each = tt
each_whole P f (x ∷ xs) each = each_append P (f x) (flat_map f xs) each.0 (each_whole P f xs each.1)

-- what follows of each
pub each_also : {X : Type 0} (P Q : X → Type 0) → ((x : X) → P x → Q x) → (xs : List X) → Each P xs → Each Q xs
each_also P Q step [] each = tt
each_also P Q step (x ∷ xs) each = (step x each.0, each_also P Q step xs each.1)

-- what holds of each holds of all that is made of them
pub each_made : {X Y : Type 0} (P : X → Type 0) (Q : Y → Type 0) (f : X → List Y) → ((x : X) → P x → Each Q (f x)) → (xs : List X) → Each P xs → Each Q (flat_map f xs)
each_made P Q f step [] each = tt
each_made P Q f step (x ∷ xs) each = each_append Q (f x) (flat_map f xs) (step x each.0) (each_made P Q f step xs each.1)

pub each_map : {X Y : Type 0} (P : X → Type 0) (Q : Y → Type 0) (f : X → Y) → ((x : X) → P x → Q (f x)) → (xs : List X) → Each P xs → Each Q (map f xs)
each_map P Q f step [] each = tt
each_map P Q f step (x ∷ xs) each = (step x each.0, each_map P Q f step xs each.1)

pub each_filter : {X : Type 0} (P : X → Type 0) (test : X → Bool) (xs : List X) → Each P xs → Each P (filter test xs)
each_filter P test [] each = tt
each_filter P test (x ∷ xs) each = by_test (test x) (each_filter P test xs each.1) where
  by_test : (b : Bool) → Each P (filter test xs) → Each P (cond b (x ∷ filter test xs) (filter test xs))
  by_test true rest = (each.0, rest)
  by_test false rest = rest
