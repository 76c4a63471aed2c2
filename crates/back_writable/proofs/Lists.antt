-- What holds of each in a list.
use Rattle.std.proofs.Common.{ℕ, ◌≤◌, List, [], ◌∷◌, ◌++◌, map, max, fold, arith}
use Rattle.std.specs.List.{flat_map, AllByRecursion as Each}

pub each_append : {X : Type 0} (P : X → Type 0) (xs ys : List X) → Each P xs → Each P ys → Each P (xs ++ ys)
each_append P [] ys one other = other
each_append P (x ∷ xs) ys one other = (one.0, each_append P xs ys one.1 other)

pub each_both : {X : Type 0} (P : X → Type 0) (xs ys : List X) → Each P (xs ++ ys) → Each P xs × Each P ys
each_both P [] ys each = (tt, each)
each_both P (x ∷ xs) ys each = let rest = each_both P xs ys each.1 in ((each.0, rest.0), rest.1)

pub each_part : {X Y : Type 0} (P : Y → Type 0) (f : X → List Y) (xs : List X) → Each P (flat_map f xs) → Each (λ x. Each P (f x)) xs
each_part P f [] each = tt
each_part P f (x ∷ xs) each = let both = each_both P (f x) (flat_map f xs) each in (both.0, each_part P f xs both.1)

pub each_mapped : {X Y : Type 0} (P : Y → Type 0) (f : X → Y) (xs : List X) → Each P (map f xs) → Each (λ x. P (f x)) xs
each_mapped P f [] each = tt
each_mapped P f (x ∷ xs) each = (each.0, each_mapped P f xs each.1)

-- what holds of what is made of each holds of all that is made
pub each_made : {X Y : Type 0} (P : X → Type 0) (Q : Y → Type 0) (f : X → Y) → ((x : X) → P x → Q (f x)) → (xs : List X) → Each P xs → Each Q (map f xs)
each_made P Q f made [] each = tt
each_made P Q f made (x ∷ xs) each = (made x each.0, each_made P Q f made xs each.1)

pub each_also : {X : Type 0} (P Q : X → Type 0) → ((x : X) → P x → Q x) → (xs : List X) → Each P xs → Each Q xs
each_also P Q also [] each = tt
each_also P Q also (x ∷ xs) each = (also x each.0, each_also P Q also xs each.1)

-- of two facts of each, a third
pub each_joined : {X : Type 0} (P Q R : X → Type 0) → ((x : X) → P x → Q x → R x) → (xs : List X) → Each P xs → Each Q xs → Each R xs
each_joined P Q R join [] one other = tt
each_joined P Q R join (x ∷ xs) one other = (join x one.0 other.0, each_joined P Q R join xs one.1 other.1)

-- none is greater than the greatest
pub each_at_most : (most a : ℕ) (numbers : List ℕ) → fold max a numbers ≤ most → (a ≤ most) × Each (λ n. n ≤ most) numbers
each_at_most most a [] h = (h, tt)
each_at_most most a (n ∷ numbers) h = let rest = each_at_most most (max a n) numbers h in (omega (arith, rest.0), (omega (arith, rest.0), rest.1))

-- where none is greater, the greatest isn't
pub greatest_at_most : (most a : ℕ) (numbers : List ℕ) → a ≤ most → Each (λ n. n ≤ most) numbers → fold max a numbers ≤ most
greatest_at_most most a [] h each = h
greatest_at_most most a (n ∷ numbers) h each = greatest_at_most most (max a n) numbers (omega (arith, h, each.0)) each.1
