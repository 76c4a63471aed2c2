-- Lemmas on lists that plain documents need.
use Rattle.std.proofs.Common.{◌≡◌, ◌≢◌, ℕ, ◌+◌, ◌≤◌, ◌<◌, List, [], ◌∷◌, ◌++◌, length, refl, ap, sym, ◌∙◌, arith, max, get_or, zero, suc}
use Rattle.std.specs.Prelude.{map, fold, sum_by, ⊤}
use Rattle.std.specs.List.{AllByRecursion as Each, flat_map}
use Rattle.doc_model.specs.Reading.{upwards}

pub fold_max_le : (a b : ℕ) (xs : List ℕ) → a ≤ b → Each (λ x. x ≤ b) xs → fold max a xs ≤ b
fold_max_le a b [] h each = h
fold_max_le a b (x ∷ xs) h each = fold_max_le (max a x) b xs (omega (arith, each.0)) each.1

pub le_fold_max : (a b : ℕ) (xs : List ℕ) → fold max a xs ≤ b → (a ≤ b) × Each (λ x. x ≤ b) xs
le_fold_max a b [] h = (h, tt)
le_fold_max a b (x ∷ xs) h = let r = le_fold_max (max a x) b xs h in (omega (arith, r.0), (omega (arith, r.0), r.1))

pub length-upwards : (first count : ℕ) → length (upwards first count) ≡ count
length-upwards first zero = refl
length-upwards first (suc count) = ap suc (length-upwards (first + 1) count)

pub get_or-upwards : (first count i d : ℕ) → i < count → get_or (upwards first count) i d ≡ first + i
get_or-upwards first zero i d h = absurd (omega arith)
get_or-upwards first (suc count) zero d h = omega arith
get_or-upwards first (suc count) (suc i) d h = get_or-upwards (first + 1) count i d (omega arith) ∙ omega arith

-- what holds of all holds of all in a list of lists
pub Each-flat_map : {X Y : Type 0} (P : Y → Type 0) (f : X → List Y) (xs : List X) → Each (λ x. Each P (f x)) xs → Each P (flat_map f xs)
Each-flat_map P f [] each = tt
Each-flat_map P f (x ∷ xs) each = Each-append P (f x) (flat_map f xs) each.0 (Each-flat_map P f xs each.1) where
  Each-append : {Y : Type 0} (P : Y → Type 0) (ys zs : List Y) → Each P ys → Each P zs → Each P (ys ++ zs)
  Each-append P [] zs left right = right
  Each-append P (y ∷ ys) zs left right = (left.0, Each-append P ys zs left.1 right)

pub Each-map : {X Y : Type 0} (P : Y → Type 0) (f : X → Y) (xs : List X) → Each (λ x. P (f x)) xs → Each P (map f xs)
Each-map P f [] each = tt
Each-map P f (x ∷ xs) each = (each.0, Each-map P f xs each.1)

pub Each-of : {X : Type 0} (P Q : X → Type 0) → ((x : X) → P x → Q x) → (xs : List X) → Each P xs → Each Q xs
Each-of P Q h [] each = tt
Each-of P Q h (x ∷ xs) each = (h x each.0, Each-of P Q h xs each.1)

pub Each-unmap : {X Y : Type 0} (P : Y → Type 0) (f : X → Y) (xs : List X) → Each P (map f xs) → Each (λ x. P (f x)) xs
Each-unmap P f [] each = tt
Each-unmap P f (x ∷ xs) each = (each.0, Each-unmap P f xs each.1)
