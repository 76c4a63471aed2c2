-- Texts and lists of texts that are equal.
use Rattle.std.proofs.Common.{◌≡◌, ℕ, true, List, refl}
use Rattle.std.proofs.lemmas.Slice.Eq.{bytes_eq-Decides}
use Rattle.std.specs.Str.{bytes_eq}
use Rattle.std.specs.Cmp.Lexicographic.{pointwise, pointwise_decides}

pub bytes_are : (xs ys : List ℕ) → bytes_eq xs ys ≡ true → xs ≡ ys
bytes_are xs ys e = (bytes_eq-Decides xs ys).0 e

pub names_are : (xs ys : List (List ℕ)) → pointwise bytes_eq xs ys ≡ true → xs ≡ ys
names_are xs ys e = (pointwise_decides bytes_eq-Decides xs ys).0 e

pub names_same : (xs : List (List ℕ)) → pointwise bytes_eq xs xs ≡ true
names_same xs = (pointwise_decides bytes_eq-Decides xs xs).1 refl
