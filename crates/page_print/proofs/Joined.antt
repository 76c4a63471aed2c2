-- Texts that are put together.
use Rattle.std.proofs.Common.{◌≡◌, ℕ, List, [], ◌∷◌, ◌++◌, map, refl, sym, ap, ◌∙◌, append_assoc, append-nil, encode_utf8, encode_utf8_all}
use Rattle.std.specs.List.{flat_map}
use Rattle.std.proofs.lemmas.List.{map-append}
use Rattle.field_model.specs.Shown.{joined}
use Rattle.page_print.specs.Headers.{spaced}

-- a number that isn't empty stands before a space and the name
pub joined_some : (number name : List ℕ) → (number ≡ [] → ⊥) → joined number name ≡ number ++ 32 ∷ name
joined_some [] name some = absurd (some refl)
joined_some (first ∷ number) name some = refl

-- the bytes of two texts
pub encode_utf8_all-append : (front back : List ℕ) → encode_utf8_all (front ++ back) ≡ encode_utf8_all front ++ encode_utf8_all back
encode_utf8_all-append [] back = refl
encode_utf8_all-append (c ∷ front) back =
    ap (λ more. encode_utf8 c ++ more) (encode_utf8_all-append front back) ∙ sym (append_assoc (encode_utf8 c) (encode_utf8_all front) (encode_utf8_all back))

-- the bytes of many
pub bytes_of_all : {X : Type 0} (text : X → List ℕ) (xs : List X) → flat_map (λ x. encode_utf8_all (text x)) xs ≡ encode_utf8_all (flat_map text xs)
bytes_of_all text [] = refl
bytes_of_all text (x ∷ xs) = ap (λ more. encode_utf8_all (text x) ++ more) (bytes_of_all text xs) ∙ sym (encode_utf8_all-append (text x) (flat_map text xs))

-- one more letter is shown
pub spaced_more : (before letters : List ℕ) (letter : ℕ) → (before ++ encode_utf8_all (map spaced letters)) ++ encode_utf8 (spaced letter) ≡ before ++ encode_utf8_all (map spaced (letters ++ letter ∷ []))
spaced_more before letters letter =
    append_assoc before (encode_utf8_all (map spaced letters)) (encode_utf8 (spaced letter))
    ∙ ap (λ (more : List ℕ). before ++ more)
    (ap (λ (more : List ℕ). encode_utf8_all (map spaced letters) ++ more) (sym (append-nil (encode_utf8 (spaced letter))))
    ∙ sym (encode_utf8_all-append (map spaced letters) (spaced letter ∷ []))
    ∙ ap encode_utf8_all (sym (map-append spaced letters (letter ∷ []))))
