-- The bytes of a text that has another at its end.
use Rattle.std.proofs.Common.{◌≡◌, ◌-◌, ◌≤◌, ◌<◌, ℕ, List, [], ◌∷◌, ◌++◌, length, take, slice_range, chars, refl, ap, sym, ◌∙◌, subst, arith, IsUtf8, IsCharBoundary, encode_utf8_all, bytes_eq}
use Rattle.std.proofs.lemmas.Bool.Decides.{same_from_decides, Decides-like}
use Rattle.std.proofs.lemmas.List.{length-append}
use Rattle.std.proofs.lemmas.Slice.Eq.{bytes_eq-Decides}
use Rattle.std.proofs.lemmas.Str.{encodes-chars, encodes-append, chars-append, IsCharBoundary-at_seam, length-le-encodes}
use Rattle.std.proofs.Math.Seq.{take-append_seam}

pub bytes_split : (text rest front : List ℕ) → IsUtf8 text → IsUtf8 rest → chars text ≡ front ++ chars rest → text ≡ encode_utf8_all front ++ rest
bytes_split text rest front u v e =
    sym (encodes-chars text u) ∙ (ap encode_utf8_all e ∙ (encodes-append front (chars rest) ∙ ap (λ (r : List ℕ). encode_utf8_all front ++ r) (encodes-chars rest v)))

pub rest_shorter : (text rest front : List ℕ) → IsUtf8 text → IsUtf8 rest → chars text ≡ front ++ chars rest → length rest ≤ length text
rest_shorter text rest front u v e = omega (arith, ap length (bytes_split text rest front u v e), length-append (encode_utf8_all front) rest)

pub rest_strictly : (text rest front : List ℕ) → IsUtf8 text → IsUtf8 rest → chars text ≡ front ++ chars rest → (front ≡ [] → ⊥) → length rest < length text
rest_strictly text rest [] u v e filled = absurd (filled refl)
rest_strictly text rest (c ∷ cs) u v e filled =
    omega (arith, ap length (bytes_split text rest (c ∷ cs) u v e), length-append (encode_utf8_all (c ∷ cs)) rest, length-le-encodes (c ∷ cs))

front_length : (text xs rest : List ℕ) → text ≡ xs ++ rest → length xs ≡ length text - length rest
front_length text xs rest e = omega (arith, ap length e, length-append xs rest)

pub rest_boundary : (text rest front : List ℕ) → IsUtf8 text → IsUtf8 rest → chars text ≡ front ++ chars rest → IsCharBoundary text (length text - length rest)
rest_boundary text rest front u v e =
    let split = bytes_split text rest front u v e in
    let P : ℕ → Type 0 = λ n. IsCharBoundary text n in
    subst P (front_length text (encode_utf8_all front) rest split) (IsCharBoundary-at_seam text (encode_utf8_all front) rest split v)

from_start : (n : ℕ) (text : List ℕ) → slice_range text 0 n ≡ take n text
from_start n text = let same : n - 0 ≡ n = omega arith in ap (λ (m : ℕ). take m text) same

pub front_chars : (text rest front part : List ℕ) → IsUtf8 text → IsUtf8 rest → IsUtf8 part → chars text ≡ front ++ chars rest
    → part ≡ slice_range text 0 (length text - length rest) → chars text ≡ chars part ++ chars rest
front_chars text rest front part u v w e p =
    let split = bytes_split text rest front u v e in
    let xs = encode_utf8_all front in
    let cut : take (length text - length rest) text ≡ xs =
    ap (λ (n : ℕ). take n text) (sym (front_length text xs rest split)) ∙ (ap (λ (t : List ℕ). take (length xs) t) split ∙ take-append_seam xs rest) in
    ap chars (split ∙ ap (λ (t : List ℕ). t ++ rest) (sym (p ∙ (from_start (length text - length rest) text ∙ cut)))) ∙ chars-append part rest w

-- texts are told apart by their bytes as by their characters
pub texts_test : (text other : List ℕ) → IsUtf8 text → IsUtf8 other → bytes_eq text other ≡ bytes_eq (chars text) (chars other)
texts_test text other u v =
    same_from_decides (bytes_eq text other) (bytes_eq (chars text) (chars other)) (bytes_eq-Decides text other)
    (Decides-like (bytes_eq (chars text) (chars other))
    (λ (h : chars text ≡ chars other). sym (encodes-chars text u) ∙ (ap encode_utf8_all h ∙ encodes-chars other v))
    (λ (h : text ≡ other). ap chars h) (bytes_eq-Decides (chars text) (chars other)))
