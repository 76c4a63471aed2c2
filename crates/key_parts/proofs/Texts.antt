-- Texts as their characters and as their bytes.
use Rattle.std.proofs.Common.{◌≡◌, ℕ, ◌+◌, ◌*◌, ◌≤◌, true, false, List, [], ◌∷◌, ◌++◌, length, append_assoc, ap, sym, ◌∙◌, Result, Ok, Err, arith}
use Rattle.std.specs.Prelude.{chars, encode_utf8_all, IsUtf8, if◌then◌else◌, is_ok, OnOk, ◌==◌}
use Rattle.std.proofs.lemmas.Str.{encodes-chars, encodes-append, chars-nil, length-encode, len_utf8_bounds}
use Rattle.std.proofs.lemmas.List.{append-nil, length-append}
use Rattle.key_parts.specs.KeyFrom.{with_space}

-- the bytes of a text with these characters
pub bytes_of : (bytes text : List ℕ) → IsUtf8 bytes → chars bytes ≡ text → encode_utf8_all text ≡ bytes
bytes_of bytes text utf8 e = ap encode_utf8_all (sym e) ∙ encodes-chars bytes utf8

-- a text that is appended by its bytes, where there is memory
pub appended : {T E : Type 0} (result : Result T E) (old new bytes text : List ℕ) → new ≡ (if is_ok result then old ++ bytes else old)
    → IsUtf8 bytes → chars bytes ≡ text → OnOk result (new ≡ old ++ encode_utf8_all text)
appended (Ok done) old new bytes text e utf8 same = e ∙ ap (λ (more : List ℕ). old ++ more) (sym (bytes_of bytes text utf8 same))
appended (Err fault) old new bytes text e utf8 same = tt

-- a character takes at most four bytes
pub length-bytes : (text : List ℕ) → length (encode_utf8_all text) ≤ 4 * length text
length-bytes [] = omega arith
length-bytes (c ∷ text) = omega (arith, length-append (lib.Utf8.encode c) (encode_utf8_all text), length-encode c, len_utf8_bounds c, length-bytes text)

-- a text with a space behind it has at most four bytes more
pub length-front : (text : List ℕ) → length (encode_utf8_all (with_space text)) ≤ 4 * length text + 4
length-front [] = omega arith
length-front (c ∷ text) = omega (arith, length-bytes (with_space (c ∷ text)), length-append (c ∷ text) (0x20 ∷ []))

-- nothing stands for an empty text
pub nothing_in_front : (old bytes text : List ℕ) → chars bytes ≡ text → (length bytes == 0) ≡ true → old ≡ old ++ encode_utf8_all (with_space text)
nothing_in_front old [] text e none = sym (append-nil old) ∙ ap (λ (found : List ℕ). old ++ encode_utf8_all (with_space found)) (sym chars-nil ∙ e)
nothing_in_front old (byte ∷ bytes) text e none = absurd (grind (arith, none))

-- a text that isn't empty, and the space behind it
pub spaced : {T E : Type 0} (result : Result T E) (old between new bytes text : List ℕ) → IsUtf8 bytes → chars bytes ≡ text → (length bytes == 0) ≡ false
    → between ≡ old ++ encode_utf8_all text → new ≡ (if is_ok result then between ++ lib.Utf8.encode 0x20 else between) → OnOk result (new ≡ old ++ encode_utf8_all (with_space text))
spaced (Err fault) old between new bytes text utf8 same some first last = tt
spaced (Ok done) old between new bytes [] utf8 same some first last = absurd (grind (arith, some, bytes_of bytes [] utf8 same))
spaced (Ok done) old between new bytes (c ∷ text) utf8 same some first last =
    last ∙ ap (λ (front : List ℕ). front ++ lib.Utf8.encode 0x20) first ∙ append_assoc old (encode_utf8_all (c ∷ text)) (lib.Utf8.encode 0x20)
    ∙ ap (λ (space : List ℕ). old ++ (encode_utf8_all (c ∷ text) ++ space)) (sym (append-nil (lib.Utf8.encode 0x20)))
    ∙ ap (λ (more : List ℕ). old ++ more) (sym (encodes-append (c ∷ text) (0x20 ∷ [])))
