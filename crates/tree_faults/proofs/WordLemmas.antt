-- Texts and words of ASCII characters.
use Rattle.std.proofs.Common.{◌≡◌, ℕ, zero, suc, nat_lt, true, List, [], ◌∷◌, ap, ◌∙◌, arith, IsTrue}
use Rattle.std.specs.List.{list_all}
use Rattle.std.specs.Str.{bytes_eq, IsUtf8, IsAscii, chars}
use Rattle.std.proofs.lemmas.Bool.{and_parts, ltb-true}
use Rattle.std.proofs.lemmas.Str.{chars-IsAscii, IsUtf8-from_ascii}
use Rattle.doc_model.proofs.SameText.{same_chars}

ascii_from_test : (word : List ℕ) → list_all (λ byte. nat_lt byte 128) word ≡ true → IsAscii word
ascii_from_test [] h i = omega arith
ascii_from_test (c ∷ cs) h zero = ltb-true c 128 (and_parts (nat_lt c 128) (list_all (λ byte. nat_lt byte 128) cs) h).0
ascii_from_test (c ∷ cs) h (suc i) = ascii_from_test cs (and_parts (nat_lt c 128) (list_all (λ byte. nat_lt byte 128) cs) h).1 i

-- a text is a word of ASCII characters where its characters are those
pub is_word : (text word : List ℕ) → IsUtf8 text → IsTrue (list_all (λ byte. nat_lt byte 128) word) → bytes_eq text word ≡ bytes_eq (chars text) word
is_word text word u h =
    let ascii : IsAscii word = ascii_from_test word h in
    same_chars text word u (IsUtf8-from_ascii word ascii) ∙ ap (bytes_eq (chars text)) (chars-IsAscii word ascii)
