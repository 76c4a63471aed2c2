-- Texts and their characters.
use Rattle.std.proofs.Common.{◌≡◌, ℕ, nat_lt, Bool, true, List, [], ◌∷◌, refl, sym, ap, ◌∙◌, arith, IsTrue, zero, suc}
use Rattle.std.specs.List.{list_all}
use Rattle.std.specs.Str.{bytes_eq, IsUtf8, IsAscii, encode_utf8_all, chars}
use Rattle.std.proofs.lemmas.Bool.{and_parts, ltb-true}
use Rattle.std.proofs.lemmas.Bool.Decides.{same_from_decides, Decides-like}
use Rattle.std.proofs.lemmas.Slice.Eq.{bytes_eq-Decides}
use Rattle.std.proofs.lemmas.Str.{encodes-chars, chars-IsAscii, IsUtf8-from_ascii}
use Rattle.load_model.specs.Names.{xml_namespace, declarations_namespace}

pub same_as_characters : (xs ys : List ℕ) → IsUtf8 xs → IsUtf8 ys → bytes_eq xs ys ≡ bytes_eq (chars xs) (chars ys)
same_as_characters xs ys u v = same_from_decides (bytes_eq xs ys) (bytes_eq (chars xs) (chars ys)) (bytes_eq-Decides xs ys)
    (Decides-like (bytes_eq (chars xs) (chars ys)) (λ e. sym (encodes-chars xs u) ∙ ap encode_utf8_all e ∙ encodes-chars ys v) (λ e. ap chars e) (bytes_eq-Decides (chars xs) (chars ys)))

pub either_text : (xs ys : List ℕ) → bytes_eq xs ys ≡ bytes_eq ys xs
either_text xs ys = same_from_decides (bytes_eq xs ys) (bytes_eq ys xs) (bytes_eq-Decides xs ys) (Decides-like (bytes_eq ys xs) (λ e. sym e) (λ e. sym e) (bytes_eq-Decides ys xs))

-- whether all bytes are those of ASCII characters
abbrev pub all_ascii : List ℕ → Bool
all_ascii word = list_all (λ byte. nat_lt byte 128) word

pub ascii_from_test : (word : List ℕ) → all_ascii word ≡ true → IsAscii word
ascii_from_test [] h i = omega arith
ascii_from_test (c ∷ cs) h zero = ltb-true c 128 (and_parts (nat_lt c 128) (all_ascii cs) h).0
ascii_from_test (c ∷ cs) h (suc i) = ascii_from_test cs (and_parts (nat_lt c 128) (all_ascii cs) h).1 i

pub same_word : (text word : List ℕ) → IsUtf8 text → all_ascii word ≡ true → bytes_eq text word ≡ bytes_eq (chars text) word
same_word text word u h =
    let ascii : IsAscii word = ascii_from_test word h in
    same_as_characters text word u (IsUtf8-from_ascii word ascii) ∙ ap (bytes_eq (chars text)) (chars-IsAscii word ascii)

pub is_word : (text word : List ℕ) → IsUtf8 text → IsTrue (all_ascii word) → bytes_eq text word ≡ bytes_eq (chars text) word
is_word text word u h = same_word text word u h

pub xml_characters : chars xml_namespace ≡ xml_namespace
unfolding chars
xml_characters = refl

pub declarations_characters : chars declarations_namespace ≡ declarations_namespace
unfolding chars
declarations_characters = refl
