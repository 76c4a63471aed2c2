-- A table of ASCII texts is read alike by the bytes and by the characters of a text.
use Rattle.std.proofs.Common.{◌≡◌, ℕ, Bool, true, false, cond, ◌&&◌, List, [], ◌∷◌, find, Some, refl, ap, sym, ◌∙◌, nat_lt, map, chars, bytes_eq, true≢false, IsUtf8, IsAscii, arith, zero, suc}
use Rattle.std.specs.Option.{option_map}
use Rattle.std.specs.List.{list_all}
use Rattle.std.proofs.lemmas.Str.{chars-IsAscii, IsUtf8-from_ascii}
use Rattle.doc_model.proofs.SameText.{same_chars}
use Rattle.load_model.specs.Values.{by_table}
use Rattle.read_values.specs.Words.{is_ascii_text}

both_true : (left right : Bool) → (left && right) ≡ true → (left ≡ true) × (right ≡ true)
both_true true right e = (refl, e)
both_true false right e = absurd (true≢false (sym e))

pub ascii_bytes : (text : List ℕ) → is_ascii_text text ≡ true → IsAscii text
ascii_bytes [] e place = omega arith
ascii_bytes (byte ∷ bytes) e zero = grind (arith, (both_true (nat_lt byte 128) (is_ascii_text bytes) e).0)
ascii_bytes (byte ∷ bytes) e (suc place) = ascii_bytes bytes (both_true (nat_lt byte 128) (is_ascii_text bytes) e).1 place

same_word : (word text : List ℕ) → is_ascii_text word ≡ true → IsUtf8 text → bytes_eq word text ≡ bytes_eq word (chars text)
same_word word text ascii utf8 = same_chars word text (IsUtf8-from_ascii word (ascii_bytes word ascii)) utf8 ∙ ap (λ letters. bytes_eq letters (chars text)) (chars-IsAscii word (ascii_bytes word ascii))

pub same_text : (text word : List ℕ) → is_ascii_text word ≡ true → IsUtf8 text → bytes_eq text word ≡ bytes_eq (chars text) word
same_text text word ascii utf8 = same_chars text word utf8 (IsUtf8-from_ascii word (ascii_bytes word ascii)) ∙ ap (bytes_eq (chars text)) (chars-IsAscii word (ascii_bytes word ascii))

find_word : {X : Type 0} (table : List (List ℕ × X)) (text : List ℕ) → list_all (λ row. is_ascii_text row.0) table ≡ true → IsUtf8 text → find (λ row. bytes_eq row.0 text) table ≡ find (λ row. bytes_eq row.0 (chars text)) table
find_word [] text ascii utf8 = refl
find_word (row ∷ rows) text ascii utf8 =
    let both = both_true (is_ascii_text row.0) (list_all (λ row. is_ascii_text row.0) rows) ascii in
    ap (λ same. cond same (Some row) (find (λ row. bytes_eq row.0 text) rows)) (same_word row.0 text both.0 utf8) ∙ ap (λ rest. cond (bytes_eq row.0 (chars text)) (Some row) rest) (find_word rows text both.1 utf8)

-- where the rows' texts are what a function gives
list_all_map : {X Y : Type 0} (give : X → Y) (test : Y → Bool) (xs : List X) → list_all test (map give xs) ≡ list_all (λ x. test (give x)) xs
list_all_map give test [] = refl
list_all_map give test (x ∷ xs) = ap (λ rest. test (give x) && rest) (list_all_map give test xs)

pub table_by_chars : {X R : Type 0} (word : R → List ℕ) (value : R → X) (table : List R) (text : List ℕ) → list_all (λ row. is_ascii_text (word row)) table ≡ true → IsUtf8 text → by_table (map (λ row. (word row, value row)) table) text ≡ by_table (map (λ row. (word row, value row)) table) (chars text)
table_by_chars word value table text ascii utf8 = ap (option_map (λ row. row.1)) (find_word (map (λ row. (word row, value row)) table) text (list_all_map (λ row. (word row, value row)) (λ row. is_ascii_text row.0) table ∙ ascii) utf8)
