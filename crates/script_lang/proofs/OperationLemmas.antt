-- Lines of edits are texts, and are read back.
use Rattle.std.proofs.Common.{◌≡◌, ℕ, ◌-◌, ◌<◌, ◌≤◌, ◌^◌, Bool, true, false, List, [], ◌∷◌, ◌++◌, length, refl, ap, sym, subst, arith, inl, inr, chars, IsUtf8}
use Rattle.std.specs.Prelude.{codes, decimal, if◌then◌else◌, ◌==◌, nat_lt, ◌&&◌, ◌⊎◌}
use Rattle.std.specs.List.{AllByRecursion as Each, flat_map}
use Rattle.std.specs.Char.{IsScalar, IsAsciiDigit, encode_utf8}
use Rattle.std.specs.Fmt.{digits, digit_glyph}
use Rattle.std.specs.Str.Parse.{AllDigits}
use Rattle.std.proofs.Math.Utf8.{scalars}
use Rattle.std.proofs.lemmas.Bool.{false≢true}
use Rattle.std.proofs.lemmas.Bool.Decides.{nat_tests}
use Rattle.std.proofs.lemmas.Fmt.{IsAscii-decimal, decimal_is_IsNumeral}
use Rattle.std.proofs.lemmas.Str.{IsUtf8-append, IsUtf8-from_ascii, IsUtf8-encode, IsUtf8-nil, encode_ascii, scalars-chars}
use Rattle.std.proofs.lemmas.Str.Parse.{digit_from_value}
use Rattle.doc_model.specs.Chars.{IsPlainChar}
use Rattle.doc_model.specs.declared.edit.EditOp.TheVariants.{InsertText, DeleteRange}
use Rattle.desk_model.specs.Replies.{quoted, quoted_char}
use Rattle.desk_model.specs.Script.{IsNumber, IsLineText, SpellsChar, SpellsText, IsEditLine}
use Rattle.script_lang.specs.Operations.{insertion_words, deletion_words}
use Rattle.script_lang.proofs.SpellLemmas.{plain_scalar, plain_scalar_below}
use Rattle.script_lang.proofs.PrintLemmas.{hex_one, hex_two}

-- decimal digits are read as their number

all_decimal : (ds : List ℕ) → AllDigits 10 ds → Each IsAsciiDigit ds
all_decimal [] h = tt
all_decimal (d ∷ ds) h = (digit_from_value d h.0, all_decimal ds h.1)

some_digits : (ds : List ℕ) → 0 < length ds → ds ≡ [] → ⊥
some_digits ds some e = omega (arith, ap length e)

decimal_number : (n : ℕ) → n < 2 ^ 32 → IsNumber (decimal n) n
decimal_number n h =
    let numeral = decimal_is_IsNumeral n (omega arith) in
    (some_digits (decimal n) numeral.0.0, all_decimal (decimal n) numeral.0.1, numeral.1, h)

-- a choice has what both sides have
either : (P : List ℕ → Type 0) (b : Bool) (xs ys : List ℕ) → (b ≡ true → P xs) → (b ≡ false → P ys) → P (if b then xs else ys)
either P true xs ys p q = p refl
either P false xs ys p q = q refl

-- a printed character is read back

equal_from : (c d : ℕ) → (c == d) ≡ true → c ≡ d
equal_from c d e = grind (arith, nat_tests)

other_from : (c d : ℕ) → (c == d) ≡ false → c ≡ d → ⊥
other_from c d e same = grind (arith, nat_tests)

quoted_char_spells : (c : ℕ) → IsPlainChar c → SpellsChar (quoted_char c) c
quoted_char_spells c plain =
    either (λ bytes. SpellsChar bytes c) (c == 0x22) _ _ (λ e. inr (inl (equal_from c 0x22 e, refl)))
    (λ quote. either (λ bytes. SpellsChar bytes c) (c == 0x5c) _ _ (λ e. inr (inr (inl (equal_from c 0x5c e, refl))))
    (λ slash. either (λ bytes. SpellsChar bytes c) (c == 0xa) _ _ (λ e. absurd (omega (arith, plain.0, equal_from c 0xa e)))
    (λ feed. either (λ bytes. SpellsChar bytes c) (c == 0x9) _ _ (λ e. absurd (omega (arith, plain.0, equal_from c 0x9 e)))
    (λ tab. either (λ bytes. SpellsChar bytes c) (nat_lt c 0x20) _ _ (λ e. absurd (grind (arith, nat_tests)))
    (λ _. inl (plain_scalar c plain, other_from c 0x22 quote, other_from c 0x5c slash, refl))))))

quoted_spells : (text : List ℕ) → Each IsPlainChar text → SpellsText (flat_map quoted_char text) text
quoted_spells [] each = refl
quoted_spells (c ∷ text) each = (quoted_char c, flat_map quoted_char text, refl, quoted_char_spells c each.0, quoted_spells text each.1)

-- the line of an insertion asks for it
pub insertion_read : (par at : ℕ) (text : List ℕ) → par < 2 ^ 32 → at < 2 ^ 32 → IsLineText text → IsEditLine (insertion_words par at text) (InsertText (record { 0 = par }) at text)
insertion_read par at text p a line = (decimal par, decimal at, flat_map quoted_char text, decimal_number par p, decimal_number at a, line, quoted_spells text line.1, refl)

-- and that of a deletion
pub deletion_read : (par from to : ℕ) → par < 2 ^ 32 → from < 2 ^ 32 → to < 2 ^ 32 → IsEditLine (deletion_words par from to) (DeleteRange (record { 0 = par }) from to)
deletion_read par from to p f t = (decimal par, decimal from, decimal to, decimal_number par p, decimal_number from f, decimal_number to t, refl)

-- what is printed is text

glyph_small : (d : ℕ) → d < 16 → digit_glyph false d < 128
glyph_small d h = grind (arith, nat_tests)

utf8_one : (c : ℕ) → c < 128 → IsUtf8 (c ∷ [])
utf8_one c h = subst IsUtf8 (encode_ascii c h) (IsUtf8-encode c (plain_scalar_below c h))

utf8_cons : (c : ℕ) (rest : List ℕ) → c < 128 → IsUtf8 rest → IsUtf8 (c ∷ rest)
utf8_cons c rest h u = IsUtf8-append (c ∷ []) rest (utf8_one c h) u

low_or_high : (c : ℕ) → (c < 16) ⊎ (16 ≤ c)
low_or_high c = grind arith

utf8_hex : (c : ℕ) → c < 32 → (c < 16) ⊎ (16 ≤ c) → IsUtf8 (digits 16 false c)
utf8_hex c h (inl one) = subst IsUtf8 (sym (hex_one c one)) (utf8_one (digit_glyph false c) (glyph_small c one))
utf8_hex c h (inr two) = subst IsUtf8 (sym (hex_two c two h)) (utf8_cons 0x31 (digit_glyph false (c - 16) ∷ []) (omega arith) (utf8_one (digit_glyph false (c - 16)) (glyph_small (c - 16) (omega arith))))

utf8_quoted_char : (c : ℕ) → IsScalar c → IsUtf8 (quoted_char c)
unfolding encode_utf8
utf8_quoted_char c scalar =
    either IsUtf8 (c == 0x22) _ _ (λ _. (codes "\\\"", (refl, refl)))
    (λ _. either IsUtf8 (c == 0x5c) _ _ (λ _. (codes "\\\\", (refl, refl)))
    (λ _. either IsUtf8 (c == 0xa) _ _ (λ _. (codes "\\n", (refl, refl)))
    (λ _. either IsUtf8 (c == 0x9) _ _ (λ _. (codes "\\t", (refl, refl)))
    (λ _. either IsUtf8 (nat_lt c 0x20) _ _
    (λ e. IsUtf8-append (codes "\\u{") (digits 16 false c ++ codes "}") (codes "\\u{", (refl, refl))
    (IsUtf8-append (digits 16 false c) (codes "}") (utf8_hex c (grind (arith, nat_tests)) (low_or_high c)) (codes "}", (refl, refl))))
    (λ _. IsUtf8-encode c scalar)))))

both : (a b : Bool) → (a && b) ≡ true → (a ≡ true) × (b ≡ true)
both true b h = (refl, h)
both false b h = absurd (false≢true h)

utf8_chars : (text : List ℕ) → scalars text ≡ true → IsUtf8 (flat_map quoted_char text)
utf8_chars [] h = IsUtf8-nil
utf8_chars (c ∷ text) h =
    let parts = both _ _ h in
    IsUtf8-append (quoted_char c) (flat_map quoted_char text) (utf8_quoted_char c parts.0) (utf8_chars text parts.1)

utf8_decimal : (n : ℕ) → n < 2 ^ 32 → IsUtf8 (decimal n)
utf8_decimal n h = IsUtf8-from_ascii (decimal n) (IsAscii-decimal n (omega arith))

utf8_space : (rest : List ℕ) → IsUtf8 rest → IsUtf8 (codes " " ++ rest)
utf8_space rest u = utf8_cons 0x20 rest (omega arith) u

-- the line of an insertion
pub insertion_utf8 : (par at : ℕ) (text : List ℕ) → par < 2 ^ 32 → at < 2 ^ 32 → IsUtf8 text → IsUtf8 (insertion_words par at (chars text))
unfolding encode_utf8
insertion_utf8 par at text p a u =
    let spelled = flat_map quoted_char (chars text) in
    let inside = IsUtf8-append spelled (codes "\"") (utf8_chars (chars text) (scalars-chars text u)) (codes "\"", (refl, refl)) in
    let ats = IsUtf8-append (decimal at) (codes " " ++ quoted (chars text)) (utf8_decimal at a) (utf8_space (quoted (chars text)) (utf8_cons 0x22 (spelled ++ codes "\"") (omega arith) inside)) in
    IsUtf8-append (codes "insert ") (decimal par ++ (codes " " ++ (decimal at ++ (codes " " ++ quoted (chars text))))) (codes "insert ", (refl, refl))
    (IsUtf8-append (decimal par) (codes " " ++ (decimal at ++ (codes " " ++ quoted (chars text)))) (utf8_decimal par p) (utf8_space (decimal at ++ (codes " " ++ quoted (chars text))) ats))

-- and that of a deletion
pub deletion_utf8 : (par from to : ℕ) → par < 2 ^ 32 → from < 2 ^ 32 → to < 2 ^ 32 → IsUtf8 (deletion_words par from to)
unfolding encode_utf8
deletion_utf8 par from to p f t =
    let froms = IsUtf8-append (decimal from) (codes " " ++ decimal to) (utf8_decimal from f) (utf8_space (decimal to) (utf8_decimal to t)) in
    IsUtf8-append (codes "delete ") (decimal par ++ (codes " " ++ (decimal from ++ (codes " " ++ decimal to)))) (codes "delete ", (refl, refl))
    (IsUtf8-append (decimal par) (codes " " ++ (decimal from ++ (codes " " ++ decimal to))) (utf8_decimal par p) (utf8_space (decimal from ++ (codes " " ++ decimal to)) froms))
