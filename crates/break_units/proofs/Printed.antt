-- What is printed for the bytes of a text, and for the units of a line.
use Rattle.std.proofs.Common.{◌≡◌, ◌≢◌, ℕ, ◌+◌, ◌-◌, List, [], ◌∷◌, ◌++◌, map, length, take, replicate, refl, ap, ap₂, sym, ◌∙◌, arith, append-nil, encode_utf8}
use Rattle.std.specs.List.{All, between}
use Rattle.std.proofs.lemmas.Bool.Decides.{nat_tests}
use Rattle.std.proofs.lemmas.List.Elements.{All-head, All-tail, All-from_get_or}
use Rattle.std.proofs.lemmas.Str.{inside_one}
use Rattle.line_model.specs.declared.unit.TextUnit.{TextUnit}
use Rattle.line_model.specs.declared.key.Key.{Key}
use Rattle.line_model.specs.declared.key.Line.{Line}
use Rattle.line_model.specs.Units.{units_at}
use Rattle.line_model.specs.Lines.{lead, width, columns_of, end_of, without_last_spaces}
use Rattle.line_model.specs.Rows.{printed_byte, printed_row, row_of_text, shift}

printed_byte-other : (byte : ℕ) → byte ≢ 0x9 → printed_byte byte ≡ byte
printed_byte-other byte h = grind (arith, nat_tests)

map-printed_byte : (bytes : List ℕ) → All (λ byte. byte ≢ 0x9) bytes → map printed_byte bytes ≡ bytes
map-printed_byte [] h = refl
map-printed_byte (byte ∷ bytes) h =
    ap₂ (λ x xs. x ∷ xs) (printed_byte-other byte (All-head (λ (b : ℕ). b ≢ 0x9) byte bytes h)) (map-printed_byte bytes (All-tail (λ (b : ℕ). b ≢ 0x9) byte bytes h))

-- a character other than a tab is printed as it is
pub printed-encode_utf8 : (c : ℕ) → c ≢ 0x9 → map printed_byte (encode_utf8 c) ≡ encode_utf8 c
printed-encode_utf8 c h =
    map-printed_byte (encode_utf8 c) (All-from_get_or (λ (b : ℕ). b ≢ 0x9) (encode_utf8 c) 0
    (λ i lt e. h (inside_one c [] (encode_utf8 c) i (sym (append-nil (encode_utf8 c))) lt (omega arith) ∙ e)))

-- the place behind units is that behind the last
pub end_of-last : (from : ℕ) (units front : List TextUnit) (last : TextUnit) → units ≡ front ++ last ∷ [] → last.to ≡ end_of from units
end_of-last from units front last e = sym (pushed from front) ∙ ap (end_of from) (sym e) where
  pushed : (from : ℕ) (front : List TextUnit) → end_of from (front ++ last ∷ []) ≡ last.to
  pushed from [] = refl
  pushed from (unit ∷ front) = pushed unit.to front

-- the row of units that begin a text
abbrev row_of_units : Key → ℕ → List ℕ → List TextUnit → List ℕ
row_of_units key from text [] = []
row_of_units key from text (unit ∷ units) =
    replicate (lead key from + shift key.align (width key from - columns_of (unit ∷ units))) 0x20
    ++ map printed_byte (take (end_of 0 (unit ∷ units)) text)

row_of_units-some : (key : Key) (from : ℕ) (text : List ℕ) (units : List TextUnit) → length units ≢ 0
    → row_of_units key from text units ≡ replicate (lead key from + shift key.align (width key from - columns_of units)) 0x20 ++ map printed_byte (take (end_of 0 units) text)
row_of_units-some key from text [] h = absurd (h refl)
row_of_units-some key from text (unit ∷ units) h = refl

row_of_units-none : (key : Key) (from : ℕ) (text : List ℕ) (units : List TextUnit) → length units ≡ 0 → row_of_units key from text units ≡ []
row_of_units-none key from text [] e = refl
row_of_units-none key from text (unit ∷ units) e = absurd (omega arith)

-- the row of a text, where these are its units without the spaces at its end
pub row_of_text-some : (key : Key) (from : ℕ) (text : List ℕ) (shown : List TextUnit) → shown ≡ without_last_spaces (units_at 0 text) → length shown ≢ 0
    → row_of_text key from text ≡ replicate (lead key from + shift key.align (width key from - columns_of shown)) 0x20 ++ map printed_byte (take (end_of 0 shown) text)
row_of_text-some key from text shown e h = ap (row_of_units key from text) (sym e) ∙ row_of_units-some key from text shown h

pub row_of_text-none : (key : Key) (from : ℕ) (text : List ℕ) (shown : List TextUnit) → shown ≡ without_last_spaces (units_at 0 text) → length shown ≡ 0 → row_of_text key from text ≡ []
row_of_text-none key from text shown e h = ap (row_of_units key from text) (sym e) ∙ row_of_units-none key from text shown h

pub printed_row-text : (key : Key) (line : Line) (text : List ℕ) → text ≡ between line.from line.to key.text → row_of_text key line.from text ≡ printed_row key line
unfolding printed_row
printed_row-text key line text e = ap (row_of_text key line.from) e
