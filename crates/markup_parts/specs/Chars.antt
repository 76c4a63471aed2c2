-- The characters that XML 1.0 names.
use Rattle.std.specs.Prelude.{ℕ, ◌+◌, ◌*◌, nat_le, nat_lt, ◌&&◌, ◌||◌, not, Bool, List, [], ◌∷◌, fold, codes, if◌then◌else◌, Option, Some, None}
use Rattle.std.specs.Char.{digit_value}
use Rattle.std.specs.List.{list_any}
use Rattle.std.specs.Str.{bytes_eq}

-- whether a number is in one of the ranges, both of whose ends belong to it
abbrev pub is_among : List (ℕ × ℕ) → ℕ → Bool
is_among ranges c = list_any (λ range. nat_le range.0 c && nat_le c range.1) ranges

-- the legal characters
unfoldable pub is_legal : ℕ → Bool
is_legal = is_among ((0x9, 0xa) ∷ (0xd, 0xd) ∷ (0x20, 0xd7ff) ∷ (0xe000, 0xfffd) ∷ (0x10000, 0x10ffff) ∷ [])

-- white space: tab, line feed, carriage return and space
unfoldable pub is_space : ℕ → Bool
is_space = is_among ((0x9, 0xa) ∷ (0xd, 0xd) ∷ (0x20, 0x20) ∷ [])

-- what a name begins with
unfoldable pub is_name_start : ℕ → Bool
is_name_start = is_among (
    (0x3a, 0x3a) ∷ (0x41, 0x5a) ∷ (0x5f, 0x5f) ∷ (0x61, 0x7a) ∷ (0xc0, 0xd6) ∷ (0xd8, 0xf6) ∷ (0xf8, 0x2ff)
    ∷ (0x370, 0x37d) ∷ (0x37f, 0x1fff) ∷ (0x200c, 0x200d) ∷ (0x2070, 0x218f) ∷ (0x2c00, 0x2fef) ∷ (0x3001, 0xd7ff)
    ∷ (0xf900, 0xfdcf) ∷ (0xfdf0, 0xfffd) ∷ (0x10000, 0xeffff) ∷ [])

-- what a name goes on with
unfoldable pub is_name_char : ℕ → Bool
is_name_char c = is_name_start c || is_among ((0x2d, 0x2e) ∷ (0x30, 0x39) ∷ (0xb7, 0xb7) ∷ (0x300, 0x36f) ∷ (0x203f, 0x2040) ∷ []) c

-- a character that stands for itself in character data, whatever follows
unfoldable pub is_text_char : ℕ → Bool
is_text_char c = is_legal c && not (is_among ((0xd, 0xd) ∷ (0x26, 0x26) ∷ (0x3c, 0x3c) ∷ (0x5d, 0x5d) ∷ []) c)

-- a character that stands for itself in an attribute value in either quotes
unfoldable pub is_value_char : ℕ → Bool
is_value_char c = is_legal c && not (is_among ((0x9, 0xa) ∷ (0xd, 0xd) ∷ (0x22, 0x22) ∷ (0x26, 0x27) ∷ (0x3c, 0x3c) ∷ []) c)

-- a character that no escape changes, neither of text nor of values
unfoldable pub is_plain_char : ℕ → Bool
is_plain_char c = not (is_among ((0x9, 0xa) ∷ (0xd, 0xd) ∷ (0x22, 0x22) ∷ (0x26, 0x26) ∷ (0x3c, 0x3c) ∷ (0x3e, 0x3e) ∷ []) c)

-- whether a character is a digit of a base
abbrev pub is_digit_of : ℕ → ℕ → Bool
is_digit_of base c = nat_lt (digit_value c) base

-- the number that digits write in a base
abbrev pub number_of : ℕ → List ℕ → ℕ
number_of base digits = fold (λ so_far digit. so_far * base + digit_value digit) 0 digits

-- the character of a number, if it is a legal one
abbrev pub legal_character : ℕ → Option ℕ
legal_character n = if is_legal n then Some n else None

-- the character of a predefined entity, if it is one
unfoldable pub entity_of : List ℕ → Option ℕ
entity_of name =
    if bytes_eq name (codes "lt") then Some 0x3c
    else if bytes_eq name (codes "gt") then Some 0x3e
    else if bytes_eq name (codes "amp") then Some 0x26
    else if bytes_eq name (codes "apos") then Some 0x27
    else if bytes_eq name (codes "quot") then Some 0x22
    else None
