-- Tags, their attributes and the values of these, each by the text that begins with it, its value, and what stands after it.
use Rattle.std.specs.Prelude.{◌≡◌, ◌≢◌, ℕ, Bool, true, false, List, [], ◌∷◌, ◌++◌, codes, ◌⊎◌, if◌then◌else◌, Option, Some, None}
use Rattle.markup_parts.specs.Chars.{is_space}
use Rattle.markup_parts.specs.Constructs.{IsName, IsGap, IsSpace, IsLiteral, IsReference}
use Rattle.markup_nodes.specs.declared.words.Attr.{Attr}
use Rattle.markup_tags.specs.declared.tags.Tag.{Tag}

-- a character of an attribute value in these quotes: white space that stands there is a space, and `<` doesn't stand there
abbrev pub IsValueChar : ℕ → List ℕ → ℕ → List ℕ → Type 0
IsValueChar quote text c after =
    ((d : ℕ) × IsLiteral text (Some d) after × (d ≢ quote) × (d ≢ 0x3c) × (d ≢ 0x26) × (c ≡ (if is_space d then 0x20 else d)))
    ⊎ ((reference : List ℕ) × (text ≡ codes "&" ++ reference) × IsReference reference (Some c) after)

-- characters of an attribute value
abbrev pub IsValuePart : ℕ → List ℕ → List ℕ → List ℕ → Type 0
IsValuePart quote text [] after = text ≡ after
IsValuePart quote text (c ∷ cs) after = (rest : List ℕ) × IsValueChar quote text c rest × IsValuePart quote rest cs after

-- the next character of an attribute value, or none at its last quote
abbrev pub IsNextOfValue : ℕ → List ℕ → Option (Option ℕ) → List ℕ → Type 0
IsNextOfValue quote text (Some (Some c)) after = IsValueChar quote text c after
IsNextOfValue quote text (Some None) after = text ≡ quote ∷ after
IsNextOfValue quote text None after = (reference : List ℕ) × (text ≡ codes "&" ++ reference) × IsReference reference None after

-- an attribute value behind its first quote, up to the same quote, or up to a reference that names no legal character
abbrev pub IsValue : ℕ → List ℕ → Option (List ℕ) → List ℕ → Type 0
IsValue quote text (Some value) after = IsValuePart quote text value (quote ∷ after)
IsValue quote text None after = (part reference : List ℕ) × IsValuePart quote text part (codes "&" ++ reference) × IsReference reference None after

-- a quotation mark
abbrev pub IsQuote : ℕ → Type 0
IsQuote c = (c ≡ 0x22) ⊎ (c ≡ 0x27)

-- a quotation mark behind white space, if any
abbrev pub IsOpening : List ℕ → Option ℕ → List ℕ → Type 0
IsOpening text (Some quote) after = IsQuote quote × IsGap text (quote ∷ after)
IsOpening text None after = ⊥

-- `=` and a quotation mark, with white space before each, if any
abbrev pub IsEquals : List ℕ → Option ℕ → List ℕ → Type 0
IsEquals text quote after = (right : List ℕ) × IsGap text (codes "=" ++ right) × IsOpening right quote after

-- what an attribute has behind its name
abbrev pub IsAttributeRest : List ℕ → Option (List ℕ) → List ℕ → Type 0
IsAttributeRest text value after = (quote : ℕ) × (rest : List ℕ) × IsEquals text (Some quote) rest × IsValue quote rest value after

-- an attribute, or one up to a reference that names no legal character
abbrev pub IsAttribute : List ℕ → Option Attr → List ℕ → Type 0
IsAttribute text (Some attr) after = (rest : List ℕ) × IsName text attr.name rest × IsAttributeRest rest (Some attr.value) after
IsAttribute text None after = (name rest : List ℕ) × IsName text name rest × IsAttributeRest rest None after

-- attributes, each behind white space
abbrev pub AreAttributes : List ℕ → List Attr → List ℕ → Type 0
AreAttributes text [] after = text ≡ after
AreAttributes text (attr ∷ attrs) after =
    (front rest : List ℕ) × IsSpace text front × IsAttribute front (Some attr) rest × AreAttributes rest attrs after

-- the end of a tag, which may close its element
abbrev pub IsTagEnd : List ℕ → Bool → List ℕ → Type 0
IsTagEnd text false after = text ≡ codes ">" ++ after
IsTagEnd text true after = text ≡ codes "/>" ++ after

-- what a tag has behind its name: its attributes, and whether it closes its element
abbrev pub IsTagRest : List ℕ → Option (List Attr × Bool) → List ℕ → Type 0
IsTagRest text (Some rest) after = (gap end : List ℕ) × AreAttributes text rest.0 gap × IsGap gap end × IsTagEnd end rest.1 after
IsTagRest text None after =
    (attrs : List Attr) × (gap front : List ℕ) × AreAttributes text attrs gap × IsSpace gap front × IsAttribute front None after

-- a tag that begins an element behind its `<`, or one up to a reference that names no legal character
abbrev pub IsTag : List ℕ → Option Tag → List ℕ → Type 0
IsTag text (Some tag) after = (rest : List ℕ) × IsName text tag.name rest × IsTagRest rest (Some (tag.attrs, tag.closed)) after
IsTag text None after = (name rest : List ℕ) × IsName text name rest × IsTagRest rest None after

-- an end tag behind its `</`
abbrev pub IsEndTag : List ℕ → Option (List ℕ) → List ℕ → Type 0
IsEndTag text (Some name) after = (rest : List ℕ) × IsName text name rest × IsGap rest (codes ">" ++ after)
IsEndTag text None after = ⊥
