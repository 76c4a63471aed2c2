-- Runs of characters.
use Rattle.std.specs.Prelude.{◌≡◌, ◌≢◌, ℕ, Bool, true, false, List, [], ◌∷◌}
use Rattle.std.specs.List.{AllByRecursion as Each}
use Rattle.markup_parts.specs.declared.text.Class.{Class}
use Rattle.markup_parts.specs.declared.text.Class.TheVariants.{Name, Space, Text, Value, Plain}
use Rattle.markup_parts.specs.declared.skipped.Allowed.{Allowed}
use Rattle.markup_parts.specs.declared.skipped.Allowed.TheVariants.{Legal, Any}
use Rattle.markup_parts.specs.Chars.{is_legal, is_name_start, is_name_char, is_space, is_text_char, is_value_char, is_plain_char}
use Rattle.markup_parts.specs.Constructs.{StartsName, IsName}
use Rattle.markup_parts.specs.Outcomes.{Outcome, Found, Stopped}
use Rattle.markup_parts.specs.declared.stop.Stop.TheVariants.{Broken, Cut, Refused}

-- the characters of a class
abbrev pub passes : Class → ℕ → Bool
passes Name = is_name_char
passes Space = is_space
passes Text = is_text_char
passes Value = is_value_char
passes Plain = is_plain_char

-- the characters that a construct may hold
abbrev pub is_allowed : Allowed → ℕ → Bool
is_allowed Legal = is_legal
is_allowed Any = λ c. true

-- a text ends, or doesn't go on with a character that passes
abbrev pub NotBegins : (ℕ → Bool) → List ℕ → Type 0
NotBegins test [] = Unit {0}
NotBegins test (c ∷ cs) = test c ≡ false

-- a beginning of a name, or nothing
abbrev pub IsNamePart : List ℕ → Type 0
IsNamePart [] = Unit {0}
IsNamePart text = StartsName text × Each (λ c. is_name_char c ≡ true) text

-- a name and the text after it are read, or the text doesn't begin with a name, or ends where it still may
abbrev pub ReadsName : List ℕ → Outcome (List ℕ) → Type 0
ReadsName text (Found name after) = IsName text name after
ReadsName text (Stopped Broken) = (text ≢ []) × NotBegins is_name_start text
ReadsName text (Stopped Cut) = IsNamePart text
ReadsName text (Stopped Refused) = ⊥
