-- The constructs of XML 1.0, each by the text that begins with it, its value, and what stands after it.
use Rattle.std.specs.Prelude.{◌≡◌, ◌≢◌, ℕ, ◌==◌, Bool, true, false, List, [], ◌∷◌, ◌++◌, codes, ◌⊎◌, Option, Some, None}
use Rattle.std.specs.List.{AllByRecursion as Each}
use Rattle.markup_parts.specs.Chars.{is_legal, is_space, is_name_start, is_name_char, is_digit_of, number_of, legal_character, entity_of}

-- a text that goes on, and not with a character that passes
abbrev pub EndsBefore : (ℕ → Bool) → List ℕ → Type 0
EndsBefore test [] = ⊥
EndsBefore test (c ∷ cs) = test c ≡ false

-- all the characters that pass, up to one that doesn't
pub record IsRun (test : ℕ → Bool) (text run after : List ℕ) : Type 0 where
  pub parts : text ≡ run ++ after
  pub all : Each (λ c. test c ≡ true) run
  pub ends : EndsBefore test after

-- characters that begin as a name does
abbrev pub StartsName : List ℕ → Type 0
StartsName [] = ⊥
StartsName (c ∷ cs) = is_name_start c ≡ true

-- a name
pub record IsName (text name after : List ℕ) : Type 0 where
  pub run : IsRun is_name_char text name after
  pub starts : StartsName name

-- white space, or nothing
abbrev pub IsGap : List ℕ → List ℕ → Type 0
IsGap text after = (run : List ℕ) × IsRun is_space text run after

-- white space
abbrev pub IsSpace : List ℕ → List ℕ → Type 0
IsSpace text after = (run : List ℕ) × (run ≢ []) × IsRun is_space text run after

-- a text that is given
abbrev pub IsText : List ℕ → List ℕ → Option (Unit {0}) → List ℕ → Type 0
IsText front text (Some unit) after = text ≡ front ++ after
IsText front text None after = ⊥

-- one legal character as it stands, where CR LF and CR are a line feed
abbrev pub IsLiteral : List ℕ → Option ℕ → List ℕ → Type 0
IsLiteral text (Some c) after =
    ((text ≡ c ∷ after) × (c ≢ 0xd) × (is_legal c ≡ true))
    ⊎ ((text ≡ 0xd ∷ 0xa ∷ after) × (c ≡ 0xa))
    ⊎ ((text ≡ 0xd ∷ after) × EndsBefore (λ d. d == 0xa) after × (c ≡ 0xa))
IsLiteral text None after = ⊥

-- digits and `;`, which name a legal character by its number, or none
pub record IsNumber (base : ℕ) (text : List ℕ) (c : Option ℕ) (after : List ℕ) : Type 0 where
  pub digits : List ℕ
  pub run : IsRun (is_digit_of base) text digits (codes ";" ++ after)
  pub filled : digits ≢ []
  pub value : c ≡ legal_character (number_of base digits)

-- a name and `;`, which name an entity, or none
pub record IsEntity (text : List ℕ) (c : Option ℕ) (after : List ℕ) : Type 0 where
  pub name : List ℕ
  pub is_name : IsName text name (codes ";" ++ after)
  pub value : c ≡ entity_of name

-- what stands behind the `&#` of a reference by a number
abbrev pub IsNumeric : List ℕ → Option ℕ → List ℕ → Type 0
IsNumeric text c after = IsNumber 10 text c after ⊎ ((digits : List ℕ) × (text ≡ codes "x" ++ digits) × IsNumber 16 digits c after)

-- what stands behind the `&` of a reference; one that names no legal character has no value
abbrev pub IsReference : List ℕ → Option ℕ → List ℕ → Type 0
IsReference text c after = IsEntity text c after ⊎ ((digits : List ℕ) × (text ≡ codes "#" ++ digits) × IsNumeric digits c after)

-- characters that pass, up to the first place where the end stands
abbrev pub IsUpTo : (ℕ → Bool) → List ℕ → List ℕ → Option (List ℕ) → List ℕ → Type 0
IsUpTo test end text None after = ⊥
IsUpTo test end text (Some body) after = stands text body where
  stands : List ℕ → List ℕ → Type 0
  stands text [] = text ≡ end ++ after
  stands text (c ∷ cs) = ((more : List ℕ) → text ≡ end ++ more → ⊥) × (test c ≡ true) × ((rest : List ℕ) × (text ≡ c ∷ rest) × stands rest cs)

-- a comment behind its `<!--`: two hyphens stand only at its end
abbrev pub IsComment : List ℕ → Option (Unit {0}) → List ℕ → Type 0
IsComment text (Some unit) after = (body : List ℕ) × IsUpTo is_legal (codes "--") text (Some body) (codes ">" ++ after)
IsComment text None after = ⊥
