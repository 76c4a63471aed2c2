-- Processing instructions and the XML declaration.
use Rattle.std.specs.Prelude.{◌≡◌, ℕ, Bool, true, false, List, ◌∷◌, ◌++◌, codes, ◌⊎◌, Option, Some, None}
use Rattle.std.specs.Str.{str_eq_ignore_ascii_case, encode_utf8_all}
use Rattle.markup_parts.specs.Chars.{is_legal, is_space}
use Rattle.markup_parts.specs.Constructs.{IsName, IsUpTo}

-- whether an instruction may not have this target: xml, in any case
unfoldable pub is_reserved : List ℕ → Bool
is_reserved target = str_eq_ignore_ascii_case (encode_utf8_all target) (codes "xml")

-- what an instruction has behind its target: nothing, or white space and characters that pass
abbrev pub IsInstructionRest : (ℕ → Bool) → List ℕ → Option (Unit {0}) → List ℕ → Type 0
IsInstructionRest test text (Some unit) after =
    (text ≡ codes "?>" ++ after)
    ⊎ ((c : ℕ) × (rest body : List ℕ) × (is_space c ≡ true) × (text ≡ c ∷ rest) × IsUpTo test (codes "?>") rest (Some body) after)
IsInstructionRest test text None after = ⊥

-- a processing instruction behind its `<?`
abbrev pub IsInstruction : List ℕ → Option (Unit {0}) → List ℕ → Type 0
IsInstruction text unit after = (target rest : List ℕ) × IsName text target rest × (is_reserved target ≡ false) × IsInstructionRest is_legal rest unit after

-- an XML declaration behind its `<?`, whose content may be anything
abbrev pub IsDeclaration : List ℕ → Option (Unit {0}) → List ℕ → Type 0
IsDeclaration text unit after = (rest : List ℕ) × IsName text (codes "xml") rest × IsInstructionRest (λ c. true) rest unit after

-- a processing instruction or an XML declaration behind its `<?`
abbrev pub IsFirstInstruction : List ℕ → Option (Unit {0}) → List ℕ → Type 0
IsFirstInstruction text unit after = IsInstruction text unit after ⊎ IsDeclaration text unit after
