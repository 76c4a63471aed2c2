-- Characters that edits may not bring.
use Rattle.std.specs.Prelude.{ℕ, nat_le, ◌&&◌, not, Bool, List, [], ◌∷◌, position, option_map, Option}
use Rattle.doc_model.specs.declared.refusal.Refusal.{Refusal}
use Rattle.doc_model.specs.declared.refusal.Refusal.TheVariants.{BadChar}
use Rattle.doc_model.specs.Chars.{can_be_typed}
use Rattle.edit_rules.specs.Refusals.{first_refusal_of}

-- a character that can be typed, and is no tab or line feed
abbrev pub is_printed : ℕ → Bool
is_printed c = nat_le 0x20 c && can_be_typed c

-- the refusal by a place of a text, if there is one
abbrev pub refused_at : Option ℕ → Option Refusal
refused_at place = first_refusal_of (option_map BadChar place ∷ [])

-- the refusal by the first character of a text that fails a test
abbrev pub first_failing : (ℕ → Bool) → List ℕ → Option Refusal
first_failing test text = refused_at (position (λ c. not (test c)) text)
