-- Attributes that are written.
use Rattle.std.proofs.Common.{◌≡◌, ◌≢◌, ◌<◌, ◌^◌, ℕ, List, [], ◌∷◌, ◌++◌, ap, sym, ◌∙◌, chars, refl, ℤ, pos, negsuc, suc, ◌+◌, arith}
use Rattle.std.proofs.lemmas.List.{append-nil}
use Rattle.std.proofs.lemmas.Str.{chars-IsAscii}
use mir.Val.{SFits}
use mir.Syntax.{w32}
use Rattle.std.proofs.lemmas.Fmt.{IsAscii-decimal, IsAscii-signed}
use Rattle.std.specs.Fmt.{decimal, signed_decimal}
use Rattle.written_model.specs.Values.{whole_text}
use Rattle.std.specs.List.{flat_map}
use Rattle.markup_nodes.specs.declared.words.Attr.{Attr}
use Rattle.tree_text.specs.Writing.{attr_text}
use Rattle.written_model.specs.Elements.{attribute, unless_empty}

-- one attribute
pub alone : (attr : Attr) → attr_text attr ≡ flat_map attr_text (attr ∷ [])
alone attr = sym (append-nil (attr_text attr))

-- an attribute with a value that isn't empty
pub filled : (name value : List ℕ) → (value ≡ [] → ⊥) → unless_empty name value ≡ attribute name value ∷ []
filled name [] never = absurd (never refl)
filled name (c ∷ cs) never = refl

-- a number's characters are its digits
pub digits_are : (n : ℕ) → n < 2 ^ 64 → chars (decimal n) ≡ decimal n
digits_are n h = chars-IsAscii (decimal n) (IsAscii-decimal n h)

pub whole_are : (z : ℤ) → SFits w32 z → chars (signed_decimal z) ≡ whole_text z
whole_are (pos n) h = digits_are n (omega (arith, h.sfits))
whole_are (negsuc n) h =
    let next : suc n ≡ n + 1 = omega arith in
    let least : n < 2 ^ 63 = omega (arith, h.sfits) in
    chars-IsAscii (signed_decimal (negsuc n)) (IsAscii-signed (negsuc n) (omega (arith, least))) ∙ ap (λ (k : ℕ). 45 ∷ decimal k) next
