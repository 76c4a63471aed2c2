-- Pages to add, by the bytes of a text.
use Rattle.std.proofs.Common.{◌≡◌, ◌≢◌, ℕ, Bool, true, false, List, [], ◌∷◌, ◌++◌, refl, ap, sym, ◌∙◌, chars, IsUtf8, arith, ◌==◌}
use Rattle.std.specs.Option.{option_map}
use Rattle.std.proofs.Math.Utf8.{encode, encodes}
use Rattle.std.proofs.lemmas.Bool.{eqb-true}
use Rattle.std.proofs.lemmas.Str.{chars_past_char, encode_ascii, encodes-chars}
use Rattle.style_model.specs.Lengths.{signed}
use Rattle.load_model.specs.Values.{number, page_adjust}

minus : encode 45 ≡ 45 ∷ []
minus = encode_ascii 45 (omega arith)

pub pages_below : (text rest : List ℕ) → IsUtf8 text → text ≡ 45 ∷ rest → option_map (λ pages. signed true pages) (number 0 9999 (chars rest)) ≡ page_adjust (chars text)
pages_below text rest utf8 first = ap page_adjust (sym (chars_past_char text rest 45 utf8 (first ∙ ap (λ front. front ++ rest) (sym minus))))

plain : (c : ℕ) (rest : List ℕ) → (c == 45) ≡ false → option_map (λ pages. signed false pages) (number 0 9999 (c ∷ rest)) ≡ page_adjust (c ∷ rest)
plain c rest other = rw (other, page_adjust) refl

pub pages_above : (text : List ℕ) → IsUtf8 text → ((rest : List ℕ) → text ≢ 45 ∷ rest) → option_map (λ pages. signed false pages) (number 0 9999 (chars text)) ≡ page_adjust (chars text)
pages_above text utf8 other = by_letters (chars text) refl
  where
    by_first : (c : ℕ) (rest : List ℕ) (is : Bool) → (c == 45) ≡ is → chars text ≡ c ∷ rest → option_map (λ pages. signed false pages) (number 0 9999 (c ∷ rest)) ≡ page_adjust (c ∷ rest)
    by_first c rest true is e = absurd (other (encodes rest) (sym (encodes-chars text utf8) ∙ ap encodes e ∙ ap (λ first. encode first ++ encodes rest) (eqb-true _ _ is) ∙ ap (λ front. front ++ encodes rest) minus))
    by_first c rest false is e = plain c rest is

    by_letters : (letters : List ℕ) → chars text ≡ letters → option_map (λ pages. signed false pages) (number 0 9999 letters) ≡ page_adjust letters
    by_letters [] e = refl
    by_letters (c ∷ rest) e = by_first c rest (c == 45) refl e
