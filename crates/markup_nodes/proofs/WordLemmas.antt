-- What stands in a word.
use Rattle.std.proofs.Common.{◌≡◌, ◌==◌, ℕ, List, [], ◌∷◌, ◌++◌, Bool, true, false, inl, inr, length, ap, sym, refl, ◌∙◌, Result, Ok, Err, OnOk, IsTrue, chars, string_bytes, encode_utf8_all, String, IsUtf8, arith}
use Rattle.std.proofs.lemmas.List.{append-nil}
use Rattle.std.proofs.lemmas.Str.{chars-append, chars-nil, chars_past_char, encodes-chars, IsUtf8-encode, IsUtf8-string_bytes}
use Rattle.std.proofs.lemmas.Bool.Decides.{eqb_tells}
use Rattle.std.specs.Bool.{if◌then◌else◌}
use Rattle.std.specs.Result.{is_ok}
use lib.Utf8.{scalar, encode}

-- what is added at the end
pub grown : {E Z : Type 0} (result : Result (Unit {0}) E) (old : String Z) (new added characters : List ℕ) → new ≡ (if is_ok result then string_bytes old ++ added else string_bytes old)
    → chars added ≡ characters → OnOk result (chars new ≡ chars (string_bytes old) ++ characters)
grown (Ok unit) old new added characters e c = ap chars e ∙ (chars-append (string_bytes old) added (IsUtf8-string_bytes old) ∙ ap (λ (t : List ℕ). chars (string_bytes old) ++ t) c)
grown (Err why) old new added characters e c = tt

-- one character
pub char_alone : (c : ℕ) → scalar c ≡ true → chars (encode c) ≡ c ∷ []
char_alone c s = chars_past_char (encode c) [] c (IsUtf8-encode c s) (sym (append-nil (encode c))) ∙ ap (λ (t : List ℕ). c ∷ t) chars-nil

-- no bytes are no characters, and the other way round
pub none_chars : (bytes : List ℕ) → bytes ≡ [] → chars bytes ≡ []
none_chars bytes e = ap chars e ∙ chars-nil

pub chars_none : (bytes : List ℕ) → IsUtf8 bytes → chars bytes ≡ [] → bytes ≡ []
chars_none bytes u e = sym (encodes-chars bytes u) ∙ ap encode_utf8_all e

pub no_length : {A : Type 0} (xs : List A) → length xs ≡ 0 → xs ≡ []
no_length [] e = refl
no_length (x ∷ xs) e = absurd (omega (arith, e))

-- a test of a length for zero
pub zero_tested : (b : Bool) (n : ℕ) → b ≡ (n == 0) → (IsTrue b → n ≡ 0) × (n ≡ 0 → IsTrue b)
zero_tested b n e = elim (eqb_tells n 0) [
  | inl is ↦ (λ _. is.1, λ _. e ∙ is.0)
  | inr apart ↦ (λ t. absurd (true_false (sym t ∙ (e ∙ apart.0))), λ z. absurd (apart.1 z))
] where
  true_false : true ≡ false → ⊥
  true_false f = cc
