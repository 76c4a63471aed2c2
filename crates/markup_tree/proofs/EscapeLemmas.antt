-- What is escaped is read back.
use Rattle.std.proofs.Common.{◌≡◌, ℕ, List, [], ◌∷◌, ◌++◌, true, ap, sym, ◌∙◌, Result, Ok, Err, OnOk, chars, string_bytes, String}
use Rattle.std.proofs.lemmas.List.{append-nil}
use Rattle.std.proofs.lemmas.Str.{chars-append, chars-nil, chars_past_char, IsUtf8-encode, IsUtf8-string_bytes}
use Rattle.std.specs.Bool.{if◌then◌else◌}
use Rattle.std.specs.Result.{is_ok}
use lib.Utf8.{scalar, encode}

-- what is added to a text
pub pushed : {E Z : Type 0} (result : Result (Unit {0}) E) (old : String Z) (new added characters : List ℕ) → new ≡ (if is_ok result then string_bytes old ++ added else string_bytes old)
    → chars added ≡ characters → OnOk result (chars new ≡ chars (string_bytes old) ++ characters)
pushed (Ok unit) old new added characters e c = ap chars e ∙ (chars-append (string_bytes old) added (IsUtf8-string_bytes old) ∙ ap (λ (t : List ℕ). chars (string_bytes old) ++ t) c)
pushed (Err why) old new added characters e c = tt

-- one character
pub char_alone : (c : ℕ) → scalar c ≡ true → chars (encode c) ≡ c ∷ []
char_alone c s = chars_past_char (encode c) [] c (IsUtf8-encode c s) (sym (append-nil (encode c))) ∙ ap (λ (t : List ℕ). c ∷ t) chars-nil

-- nothing was written yet
pub started : (bytes text : List ℕ) → bytes ≡ [] → chars bytes ++ text ≡ text
started bytes text e = ap (λ (t : List ℕ). chars t ++ text) e ∙ ap (λ (t : List ℕ). t ++ text) chars-nil

-- all is written
pub finished : (out left whole : List ℕ) → out ++ left ≡ whole → left ≡ [] → out ≡ whole
finished out left whole e ended = sym (append-nil out) ∙ (sym (ap (λ (t : List ℕ). out ++ t) ended) ∙ e)
