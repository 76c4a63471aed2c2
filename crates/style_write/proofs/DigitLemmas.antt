-- What digits add to a string.
use Rattle.std.proofs.Common.{◌≡◌, ◌<◌, ◌≤◌, ◌^◌, ℕ, ℤ, SFits, w32, pos, negsuc, List, ◌++◌, ap, ◌∙◌, chars, string_bytes, String, Result, Ok, Err, OnOk, int_lt, decimal, arith}
use Rattle.std.proofs.lemmas.Str.{chars-append, IsUtf8-string_bytes}
use Rattle.value_write.proofs.AttributeLemmas.{digits_are}
use Rattle.style_model.specs.Lengths.{is_below_zero}
use Rattle.doc_model.specs.Ranges.{IsLength}

pub printed : {E Z : Type 0} (result : Result (Unit {0}) E) (old : String Z) (new : List ℕ) (n : ℕ) → n < 2 ^ 64 → OnOk result (new ≡ string_bytes old ++ decimal n) → OnOk result (chars new ≡ chars (string_bytes old) ++ decimal n)
printed (Ok unit) old new n h e = ap chars e ∙ (chars-append (string_bytes old) (decimal n) (IsUtf8-string_bytes old) ∙ ap (λ (t : List ℕ). chars (string_bytes old) ++ t) (digits_are n h))
printed (Err why) old new n h e = tt

-- the test of a sign
pub below : (z : ℤ) → int_lt z (pos 0) ≡ is_below_zero z
below (pos n) = grind arith
below (negsuc n) = grind arith

-- a length's number fits 32 bits
pub fits : (z : ℤ) → IsLength z → SFits w32 z
fits (pos n) h = record { sfits = (let most : n ≤ 100000000 = grind arith in omega (arith, most)) }
fits (negsuc n) h = record { sfits = (let most : n ≤ 100000000 = grind arith in omega (arith, most)) }
