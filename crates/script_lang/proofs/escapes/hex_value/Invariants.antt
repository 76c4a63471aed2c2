use Rattle.std.proofs.Common.{◌≡◌, ◌<◌, ◌^◌, take, true}
use Rattle.std.specs.Char.{is_ascii_hexdigit}
use Rattle.std.specs.List.{All}
use Rattle.std.specs.Str.Parse.{digits_value}
use Rattle.script_lang.proofs.escapes.hex_value.Given as goal

-- what is read so far are digits, and the number is theirs
abbrev pub invariant-loop-digit : goal.invariant-loop-digit
invariant-loop-digit l = All (λ digit. is_ascii_hexdigit digit ≡ true) (take l.digit-index l.digits) × (l.number ≡ digits_value 16 (take l.digit-index l.digits)) × (l.number < 2 ^ 8)
