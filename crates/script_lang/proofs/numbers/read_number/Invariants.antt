use Rattle.std.proofs.Common.{◌≡◌, ◌<◌, ◌^◌, take}
use Rattle.std.specs.Char.{IsAsciiDigit}
use Rattle.std.specs.List.{All}
use Rattle.std.specs.Str.Parse.{digits_value}
use Rattle.script_lang.proofs.numbers.read_number.Given as goal

-- what is read so far are digits, and the number is theirs
abbrev pub invariant-loop-digit : goal.invariant-loop-digit
invariant-loop-digit l = All IsAsciiDigit (take l.digit-index l.digits) × (l.number ≡ digits_value 10 (take l.digit-index l.digits)) × (l.number < 2 ^ 32)
