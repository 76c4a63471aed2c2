use Rattle.std.proofs.Common.{◌≡◌, drop}
use Rattle.std.specs.List.{list_all}
use Rattle.load_model.specs.Values.{is_digit}
use Rattle.read_values.proofs.numbers.is_number_text.Given as goal

abbrev pub invariant-digits : goal.invariant-digits
invariant-digits l = list_all is_digit (drop l.digit-index l.bytes) ≡ list_all is_digit l.bytes
