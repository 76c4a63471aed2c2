use Rattle.std.proofs.Common.{ℕ, ◌/◌, ◌%◌, ◌++◌, replicate}
use Rattle.std.specs.Prelude.{slice_index}
use Rattle.field_model.specs.Numbers.{roman, roman_digit}
use Rattle.number_text.proofs.CutLemmas.{cut_then, cut_last}
use Rattle.number_text.proofs.Romans.{roman_parts}
use Rattle.number_text.proofs.numbers.push_roman.Goals as goal

pub returns : goal.returns
returns c =
    let letter = λ (place : ℕ). slice_index c.args.seven.now place in
    let thousands = replicate (c.args.number / 1000) (letter 6) in
    let hundreds = roman_digit (letter 4) (letter 5) (letter 6) (c.args.number / 100 % 10) in
    let tens = roman_digit (letter 2) (letter 3) (letter 4) (c.args.number / 10 % 10) in
    let ones = roman_digit (letter 0) (letter 1) (letter 2) (c.args.number % 10) in
    let two = cut_then c.args.out.now c.push_copies.new.out c.push_roman_digit.new.out thousands hundreds c.in_ok-push_copies.ensures c.in_ok-push_roman_digit.ensures in
    let three = cut_then c.args.out.now c.push_roman_digit.new.out c.push_roman_digit-2.new.out (thousands ++ hundreds) tens two c.in_ok-push_roman_digit-2.ensures in
    cut_last c.push_roman_digit-3.result c.args.out.now c.push_roman_digit-2.new.out c.push_roman_digit-3.new.out ((thousands ++ hundreds) ++ tens) ones (roman c.args.seven.now c.args.number)
    three (roman_parts c.args.seven.now c.args.number) c.push_roman_digit-3.ensures
