use Rattle.std.proofs.Common.{◌≡◌, ◌<◌, ◌/◌, ◌%◌, ◌++◌, ℕ, List, subst, OnOk, arith}
use Rattle.std.specs.Str.{chars}
use Rattle.std.specs.String.{string_bytes}
use Rattle.std.proofs.lemmas.Fmt.{decimal_digit}
use Rattle.style_write.proofs.numbers.push_digit.Goals as goal

pub returns : goal.returns
returns c =
    let small : c.args.number / c.args.place % 10 < 10 = omega arith in
    subst (λ (t : List ℕ). OnOk c.push_decimal.result (chars (string_bytes c.push_decimal.new.out) ≡ chars (string_bytes c.args.out.now) ++ t)) (decimal_digit (c.args.number / c.args.place % 10) small) c.push_decimal.ensures
