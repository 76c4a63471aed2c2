use Rattle.std.proofs.Common.{◌/◌, codes, decimal, refl}
use Rattle.std.specs.Str.{chars}
use Rattle.std.specs.String.{string_bytes}
use Rattle.style_model.specs.Lengths.{six_digits}
use Rattle.value_write.proofs.ChainLemmas.{four}
use Rattle.style_write.proofs.lengths.push_size.Goals as goal

pub returns : goal.returns
unfolding chars
returns c =
    four c.push_plain-2.result (chars (string_bytes c.push_plain-2.new.out)) (chars (string_bytes c.push_six_digits.new.out)) (chars (string_bytes c.push_plain.new.out)) (chars (string_bytes c.push_decimal.new.out)) (chars (string_bytes c.args.out.now))
    (decimal (c.args.number / 1000000)) (codes ".") (six_digits c.args.number) (codes "in") c.in_ok-push_decimal.ensures c.in_ok-push_plain.ensures c.in_ok-push_six_digits.ensures c.push_plain-2.ensures refl
