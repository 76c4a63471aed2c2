use Rattle.std.proofs.Common.{[], ◌∷◌, refl}
use Rattle.std.specs.Str.{chars}
use Rattle.std.specs.String.{string_bytes}
use Rattle.style_model.specs.Lengths.{digit_at}
use Rattle.value_write.proofs.ChainLemmas.{three}
use Rattle.style_write.proofs.numbers.push_upper.Goals as goal

pub returns : goal.returns
returns c =
    three c.push_digit-3.result (chars (string_bytes c.push_digit-3.new.out)) (chars (string_bytes c.push_digit-2.new.out)) (chars (string_bytes c.push_digit.new.out)) (chars (string_bytes c.args.out.now))
    (digit_at c.args.number 100000 ∷ []) (digit_at c.args.number 10000 ∷ []) (digit_at c.args.number 1000 ∷ []) c.in_ok-push_digit.ensures c.in_ok-push_digit-2.ensures c.push_digit-3.ensures refl
