use Rattle.std.proofs.Common.{[], ◌∷◌, refl}
use Rattle.std.specs.Str.{chars}
use Rattle.std.specs.String.{string_bytes}
use Rattle.style_model.specs.Lengths.{digit_at}
use Rattle.value_write.proofs.ChainLemmas.{two}
use Rattle.style_write.proofs.numbers.push_six_digits.Goals as goal

pub returns : goal.returns
returns c =
    let n = c.args.number in
    two c.push_lower.result (chars (string_bytes c.push_lower.new.out)) (chars (string_bytes c.push_upper.new.out)) (chars (string_bytes c.args.out.now))
    (digit_at n 100000 ∷ digit_at n 10000 ∷ digit_at n 1000 ∷ []) (digit_at n 100 ∷ digit_at n 10 ∷ digit_at n 1 ∷ []) c.in_ok-push_upper.ensures c.push_lower.ensures refl
