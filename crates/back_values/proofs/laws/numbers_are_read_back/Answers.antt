use Rattle.std.proofs.Common.{refl}
use Rattle.back_values.proofs.Numbers.{number_back, heading_back, start_back, adjust_back}
use Rattle.back_values.proofs.laws.numbers_are_read_back.Goals as goal

pub returns : goal.returns
returns c = record { number = number_back; heading = heading_back; start = start_back; auto = refl; adjust = adjust_back }
