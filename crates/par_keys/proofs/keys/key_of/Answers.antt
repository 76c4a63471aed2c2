use Rattle.std.proofs.Common.{length, ℕ, arith, ap}
use Rattle.par_keys.proofs.Texts.{short_text}
use Rattle.par_keys.proofs.keys.key_of.Goals as goal

pub from_text-text-requires : goal.from_text-text-requires
from_text-text-requires c = omega (arith, short_text c.args.par.now c.requires.few, ap (length {A = ℕ}) c.in_ok-shown.ensures)
