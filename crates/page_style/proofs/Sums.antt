-- Differences of lengths fit their type.
use Rattle.std.proofs.Common.{◌≡◌, ℤ, ◌-ℤ◌, arith, to_z, of_z, w32}
use Rattle.std.proofs.lemmas.Int.{ints}
use Rattle.doc_model.specs.Ranges.{IsLength}

pub between : (size before behind : ℤ) → IsLength size → IsLength before → IsLength behind
    → to_z w32 (of_z w32 (to_z w32 (of_z w32 (to_z w32 (of_z w32 size) -ℤ to_z w32 (of_z w32 before))) -ℤ to_z w32 (of_z w32 behind))) ≡ size -ℤ before -ℤ behind
between size before behind a b c = omega (arith, ints)
