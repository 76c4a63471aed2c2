use Rattle.std.proofs.Common.{◌≡◌, ℕ, ◌≤◌, List, ◌∷◌, ◌++◌, length}
use Rattle.std.specs.Prelude.{decimal}
use Rattle.fodt_read.proofs.Numeral.{Completes}
use Rattle.fodt_read.proofs.escape.read_count.Given as goal

-- where a number is spelled, digits that complete it are left
abbrev pub invariant-digits : goal.invariant-digits
invariant-digits l = record {
  most : l.count ≤ 32768;
  shorter : length l.rest ≤ length l.fn.bytes;
  left : (count : ℕ) (more : List ℕ) → count ≤ 32768 → l.fn.bytes ≡ decimal count ++ 0x22 ∷ more → Completes count l.count l.rest more;
}

abbrev pub decreases-digits : goal.decreases-digits
decreases-digits l = length l.rest
