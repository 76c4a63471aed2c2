use Rattle.std.proofs.Common.{ℕ, length, ap, arith, le_refl, le_trans}
use Rattle.fodt_read.proofs.Numeral.{completes_all, completes_digit, completes_end, le-count}
use Rattle.fodt_read.proofs.escape.read_count.Goals as goal

pub digits-init : goal.digits-init
digits-init c = record {
  most = omega arith;
  shorter = le_refl _;
  left = λ count more most e. completes_all count _ more most e;
}

pub digits-preserved : goal.digits-preserved
digits-preserved c = record {
  most = omega arith;
  shorter = le_trans (omega (arith, ap (length {A = ℕ}) c.in-Some.ensures.1)) c.digits.invariant.shorter;
  left = λ count more most e. completes_digit _ _ c.in-Some.ensures.0 c.in-Some.ensures.1 (c.digits.invariant.left count more most e);
}

-- a number that is too large is not what is spelled
pub returns-then-count-gt-MOST_OF_PARAGRAPH-clause-read :
    goal.returns-then-count-gt-MOST_OF_PARAGRAPH-clause-read
returns-then-count-gt-MOST_OF_PARAGRAPH-clause-read c =
    λ count more most e. omega (arith, le-count (completes_digit _ _ c.in-Some.ensures.0 c.in-Some.ensures.1 (c.digits.invariant.left count more most e)))

pub returns-clause-read : goal.returns-clause-read
returns-clause-read c = λ count more most e. completes_end c.in_default.ensures (c.digits.invariant.left count more most e)
