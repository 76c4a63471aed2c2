-- How many pages are added fits a number of 32 bits.
use Rattle.std.proofs.Common.{◌≤◌, ℤ, pos, negsuc, SFits, w32, arith}
use Rattle.doc_model.specs.Ranges.{IsPageAdjust}

pub fits : (z : ℤ) → IsPageAdjust z → SFits w32 z
fits (pos n) h = record { sfits = (let most : n ≤ 9999 = grind arith in omega (arith, most)) }
fits (negsuc n) h = record { sfits = (let most : n ≤ 9998 = grind arith in omega (arith, most)) }
