-- The cells outside the range stay.
use Rattle.std.proofs.Common.{◌≡◌, ◌+◌, ◌-◌, length, arith}
use Rattle.std.proofs.lemmas.List.Edits.{length-between}
use Rattle.std.proofs.lemmas.Slice.{drop-put_mid}
use Rattle.run_text.proofs.gap.take_out.Goals as goal

pub returns-clause-back : goal.returns-clause-back
returns-clause-back g c =
    let xs = c.args.cells.now in
    let at = c.args.at in
    let n = length c.args.taken.now in
    let count : length c.swap_with_slice.new.self ≡ n =
    omega (arith, c.swap_with_slice.ensures.len, length-between xs at (at + n) c.requires) in
    drop-put_mid at (at + n - at) xs c.swap_with_slice.new.self (at + n) (omega arith) (omega arith) (omega arith)
