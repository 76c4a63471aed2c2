-- The cells outside the written part stay, and inside it stand the clones, which equal the items.
use Rattle.std.proofs.Common.{◌≡◌, ◌+◌, ◌-◌, ◌++◌, length, take, ap, ◌∙◌, arith}
use Rattle.std.proofs.lemmas.List.{same_lists}
use Rattle.std.proofs.lemmas.List.Edits.{length-between}
use Rattle.std.proofs.lemmas.Result.{on_ok_weaker}
use Rattle.std.proofs.lemmas.Slice.{take-put_mid, drop-put_mid}
use Rattle.run_text.proofs.gap.write_clones.Goals as goal

pub returns-clause-back : goal.returns-clause-back
returns-clause-back g c =
    let xs = c.args.cells.now in
    let at = c.args.at in
    let n = length c.args.items.now in
    let count : length c.clone_from_slice.new.self ≡ n =
    omega (arith, c.clone_from_slice.ensures.len, length-between xs at (at + n) c.requires.within) in
    drop-put_mid at (at + n - at) xs c.clone_from_slice.new.self (at + n) (omega arith) (omega arith) (omega arith)

pub returns-clause-written : goal.returns-clause-written
returns-clause-written g c =
    let xs = c.args.cells.now in
    let at = c.args.at in
    let ys = c.clone_from_slice.new.self in
    let items = c.args.items.now in
    let n = length items in
    let count : length ys ≡ n =
    omega (arith, c.clone_from_slice.ensures.len, length-between xs at (at + n) c.requires.within) in
    let front = take-put_mid at (at + n - at) xs ys (at + n) (omega arith) (omega arith) in
    on_ok_weaker c.clone_from_slice.result (λ cloned. front ∙ ap (λ zs. take at xs ++ zs) (same_lists ys items count (λ k d within. c.requires.clones _ _ (cloned k d (omega arith))))) c.clone_from_slice.ensures.ok
