-- What a splice makes of cells with a gap: xs, once the gap is at its place; ys, once the gap is wide enough; zs, once
-- the new items are written.
use Rattle.std.proofs.Common.{◌≡◌, ℕ, ◌+◌, ◌-◌, ◌≤◌, List, ◌++◌, length, take, drop, sym, ap, ◌∙◌, append_assoc, arith, length-append, length-drop, Result, Ok, Err}
use Rattle.std.specs.List.{between, remove_range, splice}
use Rattle.std.specs.Prelude.{OnErr}
use Rattle.std.proofs.lemmas.List.{length-take-le, take_at}
use Rattle.run_text.proofs.Gaps.{drop-at_gap, drop-further}
use Rattle.run_text.proofs.Pieces.{behind_gap}

-- a gap that has moved leaves the same list
pub moved_are : {T : Type 0} (xs was cells list : List T) (start end from : ℕ) → remove_range xs from (from + (end - start)) ≡ remove_range was start (start + (end - start)) → was ≡ cells → start ≤ end → remove_range cells start end ≡ list → remove_range xs from (from + (end - start)) ≡ list
moved_are xs was cells list start end from moved same order is =
    let reach : start + (end - start) ≡ end = omega arith in
    moved ∙ ap (λ cs. remove_range cs start (start + (end - start))) same ∙ ap (λ k. remove_range cells start k) reach ∙ is

-- the gap and the list are all cells
pub length-list : {T : Type 0} (cells list : List T) (start end : ℕ) → start ≤ end → end ≤ length cells → remove_range cells start end ≡ list → length list + (end - start) ≡ length cells
length-list cells list start end order within is =
    omega (arith, ap length is, length-append (take start cells) (drop end cells), length-take-le start cells (omega arith), length-drop end cells)

-- the cells behind the gap are the items from the gap's place on
pub removed_are : {T : Type 0} (xs : List T) (from to width : ℕ) → from ≤ length xs → from ≤ to → between (from + width) (from + width + (to - from)) xs ≡ between from to (remove_range xs from (from + width))
removed_are xs from to width within order =
    let n = from + width + (to - from) - (from + width) in
    sym (behind_gap xs from (from + width) from to (from + width) n within (omega arith) (omega arith) (omega arith))

-- what was written leaves the list behind a gap that is as wide at least
pub rest_stays : {T : Type 0} (xs ys zs : List T) (written end wide : ℕ) → drop written zs ≡ drop written ys → drop wide ys ≡ drop end xs → written ≤ wide → drop wide zs ≡ drop end xs
rest_stays xs ys zs written end wide kept rest le =
    let far : written + (wide - written) ≡ wide = omega arith in
    ap (λ k. drop k zs) (sym far) ∙ drop-further zs ys written written (wide - written) kept ∙ ap (λ k. drop k ys) far ∙ rest

-- the same cells before and behind the gap are the same list
pub kept_are : {T : Type 0} (xs zs : List T) (from end wide : ℕ) → take from zs ≡ take from xs → drop wide zs ≡ drop end xs → remove_range zs from wide ≡ remove_range xs from end
kept_are xs zs from end wide front rest =
    ap (λ cs. cs ++ drop wide zs) front ∙ ap (λ cs. take from xs ++ cs) rest

-- the cells from a place on are those behind the gap, so what is taken out there are the items that are replaced
pub taken_are : {T : Type 0} (xs zs : List T) (from to width wide n : ℕ) → n ≡ to - from → drop wide zs ≡ drop (from + width) xs → from ≤ length xs → from ≤ to → between wide (wide + n) zs ≡ between from to (remove_range xs from (from + width))
taken_are xs zs from to width wide n count rest within order =
    let here : wide + n - wide ≡ to - from = omega arith in
    let there : from + width + (to - from) - (from + width) ≡ to - from = omega arith in
    ap (λ k. take k (drop wide zs)) here ∙ ap (take (to - from)) rest ∙ ap (λ k. take k (drop (from + width) xs)) (sym there) ∙ removed_are xs from to width within order

-- the gap moved past the new items and over the removed ones
pub spliced_are : {T : Type 0} (xs ws items : List T) (from to end wide : ℕ) → take (from + length items) ws ≡ take from xs ++ items → drop (wide + (to - from)) ws ≡ drop (end + (to - from)) xs → from ≤ length xs → from ≤ to → remove_range ws (from + length items) (wide + (to - from)) ≡ splice (remove_range xs from end) from to items
spliced_are xs ws items from to end wide written rest within order =
    let list = remove_range xs from end in
    let front : take from list ≡ take from xs = take_at (take from xs) (drop end xs) from (length-take-le from xs within) in
    let reach : from + (to - from) ≡ to = omega arith in
    let back : drop (wide + (to - from)) ws ≡ drop to list =
    rest ∙ sym (drop-at_gap xs from end (to - from) within) ∙ ap (λ k. drop k list) reach in
    ap (λ cs. cs ++ drop (wide + (to - from)) ws) written ∙ ap (λ cs. (take from xs ++ items) ++ cs) back ∙ append_assoc (take from xs) items (drop to list) ∙ ap (λ cs. cs ++ (items ++ drop to list)) (sym front)

-- what holds anyway holds after an error
pub OnErr-always : {T E P : Type 0} (r : Result T E) → P → OnErr r P
OnErr-always (Ok x) p = tt
OnErr-always (Err e) p = p
