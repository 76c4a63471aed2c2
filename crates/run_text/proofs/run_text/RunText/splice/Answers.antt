-- The cells are xs once the gap has moved, ys once it is wide enough, zs once the items are written and ws once the removed
-- ones are taken out. At each step the gap leaves the same list, until it moves past the new items and over the removed
-- ones.
use Rattle.std.proofs.Common.{◌≡◌, ◌+◌, ◌-◌, ◌++◌, List, length, take, drop, sym, ap, ◌∙◌, arith}
use Rattle.std.specs.List.{between, remove_range, splice}
use Rattle.std.specs.Vec.{with_items}
use Rattle.std.proofs.lemmas.List.{with_items_is}
use Rattle.run_text.proofs.Gaps.{drop-further, take-shorter}
use Rattle.run_text.proofs.Splices.{OnErr-always, kept_are, length-list, moved_are, rest_stays, spliced_are, taken_are}
use Rattle.run_text.proofs.run_text.RunText.splice.Goals as goal

pub returns-clause-removed : goal.returns-clause-removed
returns-clause-removed g c =
    let from = c.args.from in
    let to = c.args.to in
    let items = c.args.items.now in
    let cells = c.self.inside.cells in
    let width = c.self.inside.end - c.self.inside.start in
    let wide = c.in_ok-self-inside.field-0 in
    let xs = c.move_gap.new.cells in
    let ys = c.make_room.new.cells.items in
    let zs = c.write_clones.new.cells in
    let held = with_items_is cells xs (omega (arith, c.move_gap.auto.cells, c.deref_mut.ensures.len)) in
    let kept = with_items_is c.make_room.new.cells zs (omega (arith, c.write_clones.auto.cells, c.deref_mut-2.ensures.len)) in
    let list = moved_are xs _ _ _ c.self.inside.start c.self.inside.end from c.move_gap.ensures c.deref_mut.ensures.value (omega arith) c.self.view_is in
    let long = length-list cells.items _ c.self.inside.start c.self.inside.end (omega arith) (omega arith) c.self.view_is in
    let back : drop wide ys ≡ drop (from + width) xs =
    c.in_ok-self-inside.ensures.back ∙ ap (drop (from + width)) held in
    let past : drop (from + length items) zs ≡ drop (from + length items) ys =
    c.write_clones.ensures.back ∙ ap (drop (from + length items)) c.deref_mut-2.ensures.value in
    let rest = rest_stays xs ys zs (from + length items) (from + width) wide past back c.in_ok-self-inside.ensures.room in
    let n = length c.deref_mut-4.result.now in
    let count : n ≡ to - from = omega (arith, c.deref_mut-4.ensures.len, c.in_ok-removed.ensures) in
    let whole = with_items_is c.in_ok-removed.removed c.take_out.new.taken (omega (arith, c.take_out.auto.taken, c.deref_mut-4.ensures.len)) in
    whole ∙ c.take_out.ensures.taken ∙ ap (between wide (wide + n)) (c.deref_mut-3.ensures.value ∙ kept) ∙ taken_are xs zs from to width wide n count rest (omega arith) c.requires.in_order ∙ ap (between from to) list

pub returns-clause-ok : goal.returns-clause-ok
returns-clause-ok g c =
    let from = c.args.from in
    let to = c.args.to in
    let items = c.args.items.now in
    let cells = c.self.inside.cells in
    let width = c.self.inside.end - c.self.inside.start in
    let wide = c.in_ok-self-inside.field-0 in
    let xs = c.move_gap.new.cells in
    let ys = c.make_room.new.cells.items in
    let zs = c.write_clones.new.cells in
    let ws = c.take_out.new.cells in
    let held = with_items_is cells xs (omega (arith, c.move_gap.auto.cells, c.deref_mut.ensures.len)) in
    let kept = with_items_is c.make_room.new.cells zs (omega (arith, c.write_clones.auto.cells, c.deref_mut-2.ensures.len)) in
    let last = with_items_is (with_items c.make_room.new.cells zs) ws (omega (arith, c.take_out.auto.cells, c.deref_mut-3.ensures.len)) in
    let list = moved_are xs _ _ _ c.self.inside.start c.self.inside.end from c.move_gap.ensures c.deref_mut.ensures.value (omega arith) c.self.view_is in
    let long = length-list cells.items _ c.self.inside.start c.self.inside.end (omega arith) (omega arith) c.self.view_is in
    let front : take from ys ≡ take from xs = c.in_ok-self-inside.ensures.front ∙ ap (take from) held in
    let back : drop wide ys ≡ drop (from + width) xs =
    c.in_ok-self-inside.ensures.back ∙ ap (drop (from + width)) held in
    let written : take (from + length items) zs ≡ take from xs ++ items =
    c.in_ok-write_clones.ensures.written ∙ ap (λ (cs : List g.row.T.Denot). take from cs ++ items) c.deref_mut-2.ensures.value ∙ ap (λ (cs : List g.row.T.Denot). cs ++ items) front in
    let past : drop (from + length items) zs ≡ drop (from + length items) ys =
    c.write_clones.ensures.back ∙ ap (drop (from + length items)) c.deref_mut-2.ensures.value in
    let rest = rest_stays xs ys zs (from + length items) (from + width) wide past back c.in_ok-self-inside.ensures.room in
    let n = length c.deref_mut-4.result.now in
    let count : wide + n ≡ wide + (to - from) = omega (arith, c.deref_mut-4.ensures.len, c.in_ok-removed.ensures) in
    let before : take (from + length items) ws ≡ take (from + length items) zs =
    take-shorter ws zs (from + length items) wide (c.take_out.ensures.front ∙ ap (take wide) (c.deref_mut-3.ensures.value ∙ kept)) c.in_ok-self-inside.ensures.room in
    let behind : drop (wide + (to - from)) ws ≡ drop (from + width + (to - from)) xs =
    ap (λ k. drop k ws) (sym count) ∙ c.take_out.ensures.back ∙ ap (drop (wide + n)) (c.deref_mut-3.ensures.value ∙ kept) ∙ ap (λ k. drop k zs) count ∙ drop-further zs xs wide (from + width) (to - from) rest in
    ap (λ (cs : List g.row.T.Denot). remove_range cs (from + length items) (wide + (to - from))) last ∙ spliced_are xs ws items from to (from + width) wide (before ∙ written) behind (omega arith) c.requires.in_order ∙ ap (λ (cs : List g.row.T.Denot). splice cs from to items) list

pub returns-in_err-write_clones-clause-err : goal.returns-in_err-write_clones-clause-err
returns-in_err-write_clones-clause-err g c =
    let from = c.args.from in
    let items = c.args.items.now in
    let cells = c.self.inside.cells in
    let width = c.self.inside.end - c.self.inside.start in
    let wide = c.in_ok-self-inside.field-0 in
    let xs = c.move_gap.new.cells in
    let ys = c.make_room.new.cells.items in
    let zs = c.write_clones.new.cells in
    let held = with_items_is cells xs (omega (arith, c.move_gap.auto.cells, c.deref_mut.ensures.len)) in
    let kept = with_items_is c.make_room.new.cells zs (omega (arith, c.write_clones.auto.cells, c.deref_mut-2.ensures.len)) in
    let list = moved_are xs _ _ _ c.self.inside.start c.self.inside.end from c.move_gap.ensures c.deref_mut.ensures.value (omega arith) c.self.view_is in
    let front : take from zs ≡ take from xs =
    c.write_clones.ensures.front ∙ ap (take from) c.deref_mut-2.ensures.value ∙ c.in_ok-self-inside.ensures.front ∙ ap (take from) held in
    let back : drop wide ys ≡ drop (from + width) xs =
    c.in_ok-self-inside.ensures.back ∙ ap (drop (from + width)) held in
    let past : drop (from + length items) zs ≡ drop (from + length items) ys =
    c.write_clones.ensures.back ∙ ap (drop (from + length items)) c.deref_mut-2.ensures.value in
    let rest = rest_stays xs ys zs (from + length items) (from + width) wide past back c.in_ok-self-inside.ensures.room in
    OnErr-always _ (ap (λ (cs : List g.row.T.Denot). remove_range cs from wide) kept ∙ kept_are xs zs from (from + width) wide front rest ∙ list)
