-- The two pieces are the range.
use Rattle.std.proofs.Common.{◌+◌, ◌-◌, ◌++◌, List, arith, ap, ◌∙◌}
use Rattle.std.specs.List.{between}
use Rattle.run_text.proofs.Pieces.{ArePieces, range_from-pieces}
use Rattle.run_text.proofs.run_text.RunText.slice.Goals as goal

pub returns : goal.returns
returns g c =
    let start = c.self.inside.start in
    let end = c.self.inside.end in
    let a = c.min.result in
    let b = c.min-2.result in
    let p = end - start + c.max.result in
    let q = end - start + c.max-2.result in
    let places : ArePieces start end c.args.from c.args.to a b p q = record {
      first_from = c.min.ensures;
      first_to = c.min-2.ensures;
      second_from = ap (λ k. end - start + k) c.max.ensures;
      second_to = ap (λ k. end - start + k) c.max-2.ensures;
    } in
    ap (λ (xs : List g.row.T.Denot). between a b xs ++ between p q c.deref-2.result.now) c.deref.ensures.value ∙ ap (λ (xs : List g.row.T.Denot). between a b c.self.inside.cells.items ++ between p q xs) c.deref-2.ensures.value ∙ range_from-pieces c.self.inside.cells.items start end c.args.from c.args.to a b p q places (omega arith) (omega arith) c.requires.in_order ∙ ap (between c.args.from c.args.to) c.self.view_is
