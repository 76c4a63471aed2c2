use Rattle.std.proofs.Common.{◌≡◌, map}
use Rattle.std.specs.List.{list_any}
use Rattle.std.specs.Str.{bytes_eq}
use Rattle.style_model.specs.Lineage.{would_loop}
use Rattle.style_tree.proofs.style_tree.StyleTree.would_loop.Given as goal

abbrev pub invariant-ancestors : goal.invariant-ancestors
invariant-ancestors l =
    (goal.iterator-ancestors).can_next l.ancestor-iterator
    × (goal.iterator-ancestors).is_finite l.ancestor-iterator
    × (list_any (λ met. bytes_eq met l.fn.name) (map (λ style. style.parent) l.ancestor-iterator) ≡ would_loop l.fn.self.styles l.fn.family l.fn.name l.fn.parent)
