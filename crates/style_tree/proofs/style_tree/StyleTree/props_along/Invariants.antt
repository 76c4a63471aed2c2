use Rattle.std.proofs.Common.{◌≡◌, ◌∷◌, map}
use Rattle.style_model.specs.Effective.{stated_along, stated}
use Rattle.style_tree.proofs.style_tree.StyleTree.props_along.Given as goal

abbrev pub invariant-ancestors : goal.invariant-ancestors
invariant-ancestors l =
    (goal.iterator-ancestors).can_next l.ancestor-iterator
    × (goal.iterator-ancestors).is_finite l.ancestor-iterator
    × (stated_along (l.props ∷ map (λ style. style.props) l.ancestor-iterator) ≡ stated l.fn.self.styles l.fn.family l.fn.style)
