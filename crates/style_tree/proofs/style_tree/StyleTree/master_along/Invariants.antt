use Rattle.std.proofs.Common.{◌≡◌, map}
use Rattle.style_model.specs.Effective.{first_stated, stated_master}
use Rattle.style_tree.proofs.style_tree.StyleTree.master_along.Given as goal

abbrev pub invariant-ancestors : goal.invariant-ancestors
invariant-ancestors l =
    (goal.iterator-ancestors).can_next l.ancestor-iterator
    × (goal.iterator-ancestors).is_finite l.ancestor-iterator
    × (first_stated (map (λ style. style.master) l.ancestor-iterator) ≡ stated_master l.fn.self.styles l.fn.family l.fn.style)
