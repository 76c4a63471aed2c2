use Rattle.std.proofs.Common.{◌∙◌, length, ap, sym}
use Rattle.markup_nodes.proofs.WordLemmas.{zero_tested, no_length}
use Rattle.markup_nodes.proofs.NodeLemmas.{none_first, none_turns, first_none}
use Rattle.markup_nodes.proofs.nodes.Nodes.is_empty.Goals as goal

pub returns-then-not-is_empty : goal.returns-then-not-is_empty
returns-then-not-is_empty g c =
    let test = zero_tested c.is_empty.result _ c.is_empty.ensures in (
      λ t. absurd cc,
      λ e. sym c.if-not-is_empty.true ∙ test.1 (c.self.inside.turns.ok.0 ∙ ap length (none_turns c.self.inside.first c.self.inside.turns.items (c.self.view_is ∙ e))),
    )

pub returns : goal.returns
returns g c =
    let test = zero_tested c.is_empty.result _ c.is_empty.ensures in
    let none = no_length c.self.inside.turns.items (sym c.self.inside.turns.ok.0 ∙ test.0 c.if-not-is_empty.false) in (
      λ t. sym c.self.view_is ∙ first_none c.self.inside.first c.self.inside.turns.items (c.is_empty-2.ensures.0 t) none,
      λ e. c.is_empty-2.ensures.1 (none_first c.self.inside.first c.self.inside.turns.items (c.self.view_is ∙ e)),
    )
