use Rattle.std.proofs.Common.{◌∙◌, sym, ap, length}
use Rattle.markup_nodes.specs.Nodes.{elems}
use Rattle.markup_nodes.proofs.NodeLemmas.{elems_back, elem_count}
use Rattle.markup_nodes.proofs.nodes.Nodes.len.Goals as goal

pub returns : goal.returns
returns g c =
    c.len.ensures ∙ (c.self.inside.turns.ok.0 ∙ (sym (elem_count c.self.inside.turns.items)
    ∙ (sym (ap length (elems_back c.self.inside.first c.self.inside.turns.items)) ∙ ap (λ ns. length (elems ns)) c.self.view_is)))
