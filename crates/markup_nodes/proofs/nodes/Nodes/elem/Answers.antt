use Rattle.std.proofs.Common.{◌≡◌, ◌<◌, ◌∙◌, sym, ap, length, slice_get, arith}
use Rattle.markup_nodes.specs.Nodes.{elems}
use Rattle.markup_nodes.proofs.NodeLemmas.{elems_back, elem_count, elem_get, elem_index}
use Rattle.markup_nodes.proofs.nodes.Nodes.elem.Goals as goal

pub index-requires : goal.index-requires
index-requires g c =
    let count : length (elems c.args.self.now) ≡ length c.self.inside.turns.items =
    ap (λ ns. length (elems ns)) (sym c.self.view_is) ∙ (ap length (elems_back c.self.inside.first c.self.inside.turns.items) ∙ elem_count c.self.inside.turns.items) in
    omega (arith, c.requires, count, c.self.inside.turns.ok.0)

pub returns : goal.returns
returns g c =
    let turns = c.self.inside.turns.items in
    let count : length (elems c.args.self.now) ≡ length turns =
    ap (λ ns. length (elems ns)) (sym c.self.view_is) ∙ (ap length (elems_back c.self.inside.first turns) ∙ elem_count turns) in
    let within : c.args.at < length turns = omega (arith, c.requires, count) in
    ap (λ ns. slice_get (elems ns) c.args.at) (sym c.self.view_is) ∙ (ap (λ xs. slice_get xs c.args.at) (elems_back c.self.inside.first turns)
    ∙ elem_get turns c.args.at c.index.result.now (elem_index turns c.args.at c.index.result.now within c.index.ensures))
