use Rattle.std.proofs.Common.{[], ◌∷◌, ◌∙◌, List, ℕ, map, sym, ap, subst, replicate}
use Rattle.markup_nodes.specs.Nodes.{elems}
use Rattle.doc_model.specs.declared.paragraph.Item.{Item}
use Rattle.doc_model.specs.declared.paragraph.What.TheOpen.{What-F}
use Rattle.load_model.specs.declared.names.Key.TheVariants as key
use Rattle.load_model.specs.declared.element.Attribute.{Attribute}
use Rattle.load_model.specs.Blocks.{leaf_items}
use Rattle.load_model.specs.Content.{Read, item_in}
use Rattle.load_model.specs.Left.{attributes_of}
use Rattle.load_model.specs.Values as value
use Rattle.load_model.specs.Values.{Rule, rule, stated_or}
use Rattle.content_read.specs.Adds.{Adds}
use Rattle.content_read.specs.Held.{held}
use Rattle.content_read.proofs.AddLemmas.{gains_is}
use Rattle.content_read.proofs.AloneLemmas.{leaf_adds}
use Rattle.content_read.proofs.alone.push_counted.Goals as goal

pub returns : goal.returns
returns c = λ model around same.
    let element = c.args.element.now in
    let rules : List Rule = rule key.Count (value.number 1 4294967295) ∷ [] in
    let count : List Attribute → ℕ = λ attributes. stated_or key.Count (value.number 1 4294967295) 1 attributes in
    let space : List (List ℕ) → Item = λ spans. item_in spans (What-F.Char 0x20) in
    let here : Item = space c.args.spans.now in
    subst (λ (spans : List (List ℕ)). Adds c.args.items.now c.push_spaces.new.items c.own_left.result (leaf_items rules (attributes_of element) (elems (held model element)) (replicate (count (attributes_of element)) (space spans))))
    (sym same)
    (leaf_adds model element rules (replicate (count (attributes_of element)) here) c.args.items.now c.push_spaces.new.items c.own_left.result
    (gains_is c.args.items.now c.push_spaces.new.items (map Read (replicate c.count_stated.result here)) (map Read (replicate (count (attributes_of element)) here))
    (ap (λ (n : ℕ). map Read (replicate n here)) (c.count_stated.ensures ∙ ap count c.get.ensures)) c.in_ok-push_spaces.ensures)
    c.own_left.ensures)
