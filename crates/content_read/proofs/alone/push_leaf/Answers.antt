use Rattle.std.proofs.Common.{[], ◌∷◌, List, ℕ, map, sym, subst}
use Rattle.markup_nodes.specs.Nodes.{elems}
use Rattle.doc_model.specs.declared.paragraph.Item.{roll-Item}
use Rattle.load_model.specs.Blocks.{leaf_items}
use Rattle.load_model.specs.Left.{attributes_of}
use Rattle.read_values.specs.Readings.{rule_of}
use Rattle.content_read.specs.Adds.{Adds}
use Rattle.content_read.specs.Held.{held}
use Rattle.content_read.proofs.AloneLemmas.{leaf_adds}
use Rattle.content_read.proofs.alone.push_leaf.Goals as goal

pub returns : goal.returns
returns c = λ model around same.
    let element = c.args.element.now in
    subst (λ (spans : List (List ℕ)). Adds c.args.items.now c.push_what.new.items c.own_left.result (leaf_items (map rule_of c.args.rules.now) (attributes_of element) (elems (held model element)) (roll-Item (record { spans = spans; what = c.args.what }) ∷ [])))
    (sym same)
    (leaf_adds model element (map rule_of c.args.rules.now) (roll-Item (record { spans = c.args.spans.now; what = c.args.what }) ∷ []) c.args.items.now c.push_what.new.items c.own_left.result c.in_ok-push_what.ensures c.own_left.ensures)
