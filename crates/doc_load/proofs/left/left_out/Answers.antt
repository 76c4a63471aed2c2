use Rattle.std.proofs.Common.{[], ◌∷◌}
use Rattle.load_model.specs.declared.names.Key.TheVariants as key
use Rattle.load_model.specs.Blocks.{left_by}
use Rattle.load_model.specs.Headers.{masters_left}
use Rattle.load_model.specs.Left.{all_but, attributes_of, both, children, nothing}
use Rattle.load_model.specs.Loaded.{body_left, read_in_root, text_left}
use Rattle.load_model.specs.Styles.{names_of, style_parts_left}
use Rattle.load_model.specs.Values as value
use Rattle.load_model.specs.Values.{rule}
use Rattle.doc_load.proofs.left.left_out.Goals as goal

pub returns : goal.returns
returns c = λ parts text.
    let root = c.args.root.now in
    let own = left_by (rule key.Mimetype value.any_text ∷ []) (attributes_of root) in
    let others = all_but (read_in_root root) (children root) in
    let styles = style_parts_left (names_of root) root in
    let masters = masters_left (names_of root) root in
    let one = c.both.ensures nothing own c.nothing.ensures c.attributes_out.ensures in
    let two = c.both-2.ensures (both nothing own) others one (c.root_elements.ensures parts.count_is) in
    let three = c.both-3.ensures (both (both nothing own) others) styles two parts.values_are.left_is in
    let four = c.both-4.ensures (both (both (both nothing own) others) styles) masters three parts.masters_are.left_is in
    let five = c.both-5.ensures (both (both (both (both nothing own) others) styles) masters) (body_left root) four c.body_left.ensures in
    c.both-6.ensures (both (both (both (both (both nothing own) others) styles) masters) (body_left root)) (text_left root) five text.left_is
