use Rattle.std.proofs.Common.{◌∙◌, ◌-◌, [], ap, length}
use Rattle.load_model.specs.Blocks.{left_by}
use Rattle.load_model.specs.Left.{attributes_of, children, only_elements}
use Rattle.element_parts.specs.Shown.{shown}
use Rattle.read_blocks.proofs.declarations.between.Goals as goal

pub returns : goal.returns
returns c =
    let element = c.args.element.now in
    c.both.ensures (left_by [] (attributes_of element)) (only_elements (length (children element) - c.args.read)) c.attributes_out.ensures
    (c.elements-others.ensures ∙ ap (λ n. shown (only_elements n)) (c.saturating_sub.ensures ∙ ap (λ n. n - c.args.read) c.len.ensures))
