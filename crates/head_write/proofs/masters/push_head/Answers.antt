-- The start of the part, its paragraphs and its end.
use Rattle.std.proofs.Common.{◌≡◌, Bool, List, map, sym, ap, ◌∙◌}
use Rattle.std.specs.Prelude.{not}
use Rattle.std.specs.Str.{chars}
use Rattle.std.specs.String.{string_bytes}
use Rattle.markup_nodes.specs.Node.{Node}
use Rattle.markup_nodes.specs.declared.tree.Elem.{Elem}
use Rattle.spelling_model.specs.Spelling.{is_there}
use Rattle.tree_text.specs.Writing.{content_text}
use Rattle.written_model.specs.Styles.{head_paragraph}
use Rattle.value_write.proofs.ChainLemmas.{three}
use Rattle.sheet_write.specs.Parts.{part_start, part_end}
use Rattle.sheet_write.proofs.HeldLemmas.{part_holds}
use Rattle.sheet_write.proofs.ThereLemmas.{there-map, there-length}
use Rattle.head_write.proofs.masters.push_head.Goals as goal

pub returns : goal.returns
returns c =
    let tag = chars c.args.name.now in
    let nodes : List (Node Elem) = map head_paragraph c.args.pars.now in
    let holds : Bool = not c.is_empty-holds.result in
    let there : holds ≡ is_there nodes = ap not c.is_empty-holds.ensures ∙ (there-length c.args.pars.now ∙ sym (there-map head_paragraph c.args.pars.now)) in
    three c.push_part_end.result (chars (string_bytes c.push_part_end.new.out)) (chars (string_bytes c.push_head_paragraphs.new.out)) (chars (string_bytes c.push_part_start.new.out)) (chars (string_bytes c.args.out.now))
    (part_start tag holds) (content_text nodes) (part_end tag holds) c.in_ok-push_part_start.ensures c.in_ok-push_head_paragraphs.ensures c.push_part_end.ensures (part_holds tag nodes holds there)
