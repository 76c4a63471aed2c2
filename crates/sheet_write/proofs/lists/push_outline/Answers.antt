-- The start of the part, its levels and its end.
use Rattle.std.proofs.Common.{◌≡◌, ◌++◌, Bool, List, map, codes, sym, ap, ◌∙◌, subst}
use Rattle.std.specs.Prelude.{not, length, ◌==◌}
use Rattle.std.specs.Str.{chars}
use Rattle.std.specs.String.{string_bytes}
use Rattle.markup_nodes.specs.Node.{Node}
use Rattle.markup_nodes.specs.declared.tree.Elem.{Elem}
use Rattle.doc_model.specs.declared.list_style.ListLevel.{ListLevel}
use Rattle.spelling_model.specs.Spelling.{is_there}
use Rattle.tree_text.specs.Writing.{content_text}
use Rattle.value_write.proofs.ChainLemmas.{three}
use Rattle.sheet_write.specs.Parts.{part_start, part_end}
use Rattle.sheet_write.specs.Sheets.{outline_level}
use Rattle.sheet_write.proofs.HeldLemmas.{part_holds}
use Rattle.sheet_write.proofs.ThereLemmas.{there-map, there-length}
use Rattle.sheet_write.proofs.lists.push_outline.Goals as goal

pub returns : goal.returns
unfolding chars
returns c =
    let tag = codes "text:outline-style" in
    let levels : List ListLevel = c.args.outline.now.levels in
    let nodes : List (Node Elem) = map outline_level levels in
    let holds : Bool = not c.is_empty-holds.result in
    let same : c.get-levels.result.now ≡ levels = c.get-levels.ensures in
    let there : holds ≡ is_there nodes = ap not c.is_empty-holds.ensures ∙ (ap (λ (ls : List ListLevel). not (length ls == 0)) same ∙ (there-length levels ∙ sym (there-map outline_level levels))) in
    three c.push_part_end.result (chars (string_bytes c.push_part_end.new.out)) (chars (string_bytes c.push_outline_levels.new.out)) (chars (string_bytes c.push_part_start.new.out)) (chars (string_bytes c.args.out.now))
    (part_start tag holds) (content_text nodes) (part_end tag holds) c.in_ok-push_part_start.ensures
    (subst (λ (ls : List ListLevel). chars (string_bytes c.push_outline_levels.new.out) ≡ chars (string_bytes c.push_part_start.new.out) ++ content_text (map outline_level ls)) same c.in_ok-push_outline_levels.ensures)
    c.push_part_end.ensures (part_holds tag nodes holds there)
