-- A block is a paragraph or a section, and a section's blocks stand between its start and its end.
use Rattle.std.proofs.Common.{◌≡◌, ◌++◌, ℕ, Bool, List, map, ap, sym, ◌∙◌, subst, OnOk}
use Rattle.std.specs.Str.{chars}
use Rattle.std.specs.String.{string_bytes}
use Rattle.doc_model.specs.declared.block.Block.TheVariants.{rolls-Par, rolls-Section}
use Rattle.doc_model.specs.declared.block.Section.{out-Section}
use Rattle.markup_nodes.specs.Node.{Node}
use Rattle.markup_nodes.specs.declared.tree.Elem.{Elem}
use Rattle.tree_text.specs.Writing.{child_text, content_text}
use Rattle.written_model.specs.Blocks.{paragraph, note_element, block_element}
use Rattle.value_write.proofs.ChainLemmas.{three}
use Rattle.block_write.specs.Sections.{start_of, section_end, holds_of, section_element}
use Rattle.block_write.proofs.BlockLemmas.{section_text, section_is, par_is}
use Rattle.block_write.proofs.blocks.+push_block.Goals as goal

pub push_block-returns-in-Par : goal.push_block-returns-in-Par
push_block-returns-in-Par t c =
    let is : block_element c.args.block.now ≡ paragraph note_element c.in-Par.par = ap block_element (c.in-Par.is ∙ sym (rolls-Par c.in-Par.par)) ∙ par_is c.in-Par.par in
    subst (λ (node : Node Elem). OnOk c.push_paragraph.result (chars (string_bytes c.push_paragraph.new.out) ≡ chars (string_bytes c.args.out.now) ++ child_text node)) (sym is) c.push_paragraph.ensures

pub push_block-returns-in-Section : goal.push_block-returns-in-Section
push_block-returns-in-Section t c =
    let is : block_element c.args.block.now ≡ section_element c.in-Section.section = ap block_element (c.in-Section.is ∙ sym (rolls-Section c.in-Section.section)) ∙ section_is c.in-Section.section in
    subst (λ (node : Node Elem). OnOk c.push_section.result (chars (string_bytes c.push_section.new.out) ≡ chars (string_bytes c.args.out.now) ++ child_text node)) (sym is) c.push_section.ensures

pub push_section-returns : goal.push_section-returns
push_section-returns t c =
    let section = c.args.section.now in
    let old = chars (string_bytes c.args.out.now) in
    let before = chars (string_bytes c.push_section_start.new.out) in
    let inside = chars (string_bytes c.push_items.new.out) in
    let holds : c.holds_some-some.result ≡ holds_of section = c.holds_some-some.ensures in
    three c.push_section_end.result (chars (string_bytes c.push_section_end.new.out)) inside before old
    (start_of section (holds_of section)) (content_text (map block_element (out-Section section).blocks)) (section_end (holds_of section))
    (c.in_ok-push_section_start.ensures ∙ ap (λ (text : List ℕ). old ++ text) (c.tag_of.ensures c.holds_some-some.result ∙ ap (start_of section) holds))
    c.in_ok-push_items.ensures
    (subst (λ (some : Bool). OnOk c.push_section_end.result (chars (string_bytes c.push_section_end.new.out) ≡ inside ++ section_end some)) holds c.push_section_end.ensures)
    (section_text section)
