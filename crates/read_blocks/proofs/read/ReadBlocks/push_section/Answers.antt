use Rattle.std.proofs.Common.{◌∙◌, ◌≡◌, ◌++◌, List, ap, append-nil, arith, length, sym}
use Rattle.std.proofs.lemmas.List.{length-map}
use Rattle.doc_model.specs.declared.block.Block.{Block, roll-Block}
use Rattle.doc_model.specs.declared.block.Block.TheOpen.{Block-F}
use Rattle.doc_model.specs.declared.style.Family.TheVariants as family
use Rattle.sheet_names.specs.Known.{of_family}
use Rattle.block_parts.specs.Values.{section_by}
use Rattle.load_model.specs.declared.element.Element.{out-Element}
use Rattle.load_model.specs.Blocks.{kept_section, or_empty, without_declarations}
use Rattle.load_model.specs.Left.{attributes_of}
use Rattle.read_blocks.specs.Shown.{shown_declarations}
use Rattle.read_blocks.proofs.SectionLemmas.{kept_as_section}
use Rattle.read_blocks.proofs.read.ReadBlocks.push_section.Goals as goal

pub returns : goal.returns
returns c = λ in_note known more knows are.
    let element = c.args.element.now in
    let old = c.args.self.now in
    let section = kept_section known (out-Element element).place (attributes_of element) (without_declarations more) in
    record {
      blocks_are = c.in_ok-push.ensures.items
          ∙ ap (λ (some : List Block). old.blocks.items ++ some) (kept_as_section known (out-Element element).place (attributes_of element) in_note c.args.names.now c.args.held more c.in_ok-block.block knows are
          (c.in_ok-block.ensures ∙ ap (λ source. roll-Block (Block-F.Section (section_by (of_family c.args.names.now.styles family.Section) (attributes_of element) source (or_empty (out-Element element).place c.args.held.blocks.items)))) c.first_source-source.ensures));
      sources_are = sym (append-nil old.sources.items);
      declarations_are = sym (append-nil old.declarations.items);
      left_is = λ left is. c.both-self.ensures left section.left is
          (c.left_in_section-left.ensures known more knows (c.deref.ensures.value ∙ are.sources_are) ((let counted : c.len.result ≡ length c.args.held.declarations.items = omega (arith, c.len.ensures) in counted) ∙ ap length are.declarations_are ∙ length-map more.declarations shown_declarations) are.left_is);
    }
