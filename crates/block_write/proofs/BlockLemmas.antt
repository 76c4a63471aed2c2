-- Sections round their blocks, and blocks.
use Rattle.std.proofs.Common.{◌≡◌, ℕ, Bool, List, ◌++◌, codes, map, refl, ap, sym, ◌∙◌, append_assoc, Option, Some, None}
use Rattle.std.specs.Prelude.{◌||◌, is_some}
use Rattle.std.proofs.lemmas.Grind.{flat_map-append}
use Rattle.doc_model.specs.declared.block.Block.{Block, roll-Block}
use Rattle.doc_model.specs.declared.block.Block.TheOpen.{Block-F, Section-F}
use Rattle.doc_model.specs.declared.block.Block.TheFolds.{fold-roll-Block, fold-roll-Section}
use Rattle.doc_model.specs.declared.block.Block.TheViews.{roll-out-Section}
use Rattle.doc_model.specs.declared.block.Section.{Section, roll-Section, out-Section}
use Rattle.doc_model.specs.declared.block.SectionSource.{SectionSource}
use Rattle.doc_model.specs.declared.paragraph.Par.{Par}
use Rattle.spelling_model.specs.Spelling.{is_there}
use Rattle.tree_text.specs.Writing.{tag_text, child_text, content_text}
use Rattle.written_model.specs.Elements.{element}
use Rattle.written_model.specs.Blocks.{paragraph, note_element, source_element, block_element}
use Rattle.paragraph_write.specs.Around.{tag_close, element_close}
use Rattle.paragraph_write.proofs.AroundLemmas.{element_around}
use Rattle.paragraph_write.proofs.ParagraphLemmas.{holds_mapped}
use Rattle.block_write.specs.Sections.{section_attributes, section_end, section_element, start_of, holds_of}

holds_either : (source : Option SectionSource) (blocks : List Block) → is_there (source_element source ++ map block_element blocks) ≡ is_some source || is_there blocks
holds_either None blocks = holds_mapped block_element blocks
holds_either (Some source) blocks = refl

section_parts : (tag close source blocks end : List ℕ) → tag ++ (close ++ ((source ++ blocks) ++ end)) ≡ (tag ++ (close ++ source)) ++ (blocks ++ end)
section_parts tag close source blocks end = simp append_assoc

-- a section
pub section_text : (section : Section)
    → start_of section (holds_of section) ++ (content_text (map block_element (out-Section section).blocks) ++ section_end (holds_of section)) ≡ child_text (section_element section)
section_text section =
    let s = out-Section section in
    let name = codes "text:section" in
    let attrs = section_attributes s.style s.name s.protected s.hidden in
    let tag = tag_text name attrs in
    let source = source_element s.source in
    let blocks = map block_element s.blocks in
    sym (element_around name attrs (source ++ blocks)
    ∙ (ap (λ (holds : Bool). tag ++ (tag_close holds ++ (content_text (source ++ blocks) ++ element_close name holds))) (holds_either s.source s.blocks)
    ∙ (ap (λ (t : List ℕ). tag ++ (tag_close (holds_of section) ++ (t ++ element_close name (holds_of section)))) (flat_map-append child_text source blocks)
    ∙ section_parts tag (tag_close (holds_of section)) (content_text source) (content_text blocks) (element_close name (holds_of section)))))

section_rolled : (x : Section-F Block Section)
    → block_element (roll-Block (Block-F.Section (roll-Section x))) ≡ element (codes "text:section") (section_attributes x.style x.name x.protected x.hidden) (source_element x.source ++ map block_element x.blocks)
section_rolled x = simp (fold-roll-Block, fold-roll-Section)

-- blocks
pub section_is : (section : Section) → block_element (roll-Block (Block-F.Section section)) ≡ section_element section
section_is section = ap (λ (s : Section). block_element (roll-Block (Block-F.Section s))) (sym (roll-out-Section section)) ∙ section_rolled (out-Section section)

pub par_is : (par : Par) → block_element (roll-Block (Block-F.Par par)) ≡ paragraph note_element par
par_is par = simp fold-roll-Block
