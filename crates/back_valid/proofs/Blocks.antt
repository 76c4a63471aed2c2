-- The paragraphs and sections of blocks whose paragraphs are changed.
use Rattle.std.proofs.Common.{◌≡◌, List, [], ◌∷◌, ◌++◌, map, length, refl, sym, ap, ap₂, ◌∙◌}
use Rattle.std.specs.List.{flat_map, AllByRecursion as Each}
use Rattle.std.proofs.lemmas.List.{length-map, map-append}
use Rattle.std.proofs.lemmas.List.Folds.{flat_map-map}
use Rattle.doc_model.specs.declared.block.Block.{Block}
use Rattle.doc_model.specs.declared.block.Block.TheOpen.{Section-F}
use Rattle.doc_model.specs.declared.block.Block.TheFolds.{fold-roll-Block, fold-roll-Section}
use Rattle.doc_model.specs.declared.block.Section.{Section}
use Rattle.doc_model.specs.declared.document.Document.{Document}
use Rattle.doc_model.specs.declared.paragraph.Par.{Par}
use Rattle.doc_model.specs.Alike.{in_block, in_document, in_paragraph}
use Rattle.doc_model.specs.Parts.{SectionHead, block_sections, sections}
use Rattle.doc_model.specs.Reading.{block_paragraphs, body_paragraphs}
use Rattle.block_facts.proofs.Blocks.{of_blocks, par_block, par_changes, par_reads, section_block, section_changes, section_reads}

abbrev head_of : Section-F Block Section → SectionHead
head_of x = record { kind = x.kind; name = x.name; style = x.style; protected = x.protected; hidden = x.hidden; source = x.source; blocks = length x.blocks }

-- a paragraph has no section, and a section is followed by those in it
pub par_sections : (par : Par) → block_sections (par_block par) ≡ []
par_sections par = simp fold-roll-Block

sections_open : (x : Section-F Block Section) → block_sections (section_block x) ≡ head_of x ∷ flat_map (λ sections. sections) (map block_sections x.blocks)
sections_open x = simp (fold-roll-Block, fold-roll-Section, length-map x.blocks block_sections)

pub section_sections : (x : Section-F Block Section) → block_sections (section_block x) ≡ head_of x ∷ flat_map block_sections x.blocks
section_sections x = sections_open x ∙ ap (λ (more : List SectionHead). head_of x ∷ more) (flat_map-map (λ (sections : List SectionHead). sections) block_sections x.blocks)

module _ (change : Par → Par) where
  abbrev Follows : Block → Type 0
  Follows block = (block_paragraphs (in_block change block) ≡ map (in_paragraph change) (block_paragraphs block)) × (block_sections (in_block change block) ≡ block_sections block)

  pars_follow : (blocks : List Block) → Each Follows blocks → flat_map block_paragraphs (map (in_block change) blocks) ≡ map (in_paragraph change) (flat_map block_paragraphs blocks)
  pars_follow [] each = refl
  pars_follow (block ∷ blocks) each =
      ap₂ (λ (one more : List Par). one ++ more) each.0.0 (pars_follow blocks each.1) ∙ sym (map-append (in_paragraph change) (block_paragraphs block) (flat_map block_paragraphs blocks))

  sections_follow : (blocks : List Block) → Each Follows blocks → flat_map block_sections (map (in_block change) blocks) ≡ flat_map block_sections blocks
  sections_follow [] each = refl
  sections_follow (block ∷ blocks) each = ap₂ (λ (one more : List SectionHead). one ++ more) each.0.1 (sections_follow blocks each.1)

  par_follows : (par : Par) → Follows (par_block par)
  par_follows par = (
    ap block_paragraphs (par_changes change par) ∙ par_reads (in_paragraph change par) ∙ sym (ap (map (in_paragraph change)) (par_reads par)),
    ap block_sections (par_changes change par) ∙ par_sections (in_paragraph change par) ∙ sym (par_sections par),
  )

  section_follows : (x : Section-F Block Section) → Each Follows x.blocks → Follows (section_block x)
  section_follows x each = (
    ap block_paragraphs (section_changes change x) ∙ section_reads (record x { blocks = map (in_block change) x.blocks }) ∙ pars_follow x.blocks each ∙ sym (ap (map (in_paragraph change)) (section_reads x)),
    ap block_sections (section_changes change x) ∙ section_sections (record x { blocks = map (in_block change) x.blocks })
        ∙ ap₂ (λ (n : _) (more : List SectionHead). record (head_of x) { blocks = n } ∷ more) (length-map x.blocks (in_block change)) (sections_follow x.blocks each) ∙ sym (section_sections x),
  )

  pub body_changed : (doc : Document) → body_paragraphs (in_document change doc) ≡ map (in_paragraph change) (body_paragraphs doc)
  body_changed doc = pars_follow doc.body (of_blocks Follows par_follows section_follows doc.body)

  pub sections_stay : (doc : Document) → sections (in_document change doc) ≡ sections doc
  sections_stay doc = sections_follow doc.body (of_blocks Follows par_follows section_follows doc.body)
