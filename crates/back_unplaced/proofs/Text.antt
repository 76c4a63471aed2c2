-- Paragraphs, notes, sections and the text of a document have no places.
use Rattle.std.proofs.Common.{◌≡◌, ℕ, Bool, true, false, List, [], ◌∷◌, ◌++◌, map, codes, zero, suc, refl, Option, Some, None}
use Rattle.std.specs.List.{AllByRecursion as Each}
use Rattle.markup_nodes.specs.declared.tree.Elem.{Elem}
use Rattle.markup_nodes.specs.Node.{Node}
use Rattle.doc_model.specs.declared.block.Block.{Block}
use Rattle.doc_model.specs.declared.block.Block.TheOpen.{Section-F}
use Rattle.doc_model.specs.declared.block.Block.TheFolds.{fold-roll-Block, fold-roll-Section}
use Rattle.doc_model.specs.declared.block.Section.{Section}
use Rattle.doc_model.specs.declared.block.SectionSource.{SectionSource}
use Rattle.doc_model.specs.declared.paragraph.Par.{Par, out-Par}
use Rattle.doc_model.specs.declared.paragraph.ListPos.{ListPos}
use Rattle.doc_model.specs.declared.paragraph.Note.{Note, out-Note}
use Rattle.doc_model.specs.declared.document.Document.{Document}
use Rattle.written_model.specs.Blocks.{bare_paragraph, entry_element, nested_entry, below, listed_paragraph, paragraph, note_element, source_element, block_element}
use Rattle.written_model.specs.Content.{content}
use Rattle.written_model.specs.Elements.{element, empty_element}
use Rattle.written_model.specs.Written.{variable_declarations, sequence_declarations, text_element}
use Rattle.block_facts.proofs.Blocks.{par_block, section_block, of_blocks}
use Rattle.back_unplaced.proofs.Content.{content_still}
use Rattle.back_unplaced.proofs.Nodes.{IsStill, AreStill, element_still, empty_still, one_still, more_still, both_still, all_still, each_still, part_still}

module _ (note_node : Note → Node Elem) (note_still : (note : Note) → IsStill (note_node note)) where
  bare_paragraph_still : (par : Par) → IsStill (bare_paragraph note_node par)
  bare_paragraph_still par = by_level (out-Par par).level refl where
    by_level : (level : ℕ) → (out-Par par).level ≡ level → IsStill (bare_paragraph note_node par)
    by_level zero e = rw e (element_still (codes "text:p") _ (content note_node (out-Par par).items) (content_still note_node note_still (out-Par par).items))
    by_level (suc level) e = rw e (element_still (codes "text:h") _ (content note_node (out-Par par).items) (content_still note_node note_still (out-Par par).items))

  entry_still : (item : Bool) (node : Node Elem) → IsStill node → IsStill (entry_element item node)
  entry_still true node still = element_still (codes "text:list-item") [] (node ∷ []) (one_still node still)
  entry_still false node still = element_still (codes "text:list-header") [] (node ∷ []) (one_still node still)

  nested_still : (levels : ℕ) (entry : Node Elem) → IsStill entry → IsStill (nested_entry levels entry)
  nested_still zero entry still = still
  nested_still (suc deeper) entry still =
      let inner : List (Node Elem) = nested_entry deeper entry ∷ [] in
      element_still (codes "text:list-item") [] (element (codes "text:list") [] inner ∷ [])
      (one_still (element (codes "text:list") [] inner) (element_still (codes "text:list") [] inner (one_still (nested_entry deeper entry) (nested_still deeper entry still))))

  paragraph_still : (par : Par) → IsStill (paragraph note_node par)
  paragraph_still par = by_list (out-Par par).list refl where
    listed : (place : ListPos) → IsStill (listed_paragraph place (bare_paragraph note_node par))
    listed place =
        let entry : Node Elem = nested_entry (below place.level) (entry_element place.item (bare_paragraph note_node par)) in
        element_still (codes "text:list") _ (entry ∷ []) (one_still entry (nested_still (below place.level) _ (entry_still place.item _ (bare_paragraph_still par))))

    by_list : (list : Option ListPos) → (out-Par par).list ≡ list → IsStill (paragraph note_node par)
    by_list None e = rw e (bare_paragraph_still par)
    by_list (Some place) e = rw e (listed place)

note_still : (note : Note) → IsStill (note_element note)
note_still note =
    let inner : Note → Node Elem = λ one. empty_element (codes "text:note") [] in
    let pars : List (Node Elem) = map (paragraph inner) (out-Note note).pars in
    element_still (codes "text:note") _ (empty_element (codes "text:note-citation") [] ∷ element (codes "text:note-body") [] pars ∷ [])
    (more_still (empty_element (codes "text:note-citation") []) _ (empty_still (codes "text:note-citation") [])
    (one_still (element (codes "text:note-body") [] pars) (element_still (codes "text:note-body") [] pars (all_still (paragraph inner) (paragraph_still inner (λ one. empty_still (codes "text:note") [])) (out-Note note).pars))))

source_still : (source : Option SectionSource) → AreStill (source_element source)
source_still None = refl
source_still (Some source) = one_still _ (empty_still (codes "text:section-source") _)

block_still : (block : Block) → IsStill (block_element block)
block_still block = (of_blocks (λ one. IsStill (block_element one)) of_par of_section (block ∷ [])).0 where
  of_par : (par : Par) → IsStill (block_element (par_block par))
  of_par par = simp fold-roll-Block (paragraph_still note_element note_still par)

  of_section : (x : Section-F Block Section) → Each (λ one. IsStill (block_element one)) x.blocks → IsStill (block_element (section_block x))
  of_section x each = simp fold-roll-Block (simp fold-roll-Section
      (element_still (codes "text:section") _ (source_element x.source ++ map block_element x.blocks) (both_still (source_element x.source) (map block_element x.blocks) (source_still x.source) (each_still block_element x.blocks each))))

pub text_still : (doc : Document) → IsStill (text_element doc)
text_still doc =
    element_still (codes "office:text") _ (variable_declarations doc.variables ++ sequence_declarations doc.sequences ++ map block_element doc.body)
    (both_still (variable_declarations doc.variables ++ sequence_declarations doc.sequences) (map block_element doc.body)
    (both_still (variable_declarations doc.variables) (sequence_declarations doc.sequences) (part_still (codes "text:variable-decls") _ (all_still _ (λ name. empty_still (codes "text:variable-decl") _) doc.variables))
    (part_still (codes "text:sequence-decls") _ (all_still _ (λ name. empty_still (codes "text:sequence-decl") _) doc.sequences)))
    (all_still block_element block_still doc.body))
