-- Notes are read back.
use Rattle.std.proofs.Common.{◌≡◌, ◌≢◌, ℕ, true, false, List, [], ◌∷◌, ◌++◌, map, codes, refl, ap, ap₂, ◌∙◌, append-nil, Option, is_some}
use Rattle.std.specs.Option.{option_map_or}
use Rattle.markup_nodes.specs.declared.tree.Elem.{Elem}
use Rattle.markup_nodes.specs.Node.{Node}
use Rattle.doc_model.specs.declared.block.Block.{Block}
use Rattle.doc_model.specs.declared.block.Block.TheViews.{out-roll-Block}
use Rattle.doc_model.specs.declared.field.NoteClass.{NoteClass}
use Rattle.doc_model.specs.declared.field.NoteClass.TheVariants as class
use Rattle.doc_model.specs.declared.paragraph.Note.{Note, out-Note, roll-Note}
use Rattle.doc_model.specs.declared.paragraph.Par.{Par}
use Rattle.doc_model.specs.declared.paragraph.What.TheOpen.{What-F}
use Rattle.doc_model.specs.declared.paragraph.What.TheViews.{roll-out-Note}
use Rattle.load_model.specs.declared.names.Key.TheVariants as key
use Rattle.load_model.specs.declared.names.Tag.TheVariants as tag
use Rattle.load_model.specs.declared.element.Attribute.{Attribute}
use Rattle.load_model.specs.Blocks.{Around, Gives, ReadBlocks, ReadContent, as_block, blocks_alone, element_content, joined_blocks, left_by, lists_of_note, node_content, note_content, note_rules, or_empty, paragraphs_of}
use Rattle.load_model.specs.Content.{Read, item_in}
use Rattle.load_model.specs.Fields.{own_name}
use Rattle.load_model.specs.Left.{Left, all_of, nothing}
use Rattle.load_model.specs.Styles.{Names}
use Rattle.load_model.specs.Values as value
use Rattle.load_model.specs.Values.{stated_or}
use Rattle.written_model.specs.Blocks.{note_element, paragraph}
use Rattle.written_model.specs.Elements.{attribute, element, empty_element, unless_empty}
use Rattle.written_model.specs.Values as text
use Rattle.back_fields.specs.Fit.{IsNameOrNone}
use Rattle.back_fields.specs.Given.{all_kept, given, whole}
use Rattle.back_fields.proofs.Attributes.{at, at_unless, left_first, left_unless, named_first, named_unless}
use Rattle.back_fields.proofs.Keys as field_name
use Rattle.back_fields.proofs.Fields.{element_read}
use Rattle.back_fields.proofs.Opened.{gives_with}
use Rattle.back_values.proofs.Texts.{own_back}
use Rattle.back_values.proofs.Words.{class_back}
use Rattle.back_paragraphs.specs.Paragraphs.{IsReadableNote, parts_of, whole_blocks}
use Rattle.back_paragraphs.proofs.Keys as named
use Rattle.back_paragraphs.proofs.Lists.{pars_read}
use Rattle.back_paragraphs.proofs.Parts.{gives_at}

-- the paragraphs of blocks that are paragraphs
pars_only : (pars : List Par) → paragraphs_of (map as_block pars) ≡ pars
pars_only [] = refl
pars_only (par ∷ pars) = simp out-roll-Block (ap (λ (more : List Par). par ∷ more) (pars_only pars))

pars_or_empty : (pars : List Par) → pars ≢ [] → paragraphs_of (or_empty 0 (map as_block pars)) ≡ pars
pars_or_empty [] some = absurd (some refl)
pars_or_empty (par ∷ pars) some = pars_only (par ∷ pars)

module _ (names : Names) (spans : List (List ℕ)) (note : Note) (readable : IsReadableNote names note) where
  abbrev note_node : Note → Node Elem
  note_node inner = empty_element (codes "text:note") []

  abbrev body_nodes : List (Node Elem)
  body_nodes = map (paragraph note_node) (out-Note note).pars

  abbrev classed : Attribute
  classed = at key.NoteClass (text.class_text (out-Note note).class)

  abbrev attributes : List Attribute
  attributes = at_unless key.Id (out-Note note).id (classed ∷ [])

  abbrev around : Around
  around = record { spans = spans; in_note = false }

  -- what is read of a note, by its parts
  abbrev made : List ℕ → NoteClass → ReadBlocks → Left → ReadContent
  made id given_class body left = record {
    raws = Read (item_in spans (What-F.Note (roll-Note (record { id = id; class = given_class; pars = paragraphs_of (or_empty 0 (joined_blocks (blocks_alone body ∷ [])).blocks) })))) ∷ [];
    left = all_of (left ∷ nothing ∷ (joined_blocks (blocks_alone body ∷ [])).left ∷ []);
  }

  id_stated : (id : List ℕ) → IsNameOrNone id → stated_or key.Id (own_name true) [] (at_unless key.Id id (classed ∷ [])) ≡ id
  id_stated [] few = refl
  id_stated (c ∷ cs) few = ap (λ (found : Option (List ℕ)). option_map_or (λ value. value) found []) (own_back (c ∷ cs) few)

  class_stated : (id : List ℕ) → stated_or key.NoteClass value.note_class class.Footnote (at_unless key.Id id (classed ∷ [])) ≡ (out-Note note).class
  class_stated [] = ap (λ (found : Option NoteClass). option_map_or (λ value. value) found class.Footnote) (class_back (out-Note note).class)
  class_stated (c ∷ cs) = ap (λ (found : Option NoteClass). option_map_or (λ value. value) found class.Footnote) (class_back (out-Note note).class)

  none_left : left_by (note_rules true) attributes ≡ nothing
  none_left =
      left_unless (note_rules true) key.Id (out-Note note).id (classed ∷ []) (ap is_some (own_back (out-Note note).id readable.id))
      (left_first (note_rules true) classed [] (ap is_some (class_back (out-Note note).class)) refl)

  parts_read : note_content (all_kept names) around 0 attributes (gives_with (all_kept names) tag.NoteCitation [] [] ∷ gives_with (all_kept names) tag.NoteBody [] (map (given names) body_nodes) ∷ [])
      ≡ whole (Read (item_in spans (What-F.Note note)) ∷ [])
  parts_read =
      let body = pars_read names true note_node (out-Note note).pars readable.each in
      ap₂ (λ (id : List ℕ) (given_class : NoteClass). made id given_class (parts_of names lists_of_note body_nodes) (left_by (note_rules true) attributes)) (id_stated (out-Note note).id readable.id) (class_stated (out-Note note).id)
      ∙ ap₂ (λ (read : ReadBlocks) (left : Left). made (out-Note note).id (out-Note note).class read left) body none_left
      ∙ ap (λ (pars : List Par). whole (Read (item_in spans (What-F.Note (roll-Note (record (out-Note note) { pars = pars })))) ∷ [])) (held_pars (out-Note note).pars readable.some)
      ∙ ap (λ (one : Note). whole (Read (item_in spans (What-F.Note one)) ∷ [])) (roll-out-Note note) where
        held_pars : (pars : List Par) → pars ≢ [] → paragraphs_of (or_empty 0 (joined_blocks (blocks_alone (whole_blocks (map as_block pars)) ∷ [])).blocks) ≡ pars
        held_pars pars some = ap (λ (blocks : List Block). paragraphs_of (or_empty 0 blocks)) (append-nil (map as_block pars)) ∙ pars_or_empty pars some

  pub note_read : node_content around (given names (note_element note)) ≡ whole (Read (item_in spans (What-F.Note note)) ∷ [])
  note_read =
      element_read names around (codes "text:note") (unless_empty (codes "text:id") (out-Note note).id ++ attribute (codes "text:note-class") (text.class_text (out-Note note).class) ∷ []) (citation ∷ body ∷ []) tag.Note attributes named.note_tag
      (named_unless (codes "text:id") (out-Note note).id key.Id (attribute (codes "text:note-class") (text.class_text (out-Note note).class) ∷ []) (classed ∷ []) named.id_key
      (named_first (codes "text:note-class") (text.class_text (out-Note note).class) key.NoteClass [] [] field_name.note_class_key refl))
      ∙ ap₂ (λ (one other : Node Gives). element_content (all_kept names) tag.Note 0 attributes (one ∷ other ∷ []) around)
      (gives_at names (codes "text:note-citation") [] [] tag.NoteCitation [] named.citation_tag refl) (gives_at names (codes "text:note-body") [] body_nodes tag.NoteBody [] named.body_tag refl)
      ∙ parts_read where
        citation : Node Elem
        citation = empty_element (codes "text:note-citation") []

        body : Node Elem
        body = element (codes "text:note-body") [] body_nodes
