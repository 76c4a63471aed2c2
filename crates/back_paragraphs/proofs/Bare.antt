-- Paragraphs without their lists.
use Rattle.std.proofs.Common.{◌≡◌, ℕ, zero, suc, Bool, List, [], ◌∷◌, ◌++◌, map, codes, decimal, refl, sym, ap, ap₂, ◌∙◌, arith, Option, Some, is_some}
use Rattle.std.specs.Option.{option_map_or}
use Rattle.markup_nodes.specs.declared.tree.Elem.{Elem}
use Rattle.markup_nodes.specs.Node.{Node, Element}
use Rattle.doc_model.specs.declared.paragraph.Item.{Item}
use Rattle.doc_model.specs.declared.paragraph.ListPos.{ListPos}
use Rattle.doc_model.specs.declared.paragraph.Note.{Note}
use Rattle.doc_model.specs.declared.paragraph.Par.{Par, out-Par, roll-Par}
use Rattle.doc_model.specs.declared.style.Family.TheVariants as family
use Rattle.load_model.specs.declared.names.Key.TheVariants as key
use Rattle.load_model.specs.declared.names.Tag.TheVariants as tag
use Rattle.load_model.specs.declared.element.Attribute.{Attribute}
use Rattle.load_model.specs.Blocks.{Gives, Lists, ReadBlocks, ReadContent, as_block, content_of, heading_rules, left_by, list_place, paragraph_block, paragraph_rules}
use Rattle.load_model.specs.Left.{Left, both, nothing}
use Rattle.load_model.specs.Styles.{Names, style_reference}
use Rattle.load_model.specs.Values as value
use Rattle.load_model.specs.Values.{Rule, rule, stated_or}
use Rattle.written_model.specs.Blocks.{bare_paragraph}
use Rattle.written_model.specs.Content.{content}
use Rattle.written_model.specs.Elements.{attribute, element, unless_empty}
use Rattle.back_fields.specs.Given.{all_kept, given}
use Rattle.back_fields.proofs.Attributes.{at, at_unless, left_first, named_first, named_unless}
use Rattle.back_fields.proofs.Keys as field_name
use Rattle.back_fields.proofs.Opened.{gives_with}
use Rattle.back_items.proofs.Pieces.{content_back}
use Rattle.back_spans.proofs.Runs.{style_name_key}
use Rattle.back_values.proofs.Numbers.{heading_back}
use Rattle.back_paragraphs.specs.Paragraphs.{IsReadablePar, whole_blocks}
use Rattle.back_paragraphs.proofs.Keys as named
use Rattle.back_paragraphs.proofs.Parts.{gives_at, style_attributes, style_left, style_stated}

-- the paragraph with this list place
abbrev pub par_at : Par → Option ListPos → Par
par_at par list = roll-Par (record (out-Par par) { list = list })

-- a node that is read as a paragraph with the list place of where it stands
pub record IsPlaced (names : Names) (in_note : Bool) (node : Node Elem) (par : Par) : Type 0 where
  pub gives : Gives
  pub is : given names node ≡ Element gives
  pub read : (level : ℕ) (style : List ℕ) → gives.blocks (record { level = level; style = style; in_note = in_note }) ≡ whole_blocks (as_block (par_at par (list_place (record { level = level; style = style; in_note = in_note }))) ∷ [])

module _ (names : Names) (in_note : Bool) (note_node : Note → Node Elem) (par : Par) (readable : IsReadablePar names in_note note_node par) where
  abbrev held : ReadContent
  held = content_of (record { spans = []; in_note = in_note }) (map (given names) (content note_node (out-Par par).items))

  -- what is read of a paragraph, by its parts
  abbrev made : Lists → ℕ → ℕ → List ℕ → List Item → Left → ReadBlocks
  made lists number level style items left = record { blocks = as_block (roll-Par (record { id = record { 0 = number }; style = style; level = level; list = list_place lists; items = items })) ∷ []; sources = []; declarations = []; left = left }

  block_is : (level : ℕ) (style : List ℕ) (attributes : List Attribute) (rules : List Rule)
      → stated_or key.StyleName (style_reference names family.Paragraph) [] attributes ≡ (out-Par par).style → left_by rules attributes ≡ nothing
      → paragraph_block (all_kept names) (record { level = level; style = style; in_note = in_note }) 0 (out-Par par).level rules attributes (map (given names) (content note_node (out-Par par).items))
      ≡ whole_blocks (as_block (par_at par (list_place (record { level = level; style = style; in_note = in_note }))) ∷ [])
  block_is level style attributes rules named none =
      let lists : Lists = record { level = level; style = style; in_note = in_note } in
      let content = content_back names in_note note_node (out-Par par).items readable.each_item readable.few in
      ap₂ (λ (own : List ℕ) (items : List Item). made lists 0 (out-Par par).level own items (both (left_by rules attributes) held.left)) named content.same
      ∙ ap₂ (λ (front back : Left). made lists 0 (out-Par par).level (out-Par par).style (out-Par par).items (both front back)) none content.none
      ∙ ap (λ (number : ℕ). made lists number (out-Par par).level (out-Par par).style (out-Par par).items nothing) (sym readable.number)

  -- by its level
  abbrev written_at : ℕ → Node Elem
  written_at zero = element (codes "text:p") (unless_empty (codes "text:style-name") (out-Par par).style) (content note_node (out-Par par).items)
  written_at (suc level) = element (codes "text:h") (unless_empty (codes "text:style-name") (out-Par par).style ++ attribute (codes "text:outline-level") (decimal (suc level)) ∷ []) (content note_node (out-Par par).items)

  levelled : (number : ℕ) → (out-Par par).level ≡ number → IsPlaced names in_note (written_at number) par
  levelled zero e = record {
    gives = gives_with (all_kept names) tag.Paragraph (at_unless key.StyleName (out-Par par).style []) (map (given names) (content note_node (out-Par par).items));
    is = gives_at names (codes "text:p") (unless_empty (codes "text:style-name") (out-Par par).style) (content note_node (out-Par par).items) tag.Paragraph (at_unless key.StyleName (out-Par par).style []) named.paragraph_tag
        (style_attributes (out-Par par).style style_name_key);
    read = λ level style.
        ap (λ (number : ℕ). paragraph_block (all_kept names) (record { level = level; style = style; in_note = in_note }) 0 number (paragraph_rules (all_kept names)) (at_unless key.StyleName (out-Par par).style []) (map (given names) (content note_node (out-Par par).items))) (sym e)
        ∙ block_is level style (at_unless key.StyleName (out-Par par).style []) (paragraph_rules (all_kept names))
        (style_stated (style_reference names family.Paragraph) (out-Par par).style [] [] readable.style (λ none. refl)) (style_left (style_reference names family.Paragraph) [] (out-Par par).style [] readable.style refl);
  }
  levelled (suc deeper) e = record {
    gives = gives_with (all_kept names) tag.Heading attributes (map (given names) (content note_node (out-Par par).items));
    is = gives_at names (codes "text:h") (unless_empty (codes "text:style-name") (out-Par par).style ++ attribute (codes "text:outline-level") (decimal (suc deeper)) ∷ []) (content note_node (out-Par par).items) tag.Heading attributes named.heading_tag
        (named_unless (codes "text:style-name") (out-Par par).style key.StyleName (attribute (codes "text:outline-level") (decimal (suc deeper)) ∷ []) (at key.OutlineLevel (decimal (suc deeper)) ∷ []) style_name_key
        (named_first (codes "text:outline-level") (decimal (suc deeper)) key.OutlineLevel [] [] field_name.outline_level_key refl));
    read = λ level style.
        ap (λ (number : ℕ). paragraph_block (all_kept names) (record { level = level; style = style; in_note = in_note }) 0 number (heading_rules (all_kept names)) attributes (map (given names) (content note_node (out-Par par).items)))
        (level_stated (out-Par par).style ∙ sym e)
        ∙ block_is level style attributes (heading_rules (all_kept names))
        (style_stated (style_reference names family.Paragraph) (out-Par par).style [] (at key.OutlineLevel (decimal (suc deeper)) ∷ []) readable.style (λ none. refl))
        (style_left (style_reference names family.Paragraph) (rule key.OutlineLevel value.heading_level ∷ []) (out-Par par).style (at key.OutlineLevel (decimal (suc deeper)) ∷ []) readable.style
        (left_first (heading_rules (all_kept names)) (at key.OutlineLevel (decimal (suc deeper))) [] (ap is_some found) refl));
  } where
    attributes : List Attribute
    attributes = at_unless key.StyleName (out-Par par).style (at key.OutlineLevel (decimal (suc deeper)) ∷ [])

    found : value.heading_level (decimal (suc deeper)) ≡ Some (suc deeper)
    found = heading_back (suc deeper) (omega arith) (omega (arith, e, readable.level))

    level_stated : (style : List ℕ) → stated_or key.OutlineLevel value.heading_level 1 (at_unless key.StyleName style (at key.OutlineLevel (decimal (suc deeper)) ∷ [])) ≡ suc deeper
    level_stated [] = ap (λ (one : Option ℕ). option_map_or (λ value. value) one 1) found
    level_stated (c ∷ cs) = ap (λ (one : Option ℕ). option_map_or (λ value. value) one 1) found

  pub bare_read : IsPlaced names in_note (bare_paragraph note_node par) par
  bare_read = by_level (out-Par par).level refl where
    by_level : (number : ℕ) → (out-Par par).level ≡ number → IsPlaced names in_note (bare_paragraph note_node par) par
    by_level zero e = rw e (levelled zero e)
    by_level (suc deeper) e = rw e (levelled (suc deeper) e)
