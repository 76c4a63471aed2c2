-- Masters are read back.
use Rattle.std.proofs.Common.{◌≡◌, ℕ, ◌+◌, List, [], ◌∷◌, ◌++◌, map, length, codes, refl, ap, ap₂, ◌∙◌, Option, Some, None, option_to_list, is_some}
use Rattle.std.specs.List.{flat_map, AllByRecursion as Each}
use Rattle.std.specs.Option.{option_map_or, option_or}
use Rattle.doc_model.specs.declared.page_layout.HeadPar.{HeadPar}
use Rattle.doc_model.specs.declared.page_layout.Master.{Master}
use Rattle.load_model.specs.declared.names.Key.{Key}
use Rattle.load_model.specs.declared.names.Key.TheVariants as key
use Rattle.load_model.specs.declared.names.Tag.TheVariants as tag
use Rattle.load_model.specs.declared.element.Attribute.{Attribute}
use Rattle.load_model.specs.declared.element.Element.{Element}
use Rattle.load_model.specs.Headers.{head_elements, head_of, head_paragraph, head_paragraphs, header_left, master_left, master_rules}
use Rattle.load_model.specs.Left.{Left, all_but, all_of, attributes_of, children, first, nothing, only_attributes}
use Rattle.load_model.specs.Styles.{Names, name_of, reference}
use Rattle.load_model.specs.Values as value
use Rattle.load_model.specs.Values.{attributes_left, stated, stated_or}
use Rattle.back_paragraphs.specs.Paragraphs.{IsNoneOrGood}
use Rattle.back_values.proofs.Texts.{name_back}
use Rattle.back_styles.proofs.Keys.{name_key, next_key}
use Rattle.back_styles.proofs.Parts.{attributes_shown, children_shown}
use Rattle.back_styles.proofs.Slots.{IsGood, Piece, Slot, all_named, all_slots, look_up, needed, none_left as none_stated, not_empty, some_text, stated_in, stated_of}
use Rattle.back_styles.proofs.Styles.{reference_back, reference_good}
use Rattle.back_masters.specs.Masters.{IsMasterBack, IsReadableMaster, master_read}
use Rattle.back_masters.proofs.Keys as named
use Rattle.back_masters.proofs.Held.{all_counted, footer_found, footer_name, header_found, header_name, heads_held, none_left, part_back, read_part, written_part}

-- the attributes of a master, of which the last stands in front
abbrev pieces : Master → List Piece
pieces master =
    not_empty (codes "style:next-style-name") key.Next master.next next_key
    ∷ not_empty (codes "style:page-layout-name") key.Layout master.layout named.layout_key
    ∷ needed (codes "style:name") key.Name master.name name_key ∷ []

abbrev slots : Master → List Slot
slots master = all_slots (pieces master)

module _ (names : Names) (master : Master) (is : IsReadableMaster names master) where
  own_attributes : attributes_of (master_read master) ≡ stated_of (slots master)
  own_attributes = attributes_shown (codes "style:master-page") _ (written_part header_name master.header ++ written_part footer_name master.footer) ∙ all_named (pieces master)

  own_children : children (master_read master) ≡ heads_held master.header master.footer
  own_children = children_shown (codes "style:master-page") _ (written_part header_name master.header ++ written_part footer_name master.footer)

  name_stated : name_of (master_read master) ≡ Some master.name
  name_stated = ap (stated key.Name value.name) own_attributes ∙ stated_in key.Name value.name (slots master) (Some master.name) refl ∙ name_back master.name is.name.0 is.name.1

  -- a reference
  referred : (which : Key) (given : List (List ℕ)) (name : List ℕ) → look_up which (slots master) ≡ option_or (some_text name) None → IsNoneOrGood (reference given) name
      → stated_or which (reference given) [] (attributes_of (master_read master)) ≡ name
  referred which given name found good =
      ap (λ (attributes : List Attribute). stated_or which (reference given) [] attributes) own_attributes
      ∙ ap (λ (one : Option (List ℕ)). option_map_or (λ text. text) one []) (stated_in which (reference given) (slots master) (some_text name) found) ∙ reference_back (reference given) name good

  -- the header and the footer
  abbrev made : Element → List HeadPar
  made header = map (head_paragraph names) (head_elements header)

  header_is : head_of tag.Header (master_read master) ≡ read_part header_name master.header
  header_is = ap (first tag.Header) own_children ∙ header_found master.header master.footer

  footer_is : head_of tag.Footer (master_read master) ≡ read_part footer_name master.footer
  footer_is = ap (first tag.Footer) own_children ∙ footer_found master.header master.footer

  header_read_back : head_paragraphs names tag.Header (master_read master) ≡ master.header
  header_read_back = ap (λ (header : Option Element). flat_map made (option_to_list header)) header_is ∙ part_back names header_name master.header is.header is.header_few

  footer_read_back : head_paragraphs names tag.Footer (master_read master) ≡ master.footer
  footer_read_back = ap (λ (footer : Option Element). flat_map made (option_to_list footer)) footer_is ∙ part_back names footer_name master.footer is.footer is.footer_few

  all_good : Each (IsGood (master_rules names)) (slots master)
  all_good = ((ap is_some (name_back master.name is.name.0 is.name.1), tt), (reference_good (reference names.layouts) master.layout is.layout, (reference_good (reference names.masters) master.next is.next, tt)))

  -- what is left out, by what is found
  abbrev left_with : Left → Option Element → Option Element → List Element → Left
  left_with attributes header footer inner =
      all_of (attributes ∷ all_but (length (option_to_list header) + length (option_to_list footer)) inner ∷ all_of (map (header_left names) (option_to_list header ++ option_to_list footer)) ∷ [])

  none_is_left : master_left names (master_read master) ≡ nothing
  none_is_left =
      ap₂ (λ (attributes : Left) (inner : List Element). left_with attributes (head_of tag.Header (master_read master)) (head_of tag.Footer (master_read master)) inner)
      (ap only_attributes (ap (attributes_left (master_rules names)) own_attributes ∙ none_stated (master_rules names) (slots master) all_good)) own_children
      ∙ ap₂ (λ (header footer : Option Element). left_with nothing header footer (heads_held master.header master.footer)) header_is footer_is
      ∙ ap₂ (λ (counted lefts : Left). all_of (nothing ∷ counted ∷ lefts ∷ [])) (all_counted master.header master.footer)
      (none_left names master.header master.footer is.header is.header_few is.footer is.footer_few)

  pub master_back : IsMasterBack names master
  master_back = record {
    name = name_stated;
    value = λ i. record {
      name = master.name;
      layout = referred key.Layout names.layouts master.layout refl is.layout i;
      next = referred key.Next names.masters master.next refl is.next i;
      header = header_read_back i;
      footer = footer_read_back i;
    };
    left = none_is_left;
  }
