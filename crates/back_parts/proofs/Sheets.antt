-- The styles, list styles and layouts of a valid document are read back.
use Rattle.std.proofs.Common.{◌≡◌, ℕ, ◌+◌, not, false, List, [], ◌∷◌, ◌++◌, map, filter, length, codes, sym, ap, ap₂, ◌∙◌, arith, Option, option_to_list}
use Rattle.std.specs.List.{flat_map, AllByRecursion as Each}
use Rattle.std.specs.Option.{option_map_or}
use Rattle.std.proofs.lemmas.List.{map-append, length-append}
use Rattle.std.proofs.lemmas.Grind.{flat_map-append}
use Rattle.markup_nodes.specs.declared.tree.Elem.{Elem}
use Rattle.markup_nodes.specs.Node.{Node}
use Rattle.doc_model.specs.declared.document.Document.{Document}
use Rattle.doc_model.specs.declared.style.Family.{Family}
use Rattle.doc_model.specs.declared.style.Family.TheVariants as family
use Rattle.doc_model.specs.declared.style.Style.{Style}
use Rattle.doc_model.specs.declared.list_style.ListStyle.{ListStyle}
use Rattle.doc_model.specs.declared.page_layout.PageLayout.{PageLayout}
use Rattle.doc_model.specs.Empty.{unstated}
use Rattle.doc_model.specs.Valid.{IsValid}
use Rattle.load_model.specs.declared.names.Tag.TheVariants as tag
use Rattle.load_model.specs.declared.element.Attribute.{Attribute}
use Rattle.load_model.specs.declared.element.Element.{Element}
use Rattle.load_model.specs.Left.{Left, nothing, only_attributes, all_of, attributes_of, is}
use Rattle.load_model.specs.Styles.{InPart, Names, StyleName, in_parts, style_parts, style_in, style_of, style_left, styles, style_properties, defaults, default_left, is_level, levels, list_styles, list_left, outline, outline_left, layout_part, layout_of, part_attributes, layouts, layout_left, kept_styles, kept_default, kept_outline, kept_lists, kept_layouts, name_of, names_of, read_in_parts, style_parts_left}
use Rattle.load_model.specs.Values.{attributes_left}
use Rattle.written_model.specs.Elements.{part}
use Rattle.back_styles.specs.Shown.{held_of}
use Rattle.back_styles.specs.Styles.{IsStyleBack, style_read}
use Rattle.back_styles.proofs.Parts.{attributes_shown}
use Rattle.back_sheets.specs.Layouts.{IsLayoutBack, layout_read}
use Rattle.back_lists.specs.Lists.{IsListBack, list_read}
use Rattle.tree_places.proofs.Within.{pairs_of, each_weaker}
use Rattle.back_parts.specs.Parts.{AreBack, root_read, names_in}
use Rattle.back_parts.proofs.Files.{common_nodes, automatic_nodes, master_nodes, body_read, body_tagged, root_children, all_counted}
use Rattle.back_parts.proofs.Kept.{six, common, automatic, d, s, o, l, a, p, elements_are, own_part, styles_kept, lists_kept, layouts_kept, default_kept, outline_kept}
use Rattle.back_parts.proofs.Lists.{all_read, map_same, length_made, none_left, all_nothing, each_both, filter_made, sorted}
use Rattle.back_parts.proofs.Named.{AreNamed, names_given}
use Rattle.back_parts.proofs.Names.{names_back}
use Rattle.back_parts.proofs.Root.{parts_are}
use Rattle.back_parts.proofs.Tags.{default_short, outline_short}

-- a style, list style or layout of its element
style_alone : (names : Names) (style : Style) → IsStyleBack names style → style_in names (own_part style) ≡ style ∷ []
style_alone names style back =
    ap₂ (λ (own : Option Family) (text : Option (List ℕ)). map (λ (one : StyleName). style_of names style.auto one.family one.name (style_read style))
    (flat_map (λ of. map (λ name. record { family = of; name = name }) (option_to_list text)) (option_to_list own))) back.family back.name
    ∙ ap (λ (one : Style). one ∷ []) back.value

list_alone : (list : ListStyle) → IsListBack list → map (λ name. record { name = name; levels = levels is_level (list_read list) }) (option_to_list (name_of (list_read list))) ≡ list ∷ []
list_alone list back = ap₂ (λ (text : Option (List ℕ)) (own : List _). map (λ name. record { name = name; levels = own }) (option_to_list text)) back.name back.value

layout_alone : (layout : PageLayout) → IsLayoutBack layout → map (λ name. layout_of name (part_attributes (layout_part (layout_read layout)))) (option_to_list (name_of (layout_read layout))) ≡ layout ∷ []
layout_alone layout back =
    ap (λ (text : Option (List ℕ)). map (λ name. layout_of name (part_attributes (layout_part (layout_read layout)))) (option_to_list text)) back.name
    ∙ ap (λ (one : PageLayout). one ∷ []) back.value

-- nothing is left out of a part's own attributes
abbrev own_left : Element → Left
own_left one = only_attributes (attributes_left [] (attributes_of one))

part_bare : (name : List ℕ) (nodes : List (Node Elem)) → Each (λ one. own_left one ≡ nothing) (held_of (part name nodes))
part_bare name [] = tt
part_bare name (node ∷ nodes) = (ap (λ (attributes : List Attribute). only_attributes (attributes_left [] attributes)) (attributes_shown name [] (node ∷ nodes)), tt)

-- how many elements there are of each kind
counts : (d s o l a p : List Element) (styles : ℕ) → styles ≡ length s + length a → styles + length d + length l + length o + length p ≡ length (six d s o l a p)
counts d s o l a p styles e =
    omega (arith, e, length-append (d ++ s ++ o ++ l) (a ++ p), length-append (d ++ s ++ o) l, length-append (d ++ s) o, length-append d s, length-append a p)

module _ (doc : Document) (valid : IsValid doc) (back : AreBack doc) where
  abbrev given : AreNamed doc
  given = names_given doc valid

  abbrev names : Names
  names = names_in doc

  in_order : common doc ++ automatic doc ≡ doc.styles
  in_order = sorted (λ (style : Style). style.auto) doc.styles (pairs_of (λ left right. right.auto ≡ false → left.auto ≡ false) doc.styles valid.styles_in_order)

  styles_in : styles (names_in doc) (root_read doc) ≡ doc.styles
  styles_in =
      ap (λ (kept : List InPart). flat_map (style_in names) (filter (λ (one : InPart). not one.auto) kept) ++ flat_map (style_in names) (filter (λ (one : InPart). one.auto) kept)) (styles_kept doc valid given)
      ∙ ap₂ (λ (front behind : List InPart). flat_map (style_in names) front ++ flat_map (style_in names) behind) (filter_made (λ (one : InPart). not one.auto) own_part doc.styles) (filter_made (λ (one : InPart). one.auto) own_part doc.styles)
      ∙ sym (flat_map-append (style_in names) (map own_part (common doc)) (map own_part (automatic doc)))
      ∙ ap (flat_map (style_in names)) (sym (map-append own_part (common doc) (automatic doc)) ∙ ap (map own_part) in_order)
      ∙ all_read own_part (style_in names) (λ style. style) doc.styles (each_weaker (IsStyleBack names) (λ style. style_in names (own_part style) ≡ style ∷ []) (style_alone names) doc.styles back.styles)
      ∙ map_same doc.styles

  pub styles_back : styles (names_of (root_read doc)) (root_read doc) ≡ doc.styles
  styles_back = ap (λ (names : Names). styles names (root_read doc)) (names_back doc valid) ∙ styles_in

  pub defaults_back : defaults (root_read doc) ≡ doc.defaults
  defaults_back = ap (λ (one : Option Element). option_map_or (style_properties family.Paragraph) one unstated) (default_kept doc valid given back.defaults.of_paragraphs) ∙ back.defaults.value

  pub lists_back : list_styles (root_read doc) ≡ doc.lists
  lists_back =
      ap (flat_map (λ (one : Element). map (λ name. record { name = name; levels = levels is_level one }) (option_to_list (name_of one)))) (lists_kept doc valid given)
      ∙ all_read list_read (λ (one : Element). map (λ name. record { name = name; levels = levels is_level one }) (option_to_list (name_of one))) (λ list. list) doc.lists
      (each_weaker IsListBack (λ list. map (λ name. record { name = name; levels = levels is_level (list_read list) }) (option_to_list (name_of (list_read list))) ≡ list ∷ []) list_alone doc.lists back.lists)
      ∙ map_same doc.lists

  pub outline_back : outline (root_read doc) ≡ doc.outline
  outline_back = λ i. record {
    name = sym back.outline.name i;
    levels = (ap (λ (one : Option Element). option_map_or (levels (is tag.OutlineLevel)) one []) (outline_kept doc valid given) ∙ back.outline.value) i;
  }

  pub layouts_back : layouts (root_read doc) ≡ doc.layouts
  layouts_back =
      ap (flat_map (λ (one : Element). map (λ name. layout_of name (part_attributes (layout_part one))) (option_to_list (name_of one)))) (layouts_kept doc valid given)
      ∙ all_read layout_read (λ (one : Element). map (λ name. layout_of name (part_attributes (layout_part one))) (option_to_list (name_of one))) (λ layout. layout) doc.layouts
      (each_weaker IsLayoutBack (λ layout. map (λ name. layout_of name (part_attributes (layout_part (layout_read layout)))) (option_to_list (name_of (layout_read layout))) ≡ layout ∷ []) layout_alone doc.layouts back.layouts)
      ∙ map_same doc.layouts

  -- nothing is left out
  parts_bare : all_of (map own_left (style_parts (root_read doc))) ≡ nothing
  parts_bare =
      ap (λ (parts : List Element). all_of (map own_left parts)) (parts_are (root_read doc) (common_nodes doc) (automatic_nodes doc) (master_nodes doc) (body_read doc) (body_tagged doc) (root_children doc))
      ∙ all_nothing own_left (held_of (part (codes "office:styles") (common_nodes doc)) ++ held_of (part (codes "office:automatic-styles") (automatic_nodes doc)))
      (each_both (λ one. own_left one ≡ nothing) (held_of (part (codes "office:styles") (common_nodes doc))) (held_of (part (codes "office:automatic-styles") (automatic_nodes doc)))
      (part_bare (codes "office:styles") (common_nodes doc)) (part_bare (codes "office:automatic-styles") (automatic_nodes doc)))

  elements_counted : read_in_parts (root_read doc) ≡ length (map (λ (in_part : InPart). in_part.element) (in_parts (root_read doc)))
  elements_counted =
      (λ i. length (styles_kept doc valid given i) + length (option_to_list (default_kept doc valid given back.defaults.of_paragraphs i)) + length (lists_kept doc valid given i)
      + length (option_to_list (outline_kept doc valid given i)) + length (layouts_kept doc valid given i))
      ∙ (λ i. length (map own_part doc.styles) + default_short doc.defaults i + length (l doc) + outline_short doc.outline i + length (p doc))
      ∙ counts (d doc) (s doc) (o doc) (l doc) (a doc) (p doc) (length (map own_part doc.styles)) styles_counted
      ∙ sym (ap length (elements_are doc))
    where
      styles_counted : length (map own_part doc.styles) ≡ length (s doc) + length (a doc)
      styles_counted =
          length_made own_part doc.styles ∙ sym (ap length in_order) ∙ length-append (common doc) (automatic doc)
          ∙ ap₂ (λ (n m : ℕ). n + m) (sym (length_made style_read (common doc))) (sym (length_made style_read (automatic doc)))

  left_in : style_parts_left (names_in doc) (root_read doc) ≡ nothing
  left_in =
      λ i. all_of (parts_bare i ∷ all_counted (read_in_parts (root_read doc)) (map (λ (in_part : InPart). in_part.element) (in_parts (root_read doc))) elements_counted i
      ∷ styles_whole i ∷ default_whole i ∷ lists_whole i ∷ outline_whole i ∷ layouts_whole i ∷ [])
    where
      styles_whole : all_of (map (λ (in_part : InPart). style_left (names_in doc) in_part.element) (kept_styles (root_read doc))) ≡ nothing
      styles_whole =
          ap (λ (kept : List InPart). all_of (map (λ (in_part : InPart). style_left (names_in doc) in_part.element) kept)) (styles_kept doc valid given)
          ∙ none_left own_part (λ (in_part : InPart). style_left (names_in doc) in_part.element) doc.styles
          (each_weaker (IsStyleBack (names_in doc)) (λ style. style_left (names_in doc) (style_read style) ≡ nothing) (λ style one. one.left) doc.styles back.styles)

      default_whole : all_of (map default_left (option_to_list (kept_default (root_read doc)))) ≡ nothing
      default_whole = ap (λ (one : Option Element). all_of (map default_left (option_to_list one))) (default_kept doc valid given back.defaults.of_paragraphs) ∙ back.defaults.left

      lists_whole : all_of (map list_left (kept_lists (root_read doc))) ≡ nothing
      lists_whole =
          ap (λ (kept : List Element). all_of (map list_left kept)) (lists_kept doc valid given)
          ∙ none_left list_read list_left doc.lists (each_weaker IsListBack (λ list. list_left (list_read list) ≡ nothing) (λ list one. one.left) doc.lists back.lists)

      outline_whole : all_of (map outline_left (option_to_list (kept_outline (root_read doc)))) ≡ nothing
      outline_whole = ap (λ (one : Option Element). all_of (map outline_left (option_to_list one))) (outline_kept doc valid given) ∙ back.outline.left

      layouts_whole : all_of (map layout_left (kept_layouts (root_read doc))) ≡ nothing
      layouts_whole =
          ap (λ (kept : List Element). all_of (map layout_left kept)) (layouts_kept doc valid given)
          ∙ none_left layout_read layout_left doc.layouts (each_weaker IsLayoutBack (λ layout. layout_left (layout_read layout) ≡ nothing) (λ layout one. one.left) doc.layouts back.layouts)

  pub sheets_left : style_parts_left (names_of (root_read doc)) (root_read doc) ≡ nothing
  sheets_left = ap (λ (names : Names). style_parts_left names (root_read doc)) (names_back doc valid) ∙ left_in
