-- The names that the style parts and masters of a valid document give.
use Rattle.std.proofs.Common.{◌≡◌, ◌≢◌, ℕ, List, [], ◌∷◌, map, codes, filter_map, refl, ap, ap₂, ◌∙◌, Option, Some, option_to_list}
use Rattle.std.specs.List.{flat_map}
use Rattle.std.specs.Option.{option_map_or}
use Rattle.markup_nodes.specs.declared.tree.Elem.{Elem}
use Rattle.markup_nodes.specs.Node.{Node}
use Rattle.doc_model.specs.declared.document.Document.{Document}
use Rattle.doc_model.specs.declared.style.Family.{Family}
use Rattle.doc_model.specs.declared.style.Style.{Style}
use Rattle.doc_model.specs.declared.list_style.ListStyle.{ListStyle}
use Rattle.doc_model.specs.declared.page_layout.PageLayout.{PageLayout}
use Rattle.doc_model.specs.declared.page_layout.Master.{Master}
use Rattle.doc_model.specs.Valid.{IsValid}
use Rattle.load_model.specs.declared.names.Tag.TheVariants as tag
use Rattle.load_model.specs.declared.element.Element.{Element}
use Rattle.load_model.specs.Left.{children, is}
use Rattle.load_model.specs.Styles.{InPart, style_name, name_of, named, kept_styles, kept_lists, kept_layouts, kept_masters, names_of}
use Rattle.back_fields.specs.Fit.{IsName}
use Rattle.back_styles.specs.Shown.{held_of}
use Rattle.back_styles.specs.Styles.{style_read}
use Rattle.back_styles.proofs.Parts.{children_shown}
use Rattle.back_sheets.specs.Layouts.{layout_read}
use Rattle.back_lists.specs.Lists.{list_read}
use Rattle.tree_places.proofs.Within.{pairs_of, each_weaker}
use Rattle.back_masters.specs.Masters.{master_read}
use Rattle.back_parts.specs.Parts.{root_read, names_in}
use Rattle.back_parts.proofs.Files.{master_nodes, part_of, masters_found}
use Rattle.back_parts.proofs.Kept.{masters_held, own_part, styles_kept, lists_kept, layouts_kept, named_alone}
use Rattle.back_parts.proofs.Lists.{all_read, all_kept, pairs_of_made}
use Rattle.back_parts.proofs.Named.{AreNamed, names_given}
use Rattle.back_parts.proofs.Tags.{master_tagged, style_named, list_named, layout_named, master_named, family_named}

-- the name of a style with its family
pub style_name_is : (style : Style) → IsName style.name → style_name (style_read style) ≡ (record { family = style.family; name = style.name }) ∷ []
style_name_is style is =
    ap₂ (λ (own : Option Family) (text : Option (List ℕ)). flat_map (λ of. map (λ name. record { family = of; name = name }) (option_to_list text)) (option_to_list own)) (family_named style) (style_named style is)

-- what the part of masters holds
held_by_part : (name : List ℕ) (nodes : List (Node Elem)) → option_map_or children (part_of name nodes) [] ≡ held_of nodes
held_by_part name [] = refl
held_by_part name (node ∷ nodes) = children_shown name [] (node ∷ nodes)

module _ (doc : Document) (valid : IsValid doc) where
  abbrev given : AreNamed doc
  given = names_given doc valid

  pub masters_kept : kept_masters (root_read doc) ≡ map master_read doc.masters
  masters_kept =
      ap (λ (part : Option Element). named (is tag.MasterPage) (option_map_or children part [])) (masters_found doc)
      ∙ ap (named (is tag.MasterPage)) (held_by_part (codes "office:master-styles") (master_nodes doc) ∙ masters_held doc.masters)
      ∙ named_alone master_read (λ (master : Master). master.name) tag.MasterPage refl master_tagged doc.masters
      (each_weaker (λ (master : Master). IsName master.name) (λ master. name_of (master_read master) ≡ Some master.name) master_named doc.masters given.masters)
      (pairs_of_made (λ left right. left ≢ right) (λ (master : Master). master.name) doc.masters (pairs_of (λ left right. left ≢ right) (map (λ (master : Master). master.name) doc.masters) valid.master_names.1))

  pub names_back : names_of (root_read doc) ≡ names_in doc
  names_back = λ i. record {
    styles = of_styles i;
    lists = of_lists i;
    layouts = of_layouts i;
    masters = of_masters i;
  } where
    of_styles : flat_map (λ (in_part : InPart). style_name in_part.element) (kept_styles (root_read doc)) ≡ map (λ style. record { family = style.family; name = style.name }) doc.styles
    of_styles =
        ap (flat_map (λ (in_part : InPart). style_name in_part.element)) (styles_kept doc valid given)
        ∙ all_read own_part (λ in_part. style_name in_part.element) (λ style. record { family = style.family; name = style.name }) doc.styles
        (each_weaker (λ (style : Style). IsName style.name) (λ style. style_name (style_read style) ≡ (record { family = style.family; name = style.name }) ∷ []) style_name_is doc.styles given.styles)

    of_lists : filter_map name_of (kept_lists (root_read doc)) ≡ map (λ list. list.name) doc.lists
    of_lists =
        ap (filter_map name_of) (lists_kept doc valid given)
        ∙ all_kept list_read name_of (λ list. list.name) doc.lists (each_weaker (λ (list : ListStyle). IsName list.name) (λ list. name_of (list_read list) ≡ Some list.name) list_named doc.lists given.lists)

    of_layouts : filter_map name_of (kept_layouts (root_read doc)) ≡ map (λ layout. layout.name) doc.layouts
    of_layouts =
        ap (filter_map name_of) (layouts_kept doc valid given)
        ∙ all_kept layout_read name_of (λ layout. layout.name) doc.layouts (each_weaker (λ (layout : PageLayout). IsName layout.name) (λ layout. name_of (layout_read layout) ≡ Some layout.name) layout_named doc.layouts given.layouts)

    of_masters : filter_map name_of (kept_masters (root_read doc)) ≡ map (λ master. master.name) doc.masters
    of_masters =
        ap (filter_map name_of) masters_kept
        ∙ all_kept master_read name_of (λ master. master.name) doc.masters (each_weaker (λ (master : Master). IsName master.name) (λ master. name_of (master_read master) ≡ Some master.name) master_named doc.masters given.masters)
