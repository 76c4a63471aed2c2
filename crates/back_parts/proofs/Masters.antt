-- The masters of a valid document are read back.
use Rattle.std.proofs.Common.{◌≡◌, ℕ, List, [], ◌∷◌, map, length, codes, refl, sym, ap, ap₂, ◌∙◌, Option, option_to_list}
use Rattle.std.specs.List.{flat_map}
use Rattle.markup_nodes.specs.declared.tree.Elem.{Elem}
use Rattle.markup_nodes.specs.Node.{Node}
use Rattle.doc_model.specs.declared.document.Document.{Document}
use Rattle.doc_model.specs.declared.page_layout.Master.{Master}
use Rattle.doc_model.specs.Valid.{IsValid}
use Rattle.load_model.specs.declared.names.Tag.TheVariants as tag
use Rattle.load_model.specs.declared.element.Attribute.{Attribute}
use Rattle.load_model.specs.declared.element.Element.{Element}
use Rattle.load_model.specs.Blocks.{left_by}
use Rattle.load_model.specs.Headers.{masters, master_left, masters_left}
use Rattle.load_model.specs.Left.{Left, nothing, both, all_of, all_but, attributes_of, children, first}
use Rattle.load_model.specs.Styles.{Names, name_of, names_of, kept_masters}
use Rattle.back_styles.specs.Shown.{held_of}
use Rattle.back_styles.proofs.Parts.{attributes_shown, children_shown}
use Rattle.tree_places.proofs.Within.{each_weaker}
use Rattle.back_masters.specs.Masters.{IsMasterBack, master_read, master_of}
use Rattle.back_parts.specs.Parts.{AreBack, root_read, names_in}
use Rattle.back_parts.proofs.Files.{master_nodes, part_of, masters_found, all_counted}
use Rattle.back_parts.proofs.Kept.{masters_held}
use Rattle.back_parts.proofs.Lists.{all_read, map_same, none_left}
use Rattle.back_parts.proofs.Names.{names_back, masters_kept}

master_alone : (names : Names) (master : Master) → IsMasterBack names master → map (master_of names (master_read master)) (option_to_list (name_of (master_read master))) ≡ master ∷ []
master_alone names master back = ap (λ (text : Option (List ℕ)). map (master_of names (master_read master)) (option_to_list text)) back.name ∙ ap (λ (one : Master). one ∷ []) back.value

-- what is left out of the part itself, of which so many elements are read
abbrev part_left : ℕ → Element → Left
part_left count part = both (left_by [] (attributes_of part)) (all_but count (children part))

part_whole : (name : List ℕ) (nodes : List (Node Elem)) (count : ℕ) → count ≡ length (held_of nodes) → all_of (map (part_left count) (option_to_list (part_of name nodes))) ≡ nothing
part_whole name [] count e = refl
part_whole name (node ∷ nodes) count e =
    ap₂ (λ (attributes : List Attribute) (inner : List Element). all_of (both (left_by [] attributes) (all_but count inner) ∷ [])) (attributes_shown name [] (node ∷ nodes)) (children_shown name [] (node ∷ nodes))
    ∙ ap (λ (left : Left). all_of (both nothing left ∷ [])) (all_counted count (held_of (node ∷ nodes)) e)

module _ (doc : Document) (valid : IsValid doc) (back : AreBack doc) where
  abbrev names : Names
  names = names_in doc

  masters_in : masters names (root_read doc) ≡ doc.masters
  masters_in =
      ap (flat_map (λ (one : Element). map (master_of names one) (option_to_list (name_of one)))) (masters_kept doc valid)
      ∙ all_read master_read (λ (one : Element). map (master_of names one) (option_to_list (name_of one))) (λ master. master) doc.masters
      (each_weaker (IsMasterBack names) (λ master. map (master_of names (master_read master)) (option_to_list (name_of (master_read master))) ≡ master ∷ []) (master_alone names) doc.masters back.masters)
      ∙ map_same doc.masters

  pub masters_back : masters (names_of (root_read doc)) (root_read doc) ≡ doc.masters
  masters_back = ap (λ (given : Names). masters given (root_read doc)) (names_back doc valid) ∙ masters_in

  left_in : masters_left names (root_read doc) ≡ nothing
  left_in = ap₂ both own_whole each_whole where
    counted : length (kept_masters (root_read doc)) ≡ length (held_of (master_nodes doc))
    counted = ap length (masters_kept doc valid) ∙ sym (ap length (masters_held doc.masters))

    own_whole : all_of (map (part_left (length (kept_masters (root_read doc)))) (option_to_list (first tag.MasterStyles (children (root_read doc))))) ≡ nothing
    own_whole =
        ap (λ (part : Option Element). all_of (map (part_left (length (kept_masters (root_read doc)))) (option_to_list part))) (masters_found doc)
        ∙ part_whole (codes "office:master-styles") (master_nodes doc) (length (kept_masters (root_read doc))) counted

    each_whole : all_of (map (master_left names) (kept_masters (root_read doc))) ≡ nothing
    each_whole =
        ap (λ (kept : List Element). all_of (map (master_left names) kept)) (masters_kept doc valid)
        ∙ none_left master_read (master_left names) doc.masters (each_weaker (IsMasterBack names) (λ master. master_left names (master_read master) ≡ nothing) (λ master one. one.left) doc.masters back.masters)

  pub masters_whole : masters_left (names_of (root_read doc)) (root_read doc) ≡ nothing
  masters_whole = ap (λ (given : Names). masters_left given (root_read doc)) (names_back doc valid) ∙ left_in
