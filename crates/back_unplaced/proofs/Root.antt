-- The root of a written document has no places.
use Rattle.std.proofs.Common.{◌≡◌, List, [], ◌∷◌, ◌++◌, codes, ap, ◌∙◌}
use Rattle.markup_nodes.specs.declared.tree.Elem.{Elem}
use Rattle.markup_nodes.specs.Node.{Node}
use Rattle.doc_model.specs.declared.document.Document.{Document}
use Rattle.tree_text.specs.Writing.{unplaced}
use Rattle.written_model.specs.Elements.{element}
use Rattle.written_model.specs.Styles.{styles_part, automatic_part, masters_part}
use Rattle.written_model.specs.Written.{text_element, written}
use Rattle.back_names.proofs.Parts.{elem_of, unplaced_of}
use Rattle.back_unplaced.proofs.Nodes.{AreStill, element_still, one_still, both_still}
use Rattle.back_unplaced.proofs.Sheets.{styles_part_still, automatic_part_still, masters_part_still}
use Rattle.back_unplaced.proofs.Text.{text_still}

pub written_still : (doc : Document) → unplaced (written doc) ≡ written doc
written_still doc = unplaced_of 0 (codes "office:document") _ nodes ∙ ap (elem_of 0 (codes "office:document") _) still where
  body : List (Node Elem)
  body = element (codes "office:body") [] (text_element doc ∷ []) ∷ []

  nodes : List (Node Elem)
  nodes = styles_part doc ++ automatic_part doc ++ masters_part doc ++ body

  still : AreStill nodes
  still =
      both_still (styles_part doc ++ automatic_part doc ++ masters_part doc) body
      (both_still (styles_part doc ++ automatic_part doc) (masters_part doc) (both_still (styles_part doc) (automatic_part doc) (styles_part_still doc) (automatic_part_still doc)) (masters_part_still doc))
      (one_still _ (element_still (codes "office:body") [] (text_element doc ∷ []) (one_still (text_element doc) (text_still doc))))
