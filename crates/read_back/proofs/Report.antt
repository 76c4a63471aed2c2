-- Nothing is left out of such a tree.
use Rattle.std.proofs.Common.{◌≡◌, Bool, true, false, List, [], ◌∷◌, ◌++◌, map, codes, refl, sym, ap, ap₂, ◌∙◌, Option, option_to_list}
use Rattle.markup_nodes.specs.declared.words.Attr.{Attr}
use Rattle.markup_nodes.specs.declared.tree.Elem.{Elem}
use Rattle.markup_nodes.specs.Node.{Node, Element}
use Rattle.doc_model.specs.declared.document.Document.{Document}
use Rattle.doc_model.specs.declared.report.Report.{Report}
use Rattle.doc_model.specs.Valid.{IsValid}
use Rattle.load_model.specs.declared.names.Key.{Key}
use Rattle.load_model.specs.declared.names.Key.TheVariants as key
use Rattle.load_model.specs.declared.element.Attribute.{Attribute}
use Rattle.load_model.specs.declared.element.Element.{Element as Read}
use Rattle.load_model.specs.declared.element.Element.TheOpen.{Element-F}
use Rattle.load_model.specs.declared.element.Element.TheViews.{out-roll-Element}
use Rattle.load_model.specs.Blocks.{ReadBlocks, left_by}
use Rattle.load_model.specs.Left.{Left, all_of, attributes_of, nothing}
use Rattle.load_model.specs.Loaded.{body_left, counted, declarations_left, left_of, report_of, text_left, text_of}
use Rattle.load_model.specs.Headers.{masters_left}
use Rattle.load_model.specs.Styles.{names_of, style_parts_left}
use Rattle.load_model.specs.Values as value
use Rattle.load_model.specs.Values.{rule}
use Rattle.written_model.specs.Blocks.{block_element}
use Rattle.written_model.specs.Elements.{where_true}
use Rattle.written_model.specs.Written.{sequence_declarations, variable_declarations, written}
use Rattle.back_fields.proofs.Attributes.{at}
use Rattle.back_names.specs.Named.{named, named_attribute, named_node, placeless, tag_named}
use Rattle.back_names.proofs.Parts.{elem_of, named_of}
use Rattle.back_offences.proofs.Root.{file_is, text_is}
use Rattle.back_parts.specs.Parts.{AreBack}
use Rattle.back_parts.proofs.Keys.{global_key}
use Rattle.back_sheet_places.proofs.Bare.{attributes_bare}
use Rattle.back_valid.specs.Found.{AreNamesOf}
use Rattle.read_back.specs.Back.{HasRanges}
use Rattle.read_back.proofs.Text.{declarations_whole, read_back}
use Rattle.read_back.proofs.Tree.{heads_whole, held_whole, inner_whole, own_whole, sheets_whole}

-- whether the text is a master document's
global_whole : (global : Bool) → left_by (rule key.Global value.truth ∷ []) (map named_attribute (where_true (codes "text:global") (codes "true") global)) ≡ nothing
global_whole false = refl
global_whole true = ap (λ (which : Key). left_by (rule key.Global value.truth ∷ []) (at which (codes "true") ∷ [])) global_key

module _ (doc : Document) (root : Read) (valid : IsValid doc) (ranges : HasRanges doc) (back : AreBack doc) (same : placeless root ≡ named (written doc)) (are : AreNamesOf doc (names_of root)) where
  abbrev text : Read
  text = (file_is doc root same).text

  attributes_are : attributes_of text ≡ map named_attribute (where_true (codes "text:global") (codes "true") doc.global)
  attributes_are =
      let of_text : placeless text ≡ named (elem_of 0 (codes "office:text") attrs nodes) = by_element (placeless text) (named (elem_of 0 (codes "office:text") attrs nodes)) (file_is doc root same).written_so in
      sym (attributes_bare text) ∙ ap attributes_of (of_text ∙ named_of 0 (codes "office:text") attrs nodes)
      ∙ ap (λ (x : Element-F Read). x.attributes) (out-roll-Element (record { place = 0; tag = tag_named (codes "office:text"); attributes = map named_attribute attrs; nodes = map named_node nodes }))
    where
      attrs : List Attr
      attrs = where_true (codes "text:global") (codes "true") doc.global

      nodes : List (Node Elem)
      nodes = variable_declarations doc.variables ++ sequence_declarations doc.sequences ++ map block_element doc.body

      by_element : (one other : Read) → Element one ≡ Element other → one ≡ other
      by_element one other e = cc

  own_left : all_of (map (λ (one : Read). left_by (rule key.Global value.truth ∷ []) (attributes_of one)) (option_to_list (text_of root))) ≡ nothing
  own_left =
      ap (λ (found : Option Read). all_of (map (λ (one : Read). left_by (rule key.Global value.truth ∷ []) (attributes_of one)) (option_to_list found))) (text_is doc root same)
      ∙ ap (λ (attributes : List Attribute). all_of (left_by (rule key.Global value.truth ∷ []) attributes ∷ [])) attributes_are
      ∙ ap (λ (left : Left). all_of (left ∷ [])) (global_whole doc.global)

  text_whole : text_left root ≡ nothing
  text_whole =
      ap₂ (λ (own read : Left). all_of (own ∷ read ∷ declarations_left root ∷ [])) own_left (ap (λ (read : ReadBlocks). read.left) (read_back doc root valid ranges same are))
      ∙ ap (λ (left : Left). all_of (nothing ∷ nothing ∷ left ∷ [])) (declarations_whole doc root valid ranges same are)

  whole : left_of root ≡ nothing
  whole =
      ap₂ (λ (own held : Left). all_of (own ∷ held ∷ style_parts_left (names_of root) root ∷ masters_left (names_of root) root ∷ body_left root ∷ text_left root ∷ [])) (own_whole doc root valid back same) (held_whole doc root valid back same)
      ∙ ap₂ (λ (sheets heads : Left). all_of (nothing ∷ nothing ∷ sheets ∷ heads ∷ body_left root ∷ text_left root ∷ [])) (sheets_whole doc root valid back same) (heads_whole doc root valid back same)
      ∙ ap₂ (λ (inner text : Left). all_of (nothing ∷ nothing ∷ nothing ∷ nothing ∷ inner ∷ text ∷ [])) (inner_whole doc root valid back same) text_whole

  abbrev report_by : Left → Report
  report_by left = record { elements = counted left.elements; attributes = counted left.attributes; sources = 0 }

  pub report_is : report_of root ≡ record { elements = 0; attributes = 0; sources = 0 }
  report_is = ap report_by whole
