-- The root of a written document may be written.
use Rattle.std.proofs.Common.{◌≡◌, ℕ, ◌≤◌, Bool, true, false, cond, not, List, [], ◌∷◌, ◌++◌, map, filter, codes, refl, arith}
use Rattle.std.specs.List.{AllByRecursion as Each}
use Rattle.markup_nodes.specs.declared.words.Attr.{Attr}
use Rattle.markup_nodes.specs.declared.tree.Elem.{Elem}
use Rattle.markup_nodes.specs.Node.{Node}
use Rattle.markup_parts.specs.Chars.{is_legal, is_name_start, is_name_char}
use Rattle.doc_model.specs.declared.document.Document.{Document}
use Rattle.doc_model.specs.declared.list_style.ListStyle.{ListStyle}
use Rattle.doc_model.specs.declared.page_layout.HeadPar.{HeadPar}
use Rattle.doc_model.specs.declared.page_layout.Master.{Master}
use Rattle.doc_model.specs.declared.style.Style.{Style}
use Rattle.doc_model.specs.Parts.{names_of_style}
use Rattle.doc_model.specs.Valid.{AreLevels, IsLevel, IsOfHeader, IsValid}
use Rattle.tree_text.specs.Writing.{is_writable, height}
use Rattle.written_model.specs.Blocks.{block_element}
use Rattle.written_model.specs.Elements.{attribute, where_true, element, empty_element}
use Rattle.written_model.specs.Styles.{style_element, default_style, list_style_element, outline_style, layout_element, master_element, styles_part, automatic_part, masters_part}
use Rattle.written_model.specs.Written.{namespaces, mimetype, variable_declarations, sequence_declarations, text_element, written}
use Rattle.back_writable.proofs.Blocks.{body_fits}
use Rattle.back_writable.proofs.Chars.{AreLegal}
use Rattle.back_writable.proofs.Legal.{names_legal}
use Rattle.back_writable.proofs.Lists.{each_append, each_joined, each_made, each_part}
use Rattle.back_writable.proofs.Masters.{master_fits, names_of_master}
use Rattle.back_writable.proofs.Nodes.{Fits, AreFit, IsGood, AreGood, attribute_good, true_good, elem_fits, element_fits, empty_fits, part_fits, all_looser}
use Rattle.back_writable.proofs.Sheets.{style_fits, default_fits, list_fits, outline_fits, layout_fits}
use Rattle.back_writable.proofs.Valid.{pars_good}

-- what holds of all holds of those that are kept
each_kept : {X : Type 0} (P : X → Type 0) (test : X → Bool) (xs : List X) → Each P xs → Each P (filter test xs)
each_kept P test [] each = tt
each_kept P test (x ∷ xs) each = by_test (each_kept P test xs each.1) (test x) where
  by_test : Each P (filter test xs) → (kept : Bool) → Each P (cond kept (x ∷ filter test xs) (filter test xs))
  by_test more true = (each.0, more)
  by_test more false = more

module _ (doc : Document) (valid : IsValid doc) where
  styles_fit : (test : Style → Bool) → AreFit 2 (map style_element (filter test doc.styles))
  styles_fit test =
      each_made (λ style. Each AreLegal (names_of_style style)) (Fits 2) style_element (style_fits 0) (filter test doc.styles)
      (each_kept (λ style. Each AreLegal (names_of_style style)) test doc.styles (names_legal doc valid).styles)

  abbrev IsGoodList : ListStyle → Type 0
  IsGoodList list = AreLegal list.name × Each IsLevel list.levels

  lists_fit : AreFit 2 (map list_style_element doc.lists)
  lists_fit =
      each_made IsGoodList (Fits 2) list_style_element (λ list good. list_fits 0 list good.0 good.1) doc.lists
      (each_joined (λ (list : ListStyle). AreLegal list.name) (λ (list : ListStyle). AreLevels list.levels) IsGoodList (λ list named levels. (named, levels.0)) doc.lists (names_legal doc valid).lists valid.lists)

  styles_part_fits : AreFit 3 (styles_part doc)
  unfolding is_name_start is_name_char
  styles_part_fits =
      let common : List (Node Elem) = map style_element (filter (λ (style : Style). not style.auto) doc.styles) in
      part_fits 2 (codes "office:styles") (default_style doc.defaults ++ common ++ outline_style doc.outline ++ map list_style_element doc.lists) refl
      (each_append (Fits 2) (default_style doc.defaults ++ common ++ outline_style doc.outline) (map list_style_element doc.lists)
      (each_append (Fits 2) (default_style doc.defaults ++ common) (outline_style doc.outline)
      (each_append (Fits 2) (default_style doc.defaults) common (default_fits 0 doc.defaults) (styles_fit (λ (style : Style). not style.auto)))
      (outline_fits 0 doc.outline valid.outline.1.0)) lists_fit)

  automatic_part_fits : AreFit 3 (automatic_part doc)
  unfolding is_name_start is_name_char
  automatic_part_fits =
      let automatic : List (Node Elem) = map style_element (filter (λ (style : Style). style.auto) doc.styles) in
      part_fits 2 (codes "office:automatic-styles") (automatic ++ map layout_element doc.layouts) refl
      (each_append (Fits 2) automatic (map layout_element doc.layouts) (styles_fit (λ (style : Style). style.auto))
      (each_made (λ layout. AreLegal layout.name) (Fits 2) layout_element (layout_fits 0) doc.layouts (names_legal doc valid).layouts))

  abbrev IsGoodMaster : Master → Type 0
  IsGoodMaster master = Each AreLegal (names_of_master master) × Each (λ (par : HeadPar). Each IsOfHeader par.items) (master.header ++ master.footer)

  masters_part_fits : AreFit 13 (masters_part doc)
  unfolding is_name_start is_name_char
  masters_part_fits =
      part_fits 12 (codes "office:master-styles") (map master_element doc.masters) refl
      (each_made IsGoodMaster (Fits 12) master_element (λ master good. master_fits master good.0 good.1) doc.masters
      (each_joined (λ master. Each AreLegal (names_of_master master)) (λ (master : Master). Each (λ (par : HeadPar). Each IsOfHeader par.items) (master.header ++ master.footer)) IsGoodMaster (λ master legal items. (legal, items)) doc.masters
      (names_legal doc valid).masters (each_part (λ (par : HeadPar). Each IsOfHeader par.items) (λ (master : Master). master.header ++ master.footer) doc.masters valid.header_items)))

  -- declarations
  abbrev variable_element : List ℕ → Node Elem
  variable_element name = empty_element (codes "text:variable-decl") (attribute (codes "office:value-type") (codes "string") ∷ attribute (codes "text:name") name ∷ [])

  abbrev sequence_element : List ℕ → Node Elem
  sequence_element name = empty_element (codes "text:sequence-decl") (attribute (codes "text:display-outline-level") (codes "0") ∷ attribute (codes "text:name") name ∷ [])

  variables_fit : AreFit 2 (variable_declarations doc.variables)
  unfolding is_name_start is_name_char is_legal
  variables_fit =
      part_fits 1 (codes "text:variable-decls") (map variable_element doc.variables) refl
      (each_made AreLegal (Fits 1) variable_element
      (λ name legal. empty_fits 0 (codes "text:variable-decl") _ refl (attribute_good (codes "office:value-type") (codes "string") refl refl, (attribute_good (codes "text:name") name refl legal, tt))) doc.variables (names_legal doc valid).variables)

  sequences_fit : AreFit 2 (sequence_declarations doc.sequences)
  unfolding is_name_start is_name_char is_legal
  sequences_fit =
      part_fits 1 (codes "text:sequence-decls") (map sequence_element doc.sequences) refl
      (each_made AreLegal (Fits 1) sequence_element
      (λ name legal. empty_fits 0 (codes "text:sequence-decl") _ refl (attribute_good (codes "text:display-outline-level") (codes "0") refl refl, (attribute_good (codes "text:name") name refl legal, tt))) doc.sequences (names_legal doc valid).sequences)

  text_fits : Fits 94 (text_element doc)
  unfolding is_name_start is_name_char is_legal
  text_fits =
      let variables : List (Node Elem) = variable_declarations doc.variables in
      let sequences : List (Node Elem) = sequence_declarations doc.sequences in
      let blocks : List (Node Elem) = map block_element doc.body in
      element_fits 93 (codes "office:text") (where_true (codes "text:global") (codes "true") doc.global) (variables ++ sequences ++ blocks) refl (true_good (codes "text:global") (codes "true") doc.global refl refl)
      (each_append (Fits 93) (variables ++ sequences) blocks
      (each_append (Fits 93) variables sequences (all_looser 2 93 (omega arith) variables variables_fit) (all_looser 2 93 (omega arith) sequences sequences_fit))
      (body_fits doc.body valid.limits.1.1.1.1.0 (pars_good doc valid) (names_legal doc valid).sections))

  -- the root
  mimetype_legal : (global : Bool) → AreLegal (mimetype global)
  unfolding is_legal
  mimetype_legal true = refl
  mimetype_legal false = refl

  namespaces_good : AreGood namespaces
  unfolding is_name_start is_name_char is_legal
  namespaces_good = (refl, (refl, (refl, (refl, (refl, (refl, tt))))))

  abbrev root_nodes : List (Node Elem)
  root_nodes = styles_part doc ++ automatic_part doc ++ masters_part doc ++ element (codes "office:body") [] (text_element doc ∷ []) ∷ []

  nodes_fit : AreFit 95 root_nodes
  unfolding is_name_start is_name_char
  nodes_fit =
      let body : List (Node Elem) = element (codes "office:body") [] (text_element doc ∷ []) ∷ [] in
      each_append (Fits 95) (styles_part doc ++ automatic_part doc ++ masters_part doc) body
      (each_append (Fits 95) (styles_part doc ++ automatic_part doc) (masters_part doc)
      (each_append (Fits 95) (styles_part doc) (automatic_part doc) (all_looser 3 95 (omega arith) (styles_part doc) styles_part_fits) (all_looser 3 95 (omega arith) (automatic_part doc) automatic_part_fits))
      (all_looser 13 95 (omega arith) (masters_part doc) masters_part_fits))
      (element_fits 94 (codes "office:body") [] (text_element doc ∷ []) refl tt (text_fits, tt), tt)

  root_fits : (is_writable (written doc) ≡ true) × (height (written doc) ≤ 96)
  unfolding is_name_start is_name_char is_legal
  root_fits =
      let attrs : List Attr = namespaces ++ attribute (codes "office:version") (codes "1.3") ∷ attribute (codes "office:mimetype") (mimetype doc.global) ∷ [] in
      elem_fits 95 (codes "office:document") attrs root_nodes refl
      (each_append IsGood namespaces (attribute (codes "office:version") (codes "1.3") ∷ attribute (codes "office:mimetype") (mimetype doc.global) ∷ []) namespaces_good
      (attribute_good (codes "office:version") (codes "1.3") refl refl, (attribute_good (codes "office:mimetype") (mimetype doc.global) refl (mimetype_legal doc.global), tt))) nodes_fit

pub written_fits : (doc : Document) → IsValid doc → (is_writable (written doc) ≡ true) × (height (written doc) ≤ 200)
written_fits doc valid = let fits = root_fits doc valid in (fits.0, omega (arith, fits.1))
