-- The root of a written document.
use Rattle.std.proofs.Common.{◌≡◌, ℕ, Bool, false, cond, List, [], ◌∷◌, ◌++◌, map, refl, ap, ap₂, sym, ◌∙◌, codes}
use Rattle.std.specs.List.{list_all}
use Rattle.markup_nodes.specs.declared.words.Attr.{Attr}
use Rattle.markup_nodes.specs.declared.tree.Elem.{Elem, out-Elem}
use Rattle.markup_nodes.specs.declared.tree.Elem.TheOpen.{Elem-F}
use Rattle.markup_nodes.specs.declared.tree.Elem.TheViews.{out-roll-Elem}
use Rattle.markup_nodes.specs.Node.{Node}
use Rattle.load_model.specs.declared.element.Element.{Element as Read}
use Rattle.load_model.specs.Names.{Binding, bindings_within, has_bad_names, resolved, places_of_bad_names}
use Rattle.doc_model.specs.declared.document.Document.{Document}
use Rattle.tree_text.specs.Writing.{unplaced}
use Rattle.expanded_names.proofs.TreeLemmas.{read_node, read_of, resolved_out}
use Rattle.written_model.specs.Elements.{attribute, element}
use Rattle.written_model.specs.Styles.{styles_part, automatic_part, masters_part}
use Rattle.written_model.specs.Written.{namespaces, mimetype, text_element, written}
use Rattle.back_names.specs.Named.{bound, tag_named, key_named, named}
use Rattle.back_names.proofs.Parts.{alike, named_out}
use Rattle.back_names.proofs.Plain.{is_plain_node, own_places, bad_in, bad_out, nodes_back, alike_plain}
use Rattle.back_names.proofs.Rows.{no_rows}
use Rattle.back_names.proofs.PlainLists.{ArePlain, element_plain, one_plain, both_plain}
use Rattle.back_names.proofs.PlainSheets.{styles_plain, automatic_plain, masters_plain}
use Rattle.back_names.proofs.PlainBlocks.{text_plain}

-- its attributes and what it holds
abbrev pub root_attributes : Document → List Attr
root_attributes doc = namespaces ++ attribute (codes "office:version") (codes "1.3") ∷ attribute (codes "office:mimetype") (mimetype doc.global) ∷ []

abbrev pub root_nodes : Document → List (Node Elem)
root_nodes doc = styles_part doc ++ automatic_part doc ++ masters_part doc ++ element (codes "office:body") [] (text_element doc ∷ []) ∷ []

pub written_out : (doc : Document) → out-Elem (written doc) ≡ (record { place = 0; name = codes "office:document"; attrs = root_attributes doc; nodes = root_nodes doc })
written_out doc = out-roll-Elem (record { place = 0; name = codes "office:document"; attrs = root_attributes doc; nodes = root_nodes doc })

root_plain : (doc : Document) → ArePlain (root_nodes doc)
root_plain doc =
    let body = element (codes "office:body") [] (text_element doc ∷ []) in
    both_plain (styles_part doc ++ automatic_part doc ++ masters_part doc) (body ∷ [])
    (both_plain (styles_part doc ++ automatic_part doc) (masters_part doc) (both_plain (styles_part doc) (automatic_part doc) (styles_plain doc) (automatic_plain doc)) (masters_plain doc))
    (one_plain body (element_plain (codes "office:body") [] (text_element doc ∷ []) no_rows refl (one_plain (text_element doc) (text_plain doc))))

-- it binds the namespaces, and its own names are good
root_binds : (doc : Document) → bindings_within (root_attributes doc) [] ≡ bound
root_binds doc = refl

root_good : (doc : Document) → has_bad_names (codes "office:document") (root_attributes doc) bound ≡ false
root_good doc = refl

module _ (doc : Document) (root : Elem) (same : unplaced root ≡ unplaced (written doc)) where
  -- its parts
  root_name : (out-Elem root).name ≡ codes "office:document"
  root_name = (alike root (written doc) same).name ∙ ap (λ (parts : Elem-F Elem). parts.name) (written_out doc)

  root_attrs : (out-Elem root).attrs ≡ root_attributes doc
  root_attrs = (alike root (written doc) same).attrs ∙ ap (λ (parts : Elem-F Elem). parts.attrs) (written_out doc)

  nodes_plain : ArePlain (out-Elem root).nodes
  nodes_plain =
      alike_plain (out-Elem root).nodes (out-Elem (written doc)).nodes (alike root (written doc) same).nodes
      (ap (λ (parts : Elem-F Elem). list_all is_plain_node parts.nodes) (written_out doc) ∙ root_plain doc)

  binds : bindings_within (out-Elem root).attrs [] ≡ bound
  binds = ap (λ (attrs : List Attr). bindings_within attrs []) root_attrs ∙ root_binds doc

  pub root_resolved : resolved root ≡ named root
  unfolding tag_named key_named
  root_resolved =
      let place = (out-Elem root).place in
      let name = (out-Elem root).name in
      let attrs = (out-Elem root).attrs in
      let nodes = (out-Elem root).nodes in
      resolved_out root []
      ∙ ap (λ (bindings : List Binding). read_of place name attrs (map (read_node bindings) nodes) bindings) binds
      ∙ ap (λ (held : List (Node Read)). read_of place name attrs held bound) (nodes_back nodes nodes_plain).0
      ∙ sym (named_out root)

  pub root_names : places_of_bad_names root [] ≡ []
  root_names =
      let place = (out-Elem root).place in
      let name = (out-Elem root).name in
      let attrs = (out-Elem root).attrs in
      let nodes = (out-Elem root).nodes in
      bad_out root []
      ∙ ap (λ (bindings : List Binding). own_places place name attrs bindings ++ bad_in bindings nodes) binds
      ∙ ap₂ (λ (one : List ℕ) (all : List Attr). own_places place one all bound ++ bad_in bound nodes) root_name root_attrs
      ∙ ap (λ (bad : Bool). cond bad (place ∷ []) [] ++ bad_in bound nodes) (root_good doc)
      ∙ (nodes_back nodes nodes_plain).1
