-- What is met of a paragraph, in lists or not, and of a note.
use Rattle.std.proofs.Common.{◌≡◌, ℕ, zero, suc, Bool, true, false, cond, List, [], ◌∷◌, ◌++◌, map, codes, decimal, refl, sym, ap, ap₂, ◌∙◌, subst, append-nil, Option, Some, None}
use Rattle.std.specs.List.{flat_map, AllByRecursion as Each}
use Rattle.std.proofs.lemmas.Grind.{flat_map-append}
use Rattle.markup_nodes.specs.declared.words.Attr.{Attr}
use Rattle.markup_nodes.specs.declared.tree.Elem.{Elem}
use Rattle.markup_nodes.specs.Node.{Node}
use Rattle.markup_nodes.specs.Nodes.{elems}
use Rattle.doc_model.specs.declared.paragraph.Item.{Item}
use Rattle.doc_model.specs.declared.paragraph.ListPos.{ListPos}
use Rattle.doc_model.specs.declared.paragraph.Note.{Note as DocNote}
use Rattle.doc_model.specs.declared.paragraph.Par.{Par, out-Par}
use Rattle.doc_model.specs.Parts.{items_of}
use Rattle.load_model.specs.declared.names.Tag.{Tag}
use Rattle.load_model.specs.declared.names.Tag.TheVariants as tag
use Rattle.load_model.specs.declared.element.Attribute.{Attribute}
use Rattle.load_model.specs.declared.element.Element.{Element as Read, out-Element}
use Rattle.load_model.specs.Left.{is_same_tag}
use Rattle.load_model.specs.Met.{Gives, Met, Where, each, first_given, gives_of, in_blocks}
use Rattle.written_model.specs.Blocks.{bare_paragraph, below, entry_element, listed_paragraph, nested_entry, paragraph}
use Rattle.written_model.specs.Content.{content}
use Rattle.written_model.specs.Elements.{attribute, element, empty_element, unless_empty}
use Rattle.written_model.specs.Values.{truth}
use Rattle.back_names.specs.Named.{named_attribute, tag_named}
use Rattle.back_paragraphs.proofs.Keys as named
use Rattle.met_read.specs.Walk.{held}
use Rattle.met_read.proofs.WalkLemmas.{gives_out, inside_out}
use Rattle.back_met.proofs.Nodes.{AreNodesOf, IsElement, IsNodeOf, alone, blocks_met, blocks_one, content_met, element_of, entries_met, entries_one, nodes_met}
use Rattle.back_met.specs.Things.{AreMet, Thing, things_of}
use Rattle.back_met.proofs.Parts.{met_both, met_is}

-- a node that is written as an element without attributes of account
abbrev element_at : (t : Node Read) (name : List ℕ) (attrs : List Attr) (nodes : List (Node Elem)) (which : Tag) → IsNodeOf t (element name attrs nodes) → tag_named name ≡ which → IsElement t which (map named_attribute attrs) nodes
element_at t name attrs nodes which of is = element_of t name attrs nodes which (map named_attribute attrs) of is refl

-- a paragraph by its parts: what it gives is that of its content
record IsBare (node : Node Elem) (nodes : List (Node Elem)) : Type 0 where
  called : List ℕ
  attrs : List Attr
  which : Tag
  node_is : node ≡ element called attrs nodes
  tag_is : tag_named called ≡ which
  gives_content : (place : ℕ) (attributes : List Attribute) (gives : List Gives) (here : Where) → in_blocks which place attributes gives here ≡ each (λ one. one.content) here gives

bare_is : (note_node : DocNote → Node Elem) (par : Par) → IsBare (bare_paragraph note_node par) (content note_node (items_of par))
bare_is note_node par = by_level (out-Par par).level refl where
  style : List Attr
  style = unless_empty (codes "text:style-name") (out-Par par).style

  by_level : (level : ℕ) → (out-Par par).level ≡ level → IsBare (bare_paragraph note_node par) (content note_node (items_of par))
  by_level zero e = record { called = codes "text:p"; attrs = style; which = tag.Paragraph; node_is = rw e refl; tag_is = named.paragraph_tag; gives_content = λ place attributes gives here. refl }
  by_level (suc level) e = record {
    called = codes "text:h";
    attrs = style ++ attribute (codes "text:outline-level") (decimal (suc level)) ∷ [];
    which = tag.Heading;
    node_is = rw e refl;
    tag_is = named.heading_tag;
    gives_content = λ place attributes gives here. refl;
  }

module _ (text : ℕ) (sections : List ℕ) where
  abbrev here : Bool → Where
  here in_list = record { text = text; in_list = in_list; sections = sections }

  -- what an entry of a list gives is what the node in it gives
  record HasInner (met : List Met) (node : Node Elem) : Type 0 where
    inner : Node Read
    inner_of : IsNodeOf inner node
    same : met ≡ blocks_met (here true) (inner ∷ [])

  inner_at : (t : Node Read) (called : List ℕ) (which : Tag) (node : Node Elem) → IsNodeOf t (element called [] (node ∷ [])) → tag_named called ≡ which
      → (met : List Met) → ((one : IsElement t which [] (node ∷ [])) → met ≡ each (λ given. given.blocks) (here true) (held one.found)) → HasInner met node
  inner_at t called which node of is met gives =
      let one = element_of t called [] (node ∷ []) which [] of is refl in
      let only = alone (out-Element one.found).nodes node one.is.nodes_of in
      record { inner = only.only; inner_of = only.only_of; same = gives one ∙ ap (λ (ts : List (Node Read)). blocks_met (here true) ts) only.only_is }

  entry_inner : (item : Bool) (node : Node Elem) (t : Node Read) → IsNodeOf t (entry_element item node) → HasInner (entries_met (here true) (t ∷ [])) node
  entry_inner true node t of =
      inner_at t (codes "text:list-item") tag.ListItem node of named.item_tag (entries_met (here true) (t ∷ [])) (λ one. entries_one t tag.ListItem [] (node ∷ []) one (here true))
  entry_inner false node t of =
      inner_at t (codes "text:list-header") tag.ListHeader node of named.header_tag (entries_met (here true) (t ∷ [])) (λ one. entries_one t tag.ListHeader [] (node ∷ []) one (here true))

  -- the first entry of a list
  record HasEntry (met : List Met) (entry : Node Elem) : Type 0 where
    first_node : Node Read
    first_of : IsNodeOf first_node entry
    first_same : met ≡ entries_met (here true) (first_node ∷ [])

  list_entry : (in_list : Bool) (attrs : List Attr) (entry : Node Elem) (t : Node Read) → IsNodeOf t (element (codes "text:list") attrs (entry ∷ [])) → HasEntry (blocks_met (here in_list) (t ∷ [])) entry
  list_entry in_list attrs entry t of =
      let one = element_at t (codes "text:list") attrs (entry ∷ []) tag.List of named.list_tag in
      let only = alone (out-Element one.found).nodes entry one.is.nodes_of in
      record {
        first_node = only.only;
        first_of = only.only_of;
        first_same = blocks_one t tag.List (map named_attribute attrs) (entry ∷ []) one (here in_list) ∙ ap (λ (ts : List (Node Read)). entries_met (here true) ts) only.only_is;
      }

  nested_inner : (deeper : ℕ) (item : Bool) (node : Node Elem) (t : Node Read) → IsNodeOf t (nested_entry deeper (entry_element item node)) → HasInner (entries_met (here true) (t ∷ [])) node
  nested_inner zero item node t of = entry_inner item node t of
  nested_inner (suc deeper) item node t of =
      let list = inner_at t (codes "text:list-item") tag.ListItem (element (codes "text:list") [] (nested_entry deeper (entry_element item node) ∷ [])) of named.item_tag (entries_met (here true) (t ∷ []))
      (λ one. entries_one t tag.ListItem [] (element (codes "text:list") [] (nested_entry deeper (entry_element item node) ∷ []) ∷ []) one (here true)) in
      let entry = list_entry true [] (nested_entry deeper (entry_element item node)) list.inner list.inner_of in
      let rest = nested_inner deeper item node entry.first_node entry.first_of in
      record { inner = rest.inner; inner_of = rest.inner_of; same = list.same ∙ entry.first_same ∙ rest.same }

  module _ (note_node : DocNote → Node Elem) (P : Thing → List Met → Type 0) (Fine : Item → Type 0)
      (of_content : (in_list : Bool) (items : List Item) → Each Fine items → (ts : List (Node Read)) → AreNodesOf ts (content note_node items) → AreMet P (flat_map things_of items) (content_met (here in_list) ts)) where
    bare_met : (in_list : Bool) (par : Par) → Each Fine (items_of par) → (t : Node Read) → IsNodeOf t (bare_paragraph note_node par) → AreMet P (flat_map things_of (items_of par)) (blocks_met (here in_list) (t ∷ []))
    bare_met in_list par fine t of =
        let bare = bare_is note_node par in
        let one = element_at t bare.called bare.attrs (content note_node (items_of par)) bare.which (subst (IsNodeOf t) bare.node_is of) bare.tag_is in
        met_is P (flat_map things_of (items_of par)) (blocks_met (here in_list) (t ∷ [])) (content_met (here in_list) (out-Element one.found).nodes)
        (blocks_one t bare.which (map named_attribute bare.attrs) (content note_node (items_of par)) one (here in_list) ∙ bare.gives_content (out-Element one.found).place (map named_attribute bare.attrs) (held one.found) (here in_list))
        (of_content in_list (items_of par) fine (out-Element one.found).nodes one.is.nodes_of)

    abbrev in_list_pos : Par → Option ListPos → Node Elem
    in_list_pos par None = bare_paragraph note_node par
    in_list_pos par (Some place) = listed_paragraph place (bare_paragraph note_node par)

    list_met : (in_list : Bool) (par : Par) (list : Option ListPos) → Each Fine (items_of par) → (t : Node Read) → IsNodeOf t (in_list_pos par list) → AreMet P (flat_map things_of (items_of par)) (blocks_met (here in_list) (t ∷ []))
    list_met in_list par None fine t of = bare_met in_list par fine t of
    list_met in_list par (Some place) fine t of =
        let attrs : List Attr = unless_empty (codes "text:style-name") place.style ++ attribute (codes "text:continue-numbering") (truth (cond place.fresh false true)) ∷ [] in
        let entry = list_entry in_list attrs (nested_entry (below place.level) (entry_element place.item (bare_paragraph note_node par))) t of in
        let rest = nested_inner (below place.level) place.item (bare_paragraph note_node par) entry.first_node entry.first_of in
        met_is P (flat_map things_of (items_of par)) (blocks_met (here in_list) (t ∷ [])) (blocks_met (here true) (rest.inner ∷ [])) (entry.first_same ∙ rest.same) (bare_met true par fine rest.inner rest.inner_of)

    pub par_met : (in_list : Bool) (par : Par) → Each Fine (items_of par) → (t : Node Read) → IsNodeOf t (paragraph note_node par) → AreMet P (flat_map things_of (items_of par)) (blocks_met (here in_list) (t ∷ []))
    par_met in_list par fine t of = list_met in_list par (out-Par par).list fine t of

    pub pars_met : (in_list : Bool) (pars : List Par) → Each (λ par. Each Fine (items_of par)) pars → (ts : List (Node Read)) → AreNodesOf ts (map (paragraph note_node) pars)
        → AreMet P (flat_map things_of (flat_map items_of pars)) (blocks_met (here in_list) ts)
    pars_met in_list [] fine [] are = refl
    pars_met in_list [] fine (t ∷ ts) are = absurd are
    pars_met in_list (par ∷ pars) fine [] are = absurd are
    pars_met in_list (par ∷ pars) fine (t ∷ ts) are =
        subst (λ (things : List Thing). AreMet P things (blocks_met (here in_list) (t ∷ ts))) (sym (flat_map-append things_of (items_of par) (flat_map items_of pars)))
        (met_is P (flat_map things_of (items_of par) ++ flat_map things_of (flat_map items_of pars)) (blocks_met (here in_list) (t ∷ ts)) (blocks_met (here in_list) (t ∷ []) ++ blocks_met (here in_list) ts)
        (nodes_met (λ one. one.blocks) (here in_list) (t ∷ []) ts)
        (met_both P (flat_map things_of (items_of par)) (flat_map things_of (flat_map items_of pars)) (blocks_met (here in_list) (t ∷ [])) (blocks_met (here in_list) ts)
        (par_met in_list par fine.0 t are.0) (pars_met in_list pars fine.1 ts are.1)))

-- the body of a note is what is read in it
pub record HasBody (met : List Met) (at : Where) (nodes : List (Node Elem)) : Type 0 where
  pub body : List (Node Read)
  pub body_of : AreNodesOf body nodes
  pub body_same : met ≡ blocks_met at body

pub note_body : (ts : List (Node Read)) (nodes : List (Node Elem)) (at : Where) → AreNodesOf ts (empty_element (codes "text:note-citation") [] ∷ element (codes "text:note-body") [] nodes ∷ [])
    → HasBody (each (λ one. one.inside) at (first_given tag.NoteBody (map gives_of (elems ts)))) at nodes
note_body [] nodes at are = absurd are
note_body (t ∷ []) nodes at are = absurd are.1
note_body (t ∷ u ∷ v ∷ ts) nodes at are = absurd are.1.1
note_body (t ∷ u ∷ []) nodes at are =
    let citation = element_at t (codes "text:note-citation") [] [] tag.NoteCitation are.0 named.citation_tag in
    let body = element_at u (codes "text:note-body") [] nodes tag.NoteBody are.1.0 named.body_tag in
    record {
      body = (out-Element body.found).nodes;
      body_of = body.is.nodes_of;
      body_same = ap₂ (λ (x y : Node Read). each (λ one. one.inside) at (first_given tag.NoteBody (map gives_of (elems (x ∷ y ∷ []))))) citation.found_is body.found_is
          ∙ ap₂ (λ (one other : Tag). each (λ given. given.inside) at (by_tags one other (gives_of body.found) (gives_of citation.found)))
          (ap (λ (given : Gives). given.tag) (gives_out citation.found) ∙ citation.is.tag_is) (ap (λ (given : Gives). given.tag) (gives_out body.found) ∙ body.is.tag_is)
          ∙ append-nil ((gives_of body.found).inside at) ∙ inside_out body.found at;
    } where
      by_tags : Tag → Tag → Gives → Gives → List Gives
      by_tags one other second first = cond (is_same_tag one tag.NoteBody) (first ∷ []) (cond (is_same_tag other tag.NoteBody) (second ∷ []) [])
