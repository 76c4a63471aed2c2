-- The root of a written document, its body and its text as they are read.
use Rattle.std.proofs.Common.{◌≡◌, ℕ, ◌||◌, not, Bool, true, false, cond, List, [], ◌∷◌, ◌++◌, map, filter, find, drop, codes, refl, sym, ap, ap₂, ◌∙◌, Option, Some, None, option_to_list}
use Rattle.std.specs.List.{flat_map, list_any, AllByRecursion as Each}
use Rattle.std.specs.Option.{option_map_or, option_and_then}
use Rattle.std.proofs.lemmas.List.Elements.{filter-append}
use Rattle.markup_nodes.specs.declared.words.Attr.{Attr}
use Rattle.markup_nodes.specs.declared.tree.Elem.{Elem}
use Rattle.markup_nodes.specs.Node.{Node, Element, Char}
use Rattle.markup_nodes.specs.Nodes.{elems}
use Rattle.doc_model.specs.declared.document.Document.{Document}
use Rattle.load_model.specs.declared.names.Key.{Key}
use Rattle.load_model.specs.declared.names.Key.TheVariants as key
use Rattle.load_model.specs.declared.names.Tag.{Tag}
use Rattle.load_model.specs.declared.names.Tag.TheVariants as tag
use Rattle.load_model.specs.declared.element.Element.{Element as Read, out-Element}
use Rattle.load_model.specs.declared.element.Element.TheOpen.{Element-F}
use Rattle.load_model.specs.declared.element.Element.TheViews.{out-roll-Element}
use Rattle.load_model.specs.Left.{attributes_of, children, first, is, is_same_tag, tag_of}
use Rattle.load_model.specs.Loaded.{body_of, met_of, text_of}
use Rattle.load_model.specs.Met.{met_in}
use Rattle.load_model.specs.Offences.{further, is_mimetype, place_if, place_of, places_without_text}
use Rattle.load_model.specs.Values.{value_of}
use Rattle.written_model.specs.Elements.{attribute, element, part, where_true}
use Rattle.written_model.specs.Styles.{automatic_part, masters_part, styles_part}
use Rattle.written_model.specs.Blocks.{block_element}
use Rattle.written_model.specs.Written.{mimetype, namespaces, sequence_declarations, text_element, variable_declarations, written}
use Rattle.back_names.specs.Named.{key_named, named, named_attribute, named_node, placeless, tag_named}
use Rattle.back_names.proofs.Parts.{elem_of, named_of}
use Rattle.back_names.proofs.Root.{root_attributes, root_nodes}
use Rattle.back_fields.proofs.Attributes.{at}
use Rattle.back_sheet_places.proofs.Bare.{attributes_bare, children_bare, tag_bare}
use Rattle.back_sheet_places.proofs.Kept.{is_bare}
use Rattle.back_sheet_places.proofs.Lists.{filtered}
use Rattle.back_offences.proofs.Keys as name

-- a named element by its parts
made : (called : List ℕ) (attrs : List Attr) (nodes : List (Node Elem)) → out-Element (named (elem_of 0 called attrs nodes))
    ≡ (record { place = 0; tag = tag_named called; attributes = map named_attribute attrs; nodes = map named_node nodes })
made called attrs nodes = ap out-Element (named_of 0 called attrs nodes) ∙ out-roll-Element (record { place = 0; tag = tag_named called; attributes = map named_attribute attrs; nodes = map named_node nodes })

tag_made : (called : List ℕ) (attrs : List Attr) (nodes : List (Node Elem)) → tag_of (named (elem_of 0 called attrs nodes)) ≡ tag_named called
tag_made called attrs nodes = ap (λ (parts : Element-F Read). parts.tag) (made called attrs nodes)

attributes_made : (called : List ℕ) (attrs : List Attr) (nodes : List (Node Elem)) → attributes_of (named (elem_of 0 called attrs nodes)) ≡ map named_attribute attrs
attributes_made called attrs nodes = ap (λ (parts : Element-F Read). parts.attributes) (made called attrs nodes)

abbrev read_nodes : List (Node Elem) → List Read
read_nodes nodes = elems (map named_node nodes)

children_made : (called : List ℕ) (attrs : List Attr) (nodes : List (Node Elem)) → children (named (elem_of 0 called attrs nodes)) ≡ read_nodes nodes
children_made called attrs nodes = ap (λ (parts : Element-F Read). elems parts.nodes) (made called attrs nodes)

-- the elements of two lists of nodes
nodes_both : (xs ys : List (Node Elem)) → read_nodes (xs ++ ys) ≡ read_nodes xs ++ read_nodes ys
nodes_both [] ys = refl
nodes_both (Element elem ∷ xs) ys = ap (λ (more : List Read). named elem ∷ more) (nodes_both xs ys)
nodes_both (Char c ∷ xs) ys = nodes_both xs ys

-- the bodies among nodes
abbrev bodies : List (Node Elem) → List Read
bodies nodes = filter (is tag.Body) (read_nodes nodes)

bodies_both : (xs ys : List (Node Elem)) → bodies (xs ++ ys) ≡ bodies xs ++ bodies ys
bodies_both xs ys = ap (filter (is tag.Body)) (nodes_both xs ys) ∙ filter-append (is tag.Body) (read_nodes xs) (read_nodes ys)

no_body : (called : List ℕ) (which : Tag) (nodes : List (Node Elem)) → tag_named called ≡ which → is_same_tag which tag.Body ≡ false → bodies (part called nodes) ≡ []
no_body called which [] is_which other = refl
no_body called which (node ∷ nodes) is_which other =
    ap (λ (b : Bool). cond b (named (elem_of 0 called [] (node ∷ nodes)) ∷ []) [])
    (ap (λ (own : Tag). is_same_tag own tag.Body) (tag_made called [] (node ∷ nodes) ∙ is_which) ∙ other)

-- a list that is changed to one of one is one of one
record IsSingle {X Y : Type 0} (change : X → Y) (xs : List X) (y : Y) : Type 0 where
  only : X
  only_is : xs ≡ only ∷ []
  only_of : change only ≡ y

single : {X Y : Type 0} (change : X → Y) (xs : List X) (y : Y) → map change xs ≡ y ∷ [] → IsSingle change xs y
single change [] y e = absurd (none_one e) where
  none_one : [] ≡ y ∷ [] → ⊥
  none_one e = cc
single change (x ∷ []) y e = record { only = x; only_is = refl; only_of = same e } where
  same : change x ∷ [] ≡ y ∷ [] → change x ≡ y
  same e = cc
single change (x ∷ z ∷ xs) y e = absurd (more_one e) where
  more_one : change x ∷ (change z ∷ map change xs) ≡ y ∷ [] → ⊥
  more_one e = cc

-- what is filtered first is found
found_first : {X : Type 0} (test : X → Bool) (xs : List X) (x : X) (more : List X) → filter test xs ≡ x ∷ more → find test xs ≡ Some x
found_first test [] x more e = absurd (none_one e) where
  none_one : [] ≡ x ∷ more → ⊥
  none_one e = cc
found_first test (y ∷ ys) x more e = by_test (test y) e (found_first test ys x more) where
  by_test : (b : Bool) → cond b (y ∷ filter test ys) (filter test ys) ≡ x ∷ more → (filter test ys ≡ x ∷ more → find test ys ≡ Some x) → cond b (Some y) (find test ys) ≡ Some x
  by_test true same rest = ap (λ z. Some z) (head_same same) where
    head_same : y ∷ filter test ys ≡ x ∷ more → y ≡ x
    head_same e = cc
  by_test false same rest = rest same

-- attributes that aren't counted are passed
past : (attrs more : List Attr) → Each (λ attr. key_named attr.name ≡ key.Uncounted) attrs → value_of key.Mimetype (map named_attribute (attrs ++ more)) ≡ value_of key.Mimetype (map named_attribute more)
past [] more each = refl
past (attr ∷ attrs) more each =
    ap (λ (which : Key). value_of key.Mimetype (at which attr.value ∷ map named_attribute (attrs ++ more))) each.0 ∙ past attrs more each.1

good_type : (global : Bool) → is_mimetype (mimetype global) ≡ true
good_type true = refl
good_type false = refl

-- what a file has
pub record IsFile (doc : Document) (root : Read) : Type 0 where
  pub body : Read
  pub text : Read
  pub bodies_are : filter (is tag.Body) (children root) ≡ body ∷ []
  pub held : children body ≡ text ∷ []
  pub is_text : is tag.Text text ≡ true
  pub written_so : Element (placeless text) ≡ named_node (text_element doc)

module _ (doc : Document) (root : Read) (same : placeless root ≡ named (written doc)) where
  pub root_is : place_if (not (is tag.Document root)) (place_of root) ≡ []
  root_is =
      ap (λ (which : Tag). place_if (not (is_same_tag which tag.Document)) (place_of root))
      (sym (tag_bare root) ∙ ap tag_of same ∙ tag_made (codes "office:document") (root_attributes doc) (root_nodes doc) ∙ name.document_tag)

  type_stated : value_of key.Mimetype (attributes_of root) ≡ Some (mimetype doc.global)
  type_stated =
      let version = attribute (codes "office:version") (codes "1.3") in
      let own = attribute (codes "office:mimetype") (mimetype doc.global) in
      ap (value_of key.Mimetype) (sym (attributes_bare root) ∙ ap attributes_of same ∙ attributes_made (codes "office:document") (root_attributes doc) (root_nodes doc))
      ∙ past namespaces (version ∷ own ∷ []) (name.office_key, (name.style_key, (name.words_key, (name.table_key, (name.format_key, (name.link_key, tt))))))
      ∙ past (version ∷ []) (own ∷ []) (name.version_key, tt)
      ∙ ap (λ (which : Key). value_of key.Mimetype (at which (mimetype doc.global) ∷ [])) name.mimetype_key

  pub type_is : place_if (not (option_map_or is_mimetype (value_of key.Mimetype (attributes_of root)) false)) (place_of root) ≡ []
  type_is =
      ap (λ (text : Option (List ℕ)). place_if (not (option_map_or is_mimetype text false)) (place_of root)) type_stated
      ∙ ap (λ (good : Bool). place_if (not good) (place_of root)) (good_type doc.global)

  abbrev body_node : Node Elem
  body_node = element (codes "office:body") [] (text_element doc ∷ [])

  abbrev body_read : Read
  body_read = named (elem_of 0 (codes "office:body") [] (text_element doc ∷ []))

  body_last : bodies (body_node ∷ []) ≡ body_read ∷ []
  body_last = ap (λ (which : Tag). cond (is_same_tag which tag.Body) (body_read ∷ []) []) (tag_made (codes "office:body") [] (text_element doc ∷ []) ∙ name.body_tag)

  bodies_written : bodies (root_nodes doc) ≡ body_read ∷ []
  bodies_written =
      bodies_both (styles_part doc ++ automatic_part doc ++ masters_part doc) (body_node ∷ [])
      ∙ ap₂ (λ (front more : List Read). front ++ more)
      (bodies_both (styles_part doc ++ automatic_part doc) (masters_part doc)
      ∙ ap₂ (λ (front more : List Read). front ++ more)
      (bodies_both (styles_part doc) (automatic_part doc)
      ∙ ap₂ (λ (front more : List Read). front ++ more) (no_body (codes "office:styles") tag.CommonStyles _ name.styles_tag refl) (no_body (codes "office:automatic-styles") tag.AutomaticStyles _ name.automatic_tag refl))
      (no_body (codes "office:master-styles") tag.MasterStyles _ name.masters_tag refl))
      body_last

  bodies_bare : map placeless (filter (is tag.Body) (children root)) ≡ body_read ∷ []
  bodies_bare =
      sym (filtered placeless (is tag.Body) (is tag.Body) (is_bare tag.Body) (children root))
      ∙ ap (filter (is tag.Body)) (sym (children_bare root) ∙ ap children same ∙ children_made (codes "office:document") (root_attributes doc) (root_nodes doc))
      ∙ bodies_written

  pub file_is : IsFile doc root
  file_is =
      let body = single placeless (filter (is tag.Body) (children root)) body_read bodies_bare in
      let texts = single placeless (children body.only) (text_read) (sym (children_bare body.only) ∙ ap children body.only_of ∙ children_made (codes "office:body") [] (text_element doc ∷ [])) in
      record {
        body = body.only;
        text = texts.only;
        bodies_are = body.only_is;
        held = texts.only_is;
        is_text = ap (λ (which : Tag). is_same_tag which tag.Text) (sym (tag_bare texts.only) ∙ ap tag_of texts.only_of ∙ tag_made (codes "office:text") text_attrs text_nodes ∙ name.text_tag);
        written_so = ap (λ (one : Read). Element one) texts.only_of;
      }
    where
      text_attrs : List Attr
      text_attrs = where_true (codes "text:global") (codes "true") doc.global

      text_nodes : List (Node Elem)
      text_nodes = variable_declarations doc.variables ++ sequence_declarations doc.sequences ++ map block_element doc.body

      text_read : Read
      text_read = named (elem_of 0 (codes "office:text") text_attrs text_nodes)

  -- it has a body with a text, and no second one of either
  body_is : body_of root ≡ Some file_is.body
  body_is = found_first (is tag.Body) (children root) file_is.body [] file_is.bodies_are

  pub text_is : text_of root ≡ Some file_is.text
  text_is =
      ap (option_and_then (λ (body : Read). first tag.Text (children body))) body_is ∙ ap (first tag.Text) file_is.held
      ∙ ap (λ (b : Bool). cond b (Some file_is.text) None) file_is.is_text

  pub met_is : met_of root ≡ met_in file_is.text
  met_is = ap (λ (text : Option Read). option_map_or met_in text []) text_is

  pub text_there : places_without_text root ≡ []
  text_there = ap₂ (λ (front more : List ℕ). front ++ more) (ap₂ (λ (front more : List ℕ). front ++ more) one_there no_other) no_further where
    one_there : place_if (not (list_any (λ body. list_any (is tag.Text) (children body)) (filter (is tag.Body) (children root)))) (place_of root) ≡ []
    one_there =
        ap (λ (some : List Read). place_if (not (list_any (λ body. list_any (is tag.Text) (children body)) some)) (place_of root)) file_is.bodies_are
        ∙ ap (λ (some : List Read). place_if (not (list_any (is tag.Text) some || false)) (place_of root)) file_is.held
        ∙ ap (λ (b : Bool). place_if (not ((b || false) || false)) (place_of root)) file_is.is_text

    no_other : map place_of (further tag.Body (children root)) ≡ []
    no_other = ap (λ (some : List Read). map place_of (drop 1 some)) file_is.bodies_are

    no_further : flat_map (λ body. map place_of (further tag.Text (children body))) (option_to_list (body_of root)) ≡ []
    no_further =
        ap (λ (body : Option Read). flat_map (λ one. map place_of (further tag.Text (children one))) (option_to_list body)) body_is
        ∙ ap (λ (some : List Read). map place_of (further tag.Text some) ++ []) file_is.held
        ∙ ap (λ (b : Bool). map place_of (drop 1 (cond b (file_is.text ∷ []) [])) ++ []) file_is.is_text
