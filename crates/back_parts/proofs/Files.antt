-- What a file says of itself, and its body.
use Rattle.std.proofs.Common.{◌≡◌, ℕ, ◌+◌, ◌-◌, ◌||◌, not, Bool, true, false, cond, List, [], ◌∷◌, ◌++◌, map, filter, length, codes, refl, sym, ap, ap₂, ◌∙◌, arith, Option, Some, None, option_to_list}
use Rattle.std.specs.Option.{option_map_or, option_and_then, option_or}
use Rattle.std.specs.Str.{bytes_eq}
use Rattle.std.proofs.lemmas.List.{length-append}
use Rattle.std.proofs.lemmas.List.Folds.{find-append}
use Rattle.markup_nodes.specs.declared.tree.Elem.{Elem}
use Rattle.markup_nodes.specs.Node.{Node}
use Rattle.doc_model.specs.declared.document.Document.{Document}
use Rattle.doc_model.specs.declared.style.Style.{Style}
use Rattle.load_model.specs.declared.names.Key.TheVariants as key
use Rattle.load_model.specs.declared.names.Tag.{Tag}
use Rattle.load_model.specs.declared.names.Tag.TheVariants as tag
use Rattle.load_model.specs.declared.element.Attribute.{Attribute}
use Rattle.load_model.specs.declared.element.Element.{Element}
use Rattle.load_model.specs.Blocks.{left_by}
use Rattle.load_model.specs.Left.{nothing, only_elements, both, all_of, all_but, attributes_of, children, tag_of, is_same_tag, is, first}
use Rattle.load_model.specs.Loaded.{body_of, text_of, is_global, read_in_root, body_left}
use Rattle.load_model.specs.Values as value
use Rattle.load_model.specs.Values.{rule, stated_or, value_of}
use Rattle.written_model.specs.Elements.{where_true, element, part}
use Rattle.written_model.specs.Styles.{style_element, default_style, outline_style, list_style_element, layout_element, master_element, styles_part, automatic_part, masters_part}
use Rattle.written_model.specs.Written.{mimetype, text_element}
use Rattle.back_names.specs.Named.{named_attribute, tag_named}
use Rattle.back_names.proofs.Root.{root_attributes, root_nodes}
use Rattle.back_styles.specs.Shown.{shown, held_of}
use Rattle.back_styles.proofs.Parts.{tag_shown, attributes_shown, children_shown, held_both}
use Rattle.back_parts.specs.Parts.{root_read, text_read}
use Rattle.back_parts.proofs.Keys as named
use Rattle.back_parts.proofs.Lists.{find_none}
use Rattle.back_parts.proofs.Root.{AreOfTag, tested, part_tags, root_held, parts_are}

-- what the parts hold
abbrev pub common_nodes : Document → List (Node Elem)
common_nodes doc = default_style doc.defaults ++ map style_element (filter (λ (style : Style). not style.auto) doc.styles) ++ outline_style doc.outline ++ map list_style_element doc.lists

abbrev pub automatic_nodes : Document → List (Node Elem)
automatic_nodes doc = map style_element (filter (λ (style : Style). style.auto) doc.styles) ++ map layout_element doc.layouts

abbrev pub master_nodes : Document → List (Node Elem)
master_nodes doc = map master_element doc.masters

abbrev pub body_read : Document → Element
body_read doc = shown (element (codes "office:body") [] (text_element doc ∷ []))

pub body_tagged : (doc : Document) → tag_of (body_read doc) ≡ tag.Body
body_tagged doc = tag_shown (codes "office:body") [] (text_element doc ∷ []) tag.Body named.body_tag

text_tagged : (doc : Document) → tag_of (text_read doc) ≡ tag.Text
text_tagged doc = tag_shown (codes "office:text") _ _ tag.Text named.text_tag

pub root_children : (doc : Document) → children (root_read doc) ≡ root_held (common_nodes doc) (automatic_nodes doc) (master_nodes doc) (body_read doc)
root_children doc =
    children_shown (codes "office:document") (root_attributes doc) (root_nodes doc)
    ∙ held_both (styles_part doc ++ automatic_part doc ++ masters_part doc) (element (codes "office:body") [] (text_element doc ∷ []) ∷ [])
    ∙ ap (λ (front : List Element). front ++ body_read doc ∷ [])
    (held_both (styles_part doc ++ automatic_part doc) (masters_part doc) ∙ ap (λ (front : List Element). front ++ held_of (masters_part doc)) (held_both (styles_part doc) (automatic_part doc)))

pub or_none : {X : Type 0} (one : Option X) → option_or one None ≡ one
or_none None = refl
or_none (Some x) = refl

-- the first of a tag, behind elements of others
pub none_of_tag : (wanted which : Tag) (elements : List Element) → is_same_tag which wanted ≡ false → AreOfTag which elements → first wanted elements ≡ None
none_of_tag wanted which elements e are = find_none (is wanted) elements (tested (λ of. is_same_tag of wanted) which false elements e are)

pub first_both : (wanted : Tag) (front behind : List Element) (one other : Option Element) → first wanted front ≡ one → first wanted behind ≡ other → first wanted (front ++ behind) ≡ option_or one other
first_both wanted front behind one other e f = find-append (is wanted) front behind ∙ ap₂ (λ (a b : Option Element). option_or a b) e f

pub first_one : (wanted which : Tag) (one : Element) → tag_of one ≡ which → first wanted (one ∷ []) ≡ cond (is_same_tag which wanted) (Some one) None
first_one wanted which one is = ap (λ (of : Tag). cond (is_same_tag of wanted) (Some one) None) is

-- a part that is written, if it holds something
abbrev pub part_of : List ℕ → List (Node Elem) → Option Element
part_of name [] = None
part_of name (node ∷ nodes) = Some (shown (element name [] (node ∷ nodes)))

pub first_part : (name : List ℕ) (which : Tag) (nodes : List (Node Elem)) → tag_named name ≡ which → is_same_tag which which ≡ true → first which (held_of (part name nodes)) ≡ part_of name nodes
first_part name which [] is e = refl
first_part name which (node ∷ nodes) is e =
    first_one which which (shown (element name [] (node ∷ nodes))) (tag_shown name [] (node ∷ nodes) which is) ∙ ap (λ (b : Bool). cond b (Some (shown (element name [] (node ∷ nodes)))) None) e

pub part_counted : (name : List ℕ) (nodes : List (Node Elem)) → length (option_to_list (part_of name nodes)) ≡ length (held_of (part name nodes))
part_counted name [] = refl
part_counted name (node ∷ nodes) = refl

none : (n : ℕ) → n - n ≡ 0
none n = omega arith

-- nothing is left out where each element is read
pub all_counted : (count : ℕ) (elements : List Element) → count ≡ length elements → all_but count elements ≡ nothing
all_counted count elements e = ap (λ (read : ℕ). only_elements (length elements - read)) e ∙ ap only_elements (none (length elements))

module _ (doc : Document) where
  abbrev first_held : List Element
  first_held = held_of (styles_part doc)

  abbrev second_held : List Element
  second_held = held_of (automatic_part doc)

  abbrev third_held : List Element
  third_held = held_of (masters_part doc)

  found : (wanted : Tag) → is_same_tag tag.CommonStyles wanted ≡ false → is_same_tag tag.AutomaticStyles wanted ≡ false → (third last : Option Element) → first wanted third_held ≡ third → first wanted (body_read doc ∷ []) ≡ last
      → first wanted (children (root_read doc)) ≡ option_or third last
  found wanted e f third last g h =
      ap (first wanted) (root_children doc)
      ∙ first_both wanted (first_held ++ second_held ++ third_held) (body_read doc ∷ []) third last
      (first_both wanted (first_held ++ second_held) third_held None third
      (first_both wanted first_held second_held None None (none_of_tag wanted tag.CommonStyles first_held e (part_tags (codes "office:styles") tag.CommonStyles (common_nodes doc) named.common_tag))
      (none_of_tag wanted tag.AutomaticStyles second_held f (part_tags (codes "office:automatic-styles") tag.AutomaticStyles (automatic_nodes doc) named.automatic_tag)))
      g) h

  pub masters_found : first tag.MasterStyles (children (root_read doc)) ≡ part_of (codes "office:master-styles") (master_nodes doc)
  masters_found =
      found tag.MasterStyles refl refl (part_of (codes "office:master-styles") (master_nodes doc)) None (first_part (codes "office:master-styles") tag.MasterStyles (master_nodes doc) named.masters_tag refl)
      (first_one tag.MasterStyles tag.Body (body_read doc) (body_tagged doc))
      ∙ or_none (part_of (codes "office:master-styles") (master_nodes doc))

  body_found : body_of (root_read doc) ≡ Some (body_read doc)
  body_found =
      found tag.Body refl refl None (Some (body_read doc)) (none_of_tag tag.Body tag.MasterStyles third_held refl (part_tags (codes "office:master-styles") tag.MasterStyles (master_nodes doc) named.masters_tag))
      (first_one tag.Body tag.Body (body_read doc) (body_tagged doc))

  body_children : children (body_read doc) ≡ text_read doc ∷ []
  body_children = children_shown (codes "office:body") [] (text_element doc ∷ [])

  pub text_found : text_of (root_read doc) ≡ Some (text_read doc)
  text_found =
      ap (λ (body : Option Element). option_and_then (λ (one : Element). first tag.Text (children one)) body) body_found
      ∙ ap (first tag.Text) body_children ∙ first_one tag.Text tag.Text (text_read doc) (text_tagged doc)

  -- the attributes of the root
  root_named : attributes_of (root_read doc)
      ≡ (record { key = key.Uncounted; text = codes "urn:oasis:names:tc:opendocument:xmlns:office:1.0" })
      ∷ (record { key = key.Uncounted; text = codes "urn:oasis:names:tc:opendocument:xmlns:style:1.0" })
      ∷ (record { key = key.Uncounted; text = codes "urn:oasis:names:tc:opendocument:xmlns:text:1.0" })
      ∷ (record { key = key.Uncounted; text = codes "urn:oasis:names:tc:opendocument:xmlns:table:1.0" })
      ∷ (record { key = key.Uncounted; text = codes "urn:oasis:names:tc:opendocument:xmlns:xsl-fo-compatible:1.0" })
      ∷ (record { key = key.Uncounted; text = codes "http://www.w3.org/1999/xlink" })
      ∷ (record { key = key.Uncounted; text = codes "1.3" })
      ∷ (record { key = key.Mimetype; text = mimetype doc.global }) ∷ []
  root_named =
      attributes_shown (codes "office:document") (root_attributes doc) (root_nodes doc)
      ∙ (λ i. (record { key = named.office_key i; text = codes "urn:oasis:names:tc:opendocument:xmlns:office:1.0" })
      ∷ (record { key = named.style_key i; text = codes "urn:oasis:names:tc:opendocument:xmlns:style:1.0" })
      ∷ (record { key = named.words_key i; text = codes "urn:oasis:names:tc:opendocument:xmlns:text:1.0" })
      ∷ (record { key = named.table_key i; text = codes "urn:oasis:names:tc:opendocument:xmlns:table:1.0" })
      ∷ (record { key = named.format_key i; text = codes "urn:oasis:names:tc:opendocument:xmlns:xsl-fo-compatible:1.0" })
      ∷ (record { key = named.link_key i; text = codes "http://www.w3.org/1999/xlink" })
      ∷ (record { key = named.version_key i; text = codes "1.3" })
      ∷ (record { key = named.mimetype_key i; text = mimetype doc.global }) ∷ [])

  pub attributes_whole : left_by (rule key.Mimetype value.any_text ∷ []) (attributes_of (root_read doc)) ≡ nothing
  attributes_whole = ap (left_by (rule key.Mimetype value.any_text ∷ [])) root_named

  pub global_back : is_global (root_read doc) ≡ doc.global
  global_back =
      ap₂ (λ (attributes : List Attribute) (text : Option Element). option_map_or (bytes_eq (codes "application/vnd.oasis.opendocument.text-master")) (value_of key.Mimetype attributes) false
      || option_map_or (λ (one : Element). stated_or key.Global value.truth false (attributes_of one)) text false) root_named text_found
      ∙ ap (λ (attributes : List Attribute). bytes_eq (codes "application/vnd.oasis.opendocument.text-master") (mimetype doc.global) || stated_or key.Global value.truth false attributes)
      (attributes_shown (codes "office:text") (where_true (codes "text:global") (codes "true") doc.global) _)
      ∙ by_kind doc.global
    where
      by_kind : (global : Bool) → (bytes_eq (codes "application/vnd.oasis.opendocument.text-master") (mimetype global) || stated_or key.Global value.truth false (map named_attribute (where_true (codes "text:global") (codes "true") global))) ≡ global
      by_kind true = refl
      by_kind false = refl

  -- each element of the root is read
  pub root_whole : all_but (read_in_root (root_read doc)) (children (root_read doc)) ≡ nothing
  root_whole = all_counted (read_in_root (root_read doc)) (children (root_read doc)) (counted ∙ sym (ap length (root_children doc))) where
    lengths : (xs ys zs : List Element) (body : Element) → length (xs ++ ys) + length zs + 1 ≡ length (xs ++ ys ++ zs ++ body ∷ [])
    lengths xs ys zs body = sym (length-append (xs ++ ys ++ zs) (body ∷ []) ∙ ap (λ (n : ℕ). n + 1) (length-append (xs ++ ys) zs))

    counted : read_in_root (root_read doc) ≡ length (first_held ++ second_held ++ third_held ++ body_read doc ∷ [])
    counted =
        (λ i. length (parts_are (root_read doc) (common_nodes doc) (automatic_nodes doc) (master_nodes doc) (body_read doc) (body_tagged doc) (root_children doc) i) + length (option_to_list (masters_found i)) + length (option_to_list (body_found i)))
        ∙ ap (λ (n : ℕ). length (first_held ++ second_held) + n + 1) (part_counted (codes "office:master-styles") (master_nodes doc))
        ∙ lengths first_held second_held third_held (body_read doc)

  pub body_whole : body_left (root_read doc) ≡ nothing
  body_whole =
      ap₂ (λ (text body : Option Element). all_of (map (λ (one : Element). both (left_by [] (attributes_of one)) (all_but (length (option_to_list text)) (children one))) (option_to_list body))) text_found body_found
      ∙ ap₂ (λ (attributes : List Attribute) (inner : List Element). all_of (both (left_by [] attributes) (all_but 1 inner) ∷ [])) (attributes_shown (codes "office:body") [] (text_element doc ∷ [])) body_children
