-- Headers and footers as they are read. Their paragraphs keep characters, tabs, breaks, and the fields of page numbers, page counts and chapters; other fields give their stored text.
use Rattle.std.specs.Prelude.{ℕ, ◌+◌, ◌||◌, Bool, true, false, if◌then◌else◌, List, [], ◌∷◌, ◌++◌, map, filter, length, replicate, take, Option, Some, None, option_to_list}
use Rattle.std.specs.List.{flat_map}
use Rattle.markup_nodes.specs.Node.{Node, Element as Inner, Char as Letter}
use Rattle.markup_nodes.specs.Nodes.{elems}
use Rattle.doc_model.specs.declared.style.Family.TheVariants as family
use Rattle.doc_model.specs.declared.paragraph.Item.{Item, out-Item}
use Rattle.doc_model.specs.declared.paragraph.What.TheOpen.{What-F}
use Rattle.doc_model.specs.declared.page_layout.HeadPar.{HeadPar}
use Rattle.doc_model.specs.declared.page_layout.Master.{Master}
use Rattle.load_model.specs.declared.names.Key.TheVariants as key
use Rattle.load_model.specs.declared.names.Tag.{Tag}
use Rattle.load_model.specs.declared.names.Tag.TheVariants as tag
use Rattle.load_model.specs.declared.element.Element.{Element}
use Rattle.load_model.specs.declared.element.Element.TheOpen.{Element-F}
use Rattle.load_model.specs.declared.element.Element.TheFolds.{fold-Element}
use Rattle.load_model.specs.declared.element.Attribute.{Attribute}
use Rattle.load_model.specs.Values as value
use Rattle.load_model.specs.Values.{Rule, rule, stated_or, value_of, attributes_left}
use Rattle.load_model.specs.Left.{Left, nothing, only_elements, only_attributes, both, all_of, all_but, children, attributes_of, is, first}
use Rattle.load_model.specs.Styles.{Names, reference, style_reference, name_of, kept_masters}
use Rattle.load_model.specs.Met.{is_dropped}
use Rattle.load_model.specs.Content.{Read, item_in, raw_character, spaced, items_of_raw}
use Rattle.load_model.specs.Fields.{field_of, field_rules, is_field, is_header_field}
use Rattle.load_model.specs.Blocks.{ReadContent, no_content, joined_content, content_with, one_element, left_by}

-- what an element gives in a header, by the names that can be referred to
abbrev pub Gives : Type 0
Gives = Names → ReadContent

-- the content that nodes give
abbrev pub node_content : Names → Node Gives → ReadContent
node_content names (Inner gives) = gives names
node_content names (Letter c) = record { raws = raw_character [] c ∷ []; left = nothing }

abbrev pub content_of : Names → List (Node Gives) → ReadContent
content_of names nodes = joined_content (map (node_content names) nodes)

-- the characters that stand directly in an element
abbrev pub own_text : List (Node Gives) → List ℕ
own_text nodes = flat_map of_node nodes where
  of_node : Node Gives → List ℕ
  of_node (Inner gives) = []
  of_node (Letter c) = c ∷ []

-- items of an element in which no other has a rule
abbrev pub leaf_items : List Rule → List Attribute → List (Node Gives) → List Item → ReadContent
leaf_items rules attributes nodes items = record { raws = map Read items; left = both (left_by rules attributes) (only_elements (length (elems nodes))) }

-- a span is passed: one without a style without a count, one whose style isn't there with that attribute, and any other as an element
abbrev pub span_content : Names → List Attribute → List (Node Gives) → ReadContent
span_content names attributes nodes = of_value (value_of key.StyleName attributes) where
  of_reference : Option (List ℕ) → ReadContent
  of_reference None = content_with (only_attributes 1) (content_of names nodes)
  of_reference (Some name) = content_with one_element (content_of names nodes)

  of_value : Option (List ℕ) → ReadContent
  of_value None = content_of names nodes
  of_value (Some text) = of_reference (style_reference names family.Text text)

-- a field that stays one
abbrev pub kept_field : Tag → List Attribute → List (Node Gives) → ReadContent
kept_field which attributes nodes = leaf_items (field_rules which true) attributes nodes (map (λ field. item_in [] (What-F.Field field)) (option_to_list (field_of which true [] attributes)))

-- the stored text of any other field, of which no white space goes
abbrev pub stored_text : Tag → List Attribute → List (Node Gives) → ReadContent
stored_text which attributes nodes = leaf_items (field_rules which true) attributes nodes (map (λ c. item_in [] (What-F.Char c)) (spaced (own_text nodes)))

-- whether an element is a mark or a note, which headers don't keep
abbrev pub is_not_kept : Tag → Bool
is_not_kept tag.Note = true
is_not_kept tag.Bookmark = true
is_not_kept tag.BookmarkStart = true
is_not_kept tag.BookmarkEnd = true
is_not_kept _ = false

-- what an element gives in a header
abbrev pub element_content : Tag → List Attribute → List (Node Gives) → Names → ReadContent
element_content tag.Span attributes nodes names = span_content names attributes nodes
element_content tag.Spaces attributes nodes names = leaf_items (rule key.Count (value.number 1 4294967295) ∷ []) attributes nodes (replicate (stated_or key.Count (value.number 1 4294967295) 1 attributes) (item_in [] (What-F.Char 0x20)))
element_content tag.Tab attributes nodes names = leaf_items [] attributes nodes (item_in [] What-F.Tab ∷ [])
element_content tag.LineBreak attributes nodes names = leaf_items [] attributes nodes (item_in [] What-F.Break ∷ [])
element_content which attributes nodes names =
    if is_header_field which then kept_field which attributes nodes
    else if is_field which then stored_text which attributes nodes
    else if is_not_kept which || is_dropped which then no_content one_element
    else content_with one_element (content_of names nodes)

-- what an element gives, and what it holds
pub record Within : Type 0 where
  pub content : Gives
  pub inside : Gives

abbrev pub within : Element → Within
within = fold-Element Within of_element where
  as_content : Node Within → Node Gives
  as_content (Inner one) = Inner one.content
  as_content (Letter c) = Letter c

  of_element : Element-F Within → Within
  of_element element = record {
    content = element_content element.tag element.attributes (map as_content element.nodes);
    inside = λ names. content_of names (map as_content element.nodes);
  }

-- whether an element is a paragraph of a header
abbrev pub is_paragraph : Element → Bool
is_paragraph element = is tag.Paragraph element || is tag.Heading element

-- the paragraphs of a header that are read: the first sixteen
abbrev pub head_elements : Element → List Element
head_elements header = take 16 (filter is_paragraph (children header))

-- a paragraph of a header
abbrev pub head_paragraph : Names → Element → HeadPar
head_paragraph names element = record { items = map (λ item. (out-Item item).what) (items_of_raw ((within element).inside names).raws) }

-- the rules of such a paragraph: its style has none, and the level of a heading has no effect
abbrev pub head_rules : Element → List Rule
head_rules element = if is tag.Heading element then rule key.OutlineLevel value.heading_level ∷ [] else []

-- what is left out in it
abbrev pub head_left : Names → Element → Left
head_left names element = both (left_by (head_rules element) (attributes_of element)) ((within element).inside names).left

-- the header or footer of a master: the first
abbrev pub head_of : Tag → Element → Option Element
head_of which master = first which (children master)

abbrev pub head_paragraphs : Names → Tag → Element → List HeadPar
head_paragraphs names which master = flat_map (λ header. map (head_paragraph names) (head_elements header)) (option_to_list (head_of which master))

-- what is left out in a header: its attributes, elements that aren't read, and what is left out in its paragraphs
abbrev pub header_left : Names → Element → Left
header_left names header =
    all_of (left_by [] (attributes_of header) ∷ all_but (length (head_elements header)) (children header) ∷ all_of (map (head_left names) (head_elements header)) ∷ [])

-- the masters
abbrev pub masters : Names → Element → List Master
masters names root = flat_map (λ element. map (master_of element) (option_to_list (name_of element))) (kept_masters root) where
  master_of : Element → List ℕ → Master
  master_of element name = record {
    name = name;
    layout = stated_or key.Layout (reference names.layouts) [] (attributes_of element);
    next = stated_or key.Next (reference names.masters) [] (attributes_of element);
    header = head_paragraphs names tag.Header element;
    footer = head_paragraphs names tag.Footer element;
  }

-- the rules of a master
abbrev pub master_rules : Names → List Rule
master_rules names = rule key.Name value.name ∷ rule key.Layout (reference names.layouts) ∷ rule key.Next (reference names.masters) ∷ []

-- what is left out in a master
abbrev pub master_left : Names → Element → Left
master_left names element =
    all_of (left_by (master_rules names) (attributes_of element)
    ∷ all_but (length (option_to_list (head_of tag.Header element)) + length (option_to_list (head_of tag.Footer element))) (children element)
    ∷ all_of (map (header_left names) (option_to_list (head_of tag.Header element) ++ option_to_list (head_of tag.Footer element))) ∷ [])

-- what is left out in the part of masters, of which the first is read
abbrev pub masters_left : Names → Element → Left
masters_left names root =
    both (all_of (map (λ part. both (left_by [] (attributes_of part)) (all_but (length (kept_masters root)) (children part))) (option_to_list (first tag.MasterStyles (children root)))))
    (all_of (map (master_left names) (kept_masters root)))
