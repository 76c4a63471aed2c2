-- Masters with their headers and footers don't look at places.
use Rattle.std.proofs.Common.{◌≡◌, ℕ, ◌+◌, ◌||◌, Bool, cond, List, [], ◌∷◌, ◌++◌, map, filter, take, length, refl, ap, ap₂, sym, ◌∙◌, Option, option_map, option_to_list}
use Rattle.std.specs.List.{flat_map}
use Rattle.std.proofs.lemmas.List.{take-map, map-append}
use Rattle.doc_model.specs.declared.paragraph.Item.{out-Item}
use Rattle.doc_model.specs.declared.page_layout.HeadPar.{HeadPar}
use Rattle.doc_model.specs.declared.page_layout.Master.{Master}
use Rattle.load_model.specs.declared.names.Key.TheVariants as key
use Rattle.load_model.specs.declared.names.Tag.{Tag}
use Rattle.load_model.specs.declared.names.Tag.TheVariants as tag
use Rattle.load_model.specs.declared.element.Element.{Element}
use Rattle.load_model.specs.declared.element.Attribute.{Attribute}
use Rattle.load_model.specs.Values as value
use Rattle.load_model.specs.Values.{Rule, rule, stated_or}
use Rattle.load_model.specs.Content.{items_of_raw}
use Rattle.load_model.specs.Left.{Left, both, all_of, all_but, children, attributes_of, first}
use Rattle.load_model.specs.Blocks.{left_by}
use Rattle.load_model.specs.Styles.{Names, reference, name_of, kept_masters}
use Rattle.load_model.specs.Headers.{Within, within, is_paragraph, head_elements, head_paragraph, head_left, head_of, head_paragraphs, header_left, masters, master_rules, master_left, masters_left}
use Rattle.back_names.specs.Named.{placeless}
use Rattle.back_sheet_places.proofs.Bare.{attributes_bare, children_bare, fold_bare}
use Rattle.back_sheet_places.proofs.Kept.{is_bare, first_child_bare, masters_part_bare, name_bare, kept_masters_bare}
use Rattle.back_sheet_places.proofs.Lefts.{count_bare, option_count, all_bare, attributes_left_bare, others_bare}
use Rattle.back_sheet_places.proofs.Lists.{filtered, listed, mapped, joined, next, last}

within_bare : (element : Element) → within (placeless element) ≡ within element
within_bare element = fold_bare _ (λ place tag attributes nodes. refl) element

pub paragraph_bare : (names : Names) (element : Element) → head_paragraph names (placeless element) ≡ head_paragraph names element
paragraph_bare names element = ap (λ (held : Within). record { items = map (λ item. (out-Item item).what) (items_of_raw (held.inside names).raws) }) (within_bare element)

abbrev rules_by : Bool → List Rule
rules_by is_heading = cond is_heading (rule key.OutlineLevel value.heading_level ∷ []) []

head_left_bare : (names : Names) (element : Element) → head_left names (placeless element) ≡ head_left names element
head_left_bare names element =
    ap₂ both (ap₂ (λ (is_heading : Bool) (attributes : List Attribute). left_by (rules_by is_heading) attributes) (is_bare tag.Heading element) (attributes_bare element))
    (ap (λ (held : Within). (held.inside names).left) (within_bare element))

pub elements_bare : (header : Element) → head_elements (placeless header) ≡ map placeless (head_elements header)
elements_bare header =
    ap (λ (elements : List Element). take 16 (filter is_paragraph elements)) (children_bare header)
    ∙ ap (take 16) (filtered placeless is_paragraph is_paragraph (λ element. ap₂ (λ (one other : Bool). one || other) (is_bare tag.Paragraph element) (is_bare tag.Heading element)) (children header))
    ∙ take-map placeless 16 (filter is_paragraph (children header))

pub head_bare : (which : Tag) (master : Element) → head_of which (placeless master) ≡ option_map placeless (head_of which master)
head_bare which master = first_child_bare which master

header_left_bare : (names : Names) (header : Element) → header_left names (placeless header) ≡ header_left names header
header_left_bare names header =
    let elements = elements_bare header in
    ap all_of
    (next (attributes_left_bare [] header)
    (next (others_bare (length (head_elements (placeless header))) (length (head_elements header)) header (count_bare (head_elements (placeless header)) (head_elements header) elements))
    (last (all_bare (head_left names) (head_left names) (head_left_bare names) (head_elements (placeless header)) (head_elements header) elements))))

-- what headers of a kind make
module _ {A : Type 0} (made : Element → List A) (same : (element : Element) → made (placeless element) ≡ made element) where
  pub heads_bare : (which : Tag) (master : Element) → flat_map made (option_to_list (head_of which (placeless master))) ≡ flat_map made (option_to_list (head_of which master))
  heads_bare which master =
      ap (λ (header : Option Element). flat_map made (option_to_list header)) (head_bare which master)
      ∙ ap (flat_map made) (listed placeless (head_of which master))
      ∙ joined placeless made made same (option_to_list (head_of which master))

paragraphs_bare : (names : Names) (which : Tag) (master : Element) → head_paragraphs names which (placeless master) ≡ head_paragraphs names which master
paragraphs_bare names which master = heads_bare made made_bare which master where
  made : Element → List HeadPar
  made header = map (head_paragraph names) (head_elements header)

  made_bare : (header : Element) → made (placeless header) ≡ made header
  made_bare header = ap (map (head_paragraph names)) (elements_bare header) ∙ mapped placeless (head_paragraph names) (head_paragraph names) (paragraph_bare names) (head_elements header)

-- a master by its parts
abbrev master_with : Names → List Attribute → List HeadPar → List HeadPar → List ℕ → Master
master_with names attributes header footer name = record {
  name = name;
  layout = stated_or key.Layout (reference names.layouts) [] attributes;
  next = stated_or key.Next (reference names.masters) [] attributes;
  header = header;
  footer = footer;
}

abbrev masters_by : Names → Element → List Master
masters_by names element =
    map (master_with names (attributes_of element) (head_paragraphs names tag.Header element) (head_paragraphs names tag.Footer element)) (option_to_list (name_of element))

master_bare : (names : Names) (element : Element) → masters_by names (placeless element) ≡ masters_by names element
master_bare names element =
    ap₂ (λ (attributes : List Attribute) (name : Option (List ℕ)).
    map (master_with names attributes (head_paragraphs names tag.Header (placeless element)) (head_paragraphs names tag.Footer (placeless element))) (option_to_list name)) (attributes_bare element) (name_bare element)
    ∙ ap₂ (λ (header footer : List HeadPar). map (master_with names (attributes_of element) header footer) (option_to_list (name_of element))) (paragraphs_bare names tag.Header element) (paragraphs_bare names tag.Footer element)

pub masters_bare : (names : Names) (root : Element) → masters names (placeless root) ≡ masters names root
masters_bare names root = ap (flat_map (masters_by names)) (kept_masters_bare root) ∙ joined placeless (masters_by names) (masters_by names) (master_bare names) (kept_masters root)

-- the header and the footer of a master
abbrev pub both_heads : Element → List Element
both_heads master = option_to_list (head_of tag.Header master) ++ option_to_list (head_of tag.Footer master)

pub both_bare : (master : Element) → both_heads (placeless master) ≡ map placeless (both_heads master)
both_bare master =
    ap₂ (λ (header footer : Option Element). option_to_list header ++ option_to_list footer) (head_bare tag.Header master) (head_bare tag.Footer master)
    ∙ ap₂ (λ (headers footers : List Element). headers ++ footers) (listed placeless (head_of tag.Header master)) (listed placeless (head_of tag.Footer master))
    ∙ sym (map-append placeless (option_to_list (head_of tag.Header master)) (option_to_list (head_of tag.Footer master)))

master_left_bare : (names : Names) (element : Element) → master_left names (placeless element) ≡ master_left names element
master_left_bare names element =
    ap all_of
    (next (attributes_left_bare (master_rules names) element)
    (next (others_bare (count (placeless element)) (count element) element
    (ap₂ (λ (one other : ℕ). one + other) (option_count (head_of tag.Header (placeless element)) (head_of tag.Header element) (head_bare tag.Header element))
    (option_count (head_of tag.Footer (placeless element)) (head_of tag.Footer element) (head_bare tag.Footer element))))
    (last (all_bare (header_left names) (header_left names) (header_left_bare names) (both_heads (placeless element)) (both_heads element) (both_bare element)))))
  where
    count : Element → ℕ
    count master = length (option_to_list (head_of tag.Header master)) + length (option_to_list (head_of tag.Footer master))

pub masters_count : (root : Element) → length (kept_masters (placeless root)) ≡ length (kept_masters root)
masters_count root = count_bare (kept_masters (placeless root)) (kept_masters root) (kept_masters_bare root)

pub masters_left_bare : (names : Names) (root : Element) → masters_left names (placeless root) ≡ masters_left names root
masters_left_bare names root =
    ap₂ both
    (all_bare (part_left (placeless root)) (part_left root)
    (λ part. ap₂ both (attributes_left_bare [] part) (others_bare (length (kept_masters (placeless root))) (length (kept_masters root)) part (masters_count root)))
    (parts (placeless root)) (parts root) (ap option_to_list (masters_part_bare root) ∙ listed placeless (first tag.MasterStyles (children root))))
    (all_bare (master_left names) (master_left names) (master_left_bare names) (kept_masters (placeless root)) (kept_masters root) (kept_masters_bare root))
  where
    parts : Element → List Element
    parts one = option_to_list (first tag.MasterStyles (children one))

    part_left : Element → Element → Left
    part_left one part = both (left_by [] (attributes_of part)) (all_but (length (kept_masters one)) (children part))
