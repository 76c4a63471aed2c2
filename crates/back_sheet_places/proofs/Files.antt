-- Loops of styles, how much headers hold, and what a file says of itself, without places.
use Rattle.std.proofs.Common.{◌≡◌, ℕ, ◌+◌, ◌||◌, Bool, true, false, List, [], map, length, codes, refl, ap, ap₂, sym, ◌∙◌, Option, Some, None, option_map, option_to_list}
use Rattle.std.specs.List.{flat_map}
use Rattle.std.specs.Option.{option_map_or, option_and_then}
use Rattle.std.specs.Str.{bytes_eq}
use Rattle.style_model.specs.Lineage.{would_loop}
use Rattle.doc_model.specs.declared.style.Style.{Style}
use Rattle.doc_model.specs.declared.page_layout.HeadPar.{HeadPar}
use Rattle.load_model.specs.declared.names.Key.TheVariants as key
use Rattle.load_model.specs.declared.names.Tag.TheVariants as tag
use Rattle.load_model.specs.declared.element.Element.{Element}
use Rattle.load_model.specs.declared.element.Attribute.{Attribute}
use Rattle.load_model.specs.Values as value
use Rattle.load_model.specs.Values.{stated_or, value_of}
use Rattle.load_model.specs.Left.{Left, all_but, both, children, attributes_of, first}
use Rattle.load_model.specs.Styles.{InPart, style_parts, Names, names_of, kept_styles, style_in, styles, kept_masters}
use Rattle.load_model.specs.Blocks.{left_by}
use Rattle.load_model.specs.Headers.{head_elements, head_paragraph}
use Rattle.load_model.specs.Loaded.{body_of, text_of, is_global, read_in_root, body_left}
use Rattle.load_model.specs.Offences.{Counted, place_of, place_if, places_of_loops, counted_heads}
use Rattle.back_names.specs.Named.{placeless}
use Rattle.back_sheet_places.proofs.Bare.{attributes_bare, place_bare}
use Rattle.back_sheet_places.proofs.Heads.{both_heads, both_bare, elements_bare, paragraph_bare}
use Rattle.back_sheet_places.proofs.Kept.{bare_in, parts_bare, first_child_bare, kept_styles_bare, kept_masters_bare, names_bare}
use Rattle.back_sheet_places.proofs.Lefts.{all_bare, attributes_left_bare, count_bare, option_count, others_bare}
use Rattle.back_sheet_places.proofs.Lists.{joined, listed, mapped, none_changed, or_otherwise, changed_joined}
use Rattle.back_sheet_places.proofs.Values.{style_in_bare, styles_bare}

-- no place is stated
abbrev no_place : ℕ → ℕ
no_place place = 0

abbrev loop_in : Names → List Style → InPart → List ℕ
loop_in names all in_part = flat_map (λ style. place_if (would_loop all style.family style.name style.parent) (place_of in_part.element)) (style_in names in_part)

loop_bare : (names : Names) (all : List Style) (in_part : InPart) → map no_place (loop_in names all in_part) ≡ loop_in names all (bare_in in_part)
loop_bare names all in_part =
    changed_joined no_place (place_for (place_of in_part.element)) (place_for 0) (λ style. if_loop (would_loop all style.family style.name style.parent)) (style_in names in_part)
    ∙ ap₂ (λ (place : ℕ) (own : List Style). flat_map (place_for place) own) (sym (place_bare in_part.element)) (sym (style_in_bare names in_part))
  where
    place_for : ℕ → Style → List ℕ
    place_for place style = place_if (would_loop all style.family style.name style.parent) place

    if_loop : (loops : Bool) → map no_place (place_if loops (place_of in_part.element)) ≡ place_if loops 0
    if_loop true = refl
    if_loop false = refl

styles_same : (root : Element) → styles (names_of root) root ≡ styles (names_of (placeless root)) (placeless root)
styles_same root = sym (ap (λ (names : Names). styles names (placeless root)) (names_bare root) ∙ styles_bare (names_of root) root)

pub loops_bare : (root : Element) → map no_place (places_of_loops root) ≡ places_of_loops (placeless root)
loops_bare root =
    let names = names_of root in
    let all = styles names root in
    changed_joined no_place (loop_in names all) (λ in_part. loop_in names all (bare_in in_part)) (loop_bare names all) (kept_styles root)
    ∙ sym (joined bare_in (loop_in names all) (λ in_part. loop_in names all (bare_in in_part)) (λ in_part. refl) (kept_styles root))
    ∙ ap (flat_map (loop_in names all)) (sym (kept_styles_bare root))
    ∙ ap₂ (λ (own : Names) (given : List Style). flat_map (loop_in own given) (kept_styles (placeless root))) (sym (names_bare root)) (styles_same root)

pub no_loops : (root : Element) → places_of_loops (placeless root) ≡ [] → places_of_loops root ≡ []
no_loops root none = none_changed no_place (places_of_loops root) (loops_bare root ∙ none)

-- how many items a paragraph has
abbrev items_in : Counted → ℕ
items_in counted = counted.items

abbrev length_of : Names → Element → ℕ
length_of names element = length (head_paragraph names element).items

abbrev lengths_in : Names → Element → List ℕ
lengths_in names header = map (length_of names) (head_elements header)

abbrev lengths_by : Names → Element → List ℕ
lengths_by names master = flat_map (lengths_in names) (both_heads master)

heads_counted : (root : Element) → map items_in (counted_heads root) ≡ flat_map (lengths_by (names_of root)) (kept_masters root)
heads_counted root = changed_joined items_in by_master (lengths_by (names_of root)) (λ master. changed_joined items_in by_header (lengths_in (names_of root)) of_header (both_heads master)) (kept_masters root) where
  one_counted : Element → Counted
  one_counted element = record { place = place_of element; items = length_of (names_of root) element }

  by_header : Element → List Counted
  by_header header = map one_counted (head_elements header)

  by_master : Element → List Counted
  by_master master = flat_map by_header (both_heads master)

  of_header : (header : Element) → map items_in (by_header header) ≡ lengths_in (names_of root) header
  of_header header = mapped one_counted items_in (length_of (names_of root)) (λ element. refl) (head_elements header)

lengths_bare : (names : Names) (header : Element) → lengths_in names (placeless header) ≡ lengths_in names header
lengths_bare names header =
    ap (map (length_of names)) (elements_bare header) ∙ mapped placeless (length_of names) (length_of names) (λ element. ap (λ (par : HeadPar). length par.items) (paragraph_bare names element)) (head_elements header)

pub heads_bare : (root : Element) → map items_in (counted_heads (placeless root)) ≡ map items_in (counted_heads root)
heads_bare root =
    let names = names_of root in
    heads_counted (placeless root)
    ∙ ap₂ (λ (own : Names) (kept : List Element). flat_map (lengths_by own) kept) (names_bare root) (kept_masters_bare root)
    ∙ joined placeless (lengths_by names) (lengths_by names)
    (λ master. ap (flat_map (lengths_in names)) (both_bare master) ∙ joined placeless (lengths_in names) (lengths_in names) (lengths_bare names) (both_heads master)) (kept_masters root)
    ∙ sym (heads_counted root)

-- the text that is read
pub text_bare : (root : Element) → text_of (placeless root) ≡ option_map placeless (text_of root)
text_bare root = ap (option_and_then text_in) (first_child_bare tag.Body root) ∙ of_body (body_of root) where
  text_in : Element → Option Element
  text_in body = first tag.Text (children body)

  of_body : (body : Option Element) → option_and_then text_in (option_map placeless body) ≡ option_map placeless (option_and_then text_in body)
  of_body None = refl
  of_body (Some body) = first_child_bare tag.Text body

pub global_bare : (root : Element) → is_global (placeless root) ≡ is_global root
global_bare root =
    ap₂ (λ (one other : Bool). one || other)
    (ap (λ (attributes : List Attribute). option_map_or (bytes_eq (codes "application/vnd.oasis.opendocument.text-master")) (value_of key.Mimetype attributes) false) (attributes_bare root))
    (ap (λ (text : Option Element). option_map_or says text false) (text_bare root)
    ∙ or_otherwise placeless says says false (λ text. ap (λ (attributes : List Attribute). stated_or key.Global value.truth false attributes) (attributes_bare text)) (text_of root))
  where
    says : Element → Bool
    says text = stated_or key.Global value.truth false (attributes_of text)

pub root_left_bare : (root : Element) → all_but (read_in_root (placeless root)) (children (placeless root)) ≡ all_but (read_in_root root) (children root)
root_left_bare root =
    others_bare (read_in_root (placeless root)) (read_in_root root) root
    (ap₂ (λ (one other : ℕ). one + other)
    (ap₂ (λ (one other : ℕ). one + other) (count_bare (style_parts (placeless root)) (style_parts root) (parts_bare root))
    (option_count (first tag.MasterStyles (children (placeless root))) (first tag.MasterStyles (children root)) (first_child_bare tag.MasterStyles root)))
    (option_count (body_of (placeless root)) (body_of root) (first_child_bare tag.Body root)))

pub body_left_bare : (root : Element) → body_left (placeless root) ≡ body_left root
body_left_bare root =
    all_bare (left_in (placeless root)) (left_in root)
    (λ body. ap₂ both (attributes_left_bare [] body) (others_bare (count (placeless root)) (count root) body (option_count (text_of (placeless root)) (text_of root) (text_bare root))))
    (option_to_list (body_of (placeless root))) (option_to_list (body_of root)) (ap option_to_list (first_child_bare tag.Body root) ∙ listed placeless (body_of root))
  where
    count : Element → ℕ
    count one = length (option_to_list (text_of one))

    left_in : Element → Element → Left
    left_in one body = both (left_by [] (attributes_of body)) (all_but (count one) (children body))
