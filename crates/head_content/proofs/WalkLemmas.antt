-- What an element gives, level by level.
use Rattle.std.proofs.Common.{◌≡◌, ℕ, ◌+◌, ◌-◌, ◌<◌, true, suc, List, [], ◌∷◌, ◌++◌, length, map, replicate, take, get_or, append_assoc, refl, sym, ap, ap₂, ◌∙◌, arith, Option, Some, None, Result, Ok, Err, OnOk, fold}
use Rattle.std.proofs.lemmas.List.{append-nil, map-append, take_more}
use Rattle.std.proofs.lemmas.Grind.{flat_map-append}
use Rattle.std.proofs.lemmas.Simd.{map-map}
use Rattle.std.specs.List.{flat_map}
use mathlib.Core.Former.{this}
use Rattle.markup_nodes.specs.formers.nodes.Nodes.{the_former}
use Rattle.markup_nodes.specs.declared.nodes.Turn.{Turn}
use Rattle.markup_nodes.specs.Node.{Node, Element as Inner, Char as Letter}
use Rattle.markup_nodes.specs.Nodes.{char_nodes, elems, leading, nodes_of, turn_nodes, turns_of}
use Rattle.doc_model.specs.declared.style.Family.TheVariants as family
use Rattle.doc_model.specs.declared.paragraph.Item.{Item}
use Rattle.doc_model.specs.declared.paragraph.What.{roll-What}
use Rattle.doc_model.specs.declared.paragraph.What.TheOpen.{What-F}
use Rattle.load_model.specs.declared.names.Key.TheVariants as key
use Rattle.load_model.specs.declared.names.Tag.{Tag}
use Rattle.load_model.specs.declared.names.Tag.TheVariants as tag
use Rattle.load_model.specs.declared.element.Attribute.{Attribute}
use Rattle.load_model.specs.declared.element.Element.{Element, out-Element}
use Rattle.load_model.specs.declared.element.Element.TheFolds.{fold_out-Element}
use Rattle.load_model.specs.Blocks.{ReadContent, joined_content, content_with, no_content, one_element}
use Rattle.load_model.specs.Content.{Raw, Read, raw_character, spaced}
use Rattle.load_model.specs.Fields.{field_rules}
use Rattle.load_model.specs.Headers.{Gives, Within, within, content_of, element_content, kept_field, leaf_items, node_content, own_text, span_content, stored_text}
use Rattle.load_model.specs.Left.{Left, both, all_of, children, only_attributes, only_elements}
use Rattle.load_model.specs.Styles.{Names, style_reference}
use Rattle.load_model.specs.Values as value
use Rattle.load_model.specs.Values.{Rule, attributes_left, rule, stated_or, value_of}
use Rattle.sheet_names.specs.Known.{Knows}
use Rattle.sheet_names.specs.declared.names.Names.{Names as Kept}
use Rattle.head_content.specs.declared.head_items.HeadItems.{HeadItems}
use Rattle.head_content.specs.declared.parts.Part.{Part}
use Rattle.head_content.specs.declared.parts.Part.TheVariants as part
use Rattle.head_content.specs.Parts.{part_of}
use Rattle.head_content.specs.Reading.{Adds, followed, item_of, letters, spaced_letter}
use Rattle.head_content.specs.Walk.{AddsBy, given_by, gives, leaf_of, letters_in, span_in, span_left, stored_in}
use Rattle.head_content.proofs.ReadingLemmas.{adds_then, adds_is, both_assoc, both_nothing, nothing_both}

-- what an element of these parts gives
abbrev within_with : Element → List (Node Gives) → Within
within_with element nodes = record {
  content = element_content (out-Element element).tag (out-Element element).attributes nodes;
  inside = λ names. content_of names nodes;
}

abbrev as_content : Node Within → Node Gives
as_content (Inner one) = Inner one.content
as_content (Letter c) = Letter c

nodes_given : (nodes : List (Node Element)) → map as_content ((the_former this).map Element Within within nodes) ≡ map gives nodes
nodes_given [] = refl
nodes_given (Inner element ∷ nodes) = ap (λ (more : List (Node Gives)). Inner (within element).content ∷ more) (nodes_given nodes)
nodes_given (Letter c ∷ nodes) = ap (λ (more : List (Node Gives)). Letter c ∷ more) (nodes_given nodes)

within_out : (element : Element) → within element ≡ within_with element (map gives (out-Element element).nodes)
within_out element = fold_out-Element Within _ element ∙ ap (within_with element) (nodes_given (out-Element element).nodes)

pub content_out : (element : Element) (names : Names) → (within element).content names ≡ element_content (out-Element element).tag (out-Element element).attributes (map gives (out-Element element).nodes) names
content_out element names = ap (λ (one : Within). one.content names) (within_out element)

pub inside_out : (element : Element) (names : Names) → (within element).inside names ≡ given_by (out-Element element).nodes names
inside_out element names = ap (λ (one : Within). one.inside names) (within_out element)

-- what an element gives by what it is
abbrev content_by : Part → Tag → List Attribute → List (Node Gives) → Names → ReadContent
content_by part.Span which attributes nodes names = span_content names attributes nodes
content_by part.Spaces which attributes nodes names = leaf_items (rule key.Count (value.number 1 4294967295) ∷ []) attributes nodes (replicate (stated_or key.Count (value.number 1 4294967295) 1 attributes) (item_of (roll-What (What-F.Char 0x20))))
content_by part.Tab which attributes nodes names = leaf_items [] attributes nodes (item_of (roll-What What-F.Tab) ∷ [])
content_by part.Break which attributes nodes names = leaf_items [] attributes nodes (item_of (roll-What What-F.Break) ∷ [])
content_by part.Field which attributes nodes names = kept_field which attributes nodes
content_by part.StoredText which attributes nodes names = stored_text which attributes nodes
content_by part.Dropped which attributes nodes names = no_content one_element
content_by part.Passed which attributes nodes names = content_with one_element (content_of names nodes)

content_parts : (which : Tag) (attributes : List Attribute) (nodes : List (Node Gives)) (names : Names) → element_content which attributes nodes names ≡ content_by (part_of which) which attributes nodes names
content_parts tag.Span attributes nodes names = refl
content_parts tag.Spaces attributes nodes names = refl
content_parts tag.Tab attributes nodes names = refl
content_parts tag.LineBreak attributes nodes names = refl
content_parts _ attributes nodes names = refl

pub part_is : (element : Element) (which : Part) → which ≡ part_of (out-Element element).tag → (names : Names)
    → content_by which (out-Element element).tag (out-Element element).attributes (map gives (out-Element element).nodes) names ≡ (within element).content names
part_is element which e names =
    ap (λ (one : Part). content_by one (out-Element element).tag (out-Element element).attributes (map gives (out-Element element).nodes) names) e
    ∙ sym (content_parts (out-Element element).tag (out-Element element).attributes (map gives (out-Element element).nodes) names) ∙ sym (content_out element names)

-- elements without content
elems_count : (nodes : List (Node Element)) → length (elems (map gives nodes)) ≡ length (elems nodes)
elems_count [] = refl
elems_count (Inner element ∷ nodes) = ap suc (elems_count nodes)
elems_count (Letter c ∷ nodes) = elems_count nodes

pub leaf_is : (element : Element) (rules : List Rule) (items : List Item) → leaf_of rules items element ≡ leaf_items rules (out-Element element).attributes (map gives (out-Element element).nodes) items
leaf_is element rules items =
    let count : length (children element) - 0 ≡ length (elems (map gives (out-Element element).nodes)) =
    (let e : length (children element) - 0 ≡ length (children element) = omega arith in e) ∙ sym (elems_count (out-Element element).nodes) in
    ap (λ (n : ℕ). record { raws = map Read items; left = both (only_attributes (attributes_left rules (out-Element element).attributes)) (only_elements n) }) count

own_letters : (nodes : List (Node Element)) → own_text (map gives nodes) ≡ letters_in nodes
own_letters [] = refl
own_letters (Inner element ∷ nodes) = own_letters nodes
own_letters (Letter c ∷ nodes) = ap (λ (text : List ℕ). c ∷ text) (own_letters nodes)

pub stored_is : (element : Element) → leaf_of (field_rules (out-Element element).tag true) (stored_in element) element ≡ stored_text (out-Element element).tag (out-Element element).attributes (map gives (out-Element element).nodes)
stored_is element =
    leaf_is element (field_rules (out-Element element).tag true) (stored_in element)
    ∙ ap (λ (items : List Item). leaf_items (field_rules (out-Element element).tag true) (out-Element element).attributes (map gives (out-Element element).nodes) items)
    (sym (map-map (λ (c : ℕ). item_of (roll-What (What-F.Char c))) spaced_letter (letters_in (out-Element element).nodes))
    ∙ ap (λ (text : List ℕ). map (λ (c : ℕ). item_of (roll-What (What-F.Char c))) (spaced text)) (sym (own_letters (out-Element element).nodes)))

-- a span
pub span_is : (element : Element) (names : Names) → span_in element names ≡ span_content names (out-Element element).attributes (map gives (out-Element element).nodes)
span_is element names = by_value (value_of key.StyleName (out-Element element).attributes) refl where
  nodes : List (Node Gives)
  nodes = map gives (out-Element element).nodes

  by_reference : (text : List ℕ) (found : Option (List ℕ)) → value_of key.StyleName (out-Element element).attributes ≡ Some text → style_reference names family.Text text ≡ found
      → content_with (span_left names (out-Element element).attributes) (content_of names nodes) ≡ span_content names (out-Element element).attributes nodes
  by_reference text None e f = rw (e, f) refl
  by_reference text (Some name) e f = rw (e, f) refl

  by_value : (found : Option (List ℕ)) → value_of key.StyleName (out-Element element).attributes ≡ found
      → content_with (span_left names (out-Element element).attributes) (content_of names nodes) ≡ span_content names (out-Element element).attributes nodes
  by_value None e = rw e (ap (λ (left : Left). record { raws = (content_of names nodes).raws; left = left }) (nothing_both (content_of names nodes).left))
  by_value (Some text) e = by_reference text (style_reference names family.Text text) e refl

-- what nodes give one after another
from_total : (total : Left) (lefts : List Left) → fold both total lefts ≡ both total (all_of lefts)
from_total total [] = sym (both_nothing total)
from_total total (left ∷ lefts) =
    from_total (both total left) lefts ∙ both_assoc total left (all_of lefts)
    ∙ ap (both total) (sym (from_total left lefts) ∙ ap (λ (one : Left). fold both one lefts) (sym (nothing_both left)))

pub all_append : (xs ys : List Left) → all_of (xs ++ ys) ≡ both (all_of xs) (all_of ys)
all_append [] ys = sym (nothing_both (all_of ys))
all_append (x ∷ xs) ys =
    all_first x (xs ++ ys) ∙ ap (both x) (all_append xs ys) ∙ sym (both_assoc x (all_of xs) (all_of ys)) ∙ ap (λ (left : Left). both left (all_of ys)) (sym (all_first x xs)) where
      all_first : (one : Left) (more : List Left) → all_of (one ∷ more) ≡ both one (all_of more)
      all_first one more = ap (λ (left : Left). fold both left more) (nothing_both one) ∙ from_total one more

joined_append : (xs ys : List ReadContent) → joined_content (xs ++ ys) ≡ followed (joined_content xs) (joined_content ys)
joined_append xs ys =
    ap₂ (λ (raws : List Raw) (left : Left). record { raws = raws; left = left }) (flat_map-append (λ (one : ReadContent). one.raws) xs ys)
    (ap all_of (map-append (λ (one : ReadContent). one.left) xs ys) ∙ all_append (map (λ (one : ReadContent). one.left) xs) (map (λ (one : ReadContent). one.left) ys))

abbrev node_gives : Names → Node Gives → ReadContent
node_gives names = node_content names

pub given_append : (xs ys : List (Node Element)) (names : Names) → given_by (xs ++ ys) names ≡ followed (given_by xs names) (given_by ys names)
given_append xs ys names =
    ap (λ (all : List (Node Gives)). joined_content (map (node_gives names) all)) (map-append gives xs ys)
    ∙ ap joined_content (map-append (node_gives names) (map gives xs) (map gives ys)) ∙ joined_append (map (node_gives names) (map gives xs)) (map (node_gives names) (map gives ys))

pub given_letters : (text : List ℕ) (names : Names) → given_by (char_nodes text) names ≡ letters text
given_letters [] names = refl
given_letters (c ∷ cs) names = ap (λ (more : ReadContent). record { raws = raw_character [] c ∷ more.raws; left = more.left }) (given_letters cs names)

pub given_start : (text : List ℕ) (names : Names) → letters text ≡ given_by (nodes_of text []) names
given_start text names = sym (ap (λ (nodes : List (Node Element)). given_by nodes names) (append-nil (char_nodes text)) ∙ given_letters text names)

pub given_turn : (turn : Turn Element) (names : Names) → given_by (turn_nodes turn) names ≡ followed ((within turn.elem).content names) (letters turn.after)
given_turn turn names =
    joined_append ((within turn.elem).content names ∷ []) (map (node_gives names) (map gives (char_nodes turn.after)))
    ∙ ap₂ followed (ap₂ (λ (raws : List Raw) (left : Left). record { raws = raws; left = left }) (append-nil ((within turn.elem).content names).raws) (nothing_both ((within turn.elem).content names).left)) (given_letters turn.after names)

pub nodes_back : (nodes : List (Node Element)) → nodes_of (leading nodes) (turns_of nodes) ≡ nodes
nodes_back [] = refl
nodes_back (Inner element ∷ nodes) = ap (λ (more : List (Node Element)). Inner element ∷ more) (nodes_back nodes)
nodes_back (Letter c ∷ nodes) = ap (λ (more : List (Node Element)). Letter c ∷ more) (nodes_back nodes)

-- the nodes of turns, with one more
nodes_behind : (first : List ℕ) (turns : List (Turn Element)) (turn : Turn Element) → nodes_of first (turns ++ turn ∷ []) ≡ nodes_of first turns ++ turn_nodes turn
nodes_behind first turns turn =
    ap (λ (more : List (Node Element)). char_nodes first ++ more) (flat_map-append turn_nodes turns (turn ∷ []) ∙ ap (λ (last : List (Node Element)). flat_map turn_nodes turns ++ last) (append-nil (turn_nodes turn)))
    ∙ sym (append_assoc (char_nodes first) (flat_map turn_nodes turns) (turn_nodes turn))

pub given_behind : (first : List ℕ) (turns : List (Turn Element)) (i : ℕ) (turn : Turn Element) → i < length turns → turn ≡ get_or turns i turn → (names : Names)
    → followed (given_by (nodes_of first (take i turns)) names) (followed ((within turn.elem).content names) (letters turn.after)) ≡ given_by (nodes_of first (take (i + 1) turns)) names
given_behind first turns i turn l is names =
    ap (followed (given_by (nodes_of first (take i turns)) names)) (sym (given_turn turn names)) ∙ sym (given_append (nodes_of first (take i turns)) (turn_nodes turn) names)
    ∙ ap (λ (nodes : List (Node Element)). given_by nodes names) (sym (nodes_behind first (take i turns) turn) ∙ ap (nodes_of first) (ap (λ (one : Turn Element). take i turns ++ one ∷ []) is ∙ sym (take_more turns i turn l)))

-- calls one after another
module _ {E : Type 0} where
  pub by_is : (result : Result (Unit {0}) E) (kept : Kept) (old new : HeadItems) (xs : ReadContent) (ys : Gives) → ((names : Names) → xs ≡ ys names) → OnOk result (Adds old new xs) → OnOk result (AddsBy kept old new ys)
  by_is (Ok unit) kept old new xs ys e a = λ names knows. adds_is old new xs (ys names) (e names) a
  by_is (Err why) kept old new xs ys e a = tt

  pub by_alike : (result : Result (Unit {0}) E) (kept : Kept) (old new : HeadItems) (xs ys : Gives) → ((names : Names) → xs names ≡ ys names) → OnOk result (AddsBy kept old new xs) → OnOk result (AddsBy kept old new ys)
  by_alike (Ok unit) kept old new xs ys e a = λ names knows. adds_is old new (xs names) (ys names) (e names) (a names knows)
  by_alike (Err why) kept old new xs ys e a = tt

  pub by_then : (result : Result (Unit {0}) E) (kept : Kept) (first middle new : HeadItems) (xs ys zs : Gives) → ((names : Names) → Knows kept names → followed (xs names) (ys names) ≡ zs names)
      → AddsBy kept first middle xs → OnOk result (AddsBy kept middle new ys) → OnOk result (AddsBy kept first new zs)
  by_then (Ok unit) kept first middle new xs ys zs e a b = λ names knows. adds_is first new (followed (xs names) (ys names)) (zs names) (e names knows) (adds_then first middle new (xs names) (ys names) (a names knows) (b names knows))
  by_then (Err why) kept first middle new xs ys zs e a b = tt

-- the characters directly among nodes, turn by turn
pub letters_turns : (nodes : List (Node Element)) → letters_in nodes ≡ leading nodes ++ flat_map (λ (turn : Turn Element). turn.after) (turns_of nodes)
letters_turns [] = refl
letters_turns (Inner element ∷ nodes) = letters_turns nodes
letters_turns (Letter c ∷ nodes) = ap (λ (text : List ℕ). c ∷ text) (letters_turns nodes)

pub letters_behind_turn : (first : List ℕ) (turns : List (Turn Element)) (i : ℕ) (turn : Turn Element) → i < length turns → turn ≡ get_or turns i turn
    → (first ++ flat_map (λ (one : Turn Element). one.after) (take i turns)) ++ turn.after ≡ first ++ flat_map (λ (one : Turn Element). one.after) (take (i + 1) turns)
letters_behind_turn first turns i turn l is =
    append_assoc first (flat_map (λ (one : Turn Element). one.after) (take i turns)) turn.after
    ∙ ap (λ (more : List ℕ). first ++ more) (ap (λ (last : List ℕ). flat_map (λ (one : Turn Element). one.after) (take i turns) ++ last) (sym (append-nil turn.after))
    ∙ sym (flat_map-append (λ (one : Turn Element). one.after) (take i turns) (turn ∷ []))
    ∙ ap (flat_map (λ (one : Turn Element). one.after)) (ap (λ (one : Turn Element). take i turns ++ one ∷ []) is ∙ sym (take_more turns i turn l)))
