-- Nodes that are plain, several at a time.
use Rattle.std.proofs.Common.{◌≡◌, ℕ, true, List, [], ◌∷◌, ◌++◌, map, refl, ap, ◌∙◌}
use Rattle.std.specs.List.{list_all}
use Rattle.std.proofs.lemmas.Bool.{and_parts, and_from}
use Rattle.markup_nodes.specs.declared.words.Attr.{Attr}
use Rattle.markup_nodes.specs.declared.tree.Elem.{Elem}
use Rattle.markup_nodes.specs.Node.{Node}
use Rattle.written_model.specs.Elements.{element, empty_element, part, properties, characters}
use Rattle.back_names.proofs.Plain.{is_fine, is_plain_node, plain_of}
use Rattle.back_names.proofs.Rows.{Row, AreByRows, all_named, no_rows, rows_fine}

abbrev pub IsPlain : Node Elem → Type 0
IsPlain node = is_plain_node node ≡ true

abbrev pub ArePlain : List (Node Elem) → Type 0
ArePlain nodes = list_all is_plain_node nodes ≡ true

-- an element by the rows of its attributes
pub element_plain : (name : List ℕ) (attrs : List Attr) (nodes : List (Node Elem)) {rows : List Row} → AreByRows attrs rows → is_fine name (all_named rows) ≡ true → ArePlain nodes
    → IsPlain (element name attrs nodes)
element_plain name attrs nodes {rows} e fine plain =
    plain_of 0 name attrs nodes ∙ and_from (is_fine name attrs) (list_all is_plain_node nodes) (ap (is_fine name) e.are ∙ rows_fine name rows fine) plain

pub one_plain : (node : Node Elem) → IsPlain node → ArePlain (node ∷ [])
one_plain node plain = and_from (is_plain_node node) true plain refl

pub more_plain : (node : Node Elem) (nodes : List (Node Elem)) → IsPlain node → ArePlain nodes → ArePlain (node ∷ nodes)
more_plain node nodes one more = and_from (is_plain_node node) (list_all is_plain_node nodes) one more

pub both_plain : (nodes others : List (Node Elem)) → ArePlain nodes → ArePlain others → ArePlain (nodes ++ others)
both_plain [] others one other = other
both_plain (node ∷ nodes) others one other =
    let parts = and_parts (is_plain_node node) (list_all is_plain_node nodes) one in
    and_from (is_plain_node node) (list_all is_plain_node (nodes ++ others)) parts.0 (both_plain nodes others parts.1 other)

pub each_plain : {X : Type 0} (f : X → Node Elem) → ((x : X) → IsPlain (f x)) → (xs : List X) → ArePlain (map f xs)
each_plain f plain [] = refl
each_plain f plain (x ∷ xs) = and_from (is_plain_node (f x)) (list_all is_plain_node (map f xs)) (plain x) (each_plain f plain xs)

pub characters_plain : (text : List ℕ) → ArePlain (characters text)
characters_plain [] = refl
characters_plain (c ∷ cs) = characters_plain cs

-- a part, if it holds something, and properties, if some are stated
pub part_plain : (name : List ℕ) (nodes : List (Node Elem)) → is_fine name [] ≡ true → ArePlain nodes → ArePlain (part name nodes)
part_plain name [] fine plain = refl
part_plain name (node ∷ nodes) fine plain = one_plain (element name [] (node ∷ nodes)) (element_plain name [] (node ∷ nodes) no_rows fine plain)

pub properties_plain : (name : List ℕ) (attrs : List Attr) {rows : List Row} → AreByRows attrs rows → is_fine name (all_named rows) ≡ true → ArePlain (properties name attrs)
properties_plain name [] e fine = refl
properties_plain name (attr ∷ attrs) e fine = one_plain (empty_element name (attr ∷ attrs)) (element_plain name (attr ∷ attrs) [] e fine refl)
