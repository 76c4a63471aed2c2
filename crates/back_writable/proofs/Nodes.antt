-- Nodes that may be written, with at most so many elements in one another.
use Rattle.std.proofs.Common.{◌≡◌, ℕ, ◌≤◌, ◌&&◌, ◌==◌, not, suc, Bool, true, false, List, [], ◌∷◌, refl, ◌∙◌, arith, Option, Some, None}
use Rattle.std.specs.List.{list_all, AllByRecursion as Each}
use Rattle.std.proofs.lemmas.Bool.{and_from}
use mathlib.Core.Former.{this}
use Rattle.markup_nodes.specs.formers.nodes.Nodes.{the_former}
use Rattle.markup_nodes.specs.declared.words.Attr.{Attr}
use Rattle.markup_nodes.specs.declared.tree.Elem.{Elem, roll-Elem}
use Rattle.markup_nodes.specs.declared.tree.Elem.TheFolds.{fold-roll-Elem}
use Rattle.markup_nodes.specs.Node.{Node, Element, Char}
use Rattle.markup_parts.specs.Chars.{is_legal}
use Rattle.doc_model.specs.Chars.{IsLegalText}
use Rattle.tree_text.specs.Writing.{is_name, is_writable_attr, is_writable_node, is_writable_elem, is_writable, greatest, elem_height, height}
use Rattle.written_model.specs.Elements.{attribute, unless_empty, where_stated, where_true, element, part, properties, characters}
use Rattle.back_writable.proofs.Chars.{AreLegal, legal_text}
use Rattle.back_writable.proofs.Lists.{each_also, each_made}

-- an element by its parts
abbrev pub elem_of : List ℕ → List Attr → List (Node Elem) → Elem
elem_of name attrs nodes = roll-Elem (record { place = 0; name = name; attrs = attrs; nodes = nodes })

-- the same of each node
abbrev each_node : {A : Type 0} → (Elem → A) → List (Node Elem) → List (Node A)
each_node {A} f = (the_former this).map Elem A f

-- whether a node may be written, and how many elements stand in one another there
abbrev pub is_writable_child : Node Elem → Bool
is_writable_child (Element elem) = is_writable elem
is_writable_child (Char c) = is_legal c && not (c == 0xd)

abbrev pub child_height : Node Elem → ℕ
child_height (Element elem) = height elem
child_height (Char c) = 0

-- a node that may be written, in which at most so many elements stand in one another
pub record Fits (room : ℕ) (node : Node Elem) : Type 0 where
  pub legal : is_writable_child node ≡ true
  pub low : child_height node ≤ room

abbrev pub AreFit : ℕ → List (Node Elem) → Type 0
AreFit room nodes = Each (Fits room) nodes

-- an attribute that may be written
abbrev pub IsGood : Attr → Type 0
IsGood attr = is_writable_attr attr ≡ true

abbrev pub AreGood : List Attr → Type 0
AreGood attrs = Each IsGood attrs

all_good : (attrs : List Attr) → AreGood attrs → list_all is_writable_attr attrs ≡ true
all_good [] good = refl
all_good (attr ∷ attrs) good = and_from (is_writable_attr attr) (list_all is_writable_attr attrs) good.0 (all_good attrs good.1)

nodes_legal : (room : ℕ) (nodes : List (Node Elem)) → AreFit room nodes → list_all is_writable_node (each_node is_writable nodes) ≡ true
nodes_legal room [] fit = refl
nodes_legal room (Element elem ∷ nodes) fit = and_from (is_writable elem) (list_all is_writable_node (each_node is_writable nodes)) fit.0.legal (nodes_legal room nodes fit.1)
nodes_legal room (Char c ∷ nodes) fit = and_from (is_legal c && not (c == 0xd)) (list_all is_writable_node (each_node is_writable nodes)) fit.0.legal (nodes_legal room nodes fit.1)

nodes_low : (room : ℕ) (nodes : List (Node Elem)) → AreFit room nodes → greatest (each_node height nodes) ≤ room
nodes_low room [] fit = omega arith
nodes_low room (Element elem ∷ nodes) fit = omega (arith, fit.0.low, nodes_low room nodes fit.1)
nodes_low room (Char c ∷ nodes) fit = omega (arith, nodes_low room nodes fit.1)

-- an element round nodes that fit, by its parts
pub elem_fits : (room : ℕ) (name : List ℕ) (attrs : List Attr) (nodes : List (Node Elem)) → is_name name ≡ true → AreGood attrs → AreFit room nodes
    → (is_writable (elem_of name attrs nodes) ≡ true) × (height (elem_of name attrs nodes) ≤ suc room)
elem_fits room name attrs nodes named good fit = (
  fold-roll-Elem Bool is_writable_elem (record { place = 0; name = name; attrs = attrs; nodes = nodes })
      ∙ and_from (is_name name) (list_all is_writable_attr attrs && list_all is_writable_node (each_node is_writable nodes)) named
      (and_from (list_all is_writable_attr attrs) (list_all is_writable_node (each_node is_writable nodes)) (all_good attrs good) (nodes_legal room nodes fit)),
  omega (arith, fold-roll-Elem ℕ elem_height (record { place = 0; name = name; attrs = attrs; nodes = nodes }), nodes_low room nodes fit),
)

pub element_fits : (room : ℕ) (name : List ℕ) (attrs : List Attr) (nodes : List (Node Elem)) → is_name name ≡ true → AreGood attrs → AreFit room nodes → Fits (suc room) (element name attrs nodes)
element_fits room name attrs nodes named good fit = let both = elem_fits room name attrs nodes named good fit in record { legal = both.0; low = both.1 }

pub looser : (room more : ℕ) → room ≤ more → (node : Node Elem) → Fits room node → Fits more node
looser room more le node fit = record { legal = fit.legal; low = omega (arith, fit.low, le) }

pub all_looser : (room more : ℕ) → room ≤ more → (nodes : List (Node Elem)) → AreFit room nodes → AreFit more nodes
all_looser room more le nodes fit = each_also (Fits room) (Fits more) (looser room more le) nodes fit

pub empty_fits : (room : ℕ) (name : List ℕ) (attrs : List Attr) → is_name name ≡ true → AreGood attrs → Fits (suc room) (element name attrs [])
empty_fits room name attrs named good = element_fits room name attrs [] named good tt

pub part_fits : (room : ℕ) (name : List ℕ) (nodes : List (Node Elem)) → is_name name ≡ true → AreFit room nodes → AreFit (suc room) (part name nodes)
part_fits room name [] named fit = tt
part_fits room name (node ∷ nodes) named fit = (element_fits room name [] (node ∷ nodes) named tt fit, tt)

pub properties_fit : (room : ℕ) (name : List ℕ) (attrs : List Attr) → is_name name ≡ true → AreGood attrs → AreFit (suc room) (properties name attrs)
properties_fit room name [] named good = tt
properties_fit room name (attr ∷ attrs) named good = (empty_fits room name (attr ∷ attrs) named good, tt)

pub characters_fit : (room : ℕ) (text : List ℕ) → Each IsLegalText text → AreFit room (characters text)
characters_fit room text each = each_made IsLegalText (Fits room) Char (λ c h. record { legal = legal_text c h; low = omega arith }) text each

-- attributes
pub attribute_good : (name value : List ℕ) → is_name name ≡ true → AreLegal value → IsGood (attribute name value)
attribute_good name value named legal = and_from (is_name name) (list_all is_legal value) named legal

pub unless_good : (name value : List ℕ) → is_name name ≡ true → AreLegal value → AreGood (unless_empty name value)
unless_good name [] named legal = tt
unless_good name (c ∷ cs) named legal = (attribute_good name (c ∷ cs) named legal, tt)

pub stated_good : {X : Type 0} (name : List ℕ) (text : X → List ℕ) (value : Option X) → is_name name ≡ true → ((x : X) → AreLegal (text x)) → AreGood (where_stated name text value)
stated_good name text None named legal = tt
stated_good name text (Some value) named legal = (attribute_good name (text value) named (legal value), tt)

pub true_good : (name value : List ℕ) (so : Bool) → is_name name ≡ true → AreLegal value → AreGood (where_true name value so)
true_good name value true named legal = (attribute_good name value named legal, tt)
true_good name value false named legal = tt
