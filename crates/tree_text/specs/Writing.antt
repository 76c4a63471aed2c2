-- The text of a tree, by the productions of XML 1.0: element, EmptyElemTag, STag, Attribute, content and ETag.
use Rattle.std.specs.Prelude.{◌≡◌, ℕ, ◌+◌, ◌&&◌, ◌==◌, not, max, Bool, false, List, [], ◌∷◌, ◌++◌, codes}
use Rattle.std.specs.List.{flat_map, list_all}
use Rattle.markup_parts.specs.Chars.{is_legal, is_name_start, is_name_char}
use Rattle.markup_nodes.specs.Node.{Node, Element, Char}
use Rattle.markup_nodes.specs.declared.words.Attr.{Attr}
use Rattle.markup_nodes.specs.declared.tree.Elem.{Elem, roll-Elem}
use Rattle.markup_nodes.specs.declared.tree.Elem.TheOpen.{Elem-F}
use Rattle.markup_nodes.specs.declared.tree.Elem.TheFolds.{fold-Elem}
use Rattle.markup_nodes.specs.declared.tree.Tree.{Tree}
use Rattle.markup_tree.specs.Escapes.{text_escape, escaped_value}
use Rattle.markup_tree.specs.Documents.{Spells}

-- an attribute behind a space: its name, `=`, and its value in double quotes
abbrev pub attr_text : Attr → List ℕ
attr_text attr = codes " " ++ (attr.name ++ (codes "=\"" ++ (escaped_value attr.value ++ codes "\"")))

-- a tag up to what ends it: `<`, a name and attributes
abbrev pub tag_text : List ℕ → List Attr → List ℕ
tag_text name attrs = codes "<" ++ (name ++ flat_map attr_text attrs)

-- the tag that ends an element
abbrev pub end_text : List ℕ → List ℕ
end_text name = codes "</" ++ (name ++ codes ">")

-- a node: an element's text, or a character with its escape
abbrev pub node_text : Node (List ℕ) → List ℕ
node_text (Element text) = text
node_text (Char c) = text_escape c

-- what stands behind a tag's attributes: `/>` where the element holds nothing, else `>`, what it holds, and its end
abbrev pub rest_text : List ℕ → List (Node (List ℕ)) → List ℕ
rest_text name [] = codes "/>"
rest_text name (node ∷ nodes) = codes ">" ++ (flat_map node_text (node ∷ nodes) ++ end_text name)

abbrev pub elem_text : Elem-F (List ℕ) → List ℕ
elem_text elem = tag_text elem.name elem.attrs ++ rest_text elem.name elem.nodes

-- an element
abbrev pub written : Elem → List ℕ
written = fold-Elem (List ℕ) elem_text

-- what a document begins with
unfoldable pub declaration : List ℕ
declaration = codes "<?xml version=\"1.0\" encoding=\"UTF-8\"?>"

-- a document: the declaration on a line, and the root with a line end behind it
abbrev pub document_text : Elem → List ℕ
document_text root = declaration ++ (codes "\n" ++ (written root ++ codes "\n"))

-- a name
abbrev pub is_name : List ℕ → Bool
is_name [] = false
is_name (c ∷ cs) = is_name_start c && list_all is_name_char cs

-- an attribute has a name, and legal characters in its value
abbrev pub is_writable_attr : Attr → Bool
is_writable_attr attr = is_name attr.name && list_all is_legal attr.value

-- a character is legal and no carriage return, which would be read as a line feed
abbrev pub is_writable_node : Node Bool → Bool
is_writable_node (Element is) = is
is_writable_node (Char c) = is_legal c && not (c == 0xd)

abbrev pub is_writable_elem : Elem-F Bool → Bool
is_writable_elem elem = is_name elem.name && (list_all is_writable_attr elem.attrs && list_all is_writable_node elem.nodes)

-- the names of an element and of all in it are names, and its characters may stand in a document
abbrev pub is_writable : Elem → Bool
is_writable = fold-Elem Bool is_writable_elem

abbrev pub node_height : Node ℕ → ℕ
node_height (Element height) = height
node_height (Char c) = 0

abbrev pub greatest : List (Node ℕ) → ℕ
greatest [] = 0
greatest (node ∷ nodes) = max (node_height node) (greatest nodes)

abbrev pub elem_height : Elem-F ℕ → ℕ
elem_height elem = greatest elem.nodes + 1

-- how many elements stand in one another, at most
abbrev pub height : Elem → ℕ
height = fold-Elem ℕ elem_height

abbrev pub unplaced_elem : Elem-F Elem → Elem
unplaced_elem elem = roll-Elem (record { place = 0; name = elem.name; attrs = elem.attrs; nodes = elem.nodes })

-- an element with 0 for the place of each in it
abbrev pub unplaced : Elem → Elem
unplaced = fold-Elem Elem unplaced_elem

-- bytes spell a tree that is this one but for its places
abbrev pub SpellsAlike : List ℕ → Elem → Type 0
SpellsAlike bytes root = (tree : Tree) × Spells bytes tree × (unplaced tree.root ≡ unplaced root)

-- what an element holds, piece by piece
abbrev pub child_text : Node Elem → List ℕ
child_text (Element elem) = written elem
child_text (Char c) = text_escape c

abbrev pub content_text : List (Node Elem) → List ℕ
content_text = flat_map child_text
