-- Expanded names (Namespaces in XML 1.0): what a name means by the prefixes that the elements around it declare.
use Rattle.std.specs.Prelude.{ℕ, ◌==◌, ◌&&◌, ◌||◌, not, Bool, true, false, if◌then◌else◌, List, [], ◌∷◌, ◌++◌, map, filter_map, find, codes, Option, Some, None, option_map, is_none, unwrap_or}
use Rattle.std.specs.List.{list_any, before_first, after_first, flat_map}
use Rattle.std.specs.Option.{option_and_then}
use Rattle.std.specs.Str.{bytes_eq}
use Rattle.markup_nodes.specs.declared.words.Attr.{Attr}
use Rattle.markup_nodes.specs.declared.tree.Elem.{Elem}
use Rattle.markup_nodes.specs.declared.tree.Elem.TheOpen.{Elem-F}
use Rattle.markup_nodes.specs.declared.tree.Elem.TheFolds.{fold-Elem}
use Rattle.markup_nodes.specs.Node.{Node, Element, Char}
use Rattle.markup_nodes.specs.Nodes.{elems}
use Rattle.load_model.specs.declared.names.TheConstants.{OFFICE, DRAW, KNOWN_TAGS, KNOWN_KEYS}
use Rattle.load_model.specs.declared.names.Tag.{Tag}
use Rattle.load_model.specs.declared.names.Tag.TheVariants as tag
use Rattle.load_model.specs.declared.names.Key.{Key}
use Rattle.load_model.specs.declared.names.Key.TheVariants as key
use Rattle.load_model.specs.declared.element.Attribute.{Attribute}
use Rattle.load_model.specs.declared.element.Element.{Element as Read, roll-Element}

-- a name cut at its first colon: the prefix, if there is a colon, and the local name
pub record Cut : Type 0 where
  pub prefix : Option (List ℕ)
  pub local_name : List ℕ

-- whether a character is a colon
abbrev pub is_colon : ℕ → Bool
is_colon c = c == 0x3a

-- a name, cut
abbrev pub cut_name : List ℕ → Cut
cut_name name =
    if list_any is_colon name
    then record { prefix = Some (before_first is_colon name); local_name = after_first is_colon name }
    else record { prefix = None; local_name = name }

-- a prefix, or none, with the namespace that it stands for; the empty one takes a declaration around it away
pub record Binding : Type 0 where
  pub prefix : Option (List ℕ)
  pub namespace : List ℕ

-- an expanded name: a namespace, or none, and a local name
pub record Expanded : Type 0 where
  pub namespace : List ℕ
  pub local_name : List ℕ

-- the namespaces of the prefixes that need no declaration
abbrev pub xml_namespace : List ℕ
xml_namespace = codes "http://www.w3.org/XML/1998/namespace"

abbrev pub declarations_namespace : List ℕ
declarations_namespace = codes "http://www.w3.org/2000/xmlns/"

-- whether a prefix can be declared: it isn't empty, and neither 'xml' nor 'xmlns'
abbrev pub can_be_declared : List ℕ → Bool
can_be_declared prefix = not (bytes_eq prefix []) && not (bytes_eq prefix (codes "xml")) && not (bytes_eq prefix (codes "xmlns"))

-- whether two prefixes are the same
abbrev pub is_same_prefix : Option (List ℕ) → Option (List ℕ) → Bool
is_same_prefix None None = true
is_same_prefix (Some prefix) (Some other) = bytes_eq prefix other
is_same_prefix _ _ = false

-- what an attribute declares, if it declares something: 'xmlns' the namespace of names without a prefix, 'xmlns:p' that of p
abbrev pub declared_by : Attr → List Binding
declared_by attr = of_name (cut_name attr.name) where
  of_name : Cut → List Binding
  of_name name =
      if bytes_eq attr.name (codes "xmlns") then record { prefix = None; namespace = attr.value } ∷ []
      else if is_same_prefix name.prefix (Some (codes "xmlns")) && can_be_declared name.local_name then record { prefix = Some name.local_name; namespace = attr.value } ∷ []
      else []

-- what holds within an element with these attributes: its own declarations, and then those around it
abbrev pub bindings_within : List Attr → List Binding → List Binding
bindings_within attrs around = flat_map declared_by attrs ++ around

-- the namespace of a prefix that is bound: none where its declaration was taken away
abbrev pub bound_namespace : Option (List ℕ) → List Binding → Option (List ℕ)
bound_namespace prefix bindings = option_and_then (λ binding. if bytes_eq binding.namespace [] then None else Some binding.namespace) (find (λ binding. is_same_prefix binding.prefix prefix) bindings)

-- the namespace of a prefix, or nothing where it is undeclared
abbrev pub namespace_of : List ℕ → List Binding → Option (List ℕ)
namespace_of prefix bindings =
    if bytes_eq prefix (codes "xml") then Some xml_namespace
    else if can_be_declared prefix then bound_namespace (Some prefix) bindings
    else None

-- the expanded name of an element, or nothing where its prefix is undeclared
abbrev pub element_name : List ℕ → List Binding → Option Expanded
element_name name bindings = of_cut (cut_name name) where
  of_prefix : Option (List ℕ) → Option (List ℕ)
  of_prefix None = Some (unwrap_or (bound_namespace None bindings) [])
  of_prefix (Some prefix) = namespace_of prefix bindings

  of_cut : Cut → Option Expanded
  of_cut cut = option_map (λ namespace. record { namespace = namespace; local_name = cut.local_name }) (of_prefix cut.prefix)

-- whether an attribute's name is that of a declaration
abbrev pub is_declaration : List ℕ → Bool
is_declaration name = bytes_eq name (codes "xmlns") || is_same_prefix (cut_name name).prefix (Some (codes "xmlns"))

-- the expanded name of an attribute, or nothing where its prefix is undeclared. One without a prefix has no namespace
abbrev pub attribute_name : List ℕ → List Binding → Option Expanded
attribute_name name bindings = if is_declaration name then Some (record { namespace = declarations_namespace; local_name = (cut_name name).local_name }) else of_cut (cut_name name) where
  of_prefix : Option (List ℕ) → Option (List ℕ)
  of_prefix None = Some []
  of_prefix (Some prefix) = namespace_of prefix bindings

  of_cut : Cut → Option Expanded
  of_cut cut = option_map (λ namespace. record { namespace = namespace; local_name = cut.local_name }) (of_prefix cut.prefix)

-- whether two expanded names are the same
abbrev pub is_same_name : Expanded → Expanded → Bool
is_same_name name other = bytes_eq name.namespace other.namespace && bytes_eq name.local_name other.local_name

-- whether a name stands twice in a list
abbrev pub has_twice : List Expanded → Bool
has_twice [] = false
has_twice (name ∷ names) = list_any (is_same_name name) names || has_twice names

-- the namespaces whose elements are told from others where they have no rule
unfoldable pub office : List ℕ
office = OFFICE.now

unfoldable pub draw : List ℕ
draw = DRAW.now

-- a name that is read, with what it is
pub record Known (X : Type 0) : Type 0 where
  pub name : Expanded
  pub is : X

-- a name of a namespace
abbrev pub known : {X : Type 0} → List ℕ → List ℕ → X → Known X
known namespace local_name is = record { name = record { namespace = namespace; local_name = local_name }; is = is }

-- the elements that are read, by the table of them
unfoldable pub known_tags : List (Known Tag)
known_tags = map (λ row. known row.0.now row.1.now row.2) KNOWN_TAGS.now

-- the attributes that are read, and those that are left out without being counted, by the table of them
unfoldable pub known_keys : List (Known Key)
known_keys = map (λ row. known row.0.now row.1.now row.2) KNOWN_KEYS.now

-- what a name is among those that are known
abbrev pub what_is : {X : Type 0} → Expanded → List (Known X) → Option X
what_is name known = option_map (λ entry. entry.is) (find (λ entry. is_same_name entry.name name) known)

-- what an element is that has no rule of its own: those of office and draw are told from others
abbrev pub unknown_tag : Expanded → Tag
unknown_tag name = if bytes_eq name.namespace office || bytes_eq name.namespace draw then tag.Foreign else tag.Other

-- what an element is; one of an undeclared prefix has no rule
abbrev pub tag_of : Option Expanded → Tag
tag_of None = tag.Other
tag_of (Some name) = unwrap_or (what_is name known_tags) (unknown_tag name)

-- what an attribute is
abbrev pub key_of : Option Expanded → Key
key_of None = key.Other
key_of (Some name) = if bytes_eq name.namespace declarations_namespace then key.Uncounted else unwrap_or (what_is name known_keys) key.Other

-- an attribute, resolved
abbrev pub resolved_attribute : List Binding → Attr → Attribute
resolved_attribute bindings attr = record { key = key_of (attribute_name attr.name bindings); text = attr.value }

-- a node with its element resolved
abbrev pub resolved_node : List Binding → Node (List Binding → Read) → Node Read
resolved_node bindings (Element resolve) = Element (resolve bindings)
resolved_node bindings (Char c) = Char c

-- an element, resolved where these prefixes are bound within it
abbrev pub resolved_within : Elem-F (List Binding → Read) → List Binding → Read
resolved_within elem bindings = roll-Element (record {
  place = elem.place;
  tag = tag_of (element_name elem.name bindings);
  attributes = map (resolved_attribute bindings) elem.attrs;
  nodes = map (resolved_node bindings) elem.nodes;
})

-- the same where these are bound around it
abbrev pub resolved_around : Elem-F (List Binding → Read) → List Binding → Read
resolved_around elem around = resolved_within elem (bindings_within elem.attrs around)

-- an element, resolved where these prefixes are bound around it
abbrev pub resolved_in : Elem → List Binding → Read
resolved_in = fold-Elem (List Binding → Read) resolved_around

-- the root, resolved: nothing is bound around it
abbrev pub resolved : Elem → Read
resolved root = resolved_in root []

-- whether the names of an element go against the rules of namespaces: a prefix is undeclared, or two attributes have one expanded name
abbrev pub has_bad_names : List ℕ → List Attr → List Binding → Bool
has_bad_names name attrs bindings =
    is_none (element_name name bindings) || list_any (λ attr. is_none (attribute_name attr.name bindings)) attrs
    || has_twice (filter_map (λ attr. attribute_name attr.name bindings) attrs)

-- the place of an element of which this holds, where these prefixes are bound within it
abbrev pub own_bad_place : Elem-F (List Binding → List ℕ) → List Binding → List ℕ
own_bad_place elem bindings = if has_bad_names elem.name elem.attrs bindings then elem.place ∷ [] else []

-- its own place and those in it, where these are bound around it
abbrev pub bad_places_around : Elem-F (List Binding → List ℕ) → List Binding → List ℕ
bad_places_around elem around = own_bad_place elem (bindings_within elem.attrs around) ++ flat_map (λ inner. inner (bindings_within elem.attrs around)) (elems elem.nodes)

-- the places of the elements of which this holds, in the order of the file
abbrev pub places_of_bad_names : Elem → List Binding → List ℕ
places_of_bad_names = fold-Elem (List Binding → List ℕ) bad_places_around
