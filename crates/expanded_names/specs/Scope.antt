-- The namespaces that prefixes stand for at a place of a tree.
use Rattle.std.specs.Prelude.{◌≡◌, ℕ, true, if◌then◌else◌, List, [], ◌∷◌, Option, Some, None, unwrap_or}
use Rattle.std.specs.Map.{lookup}
use Rattle.std.specs.Option.{option_and_then}
use Rattle.std.specs.Str.{bytes_eq}
use Rattle.load_model.specs.Names.{Binding, bound_namespace, namespace_of, can_be_declared}

-- prefixes with their namespaces; the empty prefix stands for names without one
abbrev pub Pairs : Type 0
Pairs = List (List ℕ × List ℕ)

-- a namespace; the empty one is none
abbrev pub unless_empty : List ℕ → Option (List ℕ)
unless_empty namespace = if bytes_eq namespace [] then None else Some namespace

-- the namespace that is in force for a prefix, if there is one
abbrev pub in_force : Pairs → List ℕ → Option (List ℕ)
in_force pairs prefix = option_and_then unless_empty (lookup (bytes_eq prefix) pairs)

-- prefixes have the namespaces that they are bound to
pub record Holds (pairs : Pairs) (bindings : List Binding) : Type 0 where
  pub unprefixed : in_force pairs [] ≡ bound_namespace None bindings
  pub prefixed : (prefix : List ℕ) → can_be_declared prefix ≡ true → in_force pairs prefix ≡ bound_namespace (Some prefix) bindings

-- the binding of a prefix that an attribute declares, if it declares one
abbrev pub bindings_for : Option (List ℕ) → List ℕ → List Binding
bindings_for None namespace = []
bindings_for (Some []) namespace = record { prefix = None; namespace = namespace } ∷ []
bindings_for (Some (letter ∷ letters)) namespace = record { prefix = Some (letter ∷ letters); namespace = namespace } ∷ []

-- the namespace of an element's prefix, or of an element without one
abbrev pub element_namespace : Option (List ℕ) → List Binding → Option (List ℕ)
element_namespace None bindings = Some (unwrap_or (bound_namespace None bindings) [])
element_namespace (Some prefix) bindings = namespace_of prefix bindings

-- the namespace of an attribute's prefix; one without a prefix has none
abbrev pub attribute_namespace : Option (List ℕ) → List Binding → Option (List ℕ)
attribute_namespace None bindings = Some []
attribute_namespace (Some prefix) bindings = namespace_of prefix bindings
