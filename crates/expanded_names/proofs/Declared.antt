-- Declarations and what they shadow.
use Rattle.std.proofs.Common.{◌≡◌, ℕ, Bool, true, false, cond, List, [], ◌∷◌, ◌++◌, refl, sym, ap, ◌∙◌, Some, None, string_bytes, subst}
use Rattle.std.specs.List.{find}
use Rattle.std.specs.Option.{option_and_then}
use Rattle.std.specs.Str.{bytes_eq, chars}
use Rattle.std.proofs.lemmas.Bool.{false≢true}
use Rattle.std.proofs.lemmas.Slice.Eq.{bytes_eq-Decides}
use Rattle.markup_nodes.specs.declared.words.Attr.{Attr}
use Rattle.load_model.specs.Names.{Binding, bound_namespace, can_be_declared, is_same_prefix, declared_by}
use Rattle.expanded_names.specs.declared.shadows.Shadow.{Shadow}
use Rattle.expanded_names.specs.Scope.{Pairs, unless_empty, in_force, Holds, bindings_for}
use Rattle.expanded_names.specs.Shadows.{Force, without, without_all}

-- what is in force once a prefix is bound
abbrev pub Binds : Pairs → Pairs → List ℕ → List ℕ → Type 0
Binds old new prefix namespace = (key : List ℕ) → in_force new key ≡ cond (bytes_eq prefix key) (unless_empty namespace) (in_force old key)

pub holds_after : (old new : Pairs) (around : List Binding) (prefix namespace : List ℕ) → Holds old around → Binds old new prefix namespace → Holds new (bindings_for (Some prefix) namespace ++ around)
holds_after old new around [] namespace holds binds = record {
  unprefixed = binds [];
  prefixed = by_prefix;
} where
  by_prefix : (q : List ℕ) → can_be_declared q ≡ true → in_force new q ≡ bound_namespace (Some q) around
  by_prefix [] h = absurd (false≢true h)
  by_prefix (c ∷ cs) h = binds (c ∷ cs) ∙ holds.prefixed (c ∷ cs) h
holds_after old new around (p ∷ ps) namespace holds binds = record {
  unprefixed = binds [] ∙ holds.unprefixed;
  prefixed = λ q h. binds q ∙ ap (λ said. cond (bytes_eq (p ∷ ps) q) (unless_empty namespace) said) (holds.prefixed q h) ∙ by_test q (bytes_eq (p ∷ ps) q);
} where
  by_test : (q : List ℕ) (test : Bool) → cond test (unless_empty namespace) (bound_namespace (Some q) around)
      ≡ option_and_then (λ (binding : Binding). cond (bytes_eq binding.namespace []) None (Some binding.namespace))
      (cond test (Some (record { prefix = Some (p ∷ ps); namespace = namespace })) (find (λ (binding : Binding). is_same_prefix binding.prefix (Some q)) around))
  by_test q true = refl
  by_test q false = refl

-- the same in force stays the same behind shadows
pub without_alike : (shadows : List Shadow) (force other : Force) → ((prefix : List ℕ) → force prefix ≡ other prefix) → (prefix : List ℕ) → without_all shadows force prefix ≡ without_all shadows other prefix
without_alike [] force other e prefix = e prefix
without_alike (shadow ∷ shadows) force other e prefix =
    ap (λ said. cond (bytes_eq (chars (string_bytes shadow.prefix)) prefix) (unless_empty (chars (string_bytes shadow.namespace))) said) (without_alike shadows force other e prefix)

pub without_last : (shadows : List Shadow) (shadow : Shadow) (force : Force) (prefix : List ℕ) → without_all (shadows ++ shadow ∷ []) force prefix ≡ without_all shadows (without shadow force) prefix
without_last [] shadow force prefix = refl
without_last (one ∷ shadows) shadow force prefix =
    ap (λ said. cond (bytes_eq (chars (string_bytes one.prefix)) prefix) (unless_empty (chars (string_bytes one.namespace))) said) (without_last shadows shadow force prefix)

-- a binding that is shadowed comes back
pub comes_back : (old new : Pairs) (shadow : Shadow) (prefix namespace : List ℕ) → chars (string_bytes shadow.prefix) ≡ prefix → Binds old new prefix namespace
    → unless_empty (chars (string_bytes shadow.namespace)) ≡ in_force old prefix → (key : List ℕ) → without shadow (in_force new) key ≡ in_force old key
comes_back old new shadow prefix namespace e binds was key =
    ap (λ (p : List ℕ). cond (bytes_eq p key) (unless_empty (chars (string_bytes shadow.namespace))) (in_force new key)) e
    ∙ ap (λ said. cond (bytes_eq prefix key) (unless_empty (chars (string_bytes shadow.namespace))) said) (binds key)
    ∙ by_test (bytes_eq prefix key) refl where
      by_test : (test : Bool) → bytes_eq prefix key ≡ test → cond test (unless_empty (chars (string_bytes shadow.namespace))) (cond test (unless_empty namespace) (in_force old key)) ≡ in_force old key
      by_test true h = was ∙ ap (in_force old) ((bytes_eq-Decides prefix key).0 h)
      by_test false h = refl

pub shadowed : (old new : Pairs) (shadows : List Shadow) (shadow : Shadow) (prefix namespace : List ℕ) → chars (string_bytes shadow.prefix) ≡ prefix → Binds old new prefix namespace
    → unless_empty (chars (string_bytes shadow.namespace)) ≡ in_force old prefix → (key : List ℕ) → without_all (shadows ++ shadow ∷ []) (in_force new) key ≡ without_all shadows (in_force old) key
shadowed old new shadows shadow prefix namespace e binds was key =
    without_last shadows shadow (in_force new) key ∙ without_alike shadows (without shadow (in_force new)) (in_force old) (comes_back old new shadow prefix namespace e binds was) key

-- what an attribute declares holds once it is bound
pub declared_holds : (old new : Pairs) (around : List Binding) (attr : Attr) (name prefix put namespace : List ℕ) → name ≡ attr.name
    → ((value : List ℕ) → declared_by (record { name = name; value = value }) ≡ bindings_for (Some prefix) value) → put ≡ prefix → namespace ≡ attr.value → Binds old new put namespace
    → Holds old around → Holds new (declared_by attr ++ around)
declared_holds old new around attr name prefix put namespace named declares p n binds holds =
    let declared : declared_by attr ≡ bindings_for (Some prefix) attr.value =
    ap (λ (one : List ℕ). declared_by (record { name = one; value = attr.value })) (sym named) ∙ declares attr.value in
    let of_prefix : List ℕ → Type 0 = λ one. Binds old new one namespace in
    let of_namespace : List ℕ → Type 0 = λ one. Binds old new prefix one in
    let of_bindings : List Binding → Type 0 = λ bindings. Holds new (bindings ++ around) in
    subst of_bindings (sym declared) (holds_after old new around prefix attr.value holds (subst of_namespace n (subst of_prefix p binds)))
