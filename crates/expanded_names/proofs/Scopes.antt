-- What is in force among pairs of prefixes and namespaces.
use Rattle.std.proofs.Common.{◌≡◌, ℕ, Bool, true, false, cond, List, [], ◌∷◌, map, refl, sym, ap, ◌∙◌, Option, Some, None, String, string_bytes, IsUtf8}
use Rattle.std.specs.Map.{lookup}
use Rattle.std.specs.Option.{option_and_then, option_map}
use Rattle.std.specs.Str.{bytes_eq, chars}
use Rattle.std.proofs.lemmas.Str.{IsUtf8-string_bytes}
use Rattle.std.proofs.lemmas.Slice.Eq.{bytes_eq-Decides}
use Rattle.indexmap.specs.IndexMap.{insert_entry}
use Rattle.expanded_names.specs.Scope.{Pairs, unless_empty, in_force}
use Rattle.expanded_names.proofs.Texts.{same_as_characters, either_text}

module _ {Z : Type 0} where
  abbrev pub characters : String Z × String Z → List ℕ × List ℕ
  characters entry = (chars (string_bytes entry.0), chars (string_bytes entry.1))

  pub looked_up : (entries : List (String Z × String Z)) (prefix : List ℕ) → IsUtf8 prefix
      → lookup (bytes_eq (chars prefix)) (map characters entries) ≡ option_map (λ (text : String Z). chars (string_bytes text)) (lookup (λ (key : String Z). bytes_eq prefix (string_bytes key)) entries)
  looked_up [] prefix u = refl
  looked_up (entry ∷ entries) prefix u =
      ap (λ b. cond b (Some (chars (string_bytes entry.1))) (lookup (bytes_eq (chars prefix)) (map characters entries))) (sym (same_as_characters prefix (string_bytes entry.0) u (IsUtf8-string_bytes entry.0)))
      ∙ by_test (looked_up entries prefix u) (bytes_eq prefix (string_bytes entry.0)) where
        by_test : lookup (bytes_eq (chars prefix)) (map characters entries) ≡ option_map (λ (text : String Z). chars (string_bytes text)) (lookup (λ (key : String Z). bytes_eq prefix (string_bytes key)) entries)
            → (b : Bool) → cond b (Some (chars (string_bytes entry.1))) (lookup (bytes_eq (chars prefix)) (map characters entries))
            ≡ option_map (λ (text : String Z). chars (string_bytes text)) (cond b (Some entry.1) (lookup (λ (key : String Z). bytes_eq prefix (string_bytes key)) entries))
        by_test more true = refl
        by_test more false = more

  -- the namespace in force, from what is looked up
  pub force_some : (entries : List (String Z × String Z)) (pairs : Pairs) (prefix : List ℕ) (said : Option (List ℕ)) (text : String Z) → map characters entries ≡ pairs → IsUtf8 prefix
      → lookup (λ (key : String Z). bytes_eq prefix (string_bytes key)) entries ≡ Some text → said ≡ unless_empty (chars (string_bytes text)) → said ≡ in_force pairs (chars prefix)
  force_some entries pairs prefix said text e u h is =
      is ∙ ap (option_and_then unless_empty) (ap (option_map (λ (one : String Z). chars (string_bytes one))) (sym h) ∙ sym (looked_up entries prefix u))
      ∙ ap (λ (all : Pairs). in_force all (chars prefix)) e

  pub force_none : (entries : List (String Z × String Z)) (pairs : Pairs) (prefix : List ℕ) → map characters entries ≡ pairs → IsUtf8 prefix
      → lookup (λ (key : String Z). bytes_eq prefix (string_bytes key)) entries ≡ None → None ≡ in_force pairs (chars prefix)
  force_none entries pairs prefix e u h =
      ap (option_and_then unless_empty) (ap (option_map (λ (one : String Z). chars (string_bytes one))) (sym h) ∙ sym (looked_up entries prefix u))
      ∙ ap (λ (all : Pairs). in_force all (chars prefix)) e

  pub force_was : (entries : List (String Z × String Z)) (pairs : Pairs) (prefix : String Z) → map characters entries ≡ pairs
      → option_and_then (λ (one : String Z). unless_empty (chars (string_bytes one))) (lookup (λ (key : String Z). bytes_eq (string_bytes prefix) (string_bytes key)) entries)
      ≡ in_force pairs (chars (string_bytes prefix))
  force_was entries pairs prefix e =
      by_option (lookup (λ (key : String Z). bytes_eq (string_bytes prefix) (string_bytes key)) entries)
      ∙ ap (option_and_then unless_empty) (sym (looked_up entries (string_bytes prefix) (IsUtf8-string_bytes prefix)))
      ∙ ap (λ (all : Pairs). in_force all (chars (string_bytes prefix))) e where
        by_option : (said : Option (String Z)) → option_and_then (λ (one : String Z). unless_empty (chars (string_bytes one))) said
            ≡ option_and_then unless_empty (option_map (λ (one : String Z). chars (string_bytes one)) said)
        by_option None = refl
        by_option (Some one) = refl

  pub inserted : (entries : List (String Z × String Z)) (key value : String Z)
      → map characters (insert_entry (λ (one other : String Z). bytes_eq (string_bytes one) (string_bytes other)) entries key value)
      ≡ insert_entry bytes_eq (map characters entries) (chars (string_bytes key)) (chars (string_bytes value))
  inserted [] key value = refl
  inserted (entry ∷ entries) key value =
      by_test (inserted entries key value) (bytes_eq (string_bytes key) (string_bytes entry.0))
      ∙ ap (λ b. cond b ((chars (string_bytes entry.0), chars (string_bytes value)) ∷ map characters entries)
      (characters entry ∷ insert_entry bytes_eq (map characters entries) (chars (string_bytes key)) (chars (string_bytes value))))
      (same_as_characters (string_bytes key) (string_bytes entry.0) (IsUtf8-string_bytes key) (IsUtf8-string_bytes entry.0)) where
        by_test : map characters (insert_entry (λ (one other : String Z). bytes_eq (string_bytes one) (string_bytes other)) entries key value)
            ≡ insert_entry bytes_eq (map characters entries) (chars (string_bytes key)) (chars (string_bytes value)) → (b : Bool)
            → map characters (cond b ((entry.0, value) ∷ entries) (entry ∷ insert_entry (λ (one other : String Z). bytes_eq (string_bytes one) (string_bytes other)) entries key value))
            ≡ cond b ((chars (string_bytes entry.0), chars (string_bytes value)) ∷ map characters entries)
            (characters entry ∷ insert_entry bytes_eq (map characters entries) (chars (string_bytes key)) (chars (string_bytes value)))
        by_test more true = refl
        by_test more false = ap (λ (more : Pairs). characters entry ∷ more) more

-- what is looked up after a pair is put
pub looked_up_after : (pairs : Pairs) (key value other : List ℕ)
    → lookup (bytes_eq other) (insert_entry bytes_eq pairs key value) ≡ cond (bytes_eq key other) (Some value) (lookup (bytes_eq other) pairs)
looked_up_after [] key value other = ap (λ b. cond b (Some value) None) (either_text other key)
looked_up_after (pair ∷ pairs) key value other =
    by_tests (looked_up_after pairs key value other) (bytes_eq key pair.0) refl (bytes_eq key other) refl where
      by_tests : lookup (bytes_eq other) (insert_entry bytes_eq pairs key value) ≡ cond (bytes_eq key other) (Some value) (lookup (bytes_eq other) pairs)
          → (here : Bool) → bytes_eq key pair.0 ≡ here → (same : Bool) → bytes_eq key other ≡ same
          → lookup (bytes_eq other) (cond here ((pair.0, value) ∷ pairs) (pair ∷ insert_entry bytes_eq pairs key value))
          ≡ cond same (Some value) (cond (bytes_eq other pair.0) (Some pair.1) (lookup (bytes_eq other) pairs))
      by_tests more true h true s =
          ap (λ b. cond b (Some value) (lookup (bytes_eq other) pairs))
          (ap (λ (k : List ℕ). bytes_eq k pair.0) (sym ((bytes_eq-Decides key other).0 s)) ∙ h)
      by_tests more true h false s =
          let no : bytes_eq other pair.0 ≡ false = ap (bytes_eq other) (sym ((bytes_eq-Decides key pair.0).0 h)) ∙ either_text other key ∙ s in
          ap (λ b. cond b (Some value) (lookup (bytes_eq other) pairs)) no ∙ ap (λ b. cond b (Some pair.1) (lookup (bytes_eq other) pairs)) (sym no)
      by_tests more false h true s =
          let no : bytes_eq other pair.0 ≡ false = ap (λ (k : List ℕ). bytes_eq k pair.0) (sym ((bytes_eq-Decides key other).0 s)) ∙ h in
          ap (λ b. cond b (Some pair.1) (lookup (bytes_eq other) (insert_entry bytes_eq pairs key value))) no ∙ more ∙ ap (λ b. cond b (Some value) (lookup (bytes_eq other) pairs)) s
      by_tests more false h false s =
          ap (λ said. cond (bytes_eq other pair.0) (Some pair.1) said) (more ∙ ap (λ b. cond b (Some value) (lookup (bytes_eq other) pairs)) s)

pub in_force_after : (pairs : Pairs) (key value other : List ℕ)
    → in_force (insert_entry bytes_eq pairs key value) other ≡ cond (bytes_eq key other) (unless_empty value) (in_force pairs other)
in_force_after pairs key value other = ap (option_and_then unless_empty) (looked_up_after pairs key value other) ∙ by_test (bytes_eq key other) where
  by_test : (b : Bool) → option_and_then unless_empty (cond b (Some value) (lookup (bytes_eq other) pairs)) ≡ cond b (unless_empty value) (in_force pairs other)
  by_test true = refl
  by_test false = refl
