-- Rows of names as known names.
use Rattle.std.proofs.Common.{◌≡◌, ℕ, ◌&&◌, Bool, true, false, cond, List, [], ◌∷◌, map, refl, ap, ap₂, ◌∙◌, Some, Bor}
use Rattle.std.specs.List.{find, list_all}
use Rattle.std.specs.Option.{option_map}
use Rattle.std.specs.Str.{bytes_eq, IsUtf8, chars}
use Rattle.std.proofs.lemmas.Bool.{and_parts}
use Rattle.load_model.specs.Names.{Known, known, what_is, is_same_name, known_tags, known_keys}
use Rattle.expanded_names.specs.Rows.{tag_rows, key_rows}
use Rattle.expanded_names.proofs.Texts.{all_ascii, same_word, either_text}

both_ways : (a b : Bool) → (a && b) ≡ (b && a)
both_ways true true = refl
both_ways true false = refl
both_ways false true = refl
both_ways false false = refl

-- rows as a table lends them, and as they are
abbrev pub Lent : Type 0 → Type 0
Lent X = Bor (List ℕ) × Bor (List ℕ) × X

abbrev pub Row : Type 0 → Type 0
Row X = List ℕ × List ℕ × X

module _ {X : Type 0} where
  abbrev pub plain : List (Lent X) → List (Row X)
  plain rows = map (λ (row : (Lent X)). (row.0.now, row.1.now, row.2)) rows

  abbrev pub known_of : List (Row X) → List (Known X)
  known_of rows = map (λ (row : (Row X)). known row.0 row.1 row.2) rows

  -- whether the names of rows are of ASCII characters
  abbrev pub are_ascii : List (Row X) → Bool
  are_ascii rows = list_all (λ (row : (Row X)). all_ascii row.0 && all_ascii row.1) rows

  by_rows : (rows : List (Lent X)) (namespace local_name : List ℕ) → IsUtf8 namespace → IsUtf8 local_name → are_ascii (plain rows) ≡ true
      → option_map (λ (row : (Lent X)). row.2) (find (λ (row : (Lent X)). bytes_eq row.1.now local_name && bytes_eq row.0.now namespace) rows)
      ≡ what_is (record { namespace = chars namespace; local_name = chars local_name }) (known_of (plain rows))
  by_rows [] namespace local_name u v h = refl
  by_rows (row ∷ rows) namespace local_name u v h =
      let parts = and_parts (all_ascii row.0.now && all_ascii row.1.now) (are_ascii (plain rows)) h in
      let ascii = and_parts (all_ascii row.0.now) (all_ascii row.1.now) parts.0 in
      let same : (bytes_eq row.1.now local_name && bytes_eq row.0.now namespace) ≡ (bytes_eq row.0.now (chars namespace) && bytes_eq row.1.now (chars local_name)) =
      both_ways (bytes_eq row.1.now local_name) (bytes_eq row.0.now namespace)
      ∙ ap₂ (λ a b. a && b) (either_text row.0.now namespace ∙ same_word namespace row.0.now u ascii.0 ∙ either_text (chars namespace) row.0.now)
      (either_text row.1.now local_name ∙ same_word local_name row.1.now v ascii.1 ∙ either_text (chars local_name) row.1.now) in
      ap (λ b. option_map (λ (one : (Lent X)). one.2) (cond b (Some row) (find (λ (one : (Lent X)). bytes_eq one.1.now local_name && bytes_eq one.0.now namespace) rows))) same
      ∙ by_test (by_rows rows namespace local_name u v parts.1) (bytes_eq row.0.now (chars namespace) && bytes_eq row.1.now (chars local_name)) where
        by_test : option_map (λ (one : (Lent X)). one.2) (find (λ (one : (Lent X)). bytes_eq one.1.now local_name && bytes_eq one.0.now namespace) rows)
            ≡ what_is (record { namespace = chars namespace; local_name = chars local_name }) (known_of (plain rows)) → (b : Bool)
            → option_map (λ (one : (Lent X)). one.2) (cond b (Some row) (find (λ (one : (Lent X)). bytes_eq one.1.now local_name && bytes_eq one.0.now namespace) rows))
            ≡ option_map (λ (entry : Known X). entry.is) (cond b (Some (known row.0.now row.1.now row.2))
            (find (λ (entry : Known X). is_same_name entry.name (record { namespace = chars namespace; local_name = chars local_name })) (known_of (plain rows))))
        by_test more true = refl
        by_test more false = more

  -- the same of a table, by its rows
  pub by_table : (rows : List (Lent X)) (table : List (Row X)) (names : List (Known X)) (namespace local_name : List ℕ) → plain rows ≡ table → known_of table ≡ names → are_ascii table ≡ true
      → IsUtf8 namespace → IsUtf8 local_name
      → option_map (λ (row : (Lent X)). row.2) (find (λ (row : (Lent X)). bytes_eq row.1.now local_name && bytes_eq row.0.now namespace) rows)
      ≡ what_is (record { namespace = chars namespace; local_name = chars local_name }) names
  by_table rows table names namespace local_name e k ascii u v =
      by_rows rows namespace local_name u v (ap are_ascii e ∙ ascii)
      ∙ ap (λ (all : List (Row X)). what_is (record { namespace = chars namespace; local_name = chars local_name }) (known_of all)) e
      ∙ ap (λ (all : List (Known X)). what_is (record { namespace = chars namespace; local_name = chars local_name }) all) k

pub tags_ascii : are_ascii tag_rows ≡ true
unfolding tag_rows
tags_ascii = refl

pub keys_ascii : are_ascii key_rows ≡ true
unfolding key_rows
keys_ascii = refl

pub tags_known : known_of tag_rows ≡ known_tags
unfolding tag_rows known_tags
tags_known = refl

pub keys_known : known_of key_rows ≡ known_keys
unfolding key_rows known_keys
keys_known = refl
