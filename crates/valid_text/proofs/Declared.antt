-- What is used in a text is declared.
use Rattle.std.proofs.Common.{◌≡◌, ℕ, not, ◌⊎◌, inl, inr, Bool, true, false, List, [], ◌∷◌, ◌++◌, map, filter, refl, ◌∙◌, bytes_eq}
use Rattle.std.specs.List.{AllByRecursion as Each, Any}
use Rattle.std.proofs.lemmas.Slice.Eq.{bytes_eq-Decides}
use Rattle.doc_model.specs.declared.document.Document.{Document}
use Rattle.load_model.specs.declared.element.Element.{Element as Read}
use Rattle.load_model.specs.Blocks.{Declared}
use Rattle.load_model.specs.Left.{is_one_of}
use Rattle.load_model.specs.Loaded.{declared_names, draft_of, kept_declarations, met_of}
use Rattle.load_model.specs.Met as met
use Rattle.load_model.specs.Met.{Met, MetName, first_of_each_name, sequences_met, variables_met}
use Rattle.valid_text.proofs.Has.{Has, any_name, has_also, has_back, has_filter, has_front, has_map, has_one}
use Rattle.valid_text.proofs.Walk.{IsDeclared}

negated : (b : Bool) → not b ≡ false → b ≡ true
negated true e = refl
negated false e = absurd cc

-- one of some
has_out : {X : Type 0} (P : X → Type 0) (R : Type 0) → ((x : X) → P x → R) → (xs : List X) → Has P xs → R
has_out P R step [] has = absurd has
has_out P R step (x ∷ xs) (inl is) = step x is
has_out P R step (x ∷ xs) (inr has) = has_out P R step xs has

-- the first of each name has each name
abbrev Called : List ℕ → MetName → Type 0
Called name one = one.name ≡ name

firsts_have : (name : List ℕ) (used : List MetName) → Has (Called name) used → Has (Called name) (first_of_each_name used)
firsts_have name [] has = absurd has
firsts_have name (one ∷ used) (inl is) = inl is
firsts_have name (one ∷ used) (inr has) = by_filter (has_filter (Called name) (λ (other : MetName). not (bytes_eq one.name other.name)) (first_of_each_name used) (firsts_have name used has)) where
  by_filter : Has (Called name) (filter (λ (other : MetName). not (bytes_eq one.name other.name)) (first_of_each_name used))
      ⊎ Has (λ (other : MetName). Called name other × (not (bytes_eq one.name other.name) ≡ false)) (first_of_each_name used)
      → Has (Called name) (first_of_each_name (one ∷ used))
  by_filter (inl has) = inr has
  by_filter (inr has) =
      inl (has_out (λ (other : MetName). Called name other × (not (bytes_eq one.name other.name) ≡ false)) (one.name ≡ name)
      (λ other is. (bytes_eq-Decides one.name other.name).0 (negated (bytes_eq one.name other.name) is.1) ∙ is.0) (first_of_each_name used) has)

-- stated names, and then those that are used
used_there : (stated : List (List ℕ)) (used : List MetName) (name : List ℕ) → Has (Called name) used
    → Has (λ other. other ≡ name) (stated ++ map (λ (one : MetName). one.name) (first_of_each_name (filter (λ (one : MetName). not (is_one_of stated one.name)) used)))
used_there stated used name has = by_filter (has_filter (Called name) (λ (one : MetName). not (is_one_of stated one.name)) used has) where
  more : List MetName
  more = first_of_each_name (filter (λ (one : MetName). not (is_one_of stated one.name)) used)

  by_filter : Has (Called name) (filter (λ (one : MetName). not (is_one_of stated one.name)) used) ⊎ Has (λ (one : MetName). Called name one × (not (is_one_of stated one.name) ≡ false)) used
      → Has (λ other. other ≡ name) (stated ++ map (λ (one : MetName). one.name) more)
  by_filter (inl has) = has_back (λ other. other ≡ name) stated (map (λ (one : MetName). one.name) more) (has_map (λ other. other ≡ name) (λ (one : MetName). one.name) more (firsts_have name (filter (λ (one : MetName). not (is_one_of stated one.name)) used) has))
  by_filter (inr has) =
      has_front (λ other. other ≡ name) stated (map (λ (one : MetName). one.name) more)
      (has_out (λ (one : MetName). Called name one × (not (is_one_of stated one.name) ≡ false)) (Has (λ other. other ≡ name) stated)
      (λ one is. has_also (λ other. other ≡ one.name) (λ other. other ≡ name) (λ other e. e ∙ is.0) stated (has_one one.name stated (negated (is_one_of stated one.name) is.1))) used has)

-- what is met
each_met : (doc : Document) (all : List Met) → ((name : List ℕ) → Has (Called name) (sequences_met all) → Any (λ other. other ≡ name) doc.sequences) → ((name : List ℕ) → Has (Called name) (variables_met all) → Any (λ other. other ≡ name) doc.variables)
    → Each (IsDeclared doc) all
each_met doc [] sequences variables = tt
each_met doc (met.Section section ∷ all) sequences variables = (tt, each_met doc all sequences variables)
each_met doc (met.Mark mark ∷ all) sequences variables = (tt, each_met doc all sequences variables)
each_met doc (met.Note note ∷ all) sequences variables = (tt, each_met doc all sequences variables)
each_met doc (met.Reference field ∷ all) sequences variables = (tt, each_met doc all sequences variables)
each_met doc (met.Sequence field ∷ all) sequences variables = (sequences field.name (inl refl), each_met doc all (λ name has. sequences name (inr has)) variables)
each_met doc (met.Variable field ∷ all) sequences variables = (variables field.name (inl refl), each_met doc all sequences (λ name has. variables name (inr has)))
each_met doc (met.Table place ∷ all) sequences variables = (tt, each_met doc all sequences variables)

pub met_declared : (root : Read) → Each (IsDeclared (draft_of root)) (met_of root)
met_declared root =
    each_met (draft_of root) (met_of root)
    (λ name has. any_name name (declared_names true root) (used_there (map (λ (declared : Declared). declared.name) (kept_declarations true root)) (sequences_met (met_of root)) name has))
    (λ name has. any_name name (declared_names false root) (used_there (map (λ (declared : Declared). declared.name) (kept_declarations false root)) (variables_met (met_of root)) name has))
