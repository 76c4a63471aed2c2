-- Tables that are met.
use Rattle.std.proofs.Common.{◌≡◌, ℕ, ◌+◌, ◌<◌, List, [], ◌∷◌, ◌++◌, length, map, take, get_or, refl, sym, ap, ap₂, ◌∙◌, Option}
use Rattle.std.proofs.lemmas.List.{map-append, take_more}
use Rattle.std.proofs.lemmas.List.Elements.{filter_map-append}
use Rattle.std.specs.List.{filter_map, cons_option}
use Rattle.load_model.specs.Met.{Met, Section, Note, Reference, Mark, Sequence, Variable, Table, tables_met}
use Rattle.met_read.specs.declared.things.Met.{Met as Read}
use Rattle.met_read.specs.Read.{met_of, outlined}
use Rattle.tree_faults.specs.Tables.{table_in}

tables_are : (met : List Met) → tables_met met ≡ filter_map table_in met
tables_are [] = refl
tables_are (Table place ∷ met) = ap (λ (more : List ℕ). place ∷ more) (tables_are met)
tables_are (Section one ∷ met) = tables_are met
tables_are (Mark one ∷ met) = tables_are met
tables_are (Note one ∷ met) = tables_are met
tables_are (Reference one ∷ met) = tables_are met
tables_are (Sequence one ∷ met) = tables_are met
tables_are (Variable one ∷ met) = tables_are met

table_alike : (one : Met) → table_in (outlined one) ≡ table_in one
table_alike (Section one) = refl
table_alike (Mark one) = refl
table_alike (Note one) = refl
table_alike (Reference one) = refl
table_alike (Sequence one) = refl
table_alike (Variable one) = refl
table_alike (Table one) = refl

tables_alike : (met : List Met) → filter_map table_in (map outlined met) ≡ filter_map table_in met
tables_alike [] = refl
tables_alike (one ∷ met) = ap₂ (λ (o : Option ℕ) (more : List ℕ). cons_option o more) (table_alike one) (tables_alike met)

-- what is told of sections is of no account
pub tables_by : (read : List Read) (all : List Met) → map met_of read ≡ map outlined all → filter_map table_in (map met_of read) ≡ tables_met all
tables_by read all same = ap (filter_map table_in) same ∙ tables_alike all ∙ sym (tables_are all)

-- one thing more that is met
pub tables_more : (met : List Read) (at : ℕ) (d : Read) (old new : List ℕ) → at < length met → old ≡ filter_map table_in (map met_of (take at met)) → new ≡ old ++ filter_map table_in (met_of (get_or met at d) ∷ [])
    → new ≡ filter_map table_in (map met_of (take (at + 1) met))
tables_more met at d old new l known pushed =
    pushed ∙ ap (λ (places : List ℕ). places ++ filter_map table_in (met_of (get_or met at d) ∷ [])) known
    ∙ sym (ap (λ (some : List Read). filter_map table_in (map met_of some)) (take_more met at d l) ∙ ap (filter_map table_in) (map-append met_of (take at met) (get_or met at d ∷ []))
    ∙ filter_map-append table_in (map met_of (take at met)) (met_of (get_or met at d) ∷ []))
