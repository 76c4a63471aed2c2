-- No name leads to a paragraph that isn't there yet.
use Rattle.std.proofs.Common.{◌≡◌, ℕ, ◌<◌, false, eqb, zero, suc, List, [], ◌∷◌, map, ap, sym, ◌∙◌, subst, arith}
use Rattle.std.specs.List.{flat_map, AllByRecursion as Each}
use Rattle.std.proofs.lemmas.Bool.Decides.{nat_tests}
use Rattle.edit_rules.specs.Edited.{Edited}
use Rattle.name_index.specs.declared.names.NameKind.{NameKind}
use Rattle.name_index.specs.declared.names.NameKind.TheVariants as kinds
use Rattle.name_index.specs.Names.{found}
use Rattle.name_index.specs.Scan.{names_of_kind, names_of}
use Rattle.node_array.specs.declared.row.Row.{Row}
use Rattle.node_array.specs.declared.row.Row.TheVariants as row
use Rattle.node_array.specs.Rows.{rows_of}
use Rattle.paragraph_rows.specs.Standing.{number_in}
use Rattle.paragraph_rows.proofs.Lists.{each_both}
use Rattle.row_edits.specs.Sound.{IsSound}
use Rattle.names_change.specs.Leading.{leads_to}
use Rattle.names_change.proofs.Lead.{Other, none_found, found_leads, others_lead}
use Rattle.names_change.proofs.Reading.{IsOfItems, names_read}
use Rattle.names_change.proofs.Others.{Differs}
use Rattle.names_change.proofs.SectionStarts.{first_in, starts, sections_read}
use Rattle.names_change.proofs.Found.{ahead_other}

below_differs : (number next : ℕ) → number < next → eqb number next ≡ false
below_differs number next below = grind (arith, nat_tests)

all_differ : (next : ℕ) (numbers : List ℕ) → Each (λ number. number < next) numbers → Each (Differs next) numbers
all_differ next [] below = tt
all_differ next (number ∷ numbers) below = (below_differs number next below.0, all_differ next numbers below.1)

module _ (next : ℕ) where
  abbrev Apart-Rows : List Row → Type 0
  Apart-Rows rows = Each (Differs next) (flat_map number_in rows)

  first_other : (name : List ℕ) (rows : List Row) (depth : ℕ) → Apart-Rows rows → Each (Other next) (map (λ number. (name, number)) (first_in rows depth))
  first_other name [] depth apart = tt
  first_other name (row.Start head ∷ rows) depth apart = first_other name rows (suc depth) apart
  first_other name (row.End ∷ rows) zero apart = tt
  first_other name (row.End ∷ rows) (suc depth) apart = first_other name rows depth apart
  first_other name (row.Par head items ∷ rows) depth apart = (apart.0, tt)
  first_other name (row.NoteText ∷ rows) depth apart = first_other name rows (suc depth) apart

  starts_other : (rows : List Row) → Apart-Rows rows → Each (Other next) (starts rows)
  starts_other [] apart = tt
  starts_other (row.Start head ∷ rows) apart = each_both (Other next) (map (λ number. (head.name, number)) (first_in rows 0)) (starts rows) (first_other head.name rows 0 apart) (starts_other rows apart)
  starts_other (row.End ∷ rows) apart = starts_other rows apart
  starts_other (row.Par head items ∷ rows) apart = starts_other rows apart.1
  starts_other (row.NoteText ∷ rows) apart = starts_other rows apart

names_other : (old : Edited) → IsSound old → (kind : NameKind) → Each (Other old.next) (names_of_kind old.document kind)
names_other old sound kind = by_kind kind where
  apart : Each (Differs old.next) (flat_map number_in (rows_of old.document.body))
  apart = all_differ old.next (flat_map number_in (rows_of old.document.body)) sound.below

  of_items : (kind : NameKind) → IsOfItems kind → Each (Other old.next) (names_of_kind old.document kind)
  of_items kind it = subst (Each (Other old.next)) (sym (names_read kind it old.document sound.flat)) (ahead_other kind old.next (rows_of old.document.body) apart)

  by_kind : (kind : NameKind) → Each (Other old.next) (names_of_kind old.document kind)
  by_kind kinds.Bookmark = of_items kinds.Bookmark tt
  by_kind kinds.Section = subst (Each (Other old.next)) (sym (sections_read old.document)) (starts_other old.next (rows_of old.document.body) apart)
  by_kind kinds.Reference = of_items kinds.Reference tt
  by_kind kinds.Note = of_items kinds.Note tt

pub none_lead : (old : Edited) → IsSound old → (kind : NameKind) (name : List ℕ) → leads_to (record { 0 = old.next }) (found (names_of old.document) kind name) ≡ false
none_lead old sound kind [] = ap (leads_to (record { 0 = old.next })) (none_found old.document kind)
none_lead old sound kind (letter ∷ letters) =
    ap (leads_to (record { 0 = old.next })) (found_leads old.document kind letter letters)
    ∙ others_lead (record { 0 = old.next }) (letter ∷ letters) (names_of_kind old.document kind) (names_other old sound kind)
