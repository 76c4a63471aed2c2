-- The sections that protect the paragraph of an operation, by what is open before its row.
use Rattle.std.proofs.Common.{◌≡◌, ℕ, ◌+◌, Bool, true, false, cond, List, [], ◌∷◌, ◌++◌, map, filter, take, drop, length, refl, ap, ap₂, sym, ◌∙◌, append-nil, arith, Option, Some, None}
use Rattle.std.specs.Prelude.{◌==◌, ◌||◌, fold, find, option_map, slice_get, position}
use Rattle.std.specs.List.{list_any}
use Rattle.std.proofs.lemmas.Bool.{false≢true}
use Rattle.doc_model.specs.declared.document.Document.{Document}
use Rattle.doc_model.specs.declared.edit.EditOp.{EditOp}
use Rattle.doc_model.specs.declared.edit.EditOp.TheVariants.{UnwrapSection}
use Rattle.doc_model.specs.declared.paragraph.ParId.{ParId}
use Rattle.doc_model.specs.declared.refusal.Refusal.{Refusal}
use Rattle.doc_model.specs.declared.refusal.Refusal.TheVariants.{Protected}
use Rattle.doc_model.specs.Parts.{SectionHead}
use Rattle.doc_model.specs.Reading.{number_of}
use Rattle.edit_rules.specs.Places.{Placed, is_one_of, placed_paragraphs}
use Rattle.edit_rules.specs.Refusals.{first_refusal_of, guarded_paragraphs, protected_by, protected}
use Rattle.node_array.specs.declared.row.Row.{Row}
use Rattle.node_array.specs.declared.row.Row.TheVariants as row
use Rattle.node_array.specs.Places.{is_par}
use Rattle.node_array.specs.Rows.{rows_of}
use Rattle.paragraph_rows.specs.Flat.{AreFlat}
use Rattle.paragraph_rows.specs.Standing.{AreApart, Stands}
use Rattle.paragraph_rows.proofs.Standing.{row_found}
use Rattle.row_facts.specs.Around.{Opened, PlacedRow, open_behind, open_before, sections_open, paragraphs_placed}
use Rattle.row_facts.specs.Paragraphs.{row_head}
use Rattle.row_checks.specs.Guarded.{protected_row}
use Rattle.row_checks.proofs.Placed.{within_opened, placed_rows}

-- the refusals by the sections round the paragraphs of a number
abbrev refusals : ℕ → List Placed → List (Option Refusal)
refusals number some = map (λ placed. protected_by placed.around) (filter (λ placed. is_one_of (number ∷ []) (number_of placed.par)) some)

abbrev row_refusals : ℕ → List PlacedRow → List (Option Refusal)
row_refusals number some = map (λ placed. protected_row placed.around) (filter (λ placed. is_one_of (number ∷ []) placed.par.head.id.0) some)

protected_heads : (around : List SectionHead) → protected_by around ≡ protected_row (map row_head around)
protected_heads [] = refl
protected_heads (head ∷ around) = by_test head.protected (protected_heads around) where
  by_test : (test : Bool) → protected_by around ≡ protected_row (map row_head around)
      → option_map (λ section. Protected section.name) (cond test (Some head) (find (λ section. section.protected) around))
      ≡ option_map (λ section. Protected section.name) (cond test (Some (row_head head)) (find (λ section. section.protected) (map row_head around)))
  by_test true rest = refl
  by_test false rest = rest

told : (number : ℕ) (some : List Placed) → refusals number some ≡ row_refusals number (map (within_opened []) some)
told number [] = refl
told number (placed ∷ some) = by_test (is_one_of (number ∷ []) (number_of placed.par)) (told number some) where
  by_test : (test : Bool) → refusals number some ≡ row_refusals number (map (within_opened []) some)
      → map (λ placed. protected_by placed.around) (cond test (placed ∷ filter (λ placed. is_one_of (number ∷ []) (number_of placed.par)) some) (filter (λ placed. is_one_of (number ∷ []) (number_of placed.par)) some))
      ≡ map (λ placed. protected_row placed.around) (cond test (within_opened [] placed ∷ filter (λ placed. is_one_of (number ∷ []) placed.par.head.id.0) (map (within_opened []) some)) (filter (λ placed. is_one_of (number ∷ []) placed.par.head.id.0) (map (within_opened []) some)))
  by_test true rest =
      ap₂ (λ (why : Option Refusal) (more : List (Option Refusal)). why ∷ more) (protected_heads placed.around ∙ ap protected_row (sym (append-nil (map row_head placed.around)))) rest
  by_test false rest = rest

-- rows among which the paragraph isn't
same_test : (par : ParId) (number : ℕ) (test : Bool) → (par.0 == number) ≡ test → is_one_of (par.0 ∷ []) number ≡ test
same_test par number true is = ap (λ (b : Bool). b || false) is
same_test par number false is = ap (λ (b : Bool). b || false) is

none_told : (par : ParId) (opened : Opened) (rows : List Row) → list_any (is_par par) rows ≡ false → row_refusals par.0 (paragraphs_placed opened rows) ≡ []
none_told par opened [] none = refl
none_told par opened (row.Start head ∷ rows) none = none_told par (Some head ∷ opened) rows none
none_told par opened (row.End ∷ rows) none = none_told par (open_behind opened row.End) rows none
none_told par opened (row.Par head items ∷ rows) none = by_test (par.0 == head.id.0) refl none (none_told par opened rows) where
  by_test : (test : Bool) → (par.0 == head.id.0) ≡ test → (test || list_any (is_par par) rows) ≡ false → (list_any (is_par par) rows ≡ false → row_refusals par.0 (paragraphs_placed opened rows) ≡ [])
      → row_refusals par.0 (paragraphs_placed opened (row.Par head items ∷ rows)) ≡ []
  by_test true is none rest = absurd (false≢true (sym none))
  by_test false is none rest =
      ap (λ (b : Bool). map (λ placed. protected_row placed.around) (cond b (record { par = record { head = head; items = items }; around = sections_open opened } ∷ filter (λ placed. is_one_of (par.0 ∷ []) placed.par.head.id.0) (paragraphs_placed opened rows)) (filter (λ placed. is_one_of (par.0 ∷ []) placed.par.head.id.0) (paragraphs_placed opened rows))))
      (same_test par head.id.0 false is) ∙ rest none
none_told par opened (row.NoteText ∷ rows) none = none_told par (None ∷ opened) rows none

first_alone : (why : Option Refusal) → first_refusal_of (why ∷ []) ≡ why
first_alone None = refl
first_alone (Some why) = refl

one_told : (par : ParId) (opened : Opened) (before : List Row) (one : Row) (behind : List Row) → list_any (is_par par) before ≡ false → is_par par one ≡ true → list_any (is_par par) behind ≡ false
    → row_refusals par.0 (paragraphs_placed opened (before ++ one ∷ behind)) ≡ protected_row (sections_open (fold open_behind opened before)) ∷ []
one_told par opened [] (row.Start head) behind front own none = absurd (false≢true own)
one_told par opened [] row.End behind front own none = absurd (false≢true own)
one_told par opened [] (row.Par head items) behind front own none =
    ap (λ (b : Bool). map (λ placed. protected_row placed.around) (cond b (record { par = record { head = head; items = items }; around = sections_open opened } ∷ filter (λ placed. is_one_of (par.0 ∷ []) placed.par.head.id.0) (paragraphs_placed opened behind)) (filter (λ placed. is_one_of (par.0 ∷ []) placed.par.head.id.0) (paragraphs_placed opened behind))))
    (same_test par head.id.0 true own) ∙ ap (λ (more : List (Option Refusal)). protected_row (sections_open opened) ∷ more) (none_told par opened behind none)
one_told par opened [] row.NoteText behind front own none = absurd (false≢true own)
one_told par opened (row.Start head ∷ before) one behind front own none = one_told par (Some head ∷ opened) before one behind front own none
one_told par opened (row.End ∷ before) one behind front own none = one_told par (open_behind opened row.End) before one behind front own none
one_told par opened (row.Par head items ∷ before) one behind front own none = by_test (par.0 == head.id.0) refl front (λ more. one_told par opened before one behind more own none) where
  by_test : (test : Bool) → (par.0 == head.id.0) ≡ test → (test || list_any (is_par par) before) ≡ false
      → (list_any (is_par par) before ≡ false → row_refusals par.0 (paragraphs_placed opened (before ++ one ∷ behind)) ≡ protected_row (sections_open (fold open_behind opened before)) ∷ [])
      → row_refusals par.0 (paragraphs_placed opened (row.Par head items ∷ (before ++ one ∷ behind))) ≡ protected_row (sections_open (fold open_behind opened before)) ∷ []
  by_test true is front rest = absurd (false≢true (sym front))
  by_test false is front rest =
      ap (λ (b : Bool). map (λ placed. protected_row placed.around) (cond b (record { par = record { head = head; items = items }; around = sections_open opened } ∷ filter (λ placed. is_one_of (par.0 ∷ []) placed.par.head.id.0) (paragraphs_placed opened (before ++ one ∷ behind))) (filter (λ placed. is_one_of (par.0 ∷ []) placed.par.head.id.0) (paragraphs_placed opened (before ++ one ∷ behind)))))
      (same_test par head.id.0 false is) ∙ rest front
one_told par opened (row.NoteText ∷ before) one behind front own none = one_told par (None ∷ opened) before one behind front own none

-- an operation that guards this paragraph alone
guards : (doc : Document) (op : EditOp) (number : ℕ) → guarded_paragraphs doc op ≡ number ∷ [] → protected doc op ≡ first_refusal_of (refusals number (placed_paragraphs doc))
guards doc (UnwrapSection name) number is = absurd (let long = ap (length {A = ℕ}) is in omega (arith, long))
guards doc op number is =
    ap (λ (numbers : List ℕ). first_refusal_of (map (λ placed. protected_by placed.around) (filter (λ placed. is_one_of numbers (number_of placed.par)) (placed_paragraphs doc)))) is

pub guarded_row : (doc : Document) (op : EditOp) (par : ParId) (at : ℕ) (one : Row) → AreFlat (rows_of doc.body) → AreApart (rows_of doc.body)
    → position (is_par par) (rows_of doc.body) ≡ Some at → slice_get (rows_of doc.body) at ≡ Some one → guarded_paragraphs doc op ≡ par.0 ∷ []
    → protected doc op ≡ protected_row (sections_open (open_before at (rows_of doc.body)))
guarded_row doc op par at one flat apart found there is =
    let rows : List Row = rows_of doc.body in
    let stands : Stands par rows (take at rows) one (drop (at + 1) rows) = row_found par rows at one found there apart in
    guards doc op par.0 is ∙ ap first_refusal_of (told par.0 (placed_paragraphs doc) ∙ ap (row_refusals par.0) (sym (placed_rows doc flat) ∙ ap (paragraphs_placed []) stands.rows_are)
    ∙ one_told par [] (take at rows) one (drop (at + 1) rows) stands.none_before stands.own stands.none_behind)
    ∙ first_alone (protected_row (sections_open (open_before at rows)))
