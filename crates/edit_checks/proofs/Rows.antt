-- Live paragraphs and their items by the places of their rows.
use Rattle.std.proofs.Common.{◌≡◌, ℕ, ◌<◌, Bool, true, false, cond, ltb, List, length, get_or, refl, ap, sym, ◌∙◌, subst, Option, Some, None}
use Rattle.std.specs.Prelude.{slice_get, position, find, option_map, unwrap_or, is_some}
use Rattle.std.specs.List.{position_or_len}
use Rattle.std.specs.Option.{option_map_or}
use Rattle.std.proofs.lemmas.Bool.{false≢true}
use Rattle.std.proofs.lemmas.List.Folds.{find_at}
use Rattle.std.proofs.lemmas.List.Quantifiers.{position-Some}
use Rattle.std.proofs.lemmas.Option.{none-some, slice_get-get_or, get_or_from_slice_get}
use Rattle.doc_model.specs.declared.block.Block.{Block}
use Rattle.doc_model.specs.declared.document.Document.{Document}
use Rattle.doc_model.specs.declared.paragraph.Par.{Par}
use Rattle.doc_model.specs.declared.paragraph.ParId.{ParId}
use Rattle.doc_model.specs.Parts.{items_of}
use Rattle.edit_rules.specs.Places.{live_paragraph, item_count}
use Rattle.node_array.specs.declared.row.Row.{Row}
use Rattle.node_array.specs.declared.row.Row.TheVariants as row
use Rattle.node_array.specs.Places.{is_par}
use Rattle.node_array.specs.Rows.{rows_of}
use Rattle.paragraph_rows.specs.Flat.{AreFlat}
use Rattle.paragraph_rows.specs.OwnRow.{own_row}
use Rattle.row_checks.proofs.Live.{live_row, absent_row, count_row}
use Rattle.edit_checks.specs.Firsts.{items_in}

-- a place that is found is one of the rows
pub place_within : (par : ParId) (rows : List Row) (at : ℕ) → Some at ≡ position (is_par par) rows → at < length rows
place_within par rows at found = (position-Some (is_par par) rows at row.End (sym found)).0

at_position : (par : ParId) (rows : List Row) (at : ℕ) → position (is_par par) rows ≡ Some at → find (is_par par) rows ≡ slice_get rows at
at_position par rows at found =
    let k : ℕ = position_or_len (is_par par) rows in
    find_at (is_par par) rows ∙ ap (slice_get rows) (place k (ltb k (length rows)) found) where
      place : (k : ℕ) (test : Bool) → cond test (Some k) None ≡ Some at → k ≡ at
      place k true found = ap (λ (o : Option ℕ). unwrap_or o k) found
      place k false found = absurd (none-some at found)

is_there : (live : Option Par) (one : Row) → option_map own_row live ≡ Some one → true ≡ is_some live
is_there None one is = absurd (none-some one is)
is_there (Some par) one is = refl

live_of : (doc : Document) (par : ParId) (at : ℕ) → AreFlat (rows_of doc.body) → Some at ≡ position (is_par par) (rows_of doc.body) → true ≡ is_some (live_paragraph doc par)
live_of doc par at flat found =
    let rows : List Row = rows_of doc.body in
    is_there (live_paragraph doc par) (get_or rows at row.End)
    (live_row doc par flat ∙ at_position par rows at (sym found) ∙ slice_get-get_or rows at row.End (place_within par rows at found))

pub live_at : (doc : Document) (body : List Block) (par : ParId) (at : ℕ) → doc.body ≡ body → AreFlat (rows_of body) → Some at ≡ position (is_par par) (rows_of body)
    → true ≡ is_some (live_paragraph doc par)
live_at doc body par at same =
    let P : List Block → Type 0 = λ rows. AreFlat (rows_of rows) → Some at ≡ position (is_par par) (rows_of rows) → true ≡ is_some (live_paragraph doc par) in
    subst P same (live_of doc par at)

pub absent_from : (doc : Document) (body : List Block) (par : ParId) → doc.body ≡ body → AreFlat (rows_of body) → None ≡ position (is_par par) (rows_of body)
    → false ≡ is_some (live_paragraph doc par)
absent_from doc body par same =
    let P : List Block → Type 0 = λ rows. AreFlat (rows_of rows) → None ≡ position (is_par par) (rows_of rows) → false ≡ is_some (live_paragraph doc par) in
    subst P same (λ flat none. ap is_some (sym (absent_row doc par flat (sym none))))

pub none_counted : (doc : Document) (body : List Block) (par : ParId) → doc.body ≡ body → AreFlat (rows_of body) → None ≡ position (is_par par) (rows_of body)
    → 0 ≡ item_count doc par
none_counted doc body par same =
    let P : List Block → Type 0 = λ rows. AreFlat (rows_of rows) → None ≡ position (is_par par) (rows_of rows) → 0 ≡ item_count doc par in
    subst P same (λ flat none. ap (λ (live : Option Par). option_map_or (λ one. length (items_of one)) live 0) (sym (absent_row doc par flat (sym none))))

pub is_own : (par : ParId) (rows : List Row) (at : ℕ) (one : Row) → Some at ≡ position (is_par par) rows → slice_get rows at ≡ Some one → is_par par one ≡ true
is_own par rows at one found there =
    ap (is_par par) (sym (get_or_from_slice_get rows at one row.End there)) ∙ (position-Some (is_par par) rows at row.End (sym found)).1

count_of : (doc : Document) (par : ParId) (at : ℕ) (one : Row) → AreFlat (rows_of doc.body) → Some at ≡ position (is_par par) (rows_of doc.body)
    → slice_get (rows_of doc.body) at ≡ Some one → is_par par one ≡ true → length (items_in one) ≡ item_count doc par
count_of doc par at (row.Start head) flat found there own = absurd (false≢true own)
count_of doc par at row.End flat found there own = absurd (false≢true own)
count_of doc par at (row.Par head items) flat found there own = sym (count_row doc par at head items flat (sym found) there)
count_of doc par at row.NoteText flat found there own = absurd (false≢true own)

pub counted : (doc : Document) (body : List Block) (par : ParId) (at : ℕ) (one : Row) → doc.body ≡ body → AreFlat (rows_of body)
    → Some at ≡ position (is_par par) (rows_of body) → slice_get (rows_of body) at ≡ Some one → length (items_in one) ≡ item_count doc par
counted doc body par at one same =
    let P : List Block → Type 0 = λ rows. AreFlat (rows_of rows) → Some at ≡ position (is_par par) (rows_of rows) → slice_get (rows_of rows) at ≡ Some one
    → length (items_in one) ≡ item_count doc par in
    subst P same (λ flat found there. count_of doc par at one flat found there (is_own par (rows_of doc.body) at one found there))
