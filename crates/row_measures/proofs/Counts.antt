-- Paragraphs and items, counted over rows.
use Rattle.std.proofs.Common.{◌≡◌, ℕ, List, [], ◌∷◌, ◌++◌, map, length, sum, refl, ap, sym, ◌∙◌}
use Rattle.std.specs.List.{flat_map}
use Rattle.std.proofs.lemmas.List.{length-map}
use Rattle.std.proofs.lemmas.List.Concat.{flat_map_single}
use Rattle.std.proofs.lemmas.List.Sums.{sum-map}
use Rattle.doc_model.specs.declared.document.Document.{Document}
use Rattle.doc_model.specs.declared.paragraph.Par.{Par}
use Rattle.doc_model.specs.declared.refusal.Limit.TheVariants as limit
use Rattle.doc_model.specs.Limits.{measure, greatest}
use Rattle.doc_model.specs.Parts.{items_of, head_paragraphs}
use Rattle.doc_model.specs.Reading.{number_of, paragraphs}
use Rattle.node_array.specs.declared.row.Row.{Row}
use Rattle.node_array.specs.declared.row.Row.TheVariants as row
use Rattle.node_array.specs.Rows.{rows_of}
use Rattle.paragraph_rows.specs.Flat.{AreFlat}
use Rattle.paragraph_rows.specs.OwnRow.{bare, own_row}
use Rattle.paragraph_rows.specs.Standing.{number_in}
use Rattle.paragraph_rows.proofs.Lists.{joined_map, same_joined, twice}
use Rattle.paragraph_rows.proofs.ValidRows.{row_numbers}
use Rattle.row_checks.proofs.Live.{par_row, own_rows}
use Rattle.row_measures.specs.RowCounts.{count_in, item_counts}

-- what is gathered of paragraphs is gathered of their rows
pub along : {X : Type 0} (of_par : Par → List X) (of_row : Row → List X) → ((par : Par) → of_par par ≡ of_row (own_row par)) → ((one : Row) → of_row one ≡ flat_map of_row (par_row one))
    → (doc : Document) → AreFlat (rows_of doc.body) → flat_map of_par (paragraphs doc) ≡ flat_map of_row (rows_of doc.body)
along of_par of_row same other doc flat =
    same_joined of_par (λ par. of_row (own_row par)) same (paragraphs doc) ∙ sym (joined_map of_row own_row (paragraphs doc))
    ∙ ap (flat_map of_row) (sym (own_rows doc flat)) ∙ twice of_row par_row (rows_of doc.body)
    ∙ sym (same_joined of_row (λ one. flat_map of_row (par_row one)) other (rows_of doc.body))

pub paragraphs_counted : (doc : Document) → AreFlat (rows_of doc.body) → measure doc limit.Paragraphs ≡ length (flat_map number_in (rows_of doc.body))
paragraphs_counted doc flat = sym (length-map (paragraphs doc) number_of) ∙ ap (length {A = ℕ}) (sym (row_numbers doc flat))

count_same : (one : Row) → count_in one ≡ flat_map count_in (par_row one)
count_same (row.Start head) = refl
count_same row.End = refl
count_same (row.Par head items) = refl
count_same row.NoteText = refl

counts : (doc : Document) → AreFlat (rows_of doc.body) → map (λ par. length (items_of par)) (paragraphs doc) ≡ item_counts (rows_of doc.body)
counts doc flat =
    sym (flat_map_single (λ par. length (items_of par)) (paragraphs doc))
    ∙ along (λ par. length (items_of par) ∷ []) count_in (λ par. ap (λ (n : ℕ). n ∷ []) (sym (length-map (items_of par) bare))) count_same doc flat

pub items_counted : (doc : Document) → AreFlat (rows_of doc.body) → measure doc limit.Items ≡ sum (item_counts (rows_of doc.body))
items_counted doc flat = sym (sum-map (λ par. length (items_of par)) (paragraphs doc)) ∙ ap sum (counts doc flat)

pub most_counted : (doc : Document) → AreFlat (rows_of doc.body)
    → measure doc limit.ItemsOfParagraph ≡ greatest (item_counts (rows_of doc.body) ++ map (λ par. length par.items) (head_paragraphs doc))
most_counted doc flat = ap (λ (some : List ℕ). greatest (some ++ map (λ par. length par.items) (head_paragraphs doc))) (counts doc flat)
