-- A change of heads passes no limit where the names that it brings are no longer than names may be.
use Rattle.std.proofs.Common.{◌≡◌, ℕ, ◌≤◌, Bool, true, false, List, [], ◌∷◌, ◌++◌, length, map, max, refl, ap, ap₂, sym, subst, ◌∙◌, arith, None, sum}
use Rattle.std.specs.Prelude.{if◌then◌else◌, nat_lt}
use Rattle.std.specs.List.{AllByRecursion as Each, flat_map}
use Rattle.doc_model.specs.declared.document.Document.{Document}
use Rattle.doc_model.specs.declared.paragraph.Par.{Par}
use Rattle.doc_model.specs.declared.paragraph.ParHead.{ParHead}
use Rattle.doc_model.specs.declared.paragraph.ParId.{ParId}
use Rattle.doc_model.specs.declared.refusal.Limit.TheVariants as limit
use Rattle.doc_model.specs.Alike.{in_document}
use Rattle.doc_model.specs.Limits.{IsWithinLimits, measure, first_passed, greatest}
use Rattle.doc_model.specs.Parts.{head_paragraphs}
use Rattle.node_array.specs.declared.row.Row.{Row}
use Rattle.node_array.specs.declared.row.Row.TheVariants as row
use Rattle.node_array.specs.Places.{is_par}
use Rattle.node_array.specs.Rows.{rows_of}
use Rattle.paragraph_rows.specs.Changes.{in_head, at_par}
use Rattle.paragraph_rows.specs.Flat.{AreFlat}
use Rattle.paragraph_rows.specs.Standing.{number_in}
use Rattle.row_measures.specs.RowCounts.{count_in, item_counts}
use Rattle.row_measures.specs.RowNames.{names_in, list_names, other_names, longest}
use Rattle.row_measures.proofs.Counts.{paragraphs_counted, items_counted, most_counted}
use Rattle.row_measures.proofs.Names.{names_measured}
use Rattle.row_measures.proofs.Sections.{count_left, depth_left}
use Rattle.edit_limits.proofs.Chain.{not_passed, Leaves, first_of_four, none_of_four}
use Rattle.edit_limits.proofs.Fits.{Fits, each_fits, longest_fits, each_front, each_rest, each_both}

-- a change of paragraphs leaves these measures
pub leaves : (doc : Document) (change : Par → Par) → Leaves doc (in_document change doc)
leaves doc change = record { sections = count_left doc change; depth = depth_left doc change; styles = refl; lists = refl; layouts = refl; masters = refl; declarations = refl }

-- the names of the rows of a document that is within its limits, and of its other parts
pub rows_fit : (doc : Document) → IsWithinLimits doc → AreFlat (rows_of doc.body) → Each Fits (flat_map names_in (rows_of doc.body))
rows_fit doc within flat =
    let both : max (longest (other_names doc)) (longest (flat_map names_in (rows_of doc.body))) ≤ 1024 = subst (λ (n : ℕ). n ≤ 1024) (names_measured doc flat) within.1.1.1.1.1.1.1.1.1.1.0 in
    each_fits (flat_map names_in (rows_of doc.body)) (omega (arith, both))

pub names_within : (old new : Document) → IsWithinLimits old → AreFlat (rows_of old.body) → AreFlat (rows_of new.body) → other_names new ≡ other_names old → Each Fits (flat_map names_in (rows_of new.body))
    → measure new limit.NameLength ≤ 1024
names_within old new within flat flat' same fits =
    let both : max (longest (other_names old)) (longest (flat_map names_in (rows_of old.body))) ≤ 1024 = subst (λ (n : ℕ). n ≤ 1024) (names_measured old flat) within.1.1.1.1.1.1.1.1.1.1.0 in
    let here : longest (flat_map names_in (rows_of new.body)) ≤ 1024 = longest_fits (flat_map names_in (rows_of new.body)) fits in
    subst (λ (n : ℕ). n ≤ 1024) (sym (names_measured new flat' ∙ ap (λ (names : List (List ℕ)). max (longest names) (longest (flat_map names_in (rows_of new.body)))) same)) (omega (arith, both, here))

-- rows that are changed one by one
each_row : {X : Type 0} (tell : Row → List X) (later : Row → Row) → ((one : Row) → tell (later one) ≡ tell one) → (rows : List Row) → flat_map tell (map later rows) ≡ flat_map tell rows
each_row tell later same [] = refl
each_row tell later same (one ∷ rows) = ap₂ (λ (a b : List _). a ++ b) (same one) (each_row tell later same rows)

each_fit : (later : Row → Row) → ((one : Row) → Each Fits (names_in one) → Each Fits (names_in (later one))) → (rows : List Row) → Each Fits (flat_map names_in rows) → Each Fits (flat_map names_in (map later rows))
each_fit later fits [] each = tt
each_fit later fits (one ∷ rows) each =
    each_both Fits (names_in (later one)) (flat_map names_in (map later rows)) (fits one (each_front Fits (names_in one) (flat_map names_in rows) each)) (each_fit later fits rows (each_rest Fits (names_in one) (flat_map names_in rows) each))

-- a change of heads
module _ (head : ParHead → ParHead) (numbers : (old : ParHead) → (head old).id ≡ old.id)
    (names : (old : ParHead) → Each Fits (old.style ∷ list_names old.list) → Each Fits ((head old).style ∷ list_names (head old).list)) where
  same_number : (par : ParId) (one : Row) → number_in (at_par par (in_head head) one) ≡ number_in one
  same_number par one = by_case (is_par par one) one where
    of_row : (one : Row) → number_in (in_head head one) ≡ number_in one
    of_row (row.Start h) = refl
    of_row row.End = refl
    of_row (row.Par h items) = ap (λ (id : ParId). id.0 ∷ []) (numbers h)
    of_row row.NoteText = refl

    by_case : (is : Bool) (one : Row) → number_in (if is then in_head head one else one) ≡ number_in one
    by_case true one = of_row one
    by_case false one = refl

  same_count : (par : ParId) (one : Row) → count_in (at_par par (in_head head) one) ≡ count_in one
  same_count par one = by_case (is_par par one) one where
    of_row : (one : Row) → count_in (in_head head one) ≡ count_in one
    of_row (row.Start h) = refl
    of_row row.End = refl
    of_row (row.Par h items) = refl
    of_row row.NoteText = refl

    by_case : (is : Bool) (one : Row) → count_in (if is then in_head head one else one) ≡ count_in one
    by_case true one = of_row one
    by_case false one = refl

  names_fit : (par : ParId) (one : Row) → Each Fits (names_in one) → Each Fits (names_in (at_par par (in_head head) one))
  names_fit par one each = by_case (is_par par one) one each where
    of_row : (one : Row) → Each Fits (names_in one) → Each Fits (names_in (in_head head one))
    of_row (row.Start h) each = each
    of_row row.End each = each
    of_row (row.Par h items) each =
        let own : List (List ℕ) = h.style ∷ list_names h.list in
        let rest : List (List ℕ) = names_in (row.Par h items) in
        each_both Fits ((head h).style ∷ list_names (head h).list) _ (names h (each_front Fits own _ each)) (each_rest Fits own _ each)
    of_row row.NoteText each = each

    by_case : (is : Bool) (one : Row) → Each Fits (names_in one) → Each Fits (names_in (if is then in_head head one else one))
    by_case true one each = of_row one each
    by_case false one each = each

  pub none_passed : (doc : Document) (change : Par → Par) (par : ParId) → IsWithinLimits doc → AreFlat (rows_of doc.body)
      → AreFlat (map (at_par par (in_head head)) (rows_of doc.body)) → rows_of (in_document change doc).body ≡ map (at_par par (in_head head)) (rows_of doc.body) → first_passed (in_document change doc) ≡ None
  none_passed doc change par within flat flat' rows =
      let new : Document = in_document change doc in
      let flat'' : AreFlat (rows_of new.body) = subst (λ (rs : List Row). AreFlat rs) (sym rows) flat' in
      let counts : item_counts (rows_of new.body) ≡ item_counts (rows_of doc.body) = ap (flat_map count_in) rows ∙ each_row count_in (at_par par (in_head head)) (same_count par) (rows_of doc.body) in
      let paragraphs : measure new limit.Paragraphs ≡ measure doc limit.Paragraphs = paragraphs_counted new flat'' ∙ ap length (ap (flat_map number_in) rows ∙ each_row number_in (at_par par (in_head head)) (same_number par) (rows_of doc.body)) ∙ sym (paragraphs_counted doc flat) in
      let most : measure new limit.ItemsOfParagraph ≡ measure doc limit.ItemsOfParagraph = most_counted new flat'' ∙ ap (λ (ns : List ℕ). greatest (ns ++ map (λ par. length par.items) (head_paragraphs doc))) counts ∙ sym (most_counted doc flat) in
      let items : measure new limit.Items ≡ measure doc limit.Items = items_counted new flat'' ∙ ap sum counts ∙ sym (items_counted doc flat) in
      let fits : Each Fits (flat_map names_in (rows_of new.body)) = subst (λ (rs : List Row). Each Fits (flat_map names_in rs)) (sym rows) (each_fit (at_par par (in_head head)) (names_fit par) (rows_of doc.body) (rows_fit doc within flat)) in
      first_of_four doc new within (leaves doc change)
      ∙ none_of_four (measure new limit.Paragraphs) (measure new limit.ItemsOfParagraph) (measure new limit.Items) (measure new limit.NameLength)
      (ap (nat_lt 65536) paragraphs ∙ not_passed 65536 (measure doc limit.Paragraphs) within.0)
      (ap (nat_lt 32768) most ∙ not_passed 32768 (measure doc limit.ItemsOfParagraph) within.1.0)
      (ap (nat_lt 4194304) items ∙ not_passed 4194304 (measure doc limit.Items) within.1.1.0)
      (not_passed 1024 (measure new limit.NameLength) (names_within doc new within flat flat'' refl fits))
