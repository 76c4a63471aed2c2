-- A text that is put in passes the limits of items, or none.
use Rattle.std.proofs.Common.{◌≡◌, ℕ, ◌+◌, ◌≤◌, Bool, true, false, List, [], ◌∷◌, ◌++◌, length, length-append, map, take, drop, refl, ap, ap₂, sym, subst, ◌∙◌, arith, Some, sum, append_assoc, append-nil, take-append-drop, zero, suc}
use Rattle.std.specs.Prelude.{◌==◌, if◌then◌else◌, nat_lt, position, slice_get, sum_by}
use Rattle.std.specs.List.{AllByRecursion as Each, flat_map, between}
use Rattle.std.proofs.lemmas.List.{length-map}
use Rattle.std.proofs.lemmas.List.Concat.{flat_map-append}
use Rattle.std.proofs.lemmas.List.Edits.{split_between}
use Rattle.std.proofs.lemmas.List.Sums.{sum-map, sum_by-append, sum_by-cons}
use Rattle.doc_model.specs.declared.document.Document.{Document}
use Rattle.doc_model.specs.declared.edit.EditOp.TheVariants.{InsertText}
use Rattle.doc_model.specs.declared.paragraph.Item.{Item, out-Item, roll-Item}
use Rattle.doc_model.specs.declared.paragraph.What.{What, roll-What}
use Rattle.doc_model.specs.declared.paragraph.What.TheOpen.{What-F}
use Rattle.doc_model.specs.declared.paragraph.What.TheViews.{out-roll-What, out-roll-Item}
use Rattle.doc_model.specs.declared.paragraph.Note.{Note, out-Note}
use Rattle.doc_model.specs.declared.paragraph.Par.{Par, out-Par, roll-Par}
use Rattle.doc_model.specs.declared.paragraph.ParHead.{ParHead}
use Rattle.doc_model.specs.declared.paragraph.ParId.{ParId}
use Rattle.doc_model.specs.declared.refusal.Limit.TheVariants as limit
use Rattle.doc_model.specs.Alike.{in_document}
use Rattle.doc_model.specs.Limits.{IsWithinLimits, measure, first_passed, greatest}
use Rattle.doc_model.specs.Parts.{field_of, mark_of, mark_name, head_paragraphs, names_of_field}
use Rattle.doc_model.specs.Reading.{number_of, note_of}
use Rattle.edit_rules.specs.Edited.{edited_document}
use Rattle.edit_rules.specs.Texts.{typed_item, spans_before, with_text}
use Rattle.node_array.specs.declared.row.Row.{Row}
use Rattle.node_array.specs.declared.row.Row.TheVariants as row
use Rattle.node_array.specs.Places.{is_par}
use Rattle.node_array.specs.Rows.{rows_of}
use Rattle.paragraph_rows.specs.Changes.{in_items, at_par}
use Rattle.paragraph_rows.specs.Flat.{AreFlat}
use Rattle.paragraph_rows.specs.Standing.{AreApart, Stands, number_in}
use Rattle.paragraph_rows.proofs.Instances.{flat_items, text_inserted}
use Rattle.paragraph_rows.proofs.Standing.{row_found, row_changed}
use Rattle.row_measures.specs.RowCounts.{count_in, item_counts}
use Rattle.row_measures.specs.RowNames.{names_in, head_names, span_names, field_names, mark_names, note_names}
use Rattle.row_measures.proofs.Counts.{paragraphs_counted, items_counted, most_counted}
use Rattle.edit_limits.specs.Over.{first_over}
use Rattle.edit_limits.proofs.Chain.{not_passed, first_of_four, four_as, two_of_four}
use Rattle.edit_limits.proofs.Fits.{Fits, each_front, each_rest, each_both, one_out}
use Rattle.edit_limits.proofs.Heads.{leaves, rows_fit, names_within}

-- what is told of typed items: nothing but their spans
typed_none : {X : Type 0} (tell : Item → List X) → ((spans : List (List ℕ)) (c : ℕ) → tell (typed_item spans c) ≡ []) → (spans : List (List ℕ)) (text : List ℕ) → flat_map tell (map (typed_item spans) text) ≡ []
typed_none tell none spans [] = refl
typed_none tell none spans (c ∷ cs) = ap₂ (λ (a b : List _). a ++ b) (none spans c) (typed_none tell none spans cs)

put_in : {X : Type 0} (tell : Item → List X) (at : ℕ) (more items : List Item) → flat_map tell more ≡ [] → flat_map tell (take at items ++ more ++ drop at items) ≡ flat_map tell items
put_in tell at more items none =
    flat_map-append tell (take at items ++ more) (drop at items)
    ∙ ap (λ (told : List _). told ++ flat_map tell (drop at items)) (flat_map-append tell (take at items) more ∙ ap (λ (told : List _). flat_map tell (take at items) ++ told) none ∙ append-nil (flat_map tell (take at items)))
    ∙ sym (flat_map-append tell (take at items) (drop at items)) ∙ ap (flat_map tell) (take-append-drop at items)

-- what a typed item is
abbrev of_char : Bool → Bool → ℕ → What-F What Item Note Par
of_char tab feed c = if tab then What-F.Tab else if feed then What-F.Break else What-F.Char c

what_known : {X : Type 0} (tell : Item → List X) → ((spans : List (List ℕ)) (c : ℕ) → tell (roll-Item (record { spans = spans; what = roll-What (What-F.Char c) })) ≡ [])
    → ((spans : List (List ℕ)) → tell (roll-Item (record { spans = spans; what = roll-What What-F.Tab })) ≡ []) → ((spans : List (List ℕ)) → tell (roll-Item (record { spans = spans; what = roll-What What-F.Break })) ≡ [])
    → (spans : List (List ℕ)) (c : ℕ) → tell (typed_item spans c) ≡ []
what_known tell char tab feed spans c = by_case (c == 0x9) (c == 0xa) where
  by_case : (t f : Bool) → tell (roll-Item (record { spans = spans; what = roll-What (of_char t f c) })) ≡ []
  by_case true f = tab spans
  by_case false true = feed spans
  by_case false false = char spans c

field_none : (spans : List (List ℕ)) (c : ℕ) → field_of (typed_item spans c) ≡ []
field_none = what_known field_of (λ spans c. simp (out-roll-Item, out-roll-What)) (λ spans. simp (out-roll-Item, out-roll-What)) (λ spans. simp (out-roll-Item, out-roll-What))

mark_none : (spans : List (List ℕ)) (c : ℕ) → mark_of (typed_item spans c) ≡ []
mark_none = what_known mark_of (λ spans c. simp (out-roll-Item, out-roll-What)) (λ spans. simp (out-roll-Item, out-roll-What)) (λ spans. simp (out-roll-Item, out-roll-What))

note_none : (spans : List (List ℕ)) (c : ℕ) → note_of (typed_item spans c) ≡ []
note_none = what_known note_of (λ spans c. simp (out-roll-Item, out-roll-What)) (λ spans. simp (out-roll-Item, out-roll-What)) (λ spans. simp (out-roll-Item, out-roll-What))

-- the names of the spans of typed items are those of the item before
typed_spans : (spans : List (List ℕ)) (text : List ℕ) → Each Fits spans → Each Fits (span_names (map (typed_item spans) text))
typed_spans spans [] each = tt
typed_spans spans (c ∷ cs) each = each_both Fits spans (span_names (map (typed_item spans) cs)) each (typed_spans spans cs each)

cut_fits : (at : ℕ) (items : List Item) → Each Fits (span_names items) → Each Fits (span_names (take at items)) × Each Fits (span_names (drop at items))
cut_fits at items each =
    let parts : Each Fits (span_names (take at items) ++ span_names (drop at items)) = subst (λ (names : List (List ℕ)). Each Fits names) (ap span_names (sym (take-append-drop at items)) ∙ flat_map-append (λ item. (out-Item item).spans) (take at items) (drop at items)) each in
    (each_front Fits (span_names (take at items)) (span_names (drop at items)) parts, each_rest Fits (span_names (take at items)) (span_names (drop at items)) parts)

before_fits : (at : ℕ) (items : List Item) → Each Fits (span_names items) → Each Fits (spans_before at items)
before_fits zero items each = tt
before_fits (suc at) items each =
    let told : List Item → List (List ℕ) = span_names in
    let middle : List Item = between at (at + 1) items in
    let parts : Each Fits (told (take at items) ++ (told middle ++ told (drop (at + 1) items))) = subst (λ (names : List (List ℕ)). Each Fits names)
    (ap told (split_between items at (at + 1) (omega arith)) ∙ flat_map-append (λ item. (out-Item item).spans) (take at items) (middle ++ drop (at + 1) items) ∙ ap (λ (names : List (List ℕ)). told (take at items) ++ names) (flat_map-append (λ item. (out-Item item).spans) middle (drop (at + 1) items))) each in
    each_front Fits (told middle) (told (drop (at + 1) items)) (each_rest Fits (told (take at items)) (told middle ++ told (drop (at + 1) items)) parts)

spans_fit : (at : ℕ) (text : List ℕ) (items : List Item) → Each Fits (span_names items) → Each Fits (span_names (with_text at text items))
spans_fit at text items each =
    let typed : List Item = map (typed_item (spans_before at items)) text in
    let cut = cut_fits at items each in
    subst (λ (names : List (List ℕ)). Each Fits names) (sym (flat_map-append (λ item. (out-Item item).spans) (take at items ++ typed) (drop at items) ∙ ap (λ (names : List (List ℕ)). names ++ span_names (drop at items)) (flat_map-append (λ item. (out-Item item).spans) (take at items) typed)))
    (each_both Fits (span_names (take at items) ++ span_names typed) (span_names (drop at items))
    (each_both Fits (span_names (take at items)) (span_names typed) cut.0 (typed_spans (spans_before at items) text (before_fits at items each))) cut.1)

text_fits : (at : ℕ) (text : List ℕ) (head : ParHead) (items : List Item) → Each Fits (names_in (row.Par head items)) → Each Fits (names_in (row.Par head (with_text at text items)))
text_fits at text head items each =
    let own : List (List ℕ) = head_names (row.Par head items) in
    let typed : List Item = map (typed_item (spans_before at items)) text in
    let behind = each_rest Fits own (span_names items ++ (field_names items ++ (mark_names items ++ note_names items))) each in
    let fields : field_names (with_text at text items) ≡ field_names items = ap (flat_map names_of_field) (put_in field_of at typed items (typed_none field_of field_none (spans_before at items) text)) in
    let marks : mark_names (with_text at text items) ≡ mark_names items = ap (map mark_name) (put_in mark_of at typed items (typed_none mark_of mark_none (spans_before at items) text)) in
    let notes : note_names (with_text at text items) ≡ note_names items = ap (map (λ (note : Note). (out-Note note).id)) (put_in note_of at typed items (typed_none note_of note_none (spans_before at items) text)) in
    each_both Fits own (span_names (with_text at text items) ++ (field_names (with_text at text items) ++ (mark_names (with_text at text items) ++ note_names (with_text at text items))))
    (each_front Fits own (span_names items ++ (field_names items ++ (mark_names items ++ note_names items))) each)
    (each_both Fits (span_names (with_text at text items)) (field_names (with_text at text items) ++ (mark_names (with_text at text items) ++ note_names (with_text at text items)))
    (spans_fit at text items (each_front Fits (span_names items) (field_names items ++ (mark_names items ++ note_names items)) behind))
    (subst (λ (names : List (List ℕ)). Each Fits names) (sym (ap₂ (λ (a b : List (List ℕ)). a ++ b) fields (ap₂ (λ (a b : List (List ℕ)). a ++ b) marks notes)))
    (each_rest Fits (span_names items) (field_names items ++ (mark_names items ++ note_names items)) behind)))

long_text : (at : ℕ) (text : List ℕ) (items : List Item) → length (with_text at text items) ≡ length items + length text
long_text at text items =
    let typed : List Item = map (typed_item (spans_before at items)) text in
    let whole : length (take at items) + length (drop at items) ≡ length items = sym (length-append (take at items) (drop at items)) ∙ ap length (take-append-drop at items) in
    let parts : length (take at items ++ typed ++ drop at items) ≡ (length (take at items) + length text) + length (drop at items) = length-append (take at items ++ typed) (drop at items) ∙ ap (λ n. n + length (drop at items)) (length-append (take at items) typed ∙ ap (λ n. length (take at items) + n) (length-map text (typed_item (spans_before at items)))) in
    parts ∙ omega (arith, whole)

map_same : (ns : List ℕ) → map (λ (n : ℕ). n) ns ≡ ns
map_same [] = refl
map_same (n ∷ ns) = ap (λ (rest : List ℕ). n ∷ rest) (map_same ns)

sum_parts : (xs ys : List ℕ) (n : ℕ) → sum (xs ++ n ∷ ys) ≡ sum_by (λ (k : ℕ). k) xs + (n + sum_by (λ (k : ℕ). k) ys)
sum_parts xs ys n =
    ap sum (sym (map_same (xs ++ n ∷ ys))) ∙ sum-map (λ (k : ℕ). k) (xs ++ n ∷ ys) ∙ sum_by-append (λ (k : ℕ). k) xs (n ∷ ys)
    ∙ ap (λ (rest : ℕ). sum_by (λ (k : ℕ). k) xs + rest) (sum_by-cons (λ (k : ℕ). k) n ys)

sum_out : (xs ys : List ℕ) (was is : ℕ) → sum (xs ++ is ∷ ys) + was ≡ sum (xs ++ was ∷ ys) + is
sum_out xs ys was is = let one = sum_parts xs ys is in let other = sum_parts xs ys was in omega (arith, one, other)

same_numbers : (before behind : List Row) (head : ParHead) (items others : List Item) → flat_map number_in (before ++ row.Par head items ∷ behind) ≡ flat_map number_in (before ++ row.Par head others ∷ behind)
same_numbers before behind head items others = flat_map-append number_in before (row.Par head items ∷ behind) ∙ sym (flat_map-append number_in before (row.Par head others ∷ behind))

names_changed : (before behind : List Row) (one other : Row) → (Each Fits (names_in one) → Each Fits (names_in other)) → Each Fits (flat_map names_in (before ++ one ∷ behind)) → Each Fits (flat_map names_in (before ++ other ∷ behind))
names_changed before behind one other fits each =
    let parts : Each Fits (flat_map names_in before ++ (names_in one ++ flat_map names_in behind)) = subst (λ (names : List (List ℕ)). Each Fits names) (flat_map-append names_in before (one ∷ behind)) each in
    let rest = each_rest Fits (flat_map names_in before) (names_in one ++ flat_map names_in behind) parts in
    subst (λ (names : List (List ℕ)). Each Fits names) (sym (flat_map-append names_in before (other ∷ behind)))
    (each_both Fits (flat_map names_in before) (names_in other ++ flat_map names_in behind) (each_front Fits (flat_map names_in before) (names_in one ++ flat_map names_in behind) parts)
    (each_both Fits (names_in other) (flat_map names_in behind) (fits (each_front Fits (names_in one) (flat_map names_in behind) rest)) (each_rest Fits (names_in one) (flat_map names_in behind) rest)))

pub text_passes : (next : ℕ) (doc : Document) (par : ParId) (at place : ℕ) (text : List ℕ) (head : ParHead) (items : List Item) → IsWithinLimits doc
    → AreFlat (rows_of doc.body) → AreApart (rows_of doc.body)
    → position (is_par par) (rows_of doc.body) ≡ Some place → slice_get (rows_of doc.body) place ≡ Some (row.Par head items)
    → first_passed (edited_document next (InsertText par at text) doc)
    ≡ first_over (record { limit = limit.ItemsOfParagraph; count = length items + length text } ∷ record { limit = limit.Items; count = measure doc limit.Items + length text } ∷ [])
text_passes next doc par at place text head items within flat apart found here =
    let change : Par → Par = λ one. if number_of one == par.0 then roll-Par (record (out-Par one) { items = with_text at text (out-Par one).items }) else one in
    let new : Document = in_document change doc in
    let before : List Row = take place (rows_of doc.body) in
    let behind : List Row = drop (place + 1) (rows_of doc.body) in
    let other : Row = row.Par head (with_text at text items) in
    let stands : Stands par (rows_of doc.body) before (row.Par head items) behind = row_found par (rows_of doc.body) place (row.Par head items) found here apart in
    let mapped : rows_of new.body ≡ map (at_par par (in_items (with_text at text))) (rows_of doc.body) = text_inserted next doc par at text flat in
    let rows : rows_of new.body ≡ before ++ other ∷ behind = mapped ∙ row_changed par (in_items (with_text at text)) (rows_of doc.body) before (row.Par head items) behind stands in
    let flat' : AreFlat (rows_of new.body) = subst (λ (rs : List Row). AreFlat rs) (sym mapped) (flat_items par (with_text at text) (rows_of doc.body) flat) in
    let heads : List ℕ = map (λ p. length p.items) (head_paragraphs doc) in
    let counts : item_counts (rows_of new.body) ≡ item_counts before ++ length (with_text at text items) ∷ item_counts behind = ap item_counts rows ∙ flat_map-append count_in before (other ∷ behind) in
    let old_counts : item_counts (rows_of doc.body) ≡ item_counts before ++ length items ∷ item_counts behind = ap item_counts stands.rows_are ∙ flat_map-append count_in before (row.Par head items ∷ behind) in
    let paragraphs : measure new limit.Paragraphs ≡ measure doc limit.Paragraphs = paragraphs_counted new flat' ∙ ap length (ap (flat_map number_in) rows ∙ same_numbers before behind head (with_text at text items) items ∙ ap (flat_map number_in) (sym stands.rows_are)) ∙ sym (paragraphs_counted doc flat) in
    let old_most : measure doc limit.ItemsOfParagraph ≡ greatest (item_counts before ++ length items ∷ (item_counts behind ++ heads)) = most_counted doc flat ∙ ap (λ (ns : List ℕ). greatest (ns ++ heads)) old_counts ∙ ap greatest (append_assoc (item_counts before) (length items ∷ item_counts behind) heads) in
    let most : measure new limit.ItemsOfParagraph ≡ greatest (item_counts before ++ length (with_text at text items) ∷ (item_counts behind ++ heads)) = most_counted new flat' ∙ ap (λ (ns : List ℕ). greatest (ns ++ heads)) counts ∙ ap greatest (append_assoc (item_counts before) (length (with_text at text items) ∷ item_counts behind) heads) in
    let long : length (with_text at text items) ≡ length items + length text = long_text at text items in
    let most_test : nat_lt 32768 (measure new limit.ItemsOfParagraph) ≡ nat_lt 32768 (length items + length text) = ap (nat_lt 32768) most ∙ one_out 32768 (item_counts before) (item_counts behind ++ heads) (length items) (length (with_text at text items)) (subst (λ (n : ℕ). n ≤ 32768) old_most within.1.0) ∙ ap (nat_lt 32768) long in
    let old_sum : measure doc limit.Items ≡ sum (item_counts before ++ length items ∷ item_counts behind) = items_counted doc flat ∙ ap sum old_counts in
    let new_sum : measure new limit.Items ≡ sum (item_counts before ++ length (with_text at text items) ∷ item_counts behind) = items_counted new flat' ∙ ap sum counts in
    let out = sum_out (item_counts before) (item_counts behind) (length items) (length (with_text at text items)) in
    let items_are : measure new limit.Items ≡ measure doc limit.Items + length text = omega (arith, old_sum, new_sum, out, long) in
    let fits : Each Fits (flat_map names_in (rows_of new.body)) = subst (λ (rs : List Row). Each Fits (flat_map names_in rs)) (sym rows) (names_changed before behind (row.Par head items) other (text_fits at text head items) (subst (λ (rs : List Row). Each Fits (flat_map names_in rs)) stands.rows_are (rows_fit doc within flat))) in
    first_of_four doc new within (leaves doc change)
    ∙ four_as (measure new limit.Paragraphs) (measure new limit.ItemsOfParagraph) (measure new limit.Items) (measure new limit.NameLength) (measure doc limit.Paragraphs) (length items + length text) (measure doc limit.Items + length text) (measure new limit.NameLength)
    (ap (nat_lt 65536) paragraphs) most_test (ap (nat_lt 4194304) items_are) refl
    ∙ two_of_four (measure doc limit.Paragraphs) (length items + length text) (measure doc limit.Items + length text) (measure new limit.NameLength)
    (not_passed 65536 (measure doc limit.Paragraphs) within.0) (not_passed 1024 (measure new limit.NameLength) (names_within doc new within flat flat' refl fits))
