-- The order of paragraphs in their container, by what a walk comes to.
use Rattle.std.proofs.Common.{◌≡◌, ◌≢◌, ℕ, ◌+◌, ◌<◌, ◌≤◌, Bool, true, false, List, ◌∷◌, ◌++◌, take, drop, length, eqb, ap, sym, ◌∙◌, subst, arith, Option, Some, None}
use Rattle.std.specs.Prelude.{option_map, position, slice_get, unwrap_or}
use Rattle.std.specs.List.{between, list_any}
use Rattle.std.proofs.lemmas.List.{length-map}
use Rattle.std.proofs.lemmas.Slice.{between_is}
use Rattle.doc_model.specs.declared.block.Block.{Block}
use Rattle.doc_model.specs.declared.document.Document.{Document}
use Rattle.doc_model.specs.declared.paragraph.ParId.{ParId}
use Rattle.doc_model.specs.Reading.{number_of}
use Rattle.container_rows.specs.Standing.{IsApart}
use Rattle.edit_rules.specs.Places.{are_in_order, held_from, live_paragraph}
use Rattle.edit_rules.specs.Refusals.{are_paragraphs_in_order, begins_with_two}
use Rattle.level_rows.specs.Level.{held_in}
use Rattle.level_rows.proofs.HeldFrom.{held_told, join_told, order_told, together_told}
use Rattle.node_array.specs.declared.row.Row.{Row}
use Rattle.node_array.specs.declared.row.Row.TheVariants as row
use Rattle.node_array.specs.Places.{is_par}
use Rattle.node_array.specs.Rows.{rows_of}
use Rattle.paragraph_rows.specs.Flat.{AreFlat}
use Rattle.paragraph_rows.specs.Standing.{AreApart, Stands}
use Rattle.paragraph_rows.proofs.Standing.{row_found}
use Rattle.level_walks.specs.Walks.{begins_with_one, comes_to, is_nothing, stays}
use Rattle.level_walks.proofs.Lists.{from_parts, from_place, none_dropped, none_later}
use Rattle.level_walks.proofs.Rows.{HasRow, has_row, live_row, none_found}
use Rattle.level_walks.proofs.Reached.{begins_two, nothing_more, none_reached, reached, reached_any, reached_together}

pub some_is : (one other : ℕ) → Some one ≡ Some other → one ≡ other
some_is one other e = ap (λ (o : Option ℕ). unwrap_or o one) e

-- what a walk from a place comes to
module _ (s : Bool) (rows : List Row) (from : ℕ) (last : ParId) where
  abbrev pub Comes : Bool → Type 0
  Comes comes = comes ≡ comes_to s last.0 (held_in 0 (drop from rows))

  pub no_last : position (is_par last) rows ≡ None → Comes false
  no_last none = sym (none_reached s last 0 (drop from rows) (none_dropped (is_par last) from rows (none_found last rows none)))

  -- the last one stands before the place
  pub last_before : (to : ℕ) → AreApart rows → position (is_par last) rows ≡ Some to → to < from → Comes false
  last_before to apart found before =
      let it : HasRow last rows = has_row last rows to apart found in
      let stands : Stands last rows (take it.at rows) (row.Par it.head it.items) (drop (it.at + 1) rows) = row_found last rows it.at (row.Par it.head it.items) it.found it.there apart in
      let same : it.at ≡ to = some_is it.at to (sym it.found ∙ found) in
      sym (none_reached s last 0 (drop from rows) (none_later (is_par last) rows (it.at + 1) from (omega (arith, same, before)) stands.none_behind))

  -- it doesn't, and the walk to it tells
  pub walk_tells : (to : ℕ) (stayed : Bool) → AreApart rows → position (is_par last) rows ≡ Some to → from ≤ to → stayed ≡ stays s 0 (between from to rows) → Comes stayed
  walk_tells to stayed apart found behind is =
      let it : HasRow last rows = has_row last rows to apart found in
      let same : it.at ≡ to = some_is it.at to (sym it.found ∙ found) in
      let one : Row = row.Par it.head it.items in
      let there : slice_get rows to ≡ Some one = subst (λ (n : ℕ). slice_get rows n ≡ Some one) same it.there in
      let stands : Stands last rows (take to rows) one (drop (to + 1) rows) = row_found last rows to one found there apart in
      let front : list_any (is_par last) (between from to rows) ≡ false =
      subst (λ (rs : List Row). list_any (is_par last) rs ≡ false) (sym (between_is rows from to)) (none_dropped (is_par last) from (take to rows) stands.none_before)
      in
      is ∙ reached s last 0 (between from to rows) one (drop (to + 1) rows) stands.own front stands.none_behind
      ∙ ap (λ (rs : List Row). comes_to s last.0 (held_in 0 (between from to rows ++ rs))) (sym (from_place rows to one there))
      ∙ ap (λ (rs : List Row). comes_to s last.0 (held_in 0 rs)) (sym (from_parts rows from to behind))

-- what the container of a live paragraph comes to from it
module _ (doc : Document) (first last : ParId) (apart : IsApart doc) (it : HasRow first (rows_of doc.body)) where
  past_sections : (comes : Bool) → ((from : ℕ) → position (is_par first) (rows_of doc.body) ≡ Some from → comes ≡ comes_to true last.0 (held_in 0 (drop from (rows_of doc.body)))) → comes ≡ are_in_order doc first last
  past_sections comes walk =
      walk it.at it.found
      ∙ ap (λ (rs : List Row). comes_to true last.0 (held_in 0 rs)) (from_place (rows_of doc.body) it.at (row.Par it.head it.items) it.there)
      ∙ reached_any last.0 (held_in 0 (row.Par it.head it.items ∷ drop (it.at + 1) (rows_of doc.body)))
      ∙ sym (order_told doc (take it.at (rows_of doc.body)) it.head it.items (drop (it.at + 1) (rows_of doc.body)) last apart it.cut)
      ∙ ap (λ (par : ParId). are_in_order doc par last) it.own

  past_paragraphs : (comes : Bool) → ((from : ℕ) → position (is_par first) (rows_of doc.body) ≡ Some from → comes ≡ comes_to false last.0 (held_in 0 (drop from (rows_of doc.body)))) → comes ≡ are_paragraphs_in_order doc first last
  past_paragraphs comes walk =
      walk it.at it.found
      ∙ ap (λ (rs : List Row). comes_to false last.0 (held_in 0 rs)) (from_place (rows_of doc.body) it.at (row.Par it.head it.items) it.there)
      ∙ reached_together last.0 (held_in 0 (row.Par it.head it.items ∷ drop (it.at + 1) (rows_of doc.body)))
      ∙ sym (together_told doc (take it.at (rows_of doc.body)) it.head it.items (drop (it.at + 1) (rows_of doc.body)) last apart it.cut)
      ∙ ap (λ (par : ParId). are_paragraphs_in_order doc par last) it.own

pub order_is : (doc : Document) (body : List Block) (first last : ParId) (comes : Bool) → doc.body ≡ body → IsApart doc → live_paragraph doc first ≢ None → AreFlat (rows_of body) → AreApart (rows_of body)
    → ((from : ℕ) → position (is_par first) (rows_of body) ≡ Some from → comes ≡ comes_to true last.0 (held_in 0 (drop from (rows_of body)))) → comes ≡ are_in_order doc first last
order_is doc body first last comes same apart live =
    let P : List Block → Type 0 = λ blocks. AreFlat (rows_of blocks) → AreApart (rows_of blocks)
    → ((from : ℕ) → position (is_par first) (rows_of blocks) ≡ Some from → comes ≡ comes_to true last.0 (held_in 0 (drop from (rows_of blocks)))) → comes ≡ are_in_order doc first last in
    subst P same (λ flat numbers walk. past_sections doc first last apart (live_row doc first flat numbers live) comes walk)

pub together_is : (doc : Document) (body : List Block) (first last : ParId) (comes : Bool) → doc.body ≡ body → IsApart doc → live_paragraph doc first ≢ None → AreFlat (rows_of body) → AreApart (rows_of body)
    → ((from : ℕ) → position (is_par first) (rows_of body) ≡ Some from → comes ≡ comes_to false last.0 (held_in 0 (drop from (rows_of body)))) → comes ≡ are_paragraphs_in_order doc first last
together_is doc body first last comes same apart live =
    let P : List Block → Type 0 = λ blocks. AreFlat (rows_of blocks) → AreApart (rows_of blocks)
    → ((from : ℕ) → position (is_par first) (rows_of blocks) ≡ Some from → comes ≡ comes_to false last.0 (held_in 0 (drop from (rows_of blocks)))) → comes ≡ are_paragraphs_in_order doc first last in
    subst P same (λ flat numbers walk. past_paragraphs doc first last apart (live_row doc first flat numbers live) comes walk)

-- what stands behind a paragraph
pub two_are : (doc : Document) (body : List Block) (par : ParId) (at : ℕ) (one : Bool) → doc.body ≡ body → IsApart doc → AreApart (rows_of body) → Some at ≡ position (is_par par) (rows_of body)
    → one ≡ begins_with_one (held_in 0 (drop (at + 1) (rows_of body))) → one ≡ begins_with_two (held_from doc par)
two_are doc body par at one same apart =
    let P : List Block → Type 0 = λ blocks. AreApart (rows_of blocks) → Some at ≡ position (is_par par) (rows_of blocks) → one ≡ begins_with_one (held_in 0 (drop (at + 1) (rows_of blocks)))
    → one ≡ begins_with_two (held_from doc par) in
    subst P same
    (λ numbers found is.
    let it : HasRow par (rows_of doc.body) = has_row par (rows_of doc.body) at numbers (sym found) in
    let rest : List Row = drop (it.at + 1) (rows_of doc.body) in
    let place : it.at ≡ at = some_is it.at at (sym it.found ∙ sym found) in
    is ∙ ap (λ (n : ℕ). begins_with_one (held_in 0 (drop (n + 1) (rows_of doc.body)))) (sym place)
    ∙ begins_two it.head.id.0 (held_in 0 rest)
    ∙ sym (join_told doc (take it.at (rows_of doc.body)) it.head it.items rest apart it.cut)
    ∙ ap (λ (other : ParId). begins_with_two (held_from doc other)) it.own)

-- nothing stands behind it
pub last_is : (doc : Document) (body : List Block) (par : ParId) (at : ℕ) (none : Bool) → doc.body ≡ body → IsApart doc → AreApart (rows_of body) → Some at ≡ position (is_par par) (rows_of body)
    → none ≡ is_nothing (held_in 0 (drop (at + 1) (rows_of body))) → none ≡ eqb (length (held_from doc par)) 1
last_is doc body par at none same apart =
    let P : List Block → Type 0 = λ blocks. AreApart (rows_of blocks) → Some at ≡ position (is_par par) (rows_of blocks) → none ≡ is_nothing (held_in 0 (drop (at + 1) (rows_of blocks)))
    → none ≡ eqb (length (held_from doc par)) 1 in
    subst P same
    (λ numbers found is.
    let it : HasRow par (rows_of doc.body) = has_row par (rows_of doc.body) at numbers (sym found) in
    let rest : List Row = drop (it.at + 1) (rows_of doc.body) in
    let place : it.at ≡ at = some_is it.at at (sym it.found ∙ sym found) in
    is ∙ ap (λ (n : ℕ). is_nothing (held_in 0 (drop (n + 1) (rows_of doc.body)))) (sym place)
    ∙ nothing_more it.head.id.0 (held_in 0 rest)
    ∙ ap (λ (held : List (Option ℕ)). eqb (length held) 1) (sym (held_told doc (take it.at (rows_of doc.body)) it.head it.items rest apart it.cut))
    ∙ ap (λ (n : ℕ). eqb n 1) (length-map (held_from doc it.head.id) (option_map number_of))
    ∙ ap (λ (other : ParId). eqb (length (held_from doc other)) 1) it.own)
