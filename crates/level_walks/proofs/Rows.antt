-- Where the row of a live paragraph stands among the rows of a document.
use Rattle.std.proofs.Common.{◌≡◌, ◌≢◌, ℕ, ◌+◌, ◌<◌, ◌≤◌, eqb, ltb, cond, not, suc, ◌||◌, arith, Bool, true, false, List, [], ◌∷◌, ◌++◌, length, take, drop, get_or, refl, ap, sym, ◌∙◌, subst, Option, Some, None}
use Rattle.std.specs.Prelude.{IfSome, position, slice_get}
use Rattle.std.specs.List.{list_any, position_or_len}
use Rattle.std.proofs.lemmas.Bool.{eqb-true, false≢true, lt-ltb, le-ltb, ltb-false}
use Rattle.std.proofs.lemmas.Option.{slice_get-get_or}
use Rattle.doc_model.specs.declared.block.Block.{Block}
use Rattle.doc_model.specs.declared.document.Document.{Document}
use Rattle.doc_model.specs.declared.paragraph.Item.{Item}
use Rattle.doc_model.specs.declared.paragraph.ParHead.{ParHead}
use Rattle.doc_model.specs.declared.paragraph.ParId.{ParId}
use Rattle.edit_rules.specs.Places.{is_in_note, live_paragraph}
use Rattle.node_array.specs.declared.row.Row.{Row}
use Rattle.node_array.specs.declared.row.Row.TheVariants as row
use Rattle.node_array.specs.Containers.{containers_of}
use Rattle.node_array.specs.Places.{is_par}
use Rattle.node_array.specs.Rows.{rows_of}
use Rattle.paragraph_rows.specs.Flat.{AreFlat}
use Rattle.paragraph_rows.specs.Standing.{AreApart}
use Rattle.paragraph_rows.proofs.Standing.{row_found}
use Rattle.row_checks.specs.NoteHeld.{is_note}
use Rattle.row_checks.proofs.Live.{absent_row}
use Rattle.row_checks.proofs.NoteOpen.{container_told}
use Rattle.edit_checks.proofs.Open.{open_by, outer_within}
use Rattle.edit_checks.proofs.Refused.{own_no_end}
use Rattle.edit_checks.proofs.Rows.{place_within, is_own}

-- where a paragraph has its row
pub record HasRow (par : ParId) (rows : List Row) : Type 0 where
  pub at : ℕ
  pub head : ParHead
  pub items : List Item
  pub found : position (is_par par) rows ≡ Some at
  pub there : slice_get rows at ≡ Some (row.Par head items)
  pub own : head.id ≡ par
  pub cut : rows ≡ take at rows ++ row.Par head items ∷ drop (at + 1) rows

same_par : (one other : ParId) → eqb one.0 other.0 ≡ true → other ≡ one
same_par one other same = ap (λ (n : ℕ). let par : ParId = record { 0 = n } in par) (sym (eqb-true one.0 other.0 same))

row_at : (par : ParId) (rows : List Row) (at : ℕ) (one : Row) → AreApart rows → position (is_par par) rows ≡ Some at → slice_get rows at ≡ Some one → is_par par one ≡ true → HasRow par rows
row_at par rows at (row.Start head) apart found there own = absurd (false≢true own)
row_at par rows at row.End apart found there own = absurd (false≢true own)
row_at par rows at (row.Par head items) apart found there own =
    record { at = at; head = head; items = items; found = found; there = there; own = same_par par head.id own; cut = (row_found par rows at (row.Par head items) found there apart).rows_are }
row_at par rows at row.NoteText apart found there own = absurd (false≢true own)

-- a paragraph has its row where it is found
pub has_row : (par : ParId) (rows : List Row) (at : ℕ) → AreApart rows → position (is_par par) rows ≡ Some at → HasRow par rows
has_row par rows at apart found =
    let one : Row = get_or rows at row.End in
    let there : slice_get rows at ≡ Some one = slice_get-get_or rows at row.End (place_within par rows at (sym found)) in
    row_at par rows at one apart found there (is_own par rows at one (sym found) there)

-- a live paragraph has one
pub live_row : (doc : Document) (par : ParId) → AreFlat (rows_of doc.body) → AreApart (rows_of doc.body) → live_paragraph doc par ≢ None → HasRow par (rows_of doc.body)
live_row doc par flat apart live = by_place (position (is_par par) (rows_of doc.body)) refl where
  by_place : (place : Option ℕ) → position (is_par par) (rows_of doc.body) ≡ place → HasRow par (rows_of doc.body)
  by_place None none = absurd (live (absent_row doc par flat none))
  by_place (Some at) found = has_row par (rows_of doc.body) at apart found

-- one that is live is found
pub is_found : {X : Type 0} (doc : Document) (body : List Block) (par : ParId) → doc.body ≡ body → AreFlat (rows_of body) → None ≡ position (is_par par) (rows_of body) → live_paragraph doc par ≢ None → X
is_found {X = X} doc body par same =
    let P : List Block → Type 0 = λ blocks. AreFlat (rows_of blocks) → None ≡ position (is_par par) (rows_of blocks) → live_paragraph doc par ≢ None → X in
    subst P same (λ flat none live. absurd (live (absent_row doc par flat (sym none))))

past_place : (m n : ℕ) → ltb (1 + m) (suc n) ≡ false → n ≤ m
past_place m n off = let h : suc n ≤ 1 + m = ltb-false (1 + m) (suc n) off in omega (arith, h)

-- where one isn't found, it is in no row
pub none_found : (par : ParId) (rows : List Row) → position (is_par par) rows ≡ None → list_any (is_par par) rows ≡ false
none_found par [] none = refl
none_found par (one ∷ rows) none = by_test (is_par par one) refl none (none_found par rows) where
  k : ℕ
  k = position_or_len (is_par par) rows

  rest : (test : Bool) → ltb k (length rows) ≡ test → position (is_par par) rows ≡ cond test (Some k) None
  rest test is = ap (λ (b : Bool). cond b (Some k) None) is

  none_of : (test : Bool) (n : ℕ) → cond test (Some n) None ≡ None → test ≡ false
  none_of true n e = absurd cc
  none_of false n e = refl

  by_test : (test : Bool) → is_par par one ≡ test → cond (ltb (cond (not test) (1 + k) 0) (suc (length rows))) (Some (cond (not test) (1 + k) 0)) None ≡ None
      → (position (is_par par) rows ≡ None → list_any (is_par par) rows ≡ false) → list_any (is_par par) (one ∷ rows) ≡ false
  by_test true is none later = absurd (let off : ltb 0 (suc (length rows)) ≡ false = none_of (ltb 0 (suc (length rows))) 0 none in false≢true (sym off ∙ lt-ltb 0 (suc (length rows)) (omega arith)))
  by_test false is none later =
      let off : ltb (1 + k) (suc (length rows)) ≡ false = none_of (ltb (1 + k) (suc (length rows))) (1 + k) none in
      let far : length rows ≤ k = past_place k (length rows) off in
      ap (λ (b : Bool). b || list_any (is_par par) rows) is ∙ later (rest false (le-ltb k (length rows) far))

-- the container of a row that is found is begun by one of the rows
pub container_within : (body : List Block) (par : ParId) (at : ℕ) (container : Option ℕ) → Some at ≡ position (is_par par) (rows_of body) → slice_get (containers_of body) at ≡ Some container
    → IfSome container (λ place. place < length (rows_of body))
container_within body par at None found told = tt
container_within body par at (Some place) found told =
    outer_within (rows_of body) at place (open_by body at (Some place) (place_within par (rows_of body) at found) (λ one there. own_no_end par (rows_of body) at one found there) told)

-- a paragraph stands in a note where its container is one
pub in_note : (doc : Document) (body : List Block) (par : ParId) (at : ℕ) (container : Option ℕ) → doc.body ≡ body → AreFlat (rows_of body) → AreApart (rows_of body) → Some at ≡ position (is_par par) (rows_of body)
    → slice_get (containers_of body) at ≡ Some container → is_note (rows_of body) container ≡ is_in_note doc par
in_note doc body par at container same =
    let P : List Block → Type 0 = λ blocks. AreFlat (rows_of blocks) → AreApart (rows_of blocks) → Some at ≡ position (is_par par) (rows_of blocks) → slice_get (containers_of blocks) at ≡ Some container
    → is_note (rows_of blocks) container ≡ is_in_note doc par in
    subst P same
    (λ flat apart found told.
    sym (container_told doc par at (get_or (rows_of doc.body) at row.End) container flat apart (sym found)
    (slice_get-get_or (rows_of doc.body) at row.End (place_within par (rows_of doc.body) at found)) told))
