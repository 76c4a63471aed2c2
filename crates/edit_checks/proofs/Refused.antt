-- The protection of a paragraph by its row.
use Rattle.std.proofs.Common.{◌≡◌, ◌≢◌, ℕ, ◌||◌, inl, inr, Bool, true, false, cond, List, [], ◌∷◌, map, length, get_or, refl, ap, ap₂, sym, ◌∙◌, subst, arith, Option, Some, None, Result, Ok, Err}
use Rattle.std.specs.Prelude.{◌==◌, slice_get, position, is_some, filter, IfOk}
use Rattle.std.specs.declared.alloc.AllocError.{AllocError}
use Rattle.std.proofs.lemmas.Bool.{false≢true}
use Rattle.std.proofs.lemmas.Option.{slice_get-get_or}
use Rattle.doc_model.specs.declared.block.Block.{Block}
use Rattle.doc_model.specs.declared.document.Document.{Document}
use Rattle.doc_model.specs.declared.edit.EditOp.{EditOp}
use Rattle.doc_model.specs.declared.paragraph.Par.{Par}
use Rattle.doc_model.specs.declared.paragraph.ParId.{ParId}
use Rattle.doc_model.specs.declared.refusal.Refusal.{Refusal}
use Rattle.edit_checks.specs.Alone.{GuardsAlone}
use Rattle.doc_model.specs.declared.edit.EditOp.TheVariants.{Split, UnwrapSection}
use Rattle.doc_model.specs.Reading.{number_of}
use Rattle.edit_rules.specs.Places.{Placed, is_one_of, live_paragraph, placed_paragraphs}
use Rattle.edit_rules.specs.Refusals.{first_refusal_of, guarded_paragraphs, protected, protected_by}
use Rattle.node_array.specs.declared.row.Row.{Row}
use Rattle.node_array.specs.declared.row.Row.TheVariants as row
use Rattle.node_array.specs.Places.{is_par}
use Rattle.node_array.specs.Rows.{rows_of}
use Rattle.paragraph_rows.specs.Flat.{AreFlat}
use Rattle.paragraph_rows.specs.Standing.{AreApart}
use Rattle.row_checks.specs.Guarded.{protected_row}
use Rattle.row_checks.proofs.Guarded.{guarded_row}
use Rattle.row_facts.specs.Around.{open_before, sections_open, is_end}
use Rattle.edit_checks.proofs.Rows.{place_within, absent_from, is_own}

-- a paragraph's row is no end
par_no_end : (par : ParId) (one : Row) → is_par par one ≡ true → is_end one ≡ false
par_no_end par (row.Start head) own = refl
par_no_end par row.End own = absurd (false≢true own)
par_no_end par (row.Par head items) own = refl
par_no_end par row.NoteText own = refl

pub own_no_end : (par : ParId) (rows : List Row) (at : ℕ) (one : Row) → Some at ≡ position (is_par par) rows → slice_get rows at ≡ Some one → is_end one ≡ false
own_no_end par rows at one found there = par_no_end par one (is_own par rows at one found there)

none_of : (live : Option Par) → false ≡ is_some live → live ≡ None
none_of None is = refl
none_of (Some par) is = absurd (false≢true is)

-- what an edit that guards this paragraph alone is refused by
abbrev pub Refuses : List Block → ParId → Option Refusal → Type 0
Refuses body par why = (doc : Document) (op : EditOp) → doc.body ≡ body → live_paragraph doc par ≢ None → GuardsAlone doc op par → why ≡ protected doc op

pub absent_guards : (body : List Block) (par : ParId) → AreFlat (rows_of body) → None ≡ position (is_par par) (rows_of body) → Refuses body par None
absent_guards body par flat none doc op same live guarded = absurd (live (none_of (live_paragraph doc par) (absent_from doc body par same flat none)))

kept_same : (test other : Placed → Bool) → ((placed : Placed) → test placed ≡ other placed) → (some : List Placed) → filter test some ≡ filter other some
kept_same test other same [] = refl
kept_same test other same (placed ∷ some) =
    ap₂ (λ (b : Bool) (more : List Placed). cond b (placed ∷ more) more) (same placed) (kept_same test other same some)

one_of_two : (test : Bool) → (test || (test || false)) ≡ (test || false)
one_of_two true = refl
one_of_two false = refl

-- a paragraph that is named twice is guarded as one that is named once
doubled : (doc : Document) (op : EditOp) (par : ParId) → guarded_paragraphs doc op ≡ par.0 ∷ par.0 ∷ [] → protected doc op ≡ protected doc (Split par 0)
doubled doc (UnwrapSection name) par is = absurd (let long = ap (length {A = ℕ}) is in omega (arith, long))
doubled doc op par is =
    ap (λ (numbers : List ℕ). first_refusal_of (map (λ placed. protected_by placed.around) (filter (λ placed. is_one_of numbers (number_of placed.par)) (placed_paragraphs doc)))) is
    ∙ ap (λ (kept : List Placed). first_refusal_of (map (λ placed. protected_by placed.around) kept))
    (kept_same (λ placed. is_one_of (par.0 ∷ par.0 ∷ []) (number_of placed.par)) (λ placed. is_one_of (par.0 ∷ []) (number_of placed.par))
    (λ placed. one_of_two (par.0 == number_of placed.par)) (placed_paragraphs doc))

guarded_of : (doc : Document) (op : EditOp) (par : ParId) (at : ℕ) → GuardsAlone doc op par → AreFlat (rows_of doc.body) → AreApart (rows_of doc.body)
    → Some at ≡ position (is_par par) (rows_of doc.body) → protected_row (sections_open (open_before at (rows_of doc.body))) ≡ protected doc op
guarded_of doc op par at guarded flat apart found =
    let rows : List Row = rows_of doc.body in
    let there : slice_get rows at ≡ Some (get_or rows at row.End) = slice_get-get_or rows at row.End (place_within par rows at found) in
    sym (by_case guarded (λ other is. guarded_row doc other par at (get_or rows at row.End) flat apart (sym found) there is)) where
      by_case : GuardsAlone doc op par → ((other : EditOp) → guarded_paragraphs doc other ≡ par.0 ∷ [] → protected doc other ≡ protected_row (sections_open (open_before at (rows_of doc.body))))
          → protected doc op ≡ protected_row (sections_open (open_before at (rows_of doc.body)))
      by_case (inl once) known = known op once
      by_case (inr twice) known = doubled doc op par twice ∙ known (Split par 0) refl

guarded_at : (doc : Document) (body : List Block) (op : EditOp) (par : ParId) (at : ℕ) → GuardsAlone doc op par → doc.body ≡ body → AreFlat (rows_of body)
    → AreApart (rows_of body) → Some at ≡ position (is_par par) (rows_of body) → protected_row (sections_open (open_before at (rows_of body))) ≡ protected doc op
guarded_at doc body op par at guarded same =
    let P : List Block → Type 0 = λ blocks. AreFlat (rows_of blocks) → AreApart (rows_of blocks) → Some at ≡ position (is_par par) (rows_of blocks)
    → protected_row (sections_open (open_before at (rows_of blocks))) ≡ protected doc op in
    subst P same (guarded_of doc op par at guarded)

pub row_guards : (body : List Block) (par : ParId) (at : ℕ) (result : Result (Option Refusal) AllocError) → AreFlat (rows_of body) → AreApart (rows_of body)
    → Some at ≡ position (is_par par) (rows_of body) → IfOk result (λ why. why ≡ protected_row (sections_open (open_before at (rows_of body))))
    → IfOk result (λ why. (doc : Document) (op : EditOp) → doc.body ≡ body → live_paragraph doc par ≢ None → GuardsAlone doc op par → why ≡ protected doc op)
row_guards body par at (Ok why) flat apart found is = λ doc op same live guarded. is ∙ guarded_at doc body op par at guarded same flat apart found
row_guards body par at (Err none) flat apart found is = tt
