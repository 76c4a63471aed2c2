-- Footnotes added one after another to the rows of their citations.
use Rattle.std.proofs.Common.{◌≡◌, ℕ, ◌+◌, ◌<◌, ◌≤◌, List, [], ◌∷◌, ◌++◌, Bool, true, false, ◌==◌, Option, Some, None, if◌then◌else◌, refl, length, zero, suc, arith, ap, ap₂, sym, ◌∙◌, get_or, set}
use Rattle.std.proofs.lemmas.Bool.Decides.{nat_tests}
use Rattle.std.proofs.lemmas.List.{append_assoc, append-nil}
use Rattle.std.specs.Str.{bytes_eq}
use Rattle.doc_model.specs.declared.page_layout.Master.{Master}
use Rattle.style_model.specs.Masters.{place_of_master}
use Rattle.std.proofs.Common.{find}
use Rattle.doc_model.specs.declared.page_layout.PageLayout.{PageLayout}
use Rattle.page_model.specs.Frames.{layout_named}
use Rattle.page_model.specs.declared.placed.ParRows.{ParRows}
use Rattle.page_model.specs.declared.placed.NoteRows.{NoteRows}
use Rattle.page_model.specs.declared.row.Row.{Row}
use Rattle.page_model.specs.declared.row.NoteRow.{NoteRow}
use Rattle.page_model.specs.BodyRows.{is_cited_in, notes_of_line, rows_of_lines, rows_of_note, rows_of_par, row_of, stated_master}
use Rattle.paginate.specs.Uncited.{uncited_rows, with_notes, added_at, cited_at, cited}

-- rows from a line on, each with the rows of its footnotes behind its own
abbrev annotated : ℕ → ℕ → List NoteRows → List Row → List Row
annotated line place notes [] = []
annotated line place notes (row ∷ rows) = with_notes (notes_of_line line place notes) row ∷ annotated (line + 1) place notes rows

-- rows from a line on, with those of one footnote behind those of the line of its citation
abbrev cite_from : ℕ → Option ℕ → List NoteRow → List Row → List Row
cite_from line cited_line more [] = []
cite_from line cited_line more (row ∷ rows) = (if is_cited_in line cited_line then with_notes more row else row) ∷ cite_from (line + 1) cited_line more rows

with_none : (row : Row) → with_notes [] row ≡ row
with_none row = ap (λ (notes : List NoteRow). record row { notes = notes }) (append-nil row.notes)

annotated-none : (line place : ℕ) (rows : List Row) → annotated line place [] rows ≡ rows
annotated-none line place [] = refl
annotated-none line place (row ∷ rows) = ap₂ (λ (r : Row) (rs : List Row). r ∷ rs) (with_none row) (annotated-none (line + 1) place rows)

with_both : (b : Bool) (first more : List NoteRow) (row : Row) → with_notes ((if b then first else []) ++ more) row ≡ with_notes more (if b then with_notes first row else row)
with_both true first more row = ap (λ (notes : List NoteRow). record row { notes = notes }) (sym (append_assoc row.notes first more))
with_both false first more row = refl

annotated-cons : (line place : ℕ) (note : NoteRows) (notes : List NoteRows) (rows : List Row)
    → annotated line place (note ∷ notes) rows ≡ annotated line (place + length note.pars) notes (cite_from line note.line (rows_of_note place note.pars) rows)
annotated-cons line place note notes [] = refl
annotated-cons line place note notes (row ∷ rows) =
    ap₂ (λ (r : Row) (rs : List Row). r ∷ rs)
    (with_both (is_cited_in line note.line) (rows_of_note place note.pars) (notes_of_line line (place + length note.pars) notes) row)
    (annotated-cons (line + 1) place note notes rows)

eq-other : (m n : ℕ) → m < n → (m == n) ≡ false
eq-other m n h = grind (arith, nat_tests)

eq-more : (m n : ℕ) → n < m → (m == n) ≡ false
eq-more m n h = grind (arith, nat_tests)

eq-same : (m n : ℕ) → m ≡ n → (m == n) ≡ true
eq-same m n h = grind (arith, nat_tests)

-- a line before these rows, and no line at all, change nothing
cite_from-before : (line cited_line : ℕ) (more : List NoteRow) (rows : List Row) → cited_line < line → cite_from line (Some cited_line) more rows ≡ rows
cite_from-before line cited_line more [] h = refl
cite_from-before line cited_line more (row ∷ rows) h =
    rw (eq-other cited_line line h) (ap (λ (rs : List Row). row ∷ rs) (cite_from-before (line + 1) cited_line more rows (omega arith)))

cite_from-none : (line : ℕ) (more : List NoteRow) (rows : List Row) → cite_from line None more rows ≡ rows
cite_from-none line more [] = refl
cite_from-none line more (row ∷ rows) = ap (λ (rs : List Row). row ∷ rs) (cite_from-none (line + 1) more rows)

cite_from-at : (line place cited_line : ℕ) (more : List NoteRow) (rows : List Row) → cited_line ≡ line + place → cite_from line (Some cited_line) more rows ≡ added_at place more rows
cite_from-at line zero cited_line more [] e = refl
cite_from-at line (suc place) cited_line more [] e = refl
cite_from-at line zero cited_line more (row ∷ rows) e =
    rw (eq-same cited_line line (omega arith)) (ap (λ (rs : List Row). with_notes more row ∷ rs) (cite_from-before (line + 1) cited_line more rows (omega arith)))
cite_from-at line (suc place) cited_line more (row ∷ rows) e =
    rw (eq-more cited_line line (omega arith)) (ap (λ (rs : List Row). row ∷ rs) (cite_from-at (line + 1) place cited_line more rows (omega arith)))

cite_from-first : (cited_line : Option ℕ) (more : List NoteRow) (rows : List Row) → cite_from 0 cited_line more rows ≡ cited_at cited_line more rows
cite_from-first None more rows = cite_from-none 0 more rows
cite_from-first (Some cited_line) more rows = cite_from-at 0 cited_line cited_line more rows (omega arith)

cited-annotated : (place : ℕ) (notes : List NoteRows) (rows : List Row) → cited place notes rows ≡ annotated 0 place notes rows
cited-annotated place [] rows = sym (annotated-none 0 place rows)
cited-annotated place (note ∷ notes) rows =
    cited-annotated (place + length note.pars) notes (cited_at note.line (rows_of_note place note.pars) rows)
    ∙ ap (annotated 0 (place + length note.pars) notes) (sym (cite_from-first note.line (rows_of_note place note.pars) rows))
    ∙ sym (annotated-cons 0 place note notes rows)

annotated-lines : (masters : List Master) (place : ℕ) (par : ParRows) (before : ℕ) (lines : List (List ℕ))
    → annotated before place par.notes (uncited_rows masters place par before lines) ≡ rows_of_lines masters place par before lines
annotated-lines masters place par before [] = refl
annotated-lines masters place par before (text ∷ more) =
    ap (λ (rs : List Row). row_of masters place par before (length more) text ∷ rs) (annotated-lines masters place par (before + 1) more)

-- the rows of a paragraph are its lines, to which the footnotes are added
pub rows-cited : (masters : List Master) (place : ℕ) (par : ParRows) → cited place par.notes (uncited_rows masters place par 0 par.lines) ≡ rows_of_par masters place par
rows-cited masters place par = cited-annotated place par.notes (uncited_rows masters place par 0 par.lines) ∙ annotated-lines masters place par 0 par.lines

-- a write into the row at a place
pub added-set : (place : ℕ) (more : List NoteRow) (rows : List Row) (d : Row) → place < length rows → set rows place (with_notes more (get_or rows place d)) ≡ added_at place more rows
added-set place more [] d h = absurd (omega arith)
added-set zero more (row ∷ rows) d h = refl
added-set (suc place) more (row ∷ rows) d h = ap (λ (rs : List Row). row ∷ rs) (added-set place more rows d (omega arith))

pub added-past : (place : ℕ) (more : List NoteRow) (rows : List Row) → length rows ≤ place → added_at place more rows ≡ rows
added-past zero more [] h = refl
added-past (suc place) more [] h = refl
added-past zero more (row ∷ rows) h = absurd (omega arith)
added-past (suc place) more (row ∷ rows) h = ap (λ (rs : List Row). row ∷ rs) (added-past place more rows (omega arith))

-- a name that isn't the empty one
pub stated-name : (masters : List Master) (name : List ℕ) → bytes_eq name [] ≡ false → place_of_master masters name ≡ stated_master masters (Some name)
stated-name masters [] e = cc
stated-name masters (letter ∷ letters) e = refl

pub stated-none : (masters : List Master) (name : List ℕ) → bytes_eq name [] ≡ true → None ≡ stated_master masters (Some name)
stated-none masters [] e = refl
stated-none masters (letter ∷ letters) e = cc

-- the layout of a name
pub layout-none : (layouts : List PageLayout) (name : List ℕ) → bytes_eq name [] ≡ true → None ≡ layout_named layouts name
layout-none layouts [] e = refl
layout-none layouts (letter ∷ letters) e = absurd (cc)

pub layout-found : (layouts : List PageLayout) (name : List ℕ) → bytes_eq name [] ≡ false → find (λ layout. bytes_eq layout.name name) layouts ≡ layout_named layouts name
layout-found layouts [] e = absurd (cc)
layout-found layouts (letter ∷ letters) e = refl
