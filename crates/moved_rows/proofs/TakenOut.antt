-- Paragraphs that are taken out of their container, among the rows of a body.
use Rattle.std.proofs.Common.{◌≡◌, ℕ, ◌≤◌, Bool, List, [], ◌∷◌, ◌++◌, length, map, drop, refl, ap, ap₂, sym, ◌∙◌, arith, length-append}
use Rattle.std.proofs.Math.Path.{fun_ext}
use Rattle.std.specs.List.{flat_map, AllByRecursion as Each}
use Rattle.doc_model.specs.declared.block.Block.{Block}
use Rattle.doc_model.specs.declared.paragraph.Par.{Par, out-Par}
use Rattle.doc_model.specs.declared.paragraph.Item.{Item}
use Rattle.doc_model.specs.declared.document.Document.{Document}
use Rattle.doc_model.specs.Reading.{number_of}
use Rattle.doc_model.specs.Parts.{notes}
use Rattle.edit_rules.specs.Places.{as_block, is_paragraph}
use Rattle.edit_rules.specs.Blocks.{in_containers, at_paragraph, without_paragraphs}
use Rattle.node_array.specs.declared.row.Row.{Row}
use Rattle.node_array.specs.declared.row.Row.TheVariants as row
use Rattle.node_array.specs.Rows.{par_rows, rows_of}
use Rattle.container_rows.specs.Standing.{KeepsParagraphs, AreBehindAll, IsChangedFrom, HoldsNoNotes}
use Rattle.container_rows.proofs.Firsts.{or_nothing}
use Rattle.container_rows.proofs.Heads.{kept_by}
use Rattle.container_rows.proofs.Parts.{head_row, bare, text_rows, own_rows}
use Rattle.container_rows.proofs.Spots.{times, times_both}
use Rattle.container_rows.proofs.Changed.{changed_when}
use Rattle.held_rows.proofs.Unique.{one_tail}
use Rattle.held_rows.proofs.Runs.{first_block}
use Rattle.moved_rows.proofs.Filters.{without, one_of, one_of_within, within_test, body_fused}
use Rattle.moved_rows.proofs.Removed.{body_removed}
use Rattle.moved_rows.proofs.Kept.{notes_kept}

abbrev dropping : List Block → List Block
dropping blocks = drop 1 blocks

drop_keeps : KeepsParagraphs dropping
drop_keeps [] = refl
drop_keeps (par ∷ pars) = kept_by (map as_block pars) pars refl

one_out : (doc : Document) (before : List Row) (par : Par) (blocks : List Block) (tail : List Row) → times (number_of par) (rows_of doc.body) ≤ 1 → Each HoldsNoNotes (notes doc) → AreBehindAll tail
    → rows_of doc.body ≡ before ++ (rows_of (as_block par ∷ blocks) ++ tail) → rows_of (in_containers (without (is_paragraph (number_of par))) doc).body ≡ before ++ (rows_of blocks ++ tail)
one_out doc before par blocks tail few valid ends is =
    let items : List Item = map bare (out-Par par).items in
    let behind : List Row = rows_of blocks ++ tail in
    let rest : List Row = flat_map text_rows (out-Par par).items ++ behind in
    let opens : rows_of (as_block par ∷ blocks) ++ tail ≡ row.Par (head_row par) items ∷ rest = first_block par blocks tail ∙ ap (λ (rows : List Row). rows ++ behind) (own_rows par) in
    let it : IsChangedFrom dropping before (row.Par (head_row par) items ∷ rest) (rows_of (at_paragraph (head_row par).id dropping doc).body) =
    changed_when dropping doc before (head_row par) items rest few valid (λ _. drop_keeps) (is ∙ ap (λ (rows : List Row). before ++ rows) opens)
    in
    let same = one_tail (as_block it.par ∷ it.blocks) (as_block par ∷ blocks) it.behind tail it.ends ends (first_block it.par it.blocks it.behind ∙ (sym it.old ∙ sym opens)) in
    ap rows_of (body_removed (number_of par) doc few) ∙ it.new
    ∙ ap₂ (λ (bs : List Block) (rows : List Row). before ++ (rows_of (drop 1 bs) ++ rows)) same.0 same.1

pub fewer : (n : ℕ) (doc other : Document) (before gone stay : List Row) → times n (rows_of doc.body) ≤ 1 → rows_of doc.body ≡ before ++ (gone ++ stay) → rows_of other.body ≡ before ++ stay → times n (rows_of other.body) ≤ 1
fewer n doc other before gone stay few is now =
    omega (arith, few, ap (times n) is, ap (times n) now, times_both n before (gone ++ stay), times_both n gone stay, times_both n before stay)

all_out : (par : Par) (pars : List Par) (doc : Document) (before : List Row) (rest : List Block) (tail : List Row) → ((n : ℕ) → times n (rows_of doc.body) ≤ 1) → Each HoldsNoNotes (notes doc) → AreBehindAll tail
    → rows_of doc.body ≡ before ++ (rows_of (map as_block (par ∷ pars) ++ rest) ++ tail) → rows_of (in_containers (without_paragraphs (par ∷ pars)) doc).body ≡ before ++ (rows_of rest ++ tail)
all_out par [] doc before rest tail few valid ends is =
    ap (λ (test : Block → Bool). rows_of (in_containers (without test) doc).body) (fun_ext (λ block. or_nothing (is_paragraph (number_of par) block)))
    ∙ one_out doc before par rest tail (few (number_of par)) valid ends is
all_out par (other ∷ pars) doc before rest tail few valid ends is =
    let first : Document = in_containers (without (is_paragraph (number_of par))) doc in
    let blocks : List Block = map as_block (other ∷ pars) ++ rest in
    let now : rows_of first.body ≡ before ++ (rows_of blocks ++ tail) = one_out doc before par blocks tail (few (number_of par)) valid ends is in
    let whole : rows_of doc.body ≡ before ++ (par_rows par ++ (rows_of blocks ++ tail)) = is ∙ ap (λ (rows : List Row). before ++ rows) (first_block par blocks tail) in
    sym (ap rows_of (body_fused (one_of (other ∷ pars)) (is_paragraph (number_of par)) (one_of_within (other ∷ pars)) (within_test (number_of par)) doc))
    ∙ all_out other pars first before rest tail (λ n. fewer n doc first before (par_rows par) (rows_of blocks ++ tail) (few n) whole now) (notes_kept (is_paragraph (number_of par)) doc valid) ends now

pub taken_out : (pars : List Par) (front : List Block) (last : Block) (doc : Document) (before : List Row) (rest : List Block) (tail : List Row) → front ++ last ∷ [] ≡ map as_block pars
    → ((n : ℕ) → times n (rows_of doc.body) ≤ 1) → Each HoldsNoNotes (notes doc) → AreBehindAll tail
    → rows_of doc.body ≡ before ++ (rows_of (map as_block pars ++ rest) ++ tail) → rows_of (in_containers (without_paragraphs pars) doc).body ≡ before ++ (rows_of rest ++ tail)
taken_out [] front last doc before rest tail some few valid ends is = absurd (let long = ap (length {A = Block}) some in omega (arith, long, length-append front (last ∷ [])))
taken_out (par ∷ pars) front last doc before rest tail some few valid ends is = all_out par pars doc before rest tail few valid ends is
