-- The names of the sections of a document, read from the rows of its body.
use Rattle.std.proofs.Common.{◌≡◌, ℕ, zero, suc, List, [], ◌∷◌, ◌++◌, map, take, refl, ap, ap₂, sym, ◌∙◌, append_assoc, append-nil}
use Rattle.std.specs.List.{flat_map, AllByRecursion as Each}
use Rattle.doc_model.specs.declared.block.Block.{Block}
use Rattle.doc_model.specs.declared.block.Block.TheOpen.{Section-F}
use Rattle.doc_model.specs.declared.block.Block.TheFolds.{fold-roll-Block, fold-roll-Section}
use Rattle.doc_model.specs.declared.block.Section.{Section}
use Rattle.doc_model.specs.declared.document.Document.{Document}
use Rattle.doc_model.specs.declared.paragraph.Par.{Par, out-Par}
use Rattle.doc_model.specs.declared.paragraph.ParHead.{ParHead}
use Rattle.doc_model.specs.declared.paragraph.ParId.{ParId}
use Rattle.doc_model.specs.declared.paragraph.Item.{Item}
use Rattle.name_index.specs.Scan.{InBlock, in_block, section_names}
use Rattle.node_array.specs.declared.row.Row.{Row}
use Rattle.node_array.specs.declared.row.Row.TheVariants as row
use Rattle.node_array.specs.Rows.{par_rows, block_rows, rows_of}
use Rattle.paragraph_rows.specs.OwnRow.{rows_of_notes}
use Rattle.paragraph_rows.proofs.Opened.{par_open}
use Rattle.block_facts.proofs.Blocks.{par_block, section_block, of_blocks}
use Rattle.paragraph_rows.proofs.Blocks.{par_block_rows, section_block_rows}
use Rattle.section_rows.proofs.Flat.{NoStart, par_flat}
use Rattle.names_change.proofs.Lead.{Pairs}

-- what closes one of those that are open
abbrev pub closed_by : ℕ → (ℕ → List ParId) → List ParId
closed_by zero behind = []
closed_by (suc depth) behind = behind depth

-- the first paragraph before what is open is closed, where so many more are open
abbrev pub first_in : List Row → ℕ → List ParId
first_in [] depth = []
first_in (row.Start head ∷ rows) depth = first_in rows (suc depth)
first_in (row.End ∷ rows) depth = closed_by depth (first_in rows)
first_in (row.Par head items ∷ rows) depth = head.id ∷ []
first_in (row.NoteText ∷ rows) depth = first_in rows (suc depth)

-- the sections that begin in rows, with their first paragraphs
abbrev pub starts : List Row → Pairs
starts [] = []
starts (row.Start head ∷ rows) = map (λ number. (head.name, number)) (first_in rows 0) ++ starts rows
starts (row.End ∷ rows) = starts rows
starts (row.Par head items ∷ rows) = starts rows
starts (row.NoteText ∷ rows) = starts rows

pub none_start : (rows more : List Row) → Each NoStart rows → starts (rows ++ more) ≡ starts more
none_start [] more none = refl
none_start (row.Start head ∷ rows) more none = absurd none.0
none_start (row.End ∷ rows) more none = none_start rows more none.1
none_start (row.Par head items ∷ rows) more none = none_start rows more none.1
none_start (row.NoteText ∷ rows) more none = none_start rows more none.1

pub par_starts : (par : Par) (more : List Row) → starts (par_rows par ++ more) ≡ starts more
par_starts par more = none_start (par_rows par) more (par_flat par).plain

-- the first of some, or what there is else
abbrev first_or : List ParId → List ParId → List ParId
first_or [] more = more
first_or (number ∷ numbers) more = number ∷ []

first_both : (front behind more : List ParId) → first_or (front ++ behind) more ≡ first_or front (first_or behind more)
first_both [] behind more = refl
first_both (number ∷ front) behind more = refl

first_alone : (numbers : List ParId) → first_or numbers [] ≡ take 1 numbers
first_alone [] = refl
first_alone (number ∷ numbers) = refl

abbrev pub numbers_in : Block → List ParId
numbers_in block = (in_block block).numbers

abbrev pub sections_in : Block → Pairs
sections_in block = (in_block block).sections

par_in : (par : Par) → in_block (par_block par) ≡ record { numbers = (out-Par par).id ∷ []; sections = [] }
par_in par = simp fold-roll-Block

pub par_numbers : (par : Par) → numbers_in (par_block par) ≡ (out-Par par).id ∷ []
par_numbers par = ap (λ (inside : InBlock). inside.numbers) (par_in par)

pub par_sections : (par : Par) → sections_in (par_block par) ≡ []
par_sections par = ap (λ (inside : InBlock). inside.sections) (par_in par)

pub section_in : (x : Section-F Block Section) → in_block (section_block x)
    ≡ record {
      numbers = flat_map (λ inside. inside.numbers) (map in_block x.blocks);
      sections = map (λ number. (x.name, number)) (take 1 (flat_map (λ inside. inside.numbers) (map in_block x.blocks))) ++ flat_map (λ inside. inside.sections) (map in_block x.blocks);
    }
section_in x = simp (fold-roll-Block, fold-roll-Section)

pub mapped : {X Y Z : Type 0} (g : Y → List Z) (f : X → Y) (xs : List X) → flat_map g (map f xs) ≡ flat_map (λ x. g (f x)) xs
mapped g f [] = refl
mapped g f (x ∷ xs) = ap (λ more. g (f x) ++ more) (mapped g f xs)

pub section_numbers : (x : Section-F Block Section) → numbers_in (section_block x) ≡ flat_map numbers_in x.blocks
section_numbers x = ap (λ (inside : InBlock). inside.numbers) (section_in x) ∙ mapped (λ (inside : InBlock). inside.numbers) in_block x.blocks

pub section_sections : (x : Section-F Block Section) → sections_in (section_block x) ≡ map (λ number. (x.name, number)) (take 1 (flat_map numbers_in x.blocks)) ++ flat_map sections_in x.blocks
section_sections x =
    ap (λ (inside : InBlock). inside.sections) (section_in x)
    ∙ ap₂ (λ (numbers : List ParId) (more : Pairs). map (λ number. (x.name, number)) (take 1 numbers) ++ more)
    (mapped (λ (inside : InBlock). inside.numbers) in_block x.blocks) (mapped (λ (inside : InBlock). inside.sections) in_block x.blocks)

-- what the rows of a block give, whatever follows
record Gives (block : Block) : Type 0 where
  first : (more : List Row) (depth : ℕ) → first_in (block_rows block ++ more) depth ≡ first_or (numbers_in block) (first_in more depth)
  begin : (more : List Row) → starts (block_rows block ++ more) ≡ sections_in block ++ starts more

blocks_first : (blocks : List Block) → Each Gives blocks → (more : List Row) (depth : ℕ) → first_in (rows_of blocks ++ more) depth ≡ first_or (flat_map numbers_in blocks) (first_in more depth)
blocks_first [] known more depth = refl
blocks_first (block ∷ blocks) known more depth =
    ap (λ (rows : List Row). first_in rows depth) (append_assoc (block_rows block) (rows_of blocks) more) ∙ known.0.first (rows_of blocks ++ more) depth
    ∙ ap (first_or (numbers_in block)) (blocks_first blocks known.1 more depth) ∙ sym (first_both (numbers_in block) (flat_map numbers_in blocks) (first_in more depth))

blocks_begin : (blocks : List Block) → Each Gives blocks → (more : List Row) → starts (rows_of blocks ++ more) ≡ flat_map sections_in blocks ++ starts more
blocks_begin [] known more = refl
blocks_begin (block ∷ blocks) known more =
    ap starts (append_assoc (block_rows block) (rows_of blocks) more) ∙ known.0.begin (rows_of blocks ++ more)
    ∙ ap (λ (some : Pairs). sections_in block ++ some) (blocks_begin blocks known.1 more) ∙ sym (append_assoc (sections_in block) (flat_map sections_in blocks) (starts more))

par_gives : (par : Par) → Gives (par_block par)
par_gives par = record {
  first = λ more depth.
      ap (λ (rows : List Row). first_in (rows ++ more) depth) (par_block_rows par ∙ par_open par) ∙ ap (λ (numbers : List ParId). first_or numbers (first_in more depth)) (sym (par_numbers par));
  begin = λ more. ap (λ (rows : List Row). starts (rows ++ more)) (par_block_rows par) ∙ par_starts par more ∙ ap (λ (some : Pairs). some ++ starts more) (sym (par_sections par));
}

section_gives : (x : Section-F Block Section) → Each Gives x.blocks → Gives (section_block x)
section_gives x known = record {
  first = λ more depth.
      ap (λ (rows : List Row). first_in (rows ++ more) depth) (section_block_rows x)
      ∙ ap (λ (rows : List Row). first_in rows (suc depth)) (append_assoc (rows_of x.blocks) (row.End ∷ []) more)
      ∙ blocks_first x.blocks known (row.End ∷ more) (suc depth)
      ∙ ap (λ (numbers : List ParId). first_or numbers (first_in more depth)) (sym (section_numbers x));
  begin = λ more.
      ap (λ (rows : List Row). starts (rows ++ more)) (section_block_rows x)
      ∙ ap (λ (rows : List Row). map (λ number. (x.name, number)) (first_in rows 0) ++ starts rows) (append_assoc (rows_of x.blocks) (row.End ∷ []) more)
      ∙ ap₂ (λ (numbers : List ParId) (some : Pairs). map (λ number. (x.name, number)) numbers ++ some)
      (blocks_first x.blocks known (row.End ∷ more) 0 ∙ first_alone (flat_map numbers_in x.blocks)) (blocks_begin x.blocks known (row.End ∷ more))
      ∙ sym (append_assoc (map (λ number. (x.name, number)) (take 1 (flat_map numbers_in x.blocks))) (flat_map sections_in x.blocks) (starts more))
      ∙ ap (λ (some : Pairs). some ++ starts more) (sym (section_sections x));
}

pub all_begin : (blocks : List Block) (more : List Row) → starts (rows_of blocks ++ more) ≡ flat_map sections_in blocks ++ starts more
all_begin blocks more = blocks_begin blocks (of_blocks Gives par_gives section_gives blocks) more

pub sections_read : (doc : Document) → section_names doc ≡ starts (rows_of doc.body)
sections_read doc =
    sym (ap starts (sym (append-nil (rows_of doc.body))) ∙ all_begin doc.body [] ∙ append-nil (flat_map sections_in doc.body))

-- what stands behind a paragraph's row is of no account to the sections that begin before it
first_stays : (before : List Row) (one other : ParHead) (some more : List Item) (rows others : List Row) → one.id ≡ other.id → (depth : ℕ)
    → first_in (before ++ row.Par one some ∷ rows) depth ≡ first_in (before ++ row.Par other more ∷ others) depth
first_stays [] one other some more rows others same depth = ap (λ (id : ParId). id ∷ []) same
first_stays (row.Start head ∷ before) one other some more rows others same depth = first_stays before one other some more rows others same (suc depth)
first_stays (row.End ∷ before) one other some more rows others same zero = refl
first_stays (row.End ∷ before) one other some more rows others same (suc depth) = first_stays before one other some more rows others same depth
first_stays (row.Par head items ∷ before) one other some more rows others same depth = refl
first_stays (row.NoteText ∷ before) one other some more rows others same depth = first_stays before one other some more rows others same (suc depth)

starts_stay : (before : List Row) (one other : ParHead) (some more : List Item) (rows others : List Row) → one.id ≡ other.id → starts rows ≡ starts others
    → starts (before ++ row.Par one some ∷ rows) ≡ starts (before ++ row.Par other more ∷ others)
starts_stay [] one other some more rows others same behind = behind
starts_stay (row.Start head ∷ before) one other some more rows others same behind =
    ap₂ (λ (numbers : List ParId) (pairs : Pairs). map (λ number. (head.name, number)) numbers ++ pairs)
    (first_stays before one other some more rows others same 0) (starts_stay before one other some more rows others same behind)
starts_stay (row.End ∷ before) one other some more rows others same behind = starts_stay before one other some more rows others same behind
starts_stay (row.Par head items ∷ before) one other some more rows others same behind = starts_stay before one other some more rows others same behind
starts_stay (row.NoteText ∷ before) one other some more rows others same behind = starts_stay before one other some more rows others same behind

-- another paragraph of the same number
pub starts_as : (before : List Row) (par other : Par) (rows others : List Row) → (out-Par par).id ≡ (out-Par other).id → starts rows ≡ starts others
    → starts (before ++ (par_rows par ++ rows)) ≡ starts (before ++ (par_rows other ++ others))
starts_as before par other rows others same behind =
    ap (λ (own : List Row). starts (before ++ (own ++ rows))) (par_open par)
    ∙ starts_stay before _ _ _ _ (rows_of_notes par ++ rows) (rows_of_notes other ++ others) same (texts par rows ∙ behind ∙ sym (texts other others))
    ∙ ap (λ (own : List Row). starts (before ++ (own ++ others))) (sym (par_open other)) where
      texts : (p : Par) (more : List Row) → starts (rows_of_notes p ++ more) ≡ starts more
      texts p more = sym (ap (λ (own : List Row). starts (own ++ more)) (par_open p)) ∙ par_starts p more
