-- Two paragraphs that are joined, among the rows of a body.
use Rattle.std.proofs.Common.{◌≡◌, ℕ, List, [], ◌∷◌, ◌++◌, map, take, drop, refl, ap, ap₂, sym, ◌∙◌, subst, append_assoc, arith}
use Rattle.std.specs.List.{flat_map, AllByRecursion as Each}
use Rattle.std.proofs.lemmas.List.{map-append}
use Rattle.std.proofs.lemmas.List.Concat.{flat_map-append}
use Rattle.doc_model.specs.declared.block.Block.{Block, out-Block, roll-Block}
use Rattle.doc_model.specs.declared.block.Block.TheOpen.{Block-F}
use Rattle.doc_model.specs.declared.block.Block.TheViews.{roll-out-Block, roll-out-Section}
use Rattle.doc_model.specs.declared.block.Section.{Section, out-Section}
use Rattle.doc_model.specs.declared.paragraph.Par.{Par, out-Par}
use Rattle.doc_model.specs.declared.paragraph.ParHead.{ParHead}
use Rattle.doc_model.specs.declared.paragraph.Item.{Item}
use Rattle.doc_model.specs.declared.edit.EditOp.TheVariants.{Join}
use Rattle.doc_model.specs.declared.document.Document.{Document}
use Rattle.doc_model.specs.Reading.{notes_of}
use Rattle.edit_rules.specs.Places.{as_block}
use Rattle.edit_rules.specs.Blocks.{with_items_of, join_first}
use Rattle.edit_rules.specs.Edited.{edited_document}
use Rattle.node_array.specs.declared.row.Row.{Row}
use Rattle.node_array.specs.declared.row.Row.TheVariants as row
use Rattle.node_array.specs.Rows.{block_rows, rows_of}
use Rattle.container_rows.specs.Standing.{IsApart, KeepsParagraphs, AreBehindAll, IsChangedFrom, HoldsNoNotes}
use Rattle.container_rows.specs.Texts.{note_count, through_ends}
use Rattle.container_rows.proofs.Parts.{head_row, bare, text_rows, rolled_rows, block_is, section_is}
use Rattle.container_rows.proofs.Tests.{par_alone}
use Rattle.container_rows.proofs.Heads.{Opened, opened, kept_by}
use Rattle.container_rows.proofs.Ends.{taken_texts, dropped_texts}
use Rattle.container_rows.proofs.Changed.{changed_from}

joined : (par other : Par) (blocks : List Block) → join_first (as_block par ∷ as_block other ∷ blocks) ≡ as_block (with_items_of other par) ∷ blocks
joined par other blocks =
    ap₂ (λ (pars others : List Par). flat_map (λ p. map (λ o. as_block (with_items_of o p)) others) pars ++ blocks) (par_alone par) (par_alone other)

pub join_keeps : KeepsParagraphs join_first
join_keeps [] = refl
join_keeps (par ∷ []) = kept_by (as_block par ∷ []) (par ∷ []) refl
join_keeps (par ∷ other ∷ pars) = kept_by (join_first (map as_block (par ∷ other ∷ pars))) (with_items_of other par ∷ pars) (joined par other (map as_block pars))

-- rows of which the first is a paragraph's begin with a paragraph
begins : List Row → ℕ
begins (row.Par head items ∷ rows) = 1
begins rows = 0

pub record IsPar (block : Block) : Type 0 where
  pub par : Par
  pub is : block ≡ as_block par

section_begins : (section : Section) (behind : List Row) → begins (block_rows (roll-Block (Block-F.Section section)) ++ behind) ≡ 0
unfolding begins
section_begins section behind =
    ap (λ (s : Section). begins (block_rows (roll-Block (Block-F.Section s)) ++ behind)) (sym (roll-out-Section section))
    ∙ ap (λ (rows : List Row). begins (rows ++ behind)) (section_is (out-Section section))

par_by : (layer : Block-F Block Section) (head : ParHead) (items : List Item) (behind more : List Row) → block_rows (roll-Block layer) ++ behind ≡ row.Par head items ∷ more → IsPar (roll-Block layer)
unfolding begins
par_by (Block-F.Par par) head items behind more e = record { par = par; is = refl }
par_by (Block-F.Section section) head items behind more e = absurd (let same = ap begins e in omega (arith, same, section_begins section behind))

pub par_block : (block : Block) (head : ParHead) (items : List Item) (behind more : List Row) → block_rows block ++ behind ≡ row.Par head items ∷ more → IsPar block
par_block block head items behind more e =
    subst IsPar (roll-out-Block block) (par_by (out-Block block) head items behind more (ap (λ (b : Block). block_rows b ++ behind) (roll-out-Block block) ∙ e))

-- the next block of a container is the paragraph of the next row
pub record Next (head : ParHead) (items : List Item) (more : List Row) (blocks : List Block) (behind : List Row) : Type 0 where
  pub par : Par
  pub rest : List Block
  pub blocks_are : blocks ≡ as_block par ∷ rest
  pub own : Opened head items more par (rows_of rest ++ behind)

pub next_block : (head : ParHead) (items : List Item) (more : List Row) (blocks : List Block) (behind : List Row) → AreBehindAll behind → rows_of blocks ++ behind ≡ row.Par head items ∷ more → Next head items more blocks behind
next_block head items more [] behind ends e = absurd (subst AreBehindAll e ends)
next_block head items more (block ∷ blocks) behind ends e =
    let there : block_rows block ++ (rows_of blocks ++ behind) ≡ row.Par head items ∷ more = sym (append_assoc (block_rows block) (rows_of blocks) behind) ∙ e in
    let it : IsPar block = par_block block head items (rows_of blocks ++ behind) more there in
    record {
      par = it.par;
      rest = blocks;
      blocks_are = ap (λ (b : Block). b ∷ blocks) it.is;
      own = opened head items more it.par (rows_of blocks ++ behind) (sym there ∙ ap (λ (rows : List Row). rows ++ (rows_of blocks ++ behind)) (ap block_rows it.is ∙ block_is it.par));
    }

joined_rows : (par other : Par) (blocks : List Block) (behind : List Row) → rows_of (join_first (as_block par ∷ as_block other ∷ blocks)) ++ behind
    ≡ row.Par (head_row par) (map bare (out-Par par).items ++ map bare (out-Par other).items) ∷ (flat_map text_rows (out-Par par).items ++ (flat_map text_rows (out-Par other).items ++ (rows_of blocks ++ behind)))
joined_rows par other blocks behind =
    let own : List Item = (out-Par par).items in
    let more : List Item = (out-Par other).items in
    ap (λ (bs : List Block). rows_of bs ++ behind) (joined par other blocks)
    ∙ ap (λ (rows : List Row). (rows ++ rows_of blocks) ++ behind)
    (block_is (with_items_of other par) ∙ rolled_rows (record (out-Par par) { items = own ++ more })
    ∙ ap₂ (λ (items : List Item) (rows : List Row). row.Par (head_row par) items ∷ rows) (map-append bare own more) (flat_map-append text_rows own more))
    ∙ ap (λ (rows : List Row). row.Par (head_row par) (map bare own ++ map bare more) ∷ rows)
    (append_assoc (flat_map text_rows own ++ flat_map text_rows more) (rows_of blocks) behind ∙ append_assoc (flat_map text_rows own) (flat_map text_rows more) (rows_of blocks ++ behind))

module _ (head : ParHead) (items : List Item) (rest : List Row) (par : Par) (more : List Row) (own : Opened head items rest par more) where
  -- what stands behind the notes of a paragraph
  pub notes_taken : Each HoldsNoNotes (notes_of par) → take (through_ends (note_count items) rest) rest ≡ flat_map text_rows (out-Par par).items
  notes_taken valid =
      ap₂ (λ (i : List Item) (rows : List Row). take (through_ends (note_count i) rows) rows) own.items_are own.rest_is ∙ taken_texts (out-Par par).items valid more

  pub notes_dropped : Each HoldsNoNotes (notes_of par) → drop (through_ends (note_count items) rest) rest ≡ more
  notes_dropped valid =
      ap₂ (λ (i : List Item) (rows : List Row). drop (through_ends (note_count i) rows) rows) own.items_are own.rest_is ∙ dropped_texts (out-Par par).items valid more

pub join_among : (next : ℕ) (doc : Document) (before : List Row) (head : ParHead) (items : List Item) (rest : List Row) (other : ParHead) (others : List Item) (more : List Row)
    → IsApart doc → rows_of doc.body ≡ before ++ row.Par head items ∷ rest → drop (through_ends (note_count items) rest) rest ≡ row.Par other others ∷ more
    → rows_of (edited_document next (Join head.id) doc).body ≡ before ++ row.Par head (items ++ others) ∷ (take (through_ends (note_count items) rest) rest ++ more)
join_among next doc before head items rest other others more apart is behind_is =
    let it : IsChangedFrom join_first before (row.Par head items ∷ rest) (rows_of (edited_document next (Join head.id) doc).body) = changed_from join_first doc before head items rest apart (λ _. join_keeps) is in
    let own : Opened head items rest it.par (rows_of it.blocks ++ it.behind) = opened head items rest it.par (rows_of it.blocks ++ it.behind) it.old in
    let second : Next other others more it.blocks it.behind =
    next_block other others more it.blocks it.behind it.ends (sym (notes_dropped head items rest it.par (rows_of it.blocks ++ it.behind) own it.notes) ∙ behind_is)
    in
    let texts : List Row = flat_map text_rows (out-Par it.par).items in
    it.new
    ∙ ap (λ (bs : List Block). before ++ (rows_of (join_first (as_block it.par ∷ bs)) ++ it.behind)) second.blocks_are
    ∙ ap (λ (rows : List Row). before ++ rows) (joined_rows it.par second.par second.rest it.behind)
    ∙ ap (λ (rows : List Row). before ++ row.Par (head_row it.par) (map bare (out-Par it.par).items ++ map bare (out-Par second.par).items) ∷ (texts ++ rows)) (sym second.own.rest_is)
    ∙ ap₂ (λ (h : ParHead) (i : List Item). before ++ row.Par h (i ++ map bare (out-Par second.par).items) ∷ (texts ++ more)) (sym own.head_is) (sym own.items_are)
    ∙ ap₂ (λ (i : List Item) (rows : List Row). before ++ row.Par head (items ++ i) ∷ (rows ++ more)) (sym second.own.items_are) (sym (notes_taken head items rest it.par (rows_of it.blocks ++ it.behind) own it.notes))
