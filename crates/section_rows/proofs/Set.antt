-- Sections that are set, among the rows of a body.
use Rattle.std.proofs.Common.{◌≡◌, ℕ, Bool, true, false, List, [], ◌∷◌, ◌++◌, map, refl, ap, ap₂, sym, ◌∙◌, subst}
use Rattle.std.specs.Prelude.{if◌then◌else◌}
use Rattle.std.specs.List.{AllByRecursion as Each}
use Rattle.std.specs.Str.{bytes_eq}
use Rattle.std.proofs.lemmas.List.{map-append}
use Rattle.doc_model.specs.declared.block.Block.{Block, roll-Block}
use Rattle.doc_model.specs.declared.block.Block.TheOpen.{Block-F, Section-F}
use Rattle.doc_model.specs.declared.block.Section.{Section, roll-Section}
use Rattle.doc_model.specs.declared.block.Block.TheFolds.{fold-roll-Block, fold-roll-Section, ind-Block, map-Block, map-Section}
use Rattle.doc_model.specs.declared.paragraph.Par.{Par}
use Rattle.edit_rules.specs.Places.{as_block}
use Rattle.edit_rules.specs.Blocks.{with_section_set}
use Rattle.node_array.specs.declared.row.Row.{Row}
use Rattle.node_array.specs.declared.row.SectionHead.{SectionHead}
use Rattle.node_array.specs.declared.row.Row.TheVariants as row
use Rattle.node_array.specs.Rows.{par_rows, block_rows, rows_of}
use Rattle.container_rows.proofs.Parts.{block_is, section_is}
use Rattle.section_rows.specs.Starts.{with_head_set}
use Rattle.section_rows.proofs.Flat.{NoStart, par_flat}

module _ (name : List ℕ) (protected hidden : Bool) where
  abbrev set : Row → Row
  set = with_head_set name protected hidden

  abbrev set_block : Block → Block
  set_block = with_section_set name protected hidden

  plain_stay : (rows : List Row) → Each NoStart rows → map set rows ≡ rows
  plain_stay [] plain = refl
  plain_stay (row.Start head ∷ rows) plain = absurd plain.0
  plain_stay (row.End ∷ rows) plain = ap (λ (rs : List Row). row.End ∷ rs) (plain_stay rows plain.1)
  plain_stay (row.Par head items ∷ rows) plain = ap (λ (rs : List Row). row.Par head items ∷ rs) (plain_stay rows plain.1)
  plain_stay (row.NoteText ∷ rows) plain = ap (λ (rs : List Row). row.NoteText ∷ rs) (plain_stay rows plain.1)

  abbrev Sets : Block → Type 0
  Sets block = block_rows (set_block block) ≡ map set (block_rows block)

  par_sets : (par : Par) → Sets (as_block par)
  par_sets par =
      let same : set_block (as_block par) ≡ as_block par = simp fold-roll-Block in
      ap block_rows same ∙ block_is par ∙ sym (plain_stay (par_rows par) (par_flat par).plain) ∙ ap (map set) (sym (block_is par))

  abbrev Block-Known : Type 0
  Block-Known = (block : Block) × Sets block

  abbrev Section-Known : Type 0
  Section-Known = (section : Section) × Sets (roll-Block (Block-F.Section section))

  abbrev head_of : Section-F Block Section → SectionHead
  head_of x = record { kind = x.kind; name = x.name; style = x.style; protected = x.protected; hidden = x.hidden; source = x.source }

  abbrev set_layer : Bool → Section-F Block Section → Section-F Block Section
  set_layer test x = if test then record x { protected = protected; hidden = hidden } else x

  blocks_set : (ks : List Block-Known) → rows_of (map set_block (map (λ k. k.0) ks)) ≡ map set (rows_of (map (λ k. k.0) ks))
  blocks_set [] = refl
  blocks_set (k ∷ ks) = ap₂ (λ a b. a ++ b) k.1 (blocks_set ks) ∙ sym (map-append set (block_rows k.0) (rows_of (map (λ k. k.0) ks)))

  layer_rows : (test : Bool) (x : Section-F Block Section) → block_rows (roll-Block (Block-F.Section (roll-Section (set_layer test x))))
      ≡ row.Start (if test then record (head_of x) { protected = protected; hidden = hidden } else head_of x) ∷ (rows_of x.blocks ++ row.End ∷ [])
  layer_rows true x = section_is (record x { protected = protected; hidden = hidden })
  layer_rows false x = section_is x

  section_sets : (x : Section-F Block Section) (ks : List Block-Known) → Sets (roll-Block (Block-F.Section (roll-Section (record x { blocks = map (λ k. k.0) ks }))))
  section_sets x ks =
      let blocks : List Block = map (λ k. k.0) ks in
      let whole : Section-F Block Section = record x { blocks = blocks } in
      let changed : Section-F Block Section = record x { blocks = map set_block blocks } in
      let test : Bool = bytes_eq x.name name in
      let head : SectionHead = if test then record (head_of x) { protected = protected; hidden = hidden } else head_of x in
      let is : set_block (roll-Block (Block-F.Section (roll-Section whole))) ≡ roll-Block (Block-F.Section (roll-Section (set_layer test changed))) = simp (fold-roll-Block, fold-roll-Section) in
      ap block_rows is ∙ layer_rows test changed
      ∙ ap (λ (rows : List Row). row.Start head ∷ (rows ++ row.End ∷ [])) (blocks_set ks)
      ∙ ap (λ (rows : List Row). row.Start head ∷ rows) (sym (map-append set (rows_of blocks) (row.End ∷ [])))
      ∙ ap (map set) (sym (section_is whole))

  block_step : (x : Block-F Block Section) (y : Block-F Block-Known Section-Known) → map-Block Block-Known Section-Known Block Section (λ k. k.0) (λ k. k.0) y ≡ x → Sets (roll-Block x)
  block_step x (Block-F.Par par) is = subst (λ (z : Block-F Block Section). Sets (roll-Block z)) is (par_sets par)
  block_step x (Block-F.Section known) is = subst (λ (z : Block-F Block Section). Sets (roll-Block z)) is known.1

  section_step : (x : Section-F Block Section) (y : Section-F Block-Known Section-Known) → map-Section Block-Known Section-Known Block Section (λ k. k.0) (λ k. k.0) y ≡ x
      → Sets (roll-Block (Block-F.Section (roll-Section x)))
  section_step x y is =
      subst (λ (z : Section-F Block Section). Sets (roll-Block (Block-F.Section (roll-Section z)))) is
      (section_sets (record { kind = y.kind; name = y.name; style = y.style; protected = y.protected; hidden = y.hidden; source = y.source; blocks = [] }) y.blocks)

  block_sets : (block : Block) → Sets block
  block_sets = ind-Block Sets (λ section. Sets (roll-Block (Block-F.Section section))) block_step section_step

  pub set_among : (body : List Block) → rows_of (map set_block body) ≡ map set (rows_of body)
  set_among [] = refl
  set_among (block ∷ body) = ap₂ (λ a b. a ++ b) (block_sets block) (set_among body) ∙ sym (map-append set (block_rows block) (rows_of body))
