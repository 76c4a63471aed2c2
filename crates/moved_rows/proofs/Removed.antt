-- One paragraph that is taken out of its container.
use Rattle.std.proofs.Common.{◌≡◌, ℕ, suc, ◌+◌, ◌≤◌, Bool, true, false, not, cond, ◌||◌, List, [], ◌∷◌, ◌++◌, map, take, drop, refl, ap, ap₂, sym, ◌∙◌, subst, arith}
use Rattle.std.specs.List.{flat_map, list_any, position_or_len}
use Rattle.doc_model.specs.declared.block.Block.{Block, roll-Block}
use Rattle.doc_model.specs.declared.block.Block.TheOpen.{Block-F, Section-F}
use Rattle.doc_model.specs.declared.block.Block.TheFolds.{ind-Block, map-Block, map-Section}
use Rattle.doc_model.specs.declared.block.Section.{Section, roll-Section}
use Rattle.doc_model.specs.declared.paragraph.Par.{Par, out-Par, roll-Par}
use Rattle.doc_model.specs.declared.paragraph.Item.{Item, roll-Item}
use Rattle.doc_model.specs.declared.paragraph.What.{What, roll-What}
use Rattle.doc_model.specs.declared.paragraph.Note.{Note, out-Note}
use Rattle.doc_model.specs.declared.paragraph.What.TheOpen.{What-F}
use Rattle.doc_model.specs.declared.paragraph.What.TheViews.{out-roll-What}
use Rattle.doc_model.specs.declared.document.Document.{Document}
use Rattle.edit_rules.specs.Places.{as_block, paragraph_of, is_paragraph}
use Rattle.edit_rules.specs.Blocks.{in_note_of, of_paragraphs, within_block, in_containers, from_paragraph}
use Rattle.node_array.specs.declared.row.Row.{Row}
use Rattle.node_array.specs.declared.row.Row.TheVariants as row
use Rattle.node_array.specs.Rows.{par_rows, block_rows, rows_of}
use Rattle.container_rows.proofs.Firsts.{by_test}
use Rattle.container_rows.proofs.Spots.{times, times_both}
use Rattle.container_rows.proofs.Parts.{text_rows, blocks_are, block_is, section_is, by_what, changed_note, with_pars, note_is, note_item, par_within, section_within}
use Rattle.container_rows.proofs.Tests.{par_times}
use Rattle.container_rows.proofs.Notes.{not_here, here_cut}
use Rattle.container_rows.proofs.Containers.{block_known}
use Rattle.moved_rows.proofs.Filters.{without, within_test}

module _ (number : ℕ) where
  abbrev test : Block → Bool
  test = is_paragraph number

  -- the same as a change from the paragraph on
  abbrev cutting : List Block → List Block
  cutting = from_paragraph number (λ blocks. drop 1 blocks)

  hits : List Block → ℕ
  hits [] = 0
  hits (block ∷ blocks) = cond (test block) 1 0 + hits blocks

  none_out : (blocks : List Block) → hits blocks ≡ 0 → without test blocks ≡ blocks
  unfolding hits
  none_out [] none = refl
  none_out (block ∷ blocks) none =
      by_test (test block)
      (λ is_so. absurd (omega (arith, none, ap {B = ℕ} (λ (b : Bool). cond b 1 0) is_so)))
      (λ other.
      ap (λ (b : Bool). cond (not b) (block ∷ without test blocks) (without test blocks)) other
      ∙ ap (λ (rest : List Block). block ∷ rest) (none_out blocks (omega (arith, none, ap {B = ℕ} (λ (b : Bool). cond b 1 0) other))))

  one_more : (n : ℕ) (block : Block) (blocks : List Block) → (take (1 + n) (block ∷ blocks) ≡ block ∷ take n blocks) × (drop (1 + n) (block ∷ blocks) ≡ drop n blocks)
  one_more n block blocks =
      let next : 1 + n ≡ suc n = omega arith in
      (ap (λ (m : ℕ). take m (block ∷ blocks)) next, ap (λ (m : ℕ). drop m (block ∷ blocks)) next)

  cut_first : (block : Block) (blocks : List Block) → test block ≡ true → cutting (block ∷ blocks) ≡ blocks
  cut_first block blocks is_so =
      here_cut (λ bs. drop 1 bs) number (block ∷ blocks) (ap (λ (b : Bool). b || list_any test blocks) is_so)
      ∙ ap (λ (b : Bool). take (cond (not b) (1 + position_or_len test blocks) 0) (block ∷ blocks) ++ drop 1 (drop (cond (not b) (1 + position_or_len test blocks) 0) (block ∷ blocks))) is_so

  cut_later : (block : Block) (blocks : List Block) → test block ≡ false → cutting (block ∷ blocks) ≡ block ∷ cutting blocks
  cut_later block blocks other =
      let change : List Block → List Block = λ bs. drop 1 bs in
      let at : ℕ = position_or_len test blocks in
      by_test (list_any test blocks)
      (λ held.
      here_cut change number (block ∷ blocks) (ap (λ (b : Bool). b || list_any test blocks) other ∙ held)
      ∙ ap (λ (b : Bool). take (cond (not b) (1 + at) 0) (block ∷ blocks) ++ drop 1 (drop (cond (not b) (1 + at) 0) (block ∷ blocks))) other
      ∙ ap₂ (λ (a b : List Block). a ++ drop 1 b) (one_more at block blocks).0 (one_more at block blocks).1
      ∙ ap (λ (rest : List Block). block ∷ rest) (sym (here_cut change number blocks held)))
      (λ none.
      not_here change number (block ∷ blocks) (ap (λ (b : Bool). b || list_any test blocks) other ∙ none)
      ∙ ap (λ (rest : List Block). block ∷ rest) (sym (not_here change number blocks none)))

  out_is_cut : (blocks : List Block) → hits blocks ≤ 1 → without test blocks ≡ cutting blocks
  unfolding hits
  out_is_cut [] few = refl
  out_is_cut (block ∷ blocks) few =
      by_test (test block)
      (λ is_so.
      ap (λ (b : Bool). cond (not b) (block ∷ without test blocks) (without test blocks)) is_so
      ∙ none_out blocks (omega (arith, few, ap {B = ℕ} (λ (b : Bool). cond b 1 0) is_so)) ∙ sym (cut_first block blocks is_so))
      (λ other.
      ap (λ (b : Bool). cond (not b) (block ∷ without test blocks) (without test blocks)) other
      ∙ ap (λ (rest : List Block). block ∷ rest) (out_is_cut blocks (omega (arith, few, ap {B = ℕ} (λ (b : Bool). cond b 1 0) other)))
      ∙ sym (cut_later block blocks other))

  hits_few : (blocks : List Block) → hits blocks ≤ times number (rows_of blocks)
  unfolding hits
  hits_few [] = omega arith
  hits_few (block ∷ blocks) =
      let sum = times_both number (block_rows block) (rows_of blocks) in
      let more = hits_few blocks in
      by_test (test block)
      (λ is_so. omega (arith, sum, more, ap {B = ℕ} (λ (b : Bool). cond b 1 0) is_so, (block_known (λ bs. bs) number block).least is_so))
      (λ other. omega (arith, sum, more, ap {B = ℕ} (λ (b : Bool). cond b 1 0) other))

  hits_within : (change : List Block → List Block) (blocks : List Block) → hits (map (within_block change) blocks) ≡ hits blocks
  unfolding hits
  hits_within change [] = refl
  hits_within change (block ∷ blocks) = ap₂ (λ (b : Bool) (n : ℕ). cond b 1 0 + n) (within_test number change block) (hits_within change blocks)

  -- notes
  pars_same : (pars : List Par) → times number (flat_map par_rows pars) ≤ 1 → of_paragraphs (without test) pars ≡ of_paragraphs cutting pars
  pars_same pars few =
      ap (flat_map paragraph_of) (out_is_cut (map as_block pars) (omega (arith, few, hits_few (map as_block pars), ap (times number) (blocks_are pars))))

  abbrev Same : Item → Type 0
  Same item = times number (text_rows item) ≤ 1 → in_note_of (of_paragraphs (without test)) item ≡ in_note_of (of_paragraphs cutting) item

  plain_same : (item : Item) → ((change : List Par → List Par) → in_note_of change item ≡ item) → Same item
  plain_same item stays few = stays (of_paragraphs (without test)) ∙ sym (stays (of_paragraphs cutting))

  note_same : (spans : List (List ℕ)) (note : Note) → Same (roll-Item (record { spans = spans; what = roll-What (What-F.Note note) }))
  note_same spans note few =
      let item : Item = roll-Item (record { spans = spans; what = roll-What (What-F.Note note) }) in
      let pars : List Par = (out-Note note).pars in
      let rows : text_rows item ≡ row.NoteText ∷ (flat_map par_rows pars ++ row.End ∷ []) = ap (λ (p : Item × List Row). p.1) (note_item spans note) ∙ ap (λ (p : Note × List Row). p.1) (note_is note) in
      changed_note (of_paragraphs (without test)) spans note
      ∙ ap (λ (ps : List Par). roll-Item (record { spans = spans; what = roll-What (What-F.Note (with_pars note ps)) })) (pars_same pars (omega (arith, few, ap (times number) rows, times_both number (flat_map par_rows pars) (row.End ∷ []))))
      ∙ sym (changed_note (of_paragraphs cutting) spans note)

  same_by : (spans : List (List ℕ)) (what : What-F What Item Note Par) → Same (roll-Item (record { spans = spans; what = roll-What what }))
  same_by spans (What-F.Char c) = plain_same _ (λ change. simp out-roll-What)
  same_by spans What-F.Tab = plain_same _ (λ change. simp out-roll-What)
  same_by spans What-F.Break = plain_same _ (λ change. simp out-roll-What)
  same_by spans (What-F.Field field) = plain_same _ (λ change. simp out-roll-What)
  same_by spans (What-F.Note note) = note_same spans note
  same_by spans (What-F.Mark mark) = plain_same _ (λ change. simp out-roll-What)

  items_same : (items : List Item) → times number (flat_map text_rows items) ≤ 1 → map (in_note_of (of_paragraphs (without test))) items ≡ map (in_note_of (of_paragraphs cutting)) items
  items_same [] few = refl
  items_same (item ∷ items) few =
      let sum = times_both number (text_rows item) (flat_map text_rows items) in
      ap₂ (λ (i : Item) (is : List Item). i ∷ is) (by_what Same same_by item (omega (arith, sum, few))) (items_same items (omega (arith, sum, few)))

  -- blocks
  abbrev Removes : Block → Type 0
  Removes block = times number (block_rows block) ≤ 1 → within_block (without test) block ≡ within_block cutting block

  par_removes : (par : Par) → Removes (as_block par)
  par_removes par few =
      let texts : times number (flat_map text_rows (out-Par par).items) ≤ 1 = omega (arith, few, ap (times number) (block_is par), par_times number par) in
      par_within (without test) par ∙ ap (λ (items : List Item). as_block (roll-Par (record (out-Par par) { items = items }))) (items_same (out-Par par).items texts) ∙ sym (par_within cutting par)

  abbrev Block-Known : Type 0
  Block-Known = (block : Block) × Removes block

  abbrev Section-Known : Type 0
  Section-Known = (section : Section) × Removes (roll-Block (Block-F.Section section))

  blocks_remove : (ks : List Block-Known) → times number (rows_of (map (λ k. k.0) ks)) ≤ 1 → map (within_block (without test)) (map (λ k. k.0) ks) ≡ map (within_block cutting) (map (λ k. k.0) ks)
  blocks_remove [] few = refl
  blocks_remove (k ∷ ks) few =
      let sum = times_both number (block_rows k.0) (rows_of (map (λ k. k.0) ks)) in
      ap₂ (λ (b : Block) (bs : List Block). b ∷ bs) (k.1 (omega (arith, sum, few))) (blocks_remove ks (omega (arith, sum, few)))

  container_removes : (ks : List Block-Known) → times number (rows_of (map (λ k. k.0) ks)) ≤ 1 → without test (map (within_block (without test)) (map (λ k. k.0) ks)) ≡ cutting (map (within_block cutting) (map (λ k. k.0) ks))
  container_removes ks few =
      let blocks : List Block = map (λ k. k.0) ks in
      ap (without test) (blocks_remove ks few) ∙ out_is_cut (map (within_block cutting) blocks) (omega (arith, few, hits_few blocks, hits_within cutting blocks))

  section_removes : (x : Section-F Block Section) (ks : List Block-Known) → Removes (roll-Block (Block-F.Section (roll-Section (record x { blocks = map (λ k. k.0) ks }))))
  section_removes x ks few =
      let blocks : List Block = map (λ k. k.0) ks in
      let inner : times number (rows_of blocks) ≤ 1 = omega (arith, few, ap (times number) (section_is (record x { blocks = blocks })), times_both number (rows_of blocks) (row.End ∷ [])) in
      section_within (without test) (record x { blocks = blocks })
      ∙ ap (λ (bs : List Block). roll-Block (Block-F.Section (roll-Section (record x { blocks = bs })))) (container_removes ks inner)
      ∙ sym (section_within cutting (record x { blocks = blocks }))

  block_step : (x : Block-F Block Section) (y : Block-F Block-Known Section-Known) → map-Block Block-Known Section-Known Block Section (λ k. k.0) (λ k. k.0) y ≡ x → Removes (roll-Block x)
  block_step x (Block-F.Par par) is = subst (λ (z : Block-F Block Section). Removes (roll-Block z)) is (par_removes par)
  block_step x (Block-F.Section known) is = subst (λ (z : Block-F Block Section). Removes (roll-Block z)) is known.1

  section_step : (x : Section-F Block Section) (y : Section-F Block-Known Section-Known) → map-Section Block-Known Section-Known Block Section (λ k. k.0) (λ k. k.0) y ≡ x
      → Removes (roll-Block (Block-F.Section (roll-Section x)))
  section_step x y is =
      subst (λ (z : Section-F Block Section). Removes (roll-Block (Block-F.Section (roll-Section z)))) is
      (section_removes (record { kind = y.kind; name = y.name; style = y.style; protected = y.protected; hidden = y.hidden; source = y.source; blocks = [] }) y.blocks)

  block_removes : (block : Block) → Removes block
  block_removes = ind-Block Removes (λ section. Removes (roll-Block (Block-F.Section section))) block_step section_step

  with_known : List Block → List Block-Known
  with_known body = map (λ block. (block, block_removes block)) body

  known_again : (body : List Block) → map (λ k. k.0) (with_known body) ≡ body
  unfolding with_known
  known_again [] = refl
  known_again (block ∷ body) = ap (λ (bs : List Block). block ∷ bs) (known_again body)

  pub body_removed : (doc : Document) → times number (rows_of doc.body) ≤ 1 → (in_containers (without test) doc).body ≡ (in_containers cutting doc).body
  body_removed doc few =
      let is = known_again doc.body in
      subst (λ (body : List Block). without test (map (within_block (without test)) body) ≡ cutting (map (within_block cutting) body)) is
      (container_removes (with_known doc.body) (subst (λ (body : List Block). times number (rows_of body) ≤ 1) (sym is) few))
