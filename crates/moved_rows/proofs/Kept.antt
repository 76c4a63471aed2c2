-- Notes go on to hold no notes where paragraphs are taken out.
use Rattle.std.proofs.Common.{◌≡◌, ℕ, Bool, not, cond, List, [], ◌∷◌, ◌++◌, map, refl, ap, sym, subst}
use Rattle.std.specs.List.{flat_map, AllByRecursion as Each}
use Rattle.doc_model.specs.declared.block.Block.{Block, roll-Block}
use Rattle.doc_model.specs.declared.block.Block.TheOpen.{Block-F, Section-F}
use Rattle.doc_model.specs.declared.block.Block.TheFolds.{ind-Block, map-Block, map-Section}
use Rattle.doc_model.specs.declared.block.Section.{Section, roll-Section}
use Rattle.doc_model.specs.declared.paragraph.Par.{Par, out-Par}
use Rattle.doc_model.specs.declared.paragraph.Item.{Item, roll-Item}
use Rattle.doc_model.specs.declared.paragraph.What.{What, roll-What}
use Rattle.doc_model.specs.declared.paragraph.Note.{Note, out-Note}
use Rattle.doc_model.specs.declared.paragraph.What.TheOpen.{What-F, Note-F, Par-F}
use Rattle.doc_model.specs.declared.paragraph.What.TheViews.{out-roll-What, out-roll-Note, out-roll-Par}
use Rattle.doc_model.specs.declared.document.Document.{Document}
use Rattle.doc_model.specs.Reading.{note_of, notes_of, block_paragraphs}
use Rattle.doc_model.specs.Parts.{notes}
use Rattle.edit_rules.specs.Places.{as_block, paragraph_of}
use Rattle.edit_rules.specs.Blocks.{in_note_of, in_notes_of, of_paragraphs, within_block, in_containers}
use Rattle.container_rows.specs.Standing.{HoldsNoNotes}
use Rattle.container_rows.proofs.Firsts.{by_test, each_both, each_part}
use Rattle.container_rows.proofs.Parts.{by_what, changed_note, with_pars, par_within, section_within}
use Rattle.container_rows.proofs.Tests.{block_notes, par_notes, par_alone}
use Rattle.container_rows.proofs.Notes.{note_alone}
use Rattle.container_rows.proofs.Containers.{section_notes, twice}
use Rattle.moved_rows.proofs.Filters.{without}

each_join : {X : Type 0} (P : X → Type 0) (xs ys : List X) → Each P xs → Each P ys → Each P (xs ++ ys)
each_join P [] ys one other = other
each_join P (x ∷ xs) ys one other = (one.0, each_join P xs ys one.1 other)

each_whole : {X Y : Type 0} (P : Y → Type 0) (f : X → List Y) (xs : List X) → Each (λ x. Each P (f x)) xs → Each P (flat_map f xs)
each_whole P f [] each = tt
each_whole P f (x ∷ xs) each = each_join P (f x) (flat_map f xs) each.0 (each_whole P f xs each.1)

module _ (test : Block → Bool) where
  each_left : (P : Block → Type 0) (blocks : List Block) → Each P blocks → Each P (without test blocks)
  each_left P [] each = tt
  each_left P (block ∷ blocks) each =
      by_test (test block)
      (λ is_so. subst (λ (b : Bool). Each P (cond (not b) (block ∷ without test blocks) (without test blocks))) (sym is_so) (each_left P blocks each.1))
      (λ other. subst (λ (b : Bool). Each P (cond (not b) (block ∷ without test blocks) (without test blocks))) (sym other) (each.0, each_left P blocks each.1))

  abbrev change : List Par → List Par
  change = of_paragraphs (without test)

  pars_left : (P : Par → Type 0) (pars : List Par) → Each P pars → Each P (change pars)
  pars_left P [] each = tt
  pars_left P (par ∷ pars) each =
      by_test (test (as_block par))
      (λ is_so.
      subst (λ (b : Bool). Each P (flat_map paragraph_of (cond (not b) (as_block par ∷ without test (map as_block pars)) (without test (map as_block pars))))) (sym is_so) (pars_left P pars each.1))
      (λ other.
      subst (λ (b : Bool). Each P (flat_map paragraph_of (cond (not b) (as_block par ∷ without test (map as_block pars)) (without test (map as_block pars))))) (sym other)
      (subst (λ (ps : List Par). Each P (ps ++ change pars)) (sym (par_alone par)) (each.0, pars_left P pars each.1)))

  abbrev Stays : Item → Type 0
  Stays item = Each HoldsNoNotes (note_of item) → Each HoldsNoNotes (note_of (in_note_of change item))

  plain_stays : (item : Item) → in_note_of change item ≡ item → Stays item
  plain_stays item same valid = subst (λ (i : Item). Each HoldsNoNotes (note_of i)) (sym same) valid

  note_stays : (spans : List (List ℕ)) (note : Note) → Stays (roll-Item (record { spans = spans; what = roll-What (What-F.Note note) }))
  note_stays spans note valid =
      let pars : List Par = change (out-Note note).pars in
      let own : HoldsNoNotes note = (subst (Each HoldsNoNotes) (note_alone spans note) valid).0 in
      let new : HoldsNoNotes (with_pars note pars) =
      subst (λ (n : Note-F What Item Note Par). Each (λ par. notes_of par ≡ []) n.pars) (sym (out-roll-Note (record (out-Note note) { pars = pars }))) (pars_left (λ par. notes_of par ≡ []) (out-Note note).pars own)
      in
      subst (λ (i : Item). Each HoldsNoNotes (note_of i)) (sym (changed_note change spans note)) (subst (Each HoldsNoNotes) (sym (note_alone spans (with_pars note pars))) (new, tt))

  stays_by : (spans : List (List ℕ)) (what : What-F What Item Note Par) → Stays (roll-Item (record { spans = spans; what = roll-What what }))
  stays_by spans (What-F.Char c) = plain_stays (roll-Item (record { spans = spans; what = roll-What (What-F.Char c) })) (simp out-roll-What)
  stays_by spans What-F.Tab = plain_stays (roll-Item (record { spans = spans; what = roll-What What-F.Tab })) (simp out-roll-What)
  stays_by spans What-F.Break = plain_stays (roll-Item (record { spans = spans; what = roll-What What-F.Break })) (simp out-roll-What)
  stays_by spans (What-F.Field field) = plain_stays (roll-Item (record { spans = spans; what = roll-What (What-F.Field field) })) (simp out-roll-What)
  stays_by spans (What-F.Note note) = note_stays spans note
  stays_by spans (What-F.Mark mark) = plain_stays (roll-Item (record { spans = spans; what = roll-What (What-F.Mark mark) })) (simp out-roll-What)

  items_stay : (items : List Item) → Each HoldsNoNotes (flat_map note_of items) → Each HoldsNoNotes (flat_map note_of (map (in_note_of change) items))
  items_stay [] valid = tt
  items_stay (item ∷ items) valid =
      let both = each_both HoldsNoNotes (note_of item) (flat_map note_of items) valid in
      each_join HoldsNoNotes (note_of (in_note_of change item)) (flat_map note_of (map (in_note_of change) items)) (by_what Stays stays_by item both.0) (items_stay items both.1)

  abbrev Keeps : Block → Type 0
  Keeps block = Each HoldsNoNotes (block_notes block) → Each HoldsNoNotes (block_notes (within_block (without test) block))

  par_keeps : (par : Par) → Keeps (as_block par)
  par_keeps par valid =
      let items : List Item = (out-Par par).items in
      let new : Each HoldsNoNotes (notes_of (in_notes_of change par)) =
      subst (λ (p : Par-F What Item Note Par). Each HoldsNoNotes (flat_map note_of p.items)) (sym (out-roll-Par (record (out-Par par) { items = map (in_note_of change) items })))
      (items_stay items (subst (Each HoldsNoNotes) (par_notes par) valid))
      in
      subst (λ (block : Block). Each HoldsNoNotes (block_notes block)) (sym (par_within (without test) par)) (subst (Each HoldsNoNotes) (sym (par_notes (in_notes_of change par))) new)

  abbrev Block-Known : Type 0
  Block-Known = (block : Block) × Keeps block

  abbrev Section-Known : Type 0
  Section-Known = (section : Section) × Keeps (roll-Block (Block-F.Section section))

  blocks_keep : (ks : List Block-Known) → Each (λ block. Each HoldsNoNotes (block_notes block)) (map (λ k. k.0) ks)
      → Each (λ block. Each HoldsNoNotes (block_notes block)) (map (within_block (without test)) (map (λ k. k.0) ks))
  blocks_keep [] valid = tt
  blocks_keep (k ∷ ks) valid = (k.1 valid.0, blocks_keep ks valid.1)

  container_keeps : (ks : List Block-Known) → Each HoldsNoNotes (flat_map block_notes (map (λ k. k.0) ks))
      → Each HoldsNoNotes (flat_map block_notes (without test (map (within_block (without test)) (map (λ k. k.0) ks))))
  container_keeps ks valid =
      let blocks : List Block = map (λ k. k.0) ks in
      let new : List Block = map (within_block (without test)) blocks in
      each_whole HoldsNoNotes block_notes (without test new)
      (each_left (λ block. Each HoldsNoNotes (block_notes block)) new (blocks_keep ks (each_part HoldsNoNotes block_notes blocks valid)))

  section_keeps : (x : Section-F Block Section) (ks : List Block-Known) → Keeps (roll-Block (Block-F.Section (roll-Section (record x { blocks = map (λ k. k.0) ks }))))
  section_keeps x ks valid =
      let blocks : List Block = map (λ k. k.0) ks in
      let new : List Block = without test (map (within_block (without test)) blocks) in
      subst (λ (block : Block). Each HoldsNoNotes (block_notes block)) (sym (section_within (without test) (record x { blocks = blocks })))
      (subst (Each HoldsNoNotes) (sym (section_notes (record x { blocks = new }))) (container_keeps ks (subst (Each HoldsNoNotes) (section_notes (record x { blocks = blocks })) valid)))

  block_step : (x : Block-F Block Section) (y : Block-F Block-Known Section-Known) → map-Block Block-Known Section-Known Block Section (λ k. k.0) (λ k. k.0) y ≡ x → Keeps (roll-Block x)
  block_step x (Block-F.Par par) is = subst (λ (z : Block-F Block Section). Keeps (roll-Block z)) is (par_keeps par)
  block_step x (Block-F.Section known) is = subst (λ (z : Block-F Block Section). Keeps (roll-Block z)) is known.1

  section_step : (x : Section-F Block Section) (y : Section-F Block-Known Section-Known) → map-Section Block-Known Section-Known Block Section (λ k. k.0) (λ k. k.0) y ≡ x
      → Keeps (roll-Block (Block-F.Section (roll-Section x)))
  section_step x y is =
      subst (λ (z : Section-F Block Section). Keeps (roll-Block (Block-F.Section (roll-Section z)))) is
      (section_keeps (record { kind = y.kind; name = y.name; style = y.style; protected = y.protected; hidden = y.hidden; source = y.source; blocks = [] }) y.blocks)

  block_keeps : (block : Block) → Keeps block
  block_keeps = ind-Block Keeps (λ section. Keeps (roll-Block (Block-F.Section section))) block_step section_step

  with_known : List Block → List Block-Known
  with_known body = map (λ block. (block, block_keeps block)) body

  known_again : (body : List Block) → map (λ k. k.0) (with_known body) ≡ body
  unfolding with_known
  known_again [] = refl
  known_again (block ∷ body) = ap (λ (bs : List Block). block ∷ bs) (known_again body)

  pub notes_kept : (doc : Document) → Each HoldsNoNotes (notes doc) → Each HoldsNoNotes (notes (in_containers (without test) doc))
  notes_kept doc valid =
      let is = known_again doc.body in
      let new : List Block = (in_containers (without test) doc).body in
      subst (Each HoldsNoNotes) (sym (twice notes_of block_paragraphs new))
      (subst (λ (body : List Block). Each HoldsNoNotes (flat_map block_notes (without test (map (within_block (without test)) body)))) is
      (container_keeps (with_known doc.body)
      (subst (λ (body : List Block). Each HoldsNoNotes (flat_map block_notes body)) (sym is) (subst (Each HoldsNoNotes) (twice notes_of block_paragraphs doc.body) valid))))
