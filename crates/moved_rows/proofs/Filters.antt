-- Containers from which paragraphs are taken out.
use Rattle.std.proofs.Common.{◌≡◌, ℕ, Bool, not, cond, ◌||◌, List, [], ◌∷◌, map, refl, ap, ap₂, sym, ◌∙◌, subst, eqb}
use Rattle.std.specs.Prelude.{filter}
use Rattle.std.specs.List.{flat_map, list_any}
use Rattle.doc_model.specs.declared.block.Block.{Block, out-Block, roll-Block}
use Rattle.doc_model.specs.declared.block.Block.TheOpen.{Block-F, Section-F}
use Rattle.doc_model.specs.declared.block.Block.TheViews.{roll-out-Block, roll-out-Section}
use Rattle.doc_model.specs.declared.block.Block.TheFolds.{ind-Block, map-Block, map-Section}
use Rattle.doc_model.specs.declared.block.Section.{Section, out-Section, roll-Section}
use Rattle.doc_model.specs.declared.paragraph.Par.{Par, out-Par, roll-Par}
use Rattle.doc_model.specs.declared.paragraph.Item.{Item, roll-Item}
use Rattle.doc_model.specs.declared.paragraph.What.{What, roll-What}
use Rattle.doc_model.specs.declared.paragraph.Note.{Note, out-Note, roll-Note}
use Rattle.doc_model.specs.declared.paragraph.What.TheOpen.{What-F, Note-F, Par-F}
use Rattle.doc_model.specs.declared.paragraph.What.TheViews.{out-roll-What, out-roll-Note, out-roll-Par}
use Rattle.doc_model.specs.declared.document.Document.{Document}
use Rattle.doc_model.specs.Reading.{number_of}
use Rattle.edit_rules.specs.Places.{as_block, paragraph_of, is_paragraph}
use Rattle.edit_rules.specs.Blocks.{in_note_of, in_notes_of, of_paragraphs, within_block, in_containers}
use Rattle.container_rows.specs.Standing.{KeepsParagraphs}
use Rattle.container_rows.proofs.Firsts.{by_test}
use Rattle.container_rows.proofs.Heads.{kept_by}
use Rattle.container_rows.proofs.Parts.{by_what, changed_note, with_pars, par_within, section_within}
use Rattle.container_rows.proofs.Tests.{test_is, section_test}

-- the blocks that a test doesn't take out
abbrev pub without : (Block → Bool) → List Block → List Block
without test blocks = filter (λ block. not (test block)) blocks

-- what a change within blocks leaves of a test of numbers
module _ (number : ℕ) (change : List Block → List Block) where
  number_stays : (par : Par) (items : List Item) → number_of (roll-Par (record (out-Par par) { items = items })) ≡ number_of par
  number_stays par items = ap (λ (p : Par-F What Item Note Par). p.id.0) (out-roll-Par (record (out-Par par) { items = items }))

  par_test : (par : Par) → is_paragraph number (within_block change (as_block par)) ≡ is_paragraph number (as_block par)
  par_test par =
      ap (is_paragraph number) (par_within change par) ∙ test_is number (in_notes_of (of_paragraphs change) par)
      ∙ ap (λ (n : ℕ). eqb n number) (number_stays par (map (in_note_of (of_paragraphs change)) (out-Par par).items)) ∙ sym (test_is number par)

  layer_test : (x : Section-F Block Section) → is_paragraph number (within_block change (roll-Block (Block-F.Section (roll-Section x)))) ≡ is_paragraph number (roll-Block (Block-F.Section (roll-Section x)))
  layer_test x =
      ap (is_paragraph number) (section_within change x) ∙ section_test number (roll-Section (record x { blocks = change (map (within_block change) x.blocks) }))
      ∙ sym (section_test number (roll-Section x))

  test_by : (layer : Block-F Block Section) → is_paragraph number (within_block change (roll-Block layer)) ≡ is_paragraph number (roll-Block layer)
  test_by (Block-F.Par par) = par_test par
  test_by (Block-F.Section section) =
      subst (λ (s : Section). is_paragraph number (within_block change (roll-Block (Block-F.Section s))) ≡ is_paragraph number (roll-Block (Block-F.Section s))) (roll-out-Section section) (layer_test (out-Section section))

  pub within_test : (block : Block) → is_paragraph number (within_block change block) ≡ is_paragraph number block
  within_test block = subst (λ (b : Block). is_paragraph number (within_block change b) ≡ is_paragraph number b) (roll-out-Block block) (test_by (out-Block block))

-- whether a block is one of some paragraphs
abbrev pub one_of : List Par → Block → Bool
one_of pars block = list_any (λ par. is_paragraph (number_of par) block) pars

pub one_of_within : (pars : List Par) (change : List Block → List Block) (block : Block) → one_of pars (within_block change block) ≡ one_of pars block
one_of_within [] change block = refl
one_of_within (par ∷ pars) change block = ap₂ (λ (a b : Bool). a || b) (within_test (number_of par) change block) (one_of_within pars change block)

-- filters
both_filters : (f g : Block → Bool) (blocks : List Block) → without (λ block. g block || f block) blocks ≡ without f (without g blocks)
both_filters f g [] = refl
both_filters f g (block ∷ blocks) =
    by_test (g block)
    (λ is_so.
    ap (λ (b : Bool). cond (not (b || f block)) (block ∷ without (λ x. g x || f x) blocks) (without (λ x. g x || f x) blocks)) is_so
    ∙ both_filters f g blocks ∙ ap (without f) (sym (ap (λ (b : Bool). cond (not b) (block ∷ without g blocks) (without g blocks)) is_so)))
    (λ other.
    ap (λ (b : Bool). cond (not (b || f block)) (block ∷ without (λ x. g x || f x) blocks) (without (λ x. g x || f x) blocks)) other
    ∙ ap (λ (rest : List Block). cond (not (f block)) (block ∷ rest) rest) (both_filters f g blocks)
    ∙ ap (without f) (sym (ap (λ (b : Bool). cond (not b) (block ∷ without g blocks) (without g blocks)) other)))

pub filter_map_on : (test : Block → Bool) (on : Block → Block) → ((block : Block) → test (on block) ≡ test block) → (blocks : List Block) → map on (without test blocks) ≡ without test (map on blocks)
filter_map_on test on same [] = refl
filter_map_on test on same (block ∷ blocks) =
    by_test (test block)
    (λ is_so.
    ap (λ (b : Bool). map on (cond (not b) (block ∷ without test blocks) (without test blocks))) is_so ∙ filter_map_on test on same blocks
    ∙ sym (ap (λ (b : Bool). cond (not b) (on block ∷ without test (map on blocks)) (without test (map on blocks))) (same block ∙ is_so)))
    (λ other.
    ap (λ (b : Bool). map on (cond (not b) (block ∷ without test blocks) (without test blocks))) other ∙ ap (λ (rest : List Block). on block ∷ rest) (filter_map_on test on same blocks)
    ∙ sym (ap (λ (b : Bool). cond (not b) (on block ∷ without test (map on blocks)) (without test (map on blocks))) (same block ∙ other)))

pub filter_keeps : (test : Block → Bool) → KeepsParagraphs (without test)
filter_keeps test pars = some_kept pars where
  some : List Par → List Par
  some pars = filter (λ par. not (test (as_block par))) pars

  some_are : (pars : List Par) → without test (map as_block pars) ≡ map as_block (filter (λ par. not (test (as_block par))) pars)
  some_are [] = refl
  some_are (par ∷ pars) =
      by_test (test (as_block par))
      (λ is_so.
      ap (λ (b : Bool). cond (not b) (as_block par ∷ without test (map as_block pars)) (without test (map as_block pars))) is_so ∙ some_are pars
      ∙ sym (ap (λ (b : Bool). map as_block (cond (not b) (par ∷ filter (λ p. not (test (as_block p))) pars) (filter (λ p. not (test (as_block p))) pars))) is_so))
      (λ other.
      ap (λ (b : Bool). cond (not b) (as_block par ∷ without test (map as_block pars)) (without test (map as_block pars))) other ∙ ap (λ (rest : List Block). as_block par ∷ rest) (some_are pars)
      ∙ sym (ap (λ (b : Bool). map as_block (cond (not b) (par ∷ filter (λ p. not (test (as_block p))) pars) (filter (λ p. not (test (as_block p))) pars))) other))

  some_kept : (pars : List Par) → without test (map as_block pars) ≡ map as_block (of_paragraphs (without test) pars)
  some_kept pars = kept_by (without test (map as_block pars)) (filter (λ par. not (test (as_block par))) pars) (some_are pars)

-- one filter after another in all containers
module _ (f g : Block → Bool) (f_within : (change : List Block → List Block) (block : Block) → f (within_block change block) ≡ f block)
    (g_within : (change : List Block → List Block) (block : Block) → g (within_block change block) ≡ g block) where
  abbrev both : Block → Bool
  both block = g block || f block

  abbrev first : List Par → List Par
  first = of_paragraphs (without g)

  abbrev second : List Par → List Par
  second = of_paragraphs (without f)

  abbrev at_once : List Par → List Par
  at_once = of_paragraphs (without both)

  pars_fused : (pars : List Par) → second (first pars) ≡ at_once pars
  pars_fused pars =
      ap (λ (blocks : List Block). flat_map paragraph_of (without f blocks)) (sym (filter_keeps g pars)) ∙ ap (flat_map paragraph_of) (sym (both_filters f g (map as_block pars)))

  plain_fused : (item : Item) → ((change : List Par → List Par) → in_note_of change item ≡ item) → in_note_of second (in_note_of first item) ≡ in_note_of at_once item
  plain_fused item same = ap (in_note_of second) (same first) ∙ same second ∙ sym (same at_once)

  abbrev note_as : List (List ℕ) → Note → Item
  note_as spans note = roll-Item (record { spans = spans; what = roll-What (What-F.Note note) })

  note_fused : (spans : List (List ℕ)) (note : Note) → in_note_of second (in_note_of first (note_as spans note)) ≡ in_note_of at_once (note_as spans note)
  note_fused spans note =
      let pars : List Par = (out-Note note).pars in
      let own : out-Note (with_pars note (first pars)) ≡ record (out-Note note) { pars = first pars } = out-roll-Note (record (out-Note note) { pars = first pars }) in
      ap (in_note_of second) (changed_note first spans note) ∙ changed_note second spans (with_pars note (first pars))
      ∙ ap (λ (n : Note-F What Item Note Par). note_as spans (roll-Note (record n { pars = second n.pars }))) own
      ∙ ap (λ (ps : List Par). note_as spans (with_pars note ps)) (pars_fused pars) ∙ sym (changed_note at_once spans note)

  item_by : (spans : List (List ℕ)) (what : What-F What Item Note Par) → in_note_of second (in_note_of first (roll-Item (record { spans = spans; what = roll-What what }))) ≡ in_note_of at_once (roll-Item (record { spans = spans; what = roll-What what }))
  item_by spans (What-F.Char c) = plain_fused _ (λ change. simp out-roll-What)
  item_by spans What-F.Tab = plain_fused _ (λ change. simp out-roll-What)
  item_by spans What-F.Break = plain_fused _ (λ change. simp out-roll-What)
  item_by spans (What-F.Field field) = plain_fused _ (λ change. simp out-roll-What)
  item_by spans (What-F.Note note) = note_fused spans note
  item_by spans (What-F.Mark mark) = plain_fused _ (λ change. simp out-roll-What)

  items_fused : (items : List Item) → map (in_note_of second) (map (in_note_of first) items) ≡ map (in_note_of at_once) items
  items_fused [] = refl
  items_fused (item ∷ items) =
      ap₂ (λ (i : Item) (is : List Item). i ∷ is) (by_what (λ i. in_note_of second (in_note_of first i) ≡ in_note_of at_once i) item_by item) (items_fused items)

  notes_fused : (par : Par) → in_notes_of second (in_notes_of first par) ≡ in_notes_of at_once par
  notes_fused par =
      ap (λ (p : Par-F What Item Note Par). roll-Par (record p { items = map (in_note_of second) p.items })) (out-roll-Par (record (out-Par par) { items = map (in_note_of first) (out-Par par).items }))
      ∙ ap (λ (items : List Item). roll-Par (record (out-Par par) { items = items })) (items_fused (out-Par par).items)

  abbrev Fuses : Block → Type 0
  Fuses block = within_block (without f) (within_block (without g) block) ≡ within_block (without both) block

  par_fuses : (par : Par) → Fuses (as_block par)
  par_fuses par =
      ap (within_block (without f)) (par_within (without g) par) ∙ par_within (without f) (in_notes_of first par) ∙ ap as_block (notes_fused par) ∙ sym (par_within (without both) par)

  abbrev Block-Known : Type 0
  Block-Known = (block : Block) × Fuses block

  abbrev Section-Known : Type 0
  Section-Known = (section : Section) × Fuses (roll-Block (Block-F.Section section))

  blocks_fuse : (ks : List Block-Known) → map (within_block (without f)) (map (within_block (without g)) (map (λ k. k.0) ks)) ≡ map (within_block (without both)) (map (λ k. k.0) ks)
  blocks_fuse [] = refl
  blocks_fuse (k ∷ ks) = ap₂ (λ (b : Block) (bs : List Block). b ∷ bs) k.1 (blocks_fuse ks)

  -- the blocks of a container
  container_fuses : (ks : List Block-Known)
      → without f (map (within_block (without f)) (without g (map (within_block (without g)) (map (λ k. k.0) ks)))) ≡ without both (map (within_block (without both)) (map (λ k. k.0) ks))
  container_fuses ks =
      ap (without f) (filter_map_on g (within_block (without f)) (g_within (without f)) (map (within_block (without g)) (map (λ k. k.0) ks)))
      ∙ ap (λ (blocks : List Block). without f (without g blocks)) (blocks_fuse ks) ∙ sym (both_filters f g (map (within_block (without both)) (map (λ k. k.0) ks)))

  section_fuses : (x : Section-F Block Section) (ks : List Block-Known) → Fuses (roll-Block (Block-F.Section (roll-Section (record x { blocks = map (λ k. k.0) ks }))))
  section_fuses x ks =
      let blocks : List Block = map (λ k. k.0) ks in
      let once : List Block = without g (map (within_block (without g)) blocks) in
      ap (within_block (without f)) (section_within (without g) (record x { blocks = blocks })) ∙ section_within (without f) (record x { blocks = once })
      ∙ ap (λ (bs : List Block). roll-Block (Block-F.Section (roll-Section (record x { blocks = bs })))) (container_fuses ks)
      ∙ sym (section_within (without both) (record x { blocks = blocks }))

  block_step : (x : Block-F Block Section) (y : Block-F Block-Known Section-Known) → map-Block Block-Known Section-Known Block Section (λ k. k.0) (λ k. k.0) y ≡ x → Fuses (roll-Block x)
  block_step x (Block-F.Par par) is = subst (λ (z : Block-F Block Section). Fuses (roll-Block z)) is (par_fuses par)
  block_step x (Block-F.Section known) is = subst (λ (z : Block-F Block Section). Fuses (roll-Block z)) is known.1

  section_step : (x : Section-F Block Section) (y : Section-F Block-Known Section-Known) → map-Section Block-Known Section-Known Block Section (λ k. k.0) (λ k. k.0) y ≡ x
      → Fuses (roll-Block (Block-F.Section (roll-Section x)))
  section_step x y is =
      subst (λ (z : Section-F Block Section). Fuses (roll-Block (Block-F.Section (roll-Section z)))) is
      (section_fuses (record { kind = y.kind; name = y.name; style = y.style; protected = y.protected; hidden = y.hidden; source = y.source; blocks = [] }) y.blocks)

  block_fuses : (block : Block) → Fuses block
  block_fuses = ind-Block Fuses (λ section. Fuses (roll-Block (Block-F.Section section))) block_step section_step

  with_known : List Block → List Block-Known
  with_known body = map (λ block. (block, block_fuses block)) body

  known_again : (body : List Block) → map (λ k. k.0) (with_known body) ≡ body
  unfolding with_known
  known_again [] = refl
  known_again (block ∷ body) = ap (λ (bs : List Block). block ∷ bs) (known_again body)

  pub body_fused : (doc : Document) → (in_containers (without f) (in_containers (without g) doc)).body ≡ (in_containers (without both) doc).body
  body_fused doc =
      subst (λ (body : List Block). without f (map (within_block (without f)) (without g (map (within_block (without g)) body))) ≡ without both (map (within_block (without both)) body)) (known_again doc.body)
      (container_fuses (with_known doc.body))
