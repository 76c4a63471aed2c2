-- A paragraph of a number is held once.
use Rattle.std.proofs.Common.{◌≡◌, ℕ, ◌+◌, ◌≤◌, cond, eqb, List, [], ◌∷◌, ◌++◌, map, Some, refl, ap, ap₂, sym, ◌∙◌, arith}
use Rattle.std.specs.List.{flat_map, AllByRecursion as Each}
use Rattle.std.proofs.lemmas.List.Folds.{flat_map-map}
use Rattle.doc_model.specs.declared.block.Block.{Block, roll-Block}
use Rattle.doc_model.specs.declared.block.Block.TheOpen.{Block-F, Section-F}
use Rattle.doc_model.specs.declared.block.Block.TheFolds.{fold-roll-Block}
use Rattle.doc_model.specs.declared.block.Section.{Section, roll-Section}
use Rattle.doc_model.specs.declared.paragraph.Par.{Par}
use Rattle.doc_model.specs.declared.paragraph.Note.{Note, out-Note}
use Rattle.doc_model.specs.declared.document.Document.{Document}
use Rattle.doc_model.specs.Reading.{number_of, notes_of, with_notes, block_paragraphs, paragraphs}
use Rattle.container_rows.specs.Standing.{IsApart}
use Rattle.block_facts.proofs.Blocks.{section_block, of_blocks}
use Rattle.container_rows.proofs.Containers.{section_pars, twice}
use Rattle.container_rows.proofs.Numbers.{tally, tally_both, at_most_one}
use Rattle.container_rows.proofs.Parts.{mapped}
use Rattle.edit_rules.specs.Places.{Held, WithContainers, as_block, containers, is_held, note_container, with_containers}
use Rattle.held_rows.specs.HeldFrom.{held_of}
use Rattle.held_rows.proofs.Stands.{par_containers, section_containers}
use Rattle.container_facts.proofs.Lists.{passing}

-- the containers within a block
abbrev pub within_of : Block → List Held
within_of block = (with_containers block).within

pub section_within : (x : Section-F Block Section) → within_of (roll-Block (Block-F.Section (roll-Section x))) ≡ map held_of x.blocks ∷ flat_map within_of x.blocks
section_within x =
    ap (λ (w : WithContainers). w.within) (section_containers x)
    ∙ ap₂ (λ (a : Held) (b : List Held). a ∷ b) (mapped (λ (w : WithContainers). w.held) with_containers x.blocks) (flat_map-map (λ (w : WithContainers). w.within) with_containers x.blocks)

-- how often containers hold one
abbrev pub held_times : ℕ → List Held → ℕ
held_times number [] = 0
held_times number (container ∷ more) = passing (is_held number) container + held_times number more

module _ (number : ℕ) where
  pub times_both : (some more : List Held) → held_times number (some ++ more) ≡ held_times number some + held_times number more
  times_both [] more = omega arith
  times_both (container ∷ some) more = omega (arith, times_both some more)

  pars_held : (pars : List Par) → passing (is_held number) (map Some pars) ≡ tally number pars
  pars_held [] = refl
  pars_held (par ∷ pars) = ap (λ (n : ℕ). cond (eqb (number_of par) number) 1 0 + n) (pars_held pars)

  pub notes_held : (notes : List Note) → held_times number (map note_container notes) ≡ tally number (flat_map (λ note. (out-Note note).pars) notes)
  notes_held [] = refl
  notes_held (note ∷ notes) = omega (arith, pars_held (out-Note note).pars, notes_held notes, tally_both number (out-Note note).pars (flat_map (λ note. (out-Note note).pars) notes))

  abbrev block_pars : Block → List Par
  block_pars block = flat_map with_notes (block_paragraphs block)

  -- how often a block is one's paragraph, and how often the containers in it hold it
  abbrev Counted : Block → Type 0
  Counted block = cond (is_held number (held_of block)) 1 0 + held_times number (within_of block) ≡ tally number (block_pars block)

  par_counted : (par : Par) → Counted (as_block par)
  par_counted par =
      let alone : block_paragraphs (as_block par) ≡ par ∷ [] = simp fold-roll-Block in
      let pars : tally number (block_pars (as_block par)) ≡ tally number (with_notes par ++ []) = ap (λ (ps : List Par). tally number (flat_map with_notes ps)) alone in
      let held : cond (is_held number (held_of (as_block par))) 1 0 ≡ cond (eqb (number_of par) number) 1 0 = ap {B = ℕ} (λ (w : WithContainers). cond (is_held number w.held) 1 0) (par_containers par) in
      let within : held_times number (within_of (as_block par)) ≡ held_times number (map note_container (notes_of par)) = ap (λ (w : WithContainers). held_times number w.within) (par_containers par) in
      omega (arith, pars, held, within, notes_held (notes_of par), tally_both number (with_notes par) [])

  blocks_counted : (blocks : List Block) → Each Counted blocks → passing (is_held number) (map held_of blocks) + held_times number (flat_map within_of blocks) ≡ tally number (flat_map block_pars blocks)
  blocks_counted [] each = refl
  blocks_counted (block ∷ blocks) each =
      omega (arith, each.0, blocks_counted blocks each.1, times_both (within_of block) (flat_map within_of blocks), tally_both number (block_pars block) (flat_map block_pars blocks))

  section_counted : (x : Section-F Block Section) → Each Counted x.blocks → Counted (section_block x)
  section_counted x each =
      let pars : tally number (block_pars (section_block x)) ≡ tally number (flat_map block_pars x.blocks) =
      ap (λ (ps : List Par). tally number (flat_map with_notes ps)) (section_pars x) ∙ ap (tally number) (twice with_notes block_paragraphs x.blocks)
      in
      let held : cond (is_held number (held_of (section_block x))) 1 0 ≡ 0 = ap {B = ℕ} (λ (w : WithContainers). cond (is_held number w.held) 1 0) (section_containers x) in
      let within : held_times number (within_of (section_block x)) ≡ held_times number (map held_of x.blocks ∷ flat_map within_of x.blocks) = ap (held_times number) (section_within x) in
      omega (arith, pars, held, within, blocks_counted x.blocks each)

  body_counted : (body : List Block) → passing (is_held number) (map held_of body) + held_times number (flat_map within_of body) ≡ tally number (flat_map block_pars body)
  body_counted body = blocks_counted body (of_blocks Counted par_counted section_counted body)

  -- it is one paragraph at the most
  pub tally_once : (doc : Document) → IsApart doc → tally number (paragraphs doc) ≤ 1
  tally_once doc apart = at_most_one number (paragraphs doc) apart.numbers

  -- and the containers hold it as often
  pub held_is : (doc : Document) → held_times number (containers doc) ≡ tally number (paragraphs doc)
  held_is doc = body_counted doc.body ∙ sym (ap (tally number) (twice with_notes block_paragraphs doc.body))

  pub held_once : (doc : Document) → IsApart doc → held_times number (containers doc) ≤ 1
  held_once doc apart = omega (arith, held_is doc, tally_once doc apart)
