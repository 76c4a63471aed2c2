-- Blocks, one level deep, and what holds of each.
use Rattle.std.proofs.Common.{◌≡◌, List, [], ◌∷◌, ◌++◌, map, refl, ap, subst, ◌∙◌}
use Rattle.std.specs.List.{flat_map, AllByRecursion as Each}
use Rattle.doc_model.specs.declared.block.Block.{Block, roll-Block}
use Rattle.doc_model.specs.declared.block.Block.TheOpen.{Block-F, Section-F}
use Rattle.doc_model.specs.declared.block.Section.{Section, roll-Section}
use Rattle.doc_model.specs.declared.block.Block.TheFolds.{fold-roll-Block, fold-roll-Section, ind-Block, map-Block, map-Section}
use Rattle.doc_model.specs.declared.paragraph.Par.{Par}
use Rattle.doc_model.specs.Reading.{block_paragraphs}
use Rattle.doc_model.specs.Alike.{in_paragraph, in_block}

-- a paragraph as a block
abbrev pub par_block : Par → Block
par_block par = roll-Block (Block-F.Par par)

-- a section with these blocks
abbrev pub section_block : Section-F Block Section → Block
section_block x = roll-Block (Block-F.Section (roll-Section x))

module _ (P : Block → Type 0) (of_par : (par : Par) → P (par_block par)) (of_section : (x : Section-F Block Section) → Each P x.blocks → P (section_block x)) where
  abbrev Section-Holds : Section → Type 0
  Section-Holds section = P (roll-Block (Block-F.Section section))

  abbrev Block-Known : Type 0
  Block-Known = (block : Block) × P block

  abbrev Section-Known : Type 0
  Section-Known = (section : Section) × Section-Holds section

  each_known : (known : List Block-Known) → Each P (map (λ k. k.0) known)
  each_known [] = tt
  each_known (k ∷ known) = (k.1, each_known known)

  block_step : (x : Block-F Block Section) (y : Block-F Block-Known Section-Known) → map-Block Block-Known Section-Known Block Section (λ k. k.0) (λ k. k.0) y ≡ x → P (roll-Block x)
  block_step x (Block-F.Par par) is = subst (λ (z : Block-F Block Section). P (roll-Block z)) is (of_par par)
  block_step x (Block-F.Section known) is = subst (λ (z : Block-F Block Section). P (roll-Block z)) is known.1

  section_step : (x : Section-F Block Section) (y : Section-F Block-Known Section-Known) → map-Section Block-Known Section-Known Block Section (λ k. k.0) (λ k. k.0) y ≡ x → Section-Holds (roll-Section x)
  section_step x y is =
      let z : Section-F Block Section = record { kind = y.kind; name = y.name; style = y.style; protected = y.protected; hidden = y.hidden; source = y.source; blocks = map (λ (k : Block-Known). k.0) y.blocks } in
      subst (λ (z : Section-F Block Section). P (section_block z)) is (of_section z (each_known y.blocks))

  -- what holds of each paragraph, and of each section of blocks of which it holds, holds of each block
  pub of_block : (block : Block) → P block
  of_block = ind-Block P Section-Holds block_step section_step

  pub of_blocks : (blocks : List Block) → Each P blocks
  of_blocks [] = tt
  of_blocks (block ∷ blocks) = (of_block block, of_blocks blocks)

-- lists that are joined before or behind a map
pub joined : {X Y : Type 0} (f : X → List Y) (xs : List X) → flat_map (λ ys. ys) (map f xs) ≡ flat_map f xs
joined f [] = refl
joined f (x ∷ xs) = ap (λ more. f x ++ more) (joined f xs)

pub par_reads : (par : Par) → block_paragraphs (par_block par) ≡ par ∷ []
par_reads par = simp fold-roll-Block

pub par_changes : (change : Par → Par) (par : Par) → in_block change (par_block par) ≡ par_block (in_paragraph change par)
par_changes change par = simp fold-roll-Block

section_opens : (x : Section-F Block Section) → block_paragraphs (section_block x) ≡ flat_map (λ pars. pars) (map block_paragraphs x.blocks)
section_opens x = simp (fold-roll-Block, fold-roll-Section)

pub section_reads : (x : Section-F Block Section) → block_paragraphs (section_block x) ≡ flat_map block_paragraphs x.blocks
section_reads x = section_opens x ∙ joined block_paragraphs x.blocks

pub section_changes : (change : Par → Par) (x : Section-F Block Section) → in_block change (section_block x) ≡ section_block (record x { blocks = map (in_block change) x.blocks })
section_changes change x = simp (fold-roll-Block, fold-roll-Section)
