-- Blocks, one level deep.
use Rattle.std.proofs.Common.{◌≡◌, ℕ, ◌+◌, ◌≤◌, List, [], ◌∷◌, ◌++◌, map, refl, sym, ap, ◌∙◌, append-nil, arith}
use Rattle.std.specs.Prelude.{max, fold}
use Rattle.std.specs.List.{flat_map, AllByRecursion as Each}
use Rattle.std.proofs.lemmas.List.Concat.{flat_map-append}
use Rattle.doc_model.specs.declared.block.Block.{Block, roll-Block}
use Rattle.doc_model.specs.declared.block.Block.TheOpen.{Block-F, Section-F}
use Rattle.doc_model.specs.declared.block.Block.TheFolds.{fold-roll-Block, fold-roll-Section}
use Rattle.doc_model.specs.declared.block.Block.TheViews.{roll-out-Section}
use Rattle.doc_model.specs.declared.block.Section.{Section, out-Section, roll-Section}
use Rattle.doc_model.specs.declared.paragraph.Par.{Par}
use Rattle.doc_model.specs.Alike.{in_block, in_paragraph}
use Rattle.doc_model.specs.Limits.{greatest}
use Rattle.doc_model.specs.Parts.{depth_of}
use Rattle.doc_model.specs.Reading.{block_paragraphs, with_notes}
use Rattle.doc_numbers.specs.Numbering.{block_pars}

-- lists that are joined before or behind a map
joined : {X Y : Type 0} (f : X → List Y) (xs : List X) → flat_map (λ ys. ys) (map f xs) ≡ flat_map f xs
joined f [] = refl
joined f (x ∷ xs) = ap (λ more. f x ++ more) (joined f xs)

pub flat_flat : {A B C : Type 0} (f : B → List C) (g : A → List B) (xs : List A) → flat_map f (flat_map g xs) ≡ flat_map (λ x. flat_map f (g x)) xs
flat_flat f g [] = refl
flat_flat f g (x ∷ xs) = flat_map-append f (g x) (flat_map g xs) ∙ ap (λ (behind : List _). flat_map f (g x) ++ behind) (flat_flat f g xs)

-- a block that is a paragraph
par_reads : (par : Par) → block_paragraphs (roll-Block (Block-F.Par par)) ≡ par ∷ []
par_reads par = simp fold-roll-Block

pub par_pars : (par : Par) → block_pars (roll-Block (Block-F.Par par)) ≡ with_notes par
par_pars par = ap (flat_map with_notes) (par_reads par) ∙ append-nil (with_notes par)

pub par_changed : (change : Par → Par) (par : Par) → in_block change (roll-Block (Block-F.Par par)) ≡ roll-Block (Block-F.Par (in_paragraph change par))
par_changed change par = simp fold-roll-Block

-- a section
abbrev section_block : Section-F Block Section → Block
section_block x = roll-Block (Block-F.Section (roll-Section x))

section_reads : (x : Section-F Block Section) → block_paragraphs (section_block x) ≡ flat_map (λ pars. pars) (map block_paragraphs x.blocks)
section_reads x = simp (fold-roll-Block, fold-roll-Section)

section_changes : (change : Par → Par) (x : Section-F Block Section) → in_block change (section_block x) ≡ section_block (record x { blocks = map (in_block change) x.blocks })
section_changes change x = simp (fold-roll-Block, fold-roll-Section)

section_deepens : (x : Section-F Block Section) → depth_of (section_block x) ≡ 1 + fold max 0 (map depth_of x.blocks)
section_deepens x = simp (fold-roll-Block, fold-roll-Section)

opened : (section : Section) → roll-Block (Block-F.Section section) ≡ section_block (out-Section section)
opened section = ap (λ (s : Section). roll-Block (Block-F.Section s)) (sym (roll-out-Section section))

pub section_pars : (section : Section) → block_pars (roll-Block (Block-F.Section section)) ≡ flat_map block_pars (out-Section section).blocks
section_pars section =
    ap block_pars (opened section) ∙ ap (flat_map with_notes) (section_reads (out-Section section) ∙ joined block_paragraphs (out-Section section).blocks)
    ∙ flat_flat with_notes block_paragraphs (out-Section section).blocks

pub section_changed : (change : Par → Par) (section : Section) → in_block change (roll-Block (Block-F.Section section)) ≡ section_block (record (out-Section section) { blocks = map (in_block change) (out-Section section).blocks })
section_changed change section = ap (in_block change) (opened section) ∙ section_changes change (out-Section section)

pub section_depth : (section : Section) → depth_of (roll-Block (Block-F.Section section)) ≡ 1 + greatest (map depth_of (out-Section section).blocks)
section_depth section = ap depth_of (opened section) ∙ section_deepens (out-Section section)

-- no number is greater than the greatest
module _ {X : Type 0} (f : X → ℕ) where
  not_less : (from : ℕ) (xs : List X) → (from ≤ fold max from (map f xs)) × Each (λ x. f x ≤ fold max from (map f xs)) xs
  not_less from [] = (omega arith, tt)
  not_less from (x ∷ xs) =
      let rest = not_less (max from (f x)) xs in
      let least = rest.0 in
      (omega (arith, least), (omega (arith, least), rest.1))

  pub within_greatest : (xs : List X) → Each (λ x. f x ≤ greatest (map f xs)) xs
  within_greatest xs = (not_less 0 xs).1
