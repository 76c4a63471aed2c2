-- The paragraphs of blocks, level by level.
use Rattle.std.proofs.Common.{◌≡◌, Bool, true, false, List, [], ◌∷◌, ◌++◌, map, refl, sym, ap, ap₂, ◌∙◌}
use Rattle.std.specs.Prelude.{◌||◌}
use Rattle.std.specs.List.{flat_map}
use Rattle.std.proofs.lemmas.List.{map-append}
use Rattle.doc_model.specs.declared.block.Block.{Block, roll-Block}
use Rattle.doc_model.specs.declared.block.Block.TheOpen.{Block-F, Section-F}
use Rattle.doc_model.specs.declared.block.Block.TheFolds.{fold-roll-Block, fold-roll-Section}
use Rattle.doc_model.specs.declared.block.Block.TheViews.{roll-out-Section}
use Rattle.doc_model.specs.declared.block.Section.{Section, out-Section, roll-Section}
use Rattle.doc_model.specs.declared.paragraph.Par.{Par}
use Rattle.doc_model.specs.Reading.{block_paragraphs}
use Rattle.format_model.specs.Standing.{BodyPar, body_pars_in, within_section}

-- lists that are joined before or behind a map
joined : {X Y : Type 0} (f : X → List Y) (xs : List X) → flat_map (λ ys. ys) (map f xs) ≡ flat_map f xs
joined f [] = refl
joined f (x ∷ xs) = ap (λ more. f x ++ more) (joined f xs)

pub par_placed : (par : Par) → body_pars_in (roll-Block (Block-F.Par par)) ≡ record { par = par; in_hidden_section = false } ∷ []
par_placed par = simp fold-roll-Block

section_opens : (x : Section-F Block Section) → body_pars_in (roll-Block (Block-F.Section (roll-Section x))) ≡ map (within_section x.hidden) (flat_map (λ placed. placed) (map body_pars_in x.blocks))
section_opens x = simp (fold-roll-Block, fold-roll-Section)

pub section_placed : (section : Section) → body_pars_in (roll-Block (Block-F.Section section)) ≡ map (within_section (out-Section section).hidden) (flat_map body_pars_in (out-Section section).blocks)
section_placed section =
    ap (λ (s : Section). body_pars_in (roll-Block (Block-F.Section s))) (sym (roll-out-Section section)) ∙ section_opens (out-Section section)
    ∙ ap (map (within_section (out-Section section).hidden)) (joined body_pars_in (out-Section section).blocks)

pub par_read : (par : Par) → block_paragraphs (roll-Block (Block-F.Par par)) ≡ par ∷ []
par_read par = simp fold-roll-Block

section_reads : (x : Section-F Block Section) → block_paragraphs (roll-Block (Block-F.Section (roll-Section x))) ≡ flat_map (λ pars. pars) (map block_paragraphs x.blocks)
section_reads x = simp (fold-roll-Block, fold-roll-Section)

pub section_read : (section : Section) → block_paragraphs (roll-Block (Block-F.Section section)) ≡ flat_map block_paragraphs (out-Section section).blocks
section_read section =
    ap (λ (s : Section). block_paragraphs (roll-Block (Block-F.Section s))) (sym (roll-out-Section section)) ∙ section_reads (out-Section section)
    ∙ joined block_paragraphs (out-Section section).blocks

-- paragraphs with two sections around them
or_assoc : (a b c : Bool) → (a || (b || c)) ≡ ((a || b) || c)
or_assoc true b c = refl
or_assoc false b c = refl

pub within_twice : (outer inner : Bool) (placed : List BodyPar) → map (within_section outer) (map (within_section inner) placed) ≡ map (within_section (outer || inner)) placed
within_twice outer inner [] = refl
within_twice outer inner (one ∷ more) =
    ap₂ (λ (x : BodyPar) (xs : List BodyPar). x ∷ xs) (ap (λ (hidden : Bool). record one { in_hidden_section = hidden }) (or_assoc outer inner one.in_hidden_section)) (within_twice outer inner more)

-- with none around them
pub within_none : (placed : List BodyPar) → map (within_section false) placed ≡ placed
within_none [] = refl
within_none (one ∷ more) = ap (λ xs. one ∷ xs) (within_none more)

-- those of some blocks and of one more
pub within_more : (hidden : Bool) (blocks : List Block) (block : Block) → map (within_section hidden) (flat_map body_pars_in blocks) ++ map (within_section hidden) (body_pars_in block) ≡ map (within_section hidden) (flat_map body_pars_in blocks ++ body_pars_in block)
within_more hidden blocks block = sym (map-append (within_section hidden) (flat_map body_pars_in blocks) (body_pars_in block))
