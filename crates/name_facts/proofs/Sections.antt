-- The names of sections are there where a scan finds them: each section of a valid document has a first paragraph.
use Rattle.std.proofs.Common.{◌≡◌, ◌≢◌, ℕ, List, [], ◌∷◌, ◌++◌, length, map, take, refl, ap, ap₂, sym, subst, ◌∙◌, arith}
use Rattle.std.specs.Prelude.{is_some}
use Rattle.std.specs.List.{AllByRecursion as Each, flat_map, list_any}
use Rattle.std.specs.Str.{bytes_eq}
use Rattle.std.proofs.lemmas.List.{map-append, length-map}
use Rattle.std.proofs.lemmas.List.Folds.{flat_map-map}
use Rattle.doc_model.specs.declared.block.Block.{Block, roll-Block}
use Rattle.doc_model.specs.declared.block.Block.TheOpen.{Block-F, Section-F}
use Rattle.doc_model.specs.declared.block.Block.TheFolds.{fold-roll-Block, fold-roll-Section, ind-Block, map-Block, map-Section}
use Rattle.doc_model.specs.declared.block.Section.{Section, roll-Section}
use Rattle.doc_model.specs.declared.paragraph.Par.{Par, out-Par}
use Rattle.doc_model.specs.declared.paragraph.ParId.{ParId}
use Rattle.doc_model.specs.declared.document.Document.{Document}
use Rattle.doc_model.specs.Parts.{SectionHead, block_sections, sections}
use Rattle.edit_rules.specs.Names.{is_there, section_names}
use Rattle.edit_rules.specs.Places.{head_of}
use Rattle.name_index.specs.declared.names.NameKind.TheVariants as kinds
use Rattle.name_index.specs.Scan as scan
use Rattle.name_facts.proofs.AnyLemmas.{any_map, any_same, found_any, eq_turned, each_front, each_rest}

-- a section that holds a block
abbrev IsHeld : SectionHead → Type 0
IsHeld section = section.blocks ≢ 0

-- what is known of a block whose sections all hold a block: it has a paragraph, and its sections' names are those of a scan
pub record Known (block : Block) : Type 0 where
  pub paragraph : 0 ≢ length (scan.in_block block).numbers
  pub names : map (λ pair. pair.0) (scan.in_block block).sections ≡ map (λ section. section.name) (block_sections block)

abbrev BlockKnown : Block → Type 0
BlockKnown block = Each IsHeld (block_sections block) → Known block

abbrev SectionKnown : Section → Type 0
SectionKnown section = BlockKnown (roll-Block (Block-F.Section section))

par_in : (par : Par) → scan.in_block (roll-Block (Block-F.Par par)) ≡ record { numbers = (out-Par par).id ∷ []; sections = [] }
par_in par = simp fold-roll-Block

par_sections : (par : Par) → block_sections (roll-Block (Block-F.Par par)) ≡ []
par_sections par = simp fold-roll-Block

section_in : (x : Section-F Block Section) → scan.in_block (roll-Block (Block-F.Section (roll-Section x)))
    ≡ record {
      numbers = flat_map (λ inside. inside.numbers) (map scan.in_block x.blocks);
      sections = map (λ number. (x.name, number)) (take 1 (flat_map (λ inside. inside.numbers) (map scan.in_block x.blocks))) ++ flat_map (λ inside. inside.sections) (map scan.in_block x.blocks);
    }
section_in x = simp (fold-roll-Block, fold-roll-Section)

section_sections : (x : Section-F Block Section) → block_sections (roll-Block (Block-F.Section (roll-Section x))) ≡ head_of x ∷ flat_map (λ sections. sections) (map block_sections x.blocks)
section_sections x = simp (fold-roll-Block, fold-roll-Section, length-map x.blocks block_sections)

one_more : (xs ys : List ParId) → 0 ≢ length xs → 0 ≢ length (xs ++ ys)
one_more [] ys some none = some refl
one_more (x ∷ xs) ys some none = absurd (omega (arith, none))

first_only : {X : Type 0} (name : List ℕ) (numbers : List X) → 0 ≢ length numbers → map (λ (pair : List ℕ × X). pair.0) (map (λ number. (name, number)) (take 1 numbers)) ≡ name ∷ []
first_only name [] some = absurd (some refl)
first_only name (number ∷ numbers) some = refl

abbrev Block-Known : Type 0
Block-Known = (block : Block) × BlockKnown block

abbrev Section-Known : Type 0
Section-Known = (section : Section) × SectionKnown section

abbrev blocks_in : List Block-Known → List Block
blocks_in ks = map (λ k. k.0) ks

abbrev numbers_of : Block → List ParId
numbers_of block = (scan.in_block block).numbers

abbrev sections_of : Block → List (List ℕ × ParId)
sections_of block = (scan.in_block block).sections

names_all : (ks : List Block-Known) → Each IsHeld (flat_map block_sections (blocks_in ks)) → map (λ pair. pair.0) (flat_map sections_of (blocks_in ks)) ≡ map (λ section. section.name) (flat_map block_sections (blocks_in ks))
names_all [] each = refl
names_all (k ∷ ks) each =
    map-append (λ (pair : List ℕ × ParId). pair.0) (sections_of k.0) (flat_map sections_of (blocks_in ks))
    ∙ ap₂ (λ (a b : List (List ℕ)). a ++ b) (k.1 (each_front IsHeld (block_sections k.0) (flat_map block_sections (blocks_in ks)) each)).names (names_all ks (each_rest IsHeld (block_sections k.0) (flat_map block_sections (blocks_in ks)) each))
    ∙ sym (map-append (λ (section : SectionHead). section.name) (block_sections k.0) (flat_map block_sections (blocks_in ks)))

has_one : (ks : List Block-Known) → length (blocks_in ks) ≢ 0 → Each IsHeld (flat_map block_sections (blocks_in ks)) → 0 ≢ length (flat_map numbers_of (blocks_in ks))
has_one [] some each = absurd (some refl)
has_one (k ∷ ks) some each = one_more (numbers_of k.0) (flat_map numbers_of (blocks_in ks)) (k.1 (each_front IsHeld (block_sections k.0) (flat_map block_sections (blocks_in ks)) each)).paragraph

section_known : (x : Section-F Block Section) (ks : List Block-Known) → SectionKnown (roll-Section (record x { blocks = blocks_in ks }))
section_known x ks each =
    let blocks : List Block = blocks_in ks in
    let made : Section-F Block Section = record x { blocks = blocks } in
    let flat : flat_map (λ sections. sections) (map block_sections blocks) ≡ flat_map block_sections blocks = flat_map-map (λ (sections : List SectionHead). sections) block_sections blocks in
    let heads : block_sections (roll-Block (Block-F.Section (roll-Section made))) ≡ head_of made ∷ flat_map block_sections blocks = section_sections made ∙ ap (λ (sections : List SectionHead). head_of made ∷ sections) flat in
    let parts : Each IsHeld (head_of made ∷ flat_map block_sections blocks) = subst (λ (sections : List SectionHead). Each IsHeld sections) heads each in
    let numbers : flat_map (λ inside. inside.numbers) (map scan.in_block blocks) ≡ flat_map numbers_of blocks = flat_map-map (λ (inside : scan.InBlock). inside.numbers) scan.in_block blocks in
    let some : 0 ≢ length (flat_map (λ inside. inside.numbers) (map scan.in_block blocks)) = subst (λ (ns : List ParId). 0 ≢ length ns) (sym numbers) (has_one ks parts.0 parts.1) in
    record {
      paragraph = subst (λ (inside : scan.InBlock). 0 ≢ length inside.numbers) (sym (section_in made)) some;
      names = ap (λ (inside : scan.InBlock). map (λ pair. pair.0) inside.sections) (section_in made)
          ∙ map-append (λ (pair : List ℕ × ParId). pair.0) (map (λ number. (x.name, number)) (take 1 (flat_map (λ inside. inside.numbers) (map scan.in_block blocks)))) (flat_map (λ inside. inside.sections) (map scan.in_block blocks))
          ∙ ap₂ (λ (a b : List (List ℕ)). a ++ b) (first_only x.name (flat_map (λ inside. inside.numbers) (map scan.in_block blocks)) some)
          (ap (map (λ (pair : List ℕ × ParId). pair.0)) (flat_map-map (λ (inside : scan.InBlock). inside.sections) scan.in_block blocks) ∙ names_all ks parts.1)
          ∙ ap (map (λ (section : SectionHead). section.name)) (sym heads);
    }

block_step : (x : Block-F Block Section) (y : Block-F Block-Known Section-Known) → map-Block Block-Known Section-Known Block Section (λ k. k.0) (λ k. k.0) y ≡ x → BlockKnown (roll-Block x)
block_step x (Block-F.Par par) is = subst (λ (z : Block-F Block Section). BlockKnown (roll-Block z)) is of_par where
  of_par : BlockKnown (roll-Block (Block-F.Par par))
  of_par each = record {
    paragraph = λ none. let long : 0 ≡ 1 = none ∙ ap (λ (inside : scan.InBlock). length inside.numbers) (par_in par) in omega (arith, long);
    names = ap (λ (inside : scan.InBlock). map (λ pair. pair.0) inside.sections) (par_in par) ∙ ap (map (λ (section : SectionHead). section.name)) (sym (par_sections par));
  }
block_step x (Block-F.Section known) is = subst (λ (z : Block-F Block Section). BlockKnown (roll-Block z)) is known.1

section_step : (x : Section-F Block Section) (y : Section-F Block-Known Section-Known) → map-Section Block-Known Section-Known Block Section (λ k. k.0) (λ k. k.0) y ≡ x → SectionKnown (roll-Section x)
section_step x y is = subst (λ (z : Section-F Block Section). SectionKnown (roll-Section z)) is (section_known (record { kind = y.kind; name = y.name; style = y.style; protected = y.protected; hidden = y.hidden; source = y.source; blocks = [] }) y.blocks)

block_known : (block : Block) → BlockKnown block
block_known = ind-Block BlockKnown SectionKnown block_step section_step

names_found : (body : List Block) → Each IsHeld (flat_map block_sections body) → map (λ pair. pair.0) (flat_map sections_of body) ≡ map (λ section. section.name) (flat_map block_sections body)
names_found [] each = refl
names_found (block ∷ body) each =
    map-append (λ (pair : List ℕ × ParId). pair.0) (sections_of block) (flat_map sections_of body)
    ∙ ap₂ (λ (a b : List (List ℕ)). a ++ b) (block_known block (each_front IsHeld (block_sections block) (flat_map block_sections body) each)).names (names_found body (each_rest IsHeld (block_sections block) (flat_map block_sections body) each))
    ∙ sym (map-append (λ (section : SectionHead). section.name) (block_sections block) (flat_map block_sections body))

pub section_there : (doc : Document) (name : List ℕ) → Each (λ section. section.blocks ≢ 0) (sections doc) → is_there (section_names doc) name ≡ is_some (scan.scanned doc kinds.Section name)
section_there doc [] each = refl
section_there doc (c ∷ cs) each =
    ap (list_any (λ (other : List ℕ). bytes_eq other (c ∷ cs))) (sym (names_found doc.body each))
    ∙ any_map (λ (other : List ℕ). bytes_eq other (c ∷ cs)) (λ (pair : List ℕ × ParId). pair.0) (scan.section_names doc)
    ∙ any_same (λ (pair : List ℕ × ParId). bytes_eq pair.0 (c ∷ cs)) (λ (pair : List ℕ × ParId). bytes_eq (c ∷ cs) pair.0) (λ pair. eq_turned pair.0 (c ∷ cs)) (scan.section_names doc)
    ∙ sym (found_any (λ (pair : List ℕ × ParId). bytes_eq (c ∷ cs) pair.0) (λ pair. pair.1) (scan.section_names doc))
