-- The names of a document of which a section is unwrapped.
use Rattle.std.proofs.Common.{◌≡◌, ℕ, Bool, true, false, not, cond, List, [], ◌∷◌, ◌++◌, map, take, None, refl, ap, ap₂, sym, ◌∙◌, append-nil}
use Rattle.std.specs.Prelude.{if◌then◌else◌}
use Rattle.std.specs.List.{flat_map, AllByRecursion as Each}
use Rattle.std.specs.Str.{bytes_eq}
use Rattle.std.proofs.lemmas.List.Concat.{flat_map-append}
use Rattle.std.proofs.lemmas.List.Folds.{flat_map-map}
use Rattle.doc_model.specs.declared.block.Block.{Block}
use Rattle.doc_model.specs.declared.block.Block.TheOpen.{Section-F}
use Rattle.doc_model.specs.declared.block.Section.{Section}
use Rattle.doc_model.specs.declared.document.Document.{Document}
use Rattle.doc_model.specs.declared.edit.EditOp.TheVariants.{UnwrapSection}
use Rattle.doc_model.specs.declared.paragraph.Par.{Par}
use Rattle.doc_model.specs.declared.paragraph.ParId.{ParId}
use Rattle.edit_rules.specs.Blocks.{within_block, unwrapped}
use Rattle.edit_rules.specs.Edited.{edited_document}
use Rattle.name_index.specs.declared.names.NameKind.TheVariants as kinds
use Rattle.name_index.specs.Names.{Sets}
use Rattle.name_index.specs.Scan.{section_names, names_of}
use Rattle.block_facts.proofs.Blocks.{par_block, section_block, of_blocks}
use Rattle.rows_stay_sound.proofs.Unwrapped.{left, left_par, left_section, with_blocks, body_same}
use Rattle.names_change.proofs.SectionStarts.{par_sections}
use Rattle.names_change.proofs.Lead.{Pairs, lead}
use Rattle.names_change.proofs.SectionStarts.{numbers_in, sections_in, section_numbers, section_sections}
use Rattle.names_change.proofs.ByKind.{items_same, section_sets, but, but_both, but_lead}

module _ (name : List ℕ) where
  -- what is left of a block has its paragraphs, and its sections but for those of the name
  record Sheds (block : Block) : Type 0 where
    numbers : flat_map numbers_in (left name block) ≡ numbers_in block
    sections : flat_map sections_in (left name block) ≡ but name (sections_in block)

  par_sheds : (par : Par) → Sheds (par_block par)
  par_sheds par = record {
    numbers = ap (flat_map numbers_in) (left_par name par) ∙ append-nil (numbers_in (par_block par));
    sections =
        ap (flat_map sections_in) (left_par name par) ∙ append-nil (sections_in (par_block par)) ∙ par_sections par
        ∙ sym (ap (but name) (par_sections par));
  }

  all_numbers : (blocks : List Block) → Each Sheds blocks → flat_map numbers_in (flat_map (left name) blocks) ≡ flat_map numbers_in blocks
  all_numbers [] known = refl
  all_numbers (block ∷ blocks) known =
      flat_map-append numbers_in (left name block) (flat_map (left name) blocks) ∙ ap₂ (λ (a b : List ParId). a ++ b) known.0.numbers (all_numbers blocks known.1)

  all_sections : (blocks : List Block) → Each Sheds blocks → flat_map sections_in (flat_map (left name) blocks) ≡ but name (flat_map sections_in blocks)
  all_sections [] known = refl
  all_sections (block ∷ blocks) known =
      flat_map-append sections_in (left name block) (flat_map (left name) blocks) ∙ ap₂ (λ (a b : Pairs). a ++ b) known.0.sections (all_sections blocks known.1)
      ∙ sym (but_both name (sections_in block) (flat_map sections_in blocks))

  -- the section's own name
  own_but : (own : List ℕ) (numbers : List ParId) (test : Bool) → bytes_eq own name ≡ test → but name (map (λ number. (own, number)) numbers) ≡ cond test [] (map (λ number. (own, number)) numbers)
  own_but own [] true is = refl
  own_but own [] false is = refl
  own_but own (number ∷ numbers) true is =
      ap (λ (b : Bool). cond (not b) ((own, number) ∷ but name (map (λ n. (own, n)) numbers)) (but name (map (λ n. (own, n)) numbers))) is ∙ own_but own numbers true is
  own_but own (number ∷ numbers) false is =
      ap (λ (b : Bool). cond (not b) ((own, number) ∷ but name (map (λ n. (own, n)) numbers)) (but name (map (λ n. (own, n)) numbers))) is
      ∙ ap (λ (some : Pairs). (own, number) ∷ some) (own_but own numbers false is)

  -- what is left in a section, and its own name
  abbrev inner : Section-F Block Section → List Block
  inner x = flat_map (left name) x.blocks

  abbrev own : Section-F Block Section → List ParId → Pairs
  own x numbers = map (λ number. (x.name, number)) (take 1 numbers)

  opened : (x : Section-F Block Section) (test : Bool) → bytes_eq x.name name ≡ test → left name (section_block x) ≡ (if test then inner x else section_block (with_blocks name x (inner x)) ∷ [])
  opened x test is = left_section name x ∙ ap (λ (b : Bool). if b then inner x else section_block (with_blocks name x (inner x)) ∷ []) is

  parted : (x : Section-F Block Section) (test : Bool) → bytes_eq x.name name ≡ test → but name (sections_in (section_block x)) ≡ cond test [] (own x (flat_map numbers_in x.blocks)) ++ but name (flat_map sections_in x.blocks)
  parted x test is =
      ap (but name) (section_sections x) ∙ but_both name (own x (flat_map numbers_in x.blocks)) (flat_map sections_in x.blocks)
      ∙ ap (λ (some : Pairs). some ++ but name (flat_map sections_in x.blocks)) (own_but x.name (take 1 (flat_map numbers_in x.blocks)) test is)

  sheds_by : (x : Section-F Block Section) → Each Sheds x.blocks → (test : Bool) → bytes_eq x.name name ≡ test → Sheds (section_block x)
  sheds_by x known true is = record {
    numbers = ap (flat_map numbers_in) (opened x true is) ∙ all_numbers x.blocks known ∙ sym (section_numbers x);
    sections = ap (flat_map sections_in) (opened x true is) ∙ all_sections x.blocks known ∙ sym (parted x true is);
  }
  sheds_by x known false is = record {
    numbers =
        ap (flat_map numbers_in) (opened x false is) ∙ append-nil (numbers_in (section_block (with_blocks name x (inner x)))) ∙ section_numbers (with_blocks name x (inner x))
        ∙ all_numbers x.blocks known ∙ sym (section_numbers x);
    sections =
        ap (flat_map sections_in) (opened x false is) ∙ append-nil (sections_in (section_block (with_blocks name x (inner x)))) ∙ section_sections (with_blocks name x (inner x))
        ∙ ap₂ (λ (numbers : List ParId) (some : Pairs). own x numbers ++ some) (all_numbers x.blocks known) (all_sections x.blocks known)
        ∙ sym (parted x false is);
  }

  section_sheds : (x : Section-F Block Section) → Each Sheds x.blocks → Sheds (section_block x)
  section_sheds x known = sheds_by x known (bytes_eq x.name name) refl

pub unwrapped_follow : (next : ℕ) (doc : Document) (name : List ℕ) → Sets (names_of doc) (names_of (edited_document next (UnwrapSection name) doc)) kinds.Section name None
unwrapped_follow next doc name =
    let new : Document = edited_document next (UnwrapSection name) doc in
    let sections : section_names new ≡ but name (section_names doc) =
    ap (flat_map sections_in) (flat_map-map (unwrapped name) (within_block (flat_map (unwrapped name))) doc.body)
    ∙ all_sections name doc.body (of_blocks (Sheds name) (par_sheds name) (section_sheds name) doc.body)
    in
    section_sets doc new name None (items_same doc new (body_same name doc.body)) (λ _. refl)
    (λ other. ap (λ pairs. lead other pairs) sections ∙ but_lead name other (section_names doc))
