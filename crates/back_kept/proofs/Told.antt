-- What is told of what is met is what is told of the things of the document.
use Rattle.std.proofs.Common.{◌≡◌, ℕ, List, [], ◌∷◌, ◌++◌, map, refl, sym, ap, ap₂, ◌∙◌, append-nil}
use Rattle.std.specs.List.{flat_map, AllByRecursion as Each}
use Rattle.std.proofs.lemmas.Grind.{flat_map-append}
use Rattle.std.proofs.lemmas.List.{map-append}
use Rattle.doc_model.specs.declared.block.Block.{Block}
use Rattle.doc_model.specs.declared.block.Block.TheOpen.{Section-F}
use Rattle.doc_model.specs.declared.block.Section.{Section}
use Rattle.doc_model.specs.declared.document.Document.{Document}
use Rattle.doc_model.specs.declared.field.Field.{Field}
use Rattle.doc_model.specs.declared.field.Field.TheVariants as fields
use Rattle.doc_model.specs.declared.paragraph.Item.{Item}
use Rattle.doc_model.specs.declared.paragraph.Mark.{Mark as DocMark}
use Rattle.doc_model.specs.declared.paragraph.Note.{Note as DocNote, out-Note}
use Rattle.doc_model.specs.declared.paragraph.Par.{Par}
use Rattle.doc_model.specs.declared.paragraph.What.{What}
use Rattle.doc_model.specs.declared.paragraph.What.TheOpen.{What-F}
use Rattle.doc_model.specs.Parts.{SectionHead, block_sections, items_of, sections, what_of}
use Rattle.doc_model.specs.Reading.{block_paragraphs, body_paragraphs}
use Rattle.block_facts.proofs.Blocks.{of_blocks, par_block, par_reads, section_block, section_reads}
use Rattle.load_model.specs.Met.{Met, MetName, Note, Reference, Sequence, Variable, Section as MetSection, named_at}
use Rattle.back_valid.proofs.Blocks.{par_sections, section_sections}
use Rattle.back_met.specs.Things.{block_things, AreMet, Counted, Headed, IsInner, IsMet, Marked, Noted, Thing, field_met, if_any, mark_at, note_items, things_in, things_of}
use Rattle.back_met.proofs.Blocks.{things_par, things_section}

-- where it is known of each thing
module _ {X : Type 0} (tell : Met → List X) (told : Thing → List X) (P : Thing → List Met → Type 0) (tells : (thing : Thing) (one : List Met) → P thing one → flat_map tell one ≡ told thing) where
  pub all_told : (things : List Thing) (met : List Met) → AreMet P things met → flat_map tell met ≡ flat_map told things
  all_told [] met e = ap (flat_map tell) e
  all_told (thing ∷ things) met are =
      ap (flat_map tell) are.2 ∙ flat_map-append tell are.0 are.1 ∙ ap₂ (λ (a b : List X). a ++ b) (tells thing are.0 are.3) (all_told things are.1 are.4)

-- what is told of sections, marks, fields and notes
pub record Tells {X : Type 0} (tell : Met → List X) (of_head : List ℕ → List X) (of_mark : ℕ → DocMark → List X) (of_field : Field → List X) (of_id : List ℕ → List X) : Type 0 where
  pub heads : (place : ℕ) (name around : List ℕ) → tell (MetSection (record { place = place; name = name; around = around })) ≡ of_head name
  pub marks : (place text : ℕ) (mark : DocMark) → tell (mark_at place text mark) ≡ of_mark text mark
  pub fields : (place : ℕ) (field : Field) → flat_map tell (field_met place field) ≡ of_field field
  pub ids : (place : ℕ) (id : List ℕ) → flat_map tell (map Note (named_at place (if_any id))) ≡ of_id id

-- of fields and notes nothing is told where nothing is told of what has a name in them
pub quiet_field : {X : Type 0} (tell : Met → List X) → ((one : MetName) → tell (Reference one) ≡ []) → ((one : MetName) → tell (Sequence one) ≡ []) → ((one : MetName) → tell (Variable one) ≡ [])
    → (place : ℕ) (field : Field) → flat_map tell (field_met place field) ≡ []
quiet_field tell no_reference no_sequence no_variable place (fields.Sequence name [] format) = ap (λ (a : List _). a ++ []) (no_sequence (record { place = place; name = name }))
quiet_field tell no_reference no_sequence no_variable place (fields.Sequence name (c ∷ cs) format) =
    ap₂ (λ (a b : List _). a ++ (b ++ [])) (no_reference (record { place = place; name = c ∷ cs })) (no_sequence (record { place = place; name = name }))
quiet_field tell no_reference no_sequence no_variable place (fields.VarSet name value) = ap (λ (a : List _). a ++ []) (no_variable (record { place = place; name = name }))
quiet_field tell no_reference no_sequence no_variable place (fields.VarGet name) = ap (λ (a : List _). a ++ []) (no_variable (record { place = place; name = name }))
quiet_field tell no_reference no_sequence no_variable place (fields.Chapter display level) = refl
quiet_field tell no_reference no_sequence no_variable place (fields.PageNumber select adjust format) = refl
quiet_field tell no_reference no_sequence no_variable place (fields.PageCount format) = refl
quiet_field tell no_reference no_sequence no_variable place (fields.BookRef name form) = refl
quiet_field tell no_reference no_sequence no_variable place (fields.SeqRef name form) = refl
quiet_field tell no_reference no_sequence no_variable place (fields.NoteRef name class form) = refl

pub quiet_id : {X : Type 0} (tell : Met → List X) → ((one : MetName) → tell (Note one) ≡ []) → (place : ℕ) (id : List ℕ) → flat_map tell (map Note (named_at place (if_any id))) ≡ []
quiet_id tell none place [] = refl
quiet_id tell none place (c ∷ cs) = ap (λ (a : List _). a ++ []) (none (record { place = place; name = c ∷ cs }))

module _ {X : Type 0} (tell : Met → List X) (of_head : List ℕ → List X) (of_mark : ℕ → DocMark → List X) (of_field : Field → List X) (of_id : List ℕ → List X) (tells : Tells tell of_head of_mark of_field of_id) where
  abbrev pub inner_told : ℕ → Thing → List X
  inner_told text (Marked mark) = of_mark text mark
  inner_told text (Counted field) = of_field field
  inner_told text (Headed name) = []
  inner_told text (Noted note) = []

  one_inner : (text : ℕ) (thing : Thing) (one : List Met) → IsInner text thing one → flat_map tell one ≡ inner_told text thing
  one_inner text (Marked mark) one is = ap (flat_map tell) is.1 ∙ append-nil (tell (mark_at is.0 text mark)) ∙ tells.marks is.0 text mark
  one_inner text (Counted field) one is = ap (flat_map tell) is.1 ∙ tells.fields is.0 field
  one_inner text (Headed name) one is = absurd is
  one_inner text (Noted note) one is = absurd is

  pub all_inner : (text : ℕ) (things : List Thing) (met : List Met) → AreMet (IsInner text) things met → flat_map tell met ≡ flat_map (inner_told text) things
  all_inner text = all_told tell (inner_told text) (IsInner text) (one_inner text)

  -- of things that aren't notes the same is told wherever they stand
  pub note_told : (note : DocNote) (one : List Met) → IsMet (Noted note) one → (text : ℕ) × (flat_map tell one ≡ of_id (out-Note note).id ++ flat_map (inner_told text) (flat_map things_of (note_items note)))
  note_told note one is = (
    is.0,
    ap (flat_map tell) is.2 ∙ flat_map-append tell (map Note (named_at is.0 (if_any (out-Note note).id))) is.1
        ∙ ap₂ (λ (a b : List X). a ++ b) (tells.ids is.0 (out-Note note).id) (all_inner is.0 (flat_map things_of (note_items note)) is.1 is.3),
  )

  pub mark_told : (mark : DocMark) (one : List Met) → IsMet (Marked mark) one → flat_map tell one ≡ of_mark 0 mark
  mark_told mark one is = ap (flat_map tell) is.1 ∙ append-nil (tell (mark_at is.0 0 mark)) ∙ tells.marks is.0 0 mark

  pub head_told : (name : List ℕ) (one : List Met) → IsMet (Headed name) one → flat_map tell one ≡ of_head name
  head_told name one is = ap (flat_map tell) is.2 ∙ append-nil (tell (MetSection (record { place = is.0; name = name; around = is.1 }))) ∙ tells.heads is.0 name is.1

  pub field_told : (field : Field) (one : List Met) → IsMet (Counted field) one → flat_map tell one ≡ of_field field
  field_told field one is = ap (flat_map tell) is.1 ∙ tells.fields is.0 field

  -- where the text of a mark is of no account
  module _ (alike : (text : ℕ) (mark : DocMark) → of_mark text mark ≡ of_mark 0 mark) where
    abbrev pub body_told : Thing → List X
    body_told (Headed name) = of_head name
    body_told (Marked mark) = of_mark 0 mark
    body_told (Counted field) = of_field field
    body_told (Noted note) = of_id (out-Note note).id ++ flat_map (inner_told 0) (flat_map things_of (note_items note))

    inner_alike : (text : ℕ) (things : List Thing) → flat_map (inner_told text) things ≡ flat_map (inner_told 0) things
    inner_alike text [] = refl
    inner_alike text (Marked mark ∷ things) = ap₂ (λ (a b : List X). a ++ b) (alike text mark) (inner_alike text things)
    inner_alike text (Counted field ∷ things) = ap (λ (more : List X). of_field field ++ more) (inner_alike text things)
    inner_alike text (Headed name ∷ things) = inner_alike text things
    inner_alike text (Noted note ∷ things) = inner_alike text things

    one_body : (thing : Thing) (one : List Met) → IsMet thing one → flat_map tell one ≡ body_told thing
    one_body (Headed name) one is = head_told name one is
    one_body (Marked mark) one is = mark_told mark one is
    one_body (Counted field) one is = field_told field one is
    one_body (Noted note) one is =
        let told = note_told note one is in
        told.1 ∙ ap (λ (more : List X). of_id (out-Note note).id ++ more) (inner_alike told.0 (flat_map things_of (note_items note)))

    pub all_body : (things : List Thing) (met : List Met) → AreMet IsMet things met → flat_map tell met ≡ flat_map body_told things
    all_body = all_told tell body_told IsMet one_body

-- of the things of blocks, those of items
module _ {X : Type 0} (told : Thing → List X) (no_head : (name : List ℕ) → told (Headed name) ≡ []) where
  abbrev AreItems : Block → Type 0
  AreItems block = flat_map told (block_things block) ≡ flat_map told (flat_map things_of (flat_map items_of (block_paragraphs block)))

  blocks_items : (blocks : List Block) → Each AreItems blocks → flat_map told (flat_map block_things blocks) ≡ flat_map told (flat_map things_of (flat_map items_of (flat_map block_paragraphs blocks)))
  blocks_items [] each = refl
  blocks_items (block ∷ blocks) each =
      let pars = block_paragraphs block in
      let more = flat_map block_paragraphs blocks in
      flat_map-append told (block_things block) (flat_map block_things blocks) ∙ ap₂ (λ (a b : List X). a ++ b) each.0 (blocks_items blocks each.1)
      ∙ sym (ap (λ (items : List Item). flat_map told (flat_map things_of items)) (flat_map-append items_of pars more)
      ∙ ap (flat_map told) (flat_map-append things_of (flat_map items_of pars) (flat_map items_of more))
      ∙ flat_map-append told (flat_map things_of (flat_map items_of pars)) (flat_map things_of (flat_map items_of more)))

  par_items : (par : Par) → AreItems (par_block par)
  par_items par =
      ap (flat_map told) (things_par par)
      ∙ sym (ap (λ (pars : List Par). flat_map told (flat_map things_of (flat_map items_of pars))) (par_reads par) ∙ ap (λ (items : List Item). flat_map told (flat_map things_of items)) (append-nil (items_of par)))

  section_items : (x : Section-F Block Section) → Each AreItems x.blocks → AreItems (section_block x)
  section_items x each =
      ap (flat_map told) (things_section x) ∙ ap (λ (front : List X). front ++ flat_map told (flat_map block_things x.blocks)) (no_head x.name) ∙ blocks_items x.blocks each
      ∙ sym (ap (λ (pars : List Par). flat_map told (flat_map things_of (flat_map items_of pars))) (section_reads x))

  pub told_items : (doc : Document) → flat_map told (flat_map block_things doc.body) ≡ flat_map told (flat_map things_of (flat_map items_of (body_paragraphs doc)))
  told_items doc = blocks_items doc.body (of_blocks AreItems par_items section_items doc.body)

-- of the things of blocks, the names of sections
abbrev pub head_in : Thing → List (List ℕ)
head_in (Headed name) = name ∷ []
head_in _ = []

items_headless : (items : List Item) → flat_map head_in (flat_map things_of items) ≡ []
items_headless [] = refl
items_headless (item ∷ items) =
    flat_map-append head_in (things_of item) (flat_map things_of items) ∙ ap₂ (λ (a b : List (List ℕ)). a ++ b) (headless (what_of item)) (items_headless items) where
      headless : (what : What-F What Item DocNote Par) → flat_map head_in (things_in what) ≡ []
      headless (What-F.Char c) = refl
      headless What-F.Tab = refl
      headless What-F.Break = refl
      headless (What-F.Field field) = refl
      headless (What-F.Note note) = refl
      headless (What-F.Mark mark) = refl

abbrev AreHeads : Block → Type 0
AreHeads block = flat_map head_in (block_things block) ≡ map (λ section. section.name) (block_sections block)

blocks_heads : (blocks : List Block) → Each AreHeads blocks → flat_map head_in (flat_map block_things blocks) ≡ map (λ section. section.name) (flat_map block_sections blocks)
blocks_heads [] each = refl
blocks_heads (block ∷ blocks) each =
    flat_map-append head_in (block_things block) (flat_map block_things blocks) ∙ ap₂ (λ (a b : List (List ℕ)). a ++ b) each.0 (blocks_heads blocks each.1)
    ∙ sym (map-append (λ (section : SectionHead). section.name) (block_sections block) (flat_map block_sections blocks))

pub told_heads : (doc : Document) → flat_map head_in (flat_map block_things doc.body) ≡ map (λ section. section.name) (sections doc)
told_heads doc =
    blocks_heads doc.body
    (of_blocks AreHeads
    (λ par. ap (flat_map head_in) (things_par par) ∙ items_headless (items_of par) ∙ sym (ap (map (λ (section : SectionHead). section.name)) (par_sections par)))
    (λ x each. ap (flat_map head_in) (things_section x) ∙ ap (λ (more : List (List ℕ)). x.name ∷ more) (blocks_heads x.blocks each) ∙ sym (ap (map (λ (section : SectionHead). section.name)) (section_sections x)))
    doc.body)
