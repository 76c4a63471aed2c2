-- The numbers of paragraphs, and those in the notes of items.
use Rattle.std.proofs.Common.{◌≡◌, ℕ, ◌&&◌, Bool, true, false, cond, List, [], ◌∷◌, ◌++◌, map, replicate, refl, sym, ap, ◌∙◌, append-nil, inl, None, zero, suc}
use Rattle.std.specs.List.{flat_map, list_any}
use Rattle.std.proofs.lemmas.List.{map-append}
use Rattle.std.proofs.lemmas.Grind.{flat_map-append}
use Rattle.doc_model.specs.declared.block.Block.{Block, out-Block}
use Rattle.doc_model.specs.declared.block.Block.TheOpen.{Block-F, Section-F}
use Rattle.doc_model.specs.declared.block.Block.TheViews.{out-roll-Block}
use Rattle.doc_model.specs.declared.block.Section.{Section}
use Rattle.doc_model.specs.declared.paragraph.ListPos.{ListPos}
use Rattle.doc_model.specs.declared.paragraph.Par.{Par, out-Par, roll-Par}
use Rattle.doc_model.specs.declared.paragraph.Item.{Item}
use Rattle.doc_model.specs.declared.paragraph.What.{What}
use Rattle.doc_model.specs.declared.paragraph.What.TheOpen.{What-F, Par-F, Note-F}
use Rattle.doc_model.specs.declared.paragraph.What.TheViews.{out-roll-Par, out-roll-Note, out-roll-What}
use Rattle.doc_model.specs.declared.paragraph.Note.{Note, out-Note, roll-Note}
use Rattle.doc_model.specs.Reading.{block_paragraphs, with_notes, note_of, number_of}
use Rattle.load_model.specs.Content.{Raw, Blank, Read, item_in, is_white, raw_character, is_nearest_solid, is_solid, items_behind}
use Rattle.load_model.specs.Blocks.{as_block, empty_paragraph, or_empty, paragraphs_of, first_changed, with_place}
use Rattle.block_facts.proofs.Blocks.{par_block, section_block, of_block, par_reads, section_reads}
use Rattle.tree_places.proofs.Within.{Within, within_more, within_self, within_append, within_is, within_all}

abbrev pub Layer : Type 0
Layer = Par-F What Item Note Par

abbrev pars_of : Note → List Par
pars_of note = (out-Note note).pars

-- the numbers of a paragraph and of those in its notes
abbrev pub layer_numbers : Layer → List ℕ
layer_numbers x = x.id.0 ∷ map number_of (flat_map pars_of (flat_map note_of x.items))

abbrev par_numbers : Par → List ℕ
par_numbers par = layer_numbers (out-Par par)

-- those of blocks
abbrev pub block_numbers : Block → List ℕ
block_numbers block = map number_of (flat_map with_notes (block_paragraphs block))

abbrev pub numbers_of : List Block → List ℕ
numbers_of blocks = flat_map block_numbers blocks

two_parts : (front back : List Par) → map number_of (flat_map with_notes (front ++ back)) ≡ map number_of (flat_map with_notes front) ++ map number_of (flat_map with_notes back)
two_parts front back = ap (map number_of) (flat_map-append with_notes front back) ∙ map-append number_of (flat_map with_notes front) (flat_map with_notes back)

pub all_numbers : (blocks : List Block) → map number_of (flat_map with_notes (flat_map block_paragraphs blocks)) ≡ numbers_of blocks
all_numbers [] = refl
all_numbers (block ∷ blocks) = two_parts (block_paragraphs block) (flat_map block_paragraphs blocks) ∙ ap (λ (more : List ℕ). block_numbers block ++ more) (all_numbers blocks)

pub par_block_numbers : (par : Par) → block_numbers (par_block par) ≡ par_numbers par
par_block_numbers par = ap (λ (pars : List Par). map number_of (flat_map with_notes pars)) (par_reads par) ∙ ap (map number_of) (append-nil (with_notes par))

pub layer_block_numbers : (x : Layer) → numbers_of (par_block (roll-Par x) ∷ []) ≡ layer_numbers x
layer_block_numbers x = append-nil (block_numbers (par_block (roll-Par x))) ∙ par_block_numbers (roll-Par x) ∙ ap layer_numbers (out-roll-Par x)

pub section_block_numbers : (x : Section-F Block Section) → numbers_of (section_block x ∷ []) ≡ numbers_of x.blocks
section_block_numbers x = append-nil (block_numbers (section_block x)) ∙ ap (λ (pars : List Par). map number_of (flat_map with_notes pars)) (section_reads x) ∙ all_numbers x.blocks

-- an empty paragraph in place of none
pub empty_within : (place : ℕ) (blocks : List Block) (places : List ℕ) → Within (numbers_of blocks) places → Within (numbers_of (or_empty place blocks)) (place ∷ places)
empty_within place [] places h =
    within_is (numbers_of (as_block (empty_paragraph place) ∷ [])) (place ∷ []) (place ∷ places) (layer_block_numbers (record { id = record { 0 = place }; style = []; level = 0; list = None; items = [] })) (inl (refl, tt))
empty_within place (block ∷ blocks) places h = within_more place (numbers_of (block ∷ blocks)) places h

-- the paragraphs among blocks
abbrev par_in : Block → List Par
par_in block = of_kind (out-Block block) where
  of_kind : Block-F Block Section → List Par
  of_kind (Block-F.Par par) = par ∷ []
  of_kind (Block-F.Section section) = []

in_par : (par : Par) → par_in (par_block par) ≡ par ∷ []
in_par par = simp out-roll-Block

in_section : (x : Section-F Block Section) → par_in (section_block x) ≡ []
in_section x = simp out-roll-Block

in_block : (block : Block) → Within (map number_of (par_in block)) (block_numbers block)
in_block = of_block (λ block. Within (map number_of (par_in block)) (block_numbers block))
    (λ par. within_is (map number_of (par_in (par_block par))) (number_of par ∷ []) (block_numbers (par_block par)) (ap (map number_of) (in_par par))
    (within_all (number_of par ∷ []) (par_numbers par) (block_numbers (par_block par)) (inl (refl, tt)) (sym (par_block_numbers par))))
    (λ x known. within_is (map number_of (par_in (section_block x))) [] (block_numbers (section_block x)) (ap (map number_of) (in_section x)) tt)

pub pars_within : (blocks : List Block) → Within (map number_of (paragraphs_of blocks)) (numbers_of blocks)
pars_within [] = tt
pars_within (block ∷ blocks) =
    within_is (map number_of (par_in block ++ paragraphs_of blocks)) (map number_of (par_in block) ++ map number_of (paragraphs_of blocks)) (numbers_of (block ∷ blocks)) (map-append number_of (par_in block) (paragraphs_of blocks))
    (within_append (map number_of (par_in block)) (block_numbers block) (map number_of (paragraphs_of blocks)) (numbers_of blocks) (in_block block) (pars_within blocks))

-- blocks of which one is changed
module _ (test : Block → Bool) (change : ListPos → ListPos) where
  abbrev in_front : Block → List Block
  in_front block = map (λ par. as_block (with_place change par)) (paragraphs_of (block ∷ []))

  front_par : (par : Par) → in_front (par_block par) ≡ as_block (with_place change par) ∷ []
  front_par par = simp out-roll-Block

  front_section : (x : Section-F Block Section) → in_front (section_block x) ≡ []
  front_section x = simp out-roll-Block

  front_within : (block : Block) → Within (numbers_of (in_front block)) (block_numbers block)
  front_within = of_block (λ block. Within (numbers_of (in_front block)) (block_numbers block))
      (λ par. within_is (numbers_of (in_front (par_block par))) (par_numbers par) (block_numbers (par_block par)) (ap numbers_of (front_par par) ∙ layer_block_numbers _)
      (within_all (par_numbers par) (par_numbers par) (block_numbers (par_block par)) (within_self (par_numbers par)) (sym (par_block_numbers par))))
      (λ x known. within_is (numbers_of (in_front (section_block x))) [] (block_numbers (section_block x)) (ap numbers_of (front_section x)) tt)

  pub changed_within : (blocks : List Block) → Within (numbers_of (first_changed test change blocks)) (numbers_of blocks)
  changed_within [] = tt
  changed_within (block ∷ blocks) = by_test (test block) (changed_within blocks) where
    by_test : (b : Bool) → Within (numbers_of (first_changed test change blocks)) (numbers_of blocks) → Within (numbers_of (cond b (in_front block ++ blocks) (block ∷ first_changed test change blocks))) (numbers_of (block ∷ blocks))
    by_test true h =
        within_is (numbers_of (in_front block ++ blocks)) (numbers_of (in_front block) ++ numbers_of blocks) (numbers_of (block ∷ blocks)) (flat_map-append block_numbers (in_front block) blocks)
        (within_append (numbers_of (in_front block)) (block_numbers block) (numbers_of blocks) (numbers_of blocks) (front_within block) (within_self (numbers_of blocks)))
    by_test false h =
        within_append (block_numbers block) (block_numbers block) (numbers_of (first_changed test change blocks)) (numbers_of blocks) (within_self (block_numbers block)) h

-- the numbers in what is read in a paragraph
abbrev pub notes_in : What-F What Item Note Par → List Note
notes_in (What-F.Note note) = note ∷ []
notes_in _ = []

pub note_item : (spans : List (List ℕ)) (what : What-F What Item Note Par) → note_of (item_in spans what) ≡ notes_in what
note_item spans what = ap notes_in (out-roll-What what)

abbrev pub item_numbers : Item → List ℕ
item_numbers item = map number_of (flat_map pars_of (note_of item))

abbrev pub raw_number : Raw → List ℕ
raw_number (Blank spans) = []
raw_number (Read item) = item_numbers item

abbrev pub raw_numbers : List Raw → List ℕ
raw_numbers raws = flat_map raw_number raws

pub no_numbers : (spans : List (List ℕ)) (what : What-F What Item Note Par) → notes_in what ≡ [] → item_numbers (item_in spans what) ≡ []
no_numbers spans what e = ap (λ (notes : List Note). map number_of (flat_map pars_of notes)) (note_item spans what ∙ e)

pub note_numbers : (spans : List (List ℕ)) (x : Note-F What Item Note Par) → raw_numbers (Read (item_in spans (What-F.Note (roll-Note x))) ∷ []) ≡ map number_of x.pars
note_numbers spans x =
    append-nil (item_numbers (item_in spans (What-F.Note (roll-Note x)))) ∙ ap (λ (notes : List Note). map number_of (flat_map pars_of notes)) (note_item spans (What-F.Note (roll-Note x)))
    ∙ ap (map number_of) (append-nil (pars_of (roll-Note x))) ∙ ap (λ (y : Note-F What Item Note Par). map number_of y.pars) (out-roll-Note x)

pub none_of : (item : Item) → item_numbers item ≡ [] → (count : ℕ) → raw_numbers (map Read (replicate count item)) ≡ []
none_of item e zero = refl
none_of item e (suc count) = ap (λ (front : List ℕ). front ++ raw_numbers (map Read (replicate count item))) e ∙ none_of item e count

pub character_numbers : (spans : List (List ℕ)) (c : ℕ) → raw_number (raw_character spans c) ≡ []
character_numbers spans c = by_white (is_white c) where
  by_white : (b : Bool) → raw_number (cond b (Blank spans) (Read (item_in spans (What-F.Char c)))) ≡ []
  by_white true = refl
  by_white false = no_numbers spans (What-F.Char c) refl

-- spaces have none, so the items have those of what is read
abbrev items_numbers : List Item → List ℕ
items_numbers items = map number_of (flat_map pars_of (flat_map note_of items))

one_more : (item : Item) (items : List Item) → items_numbers (item ∷ items) ≡ item_numbers item ++ items_numbers items
one_more item items = ap (map number_of) (flat_map-append pars_of (note_of item) (flat_map note_of items)) ∙ map-append number_of (flat_map pars_of (note_of item)) (flat_map pars_of (flat_map note_of items))

pub numbers_read : (before raws : List Raw) → items_numbers (items_behind before raws) ≡ raw_numbers raws
numbers_read before [] = refl
numbers_read before (Read item ∷ after) = one_more item (items_behind (Read item ∷ before) after) ∙ ap (λ (more : List ℕ). item_numbers item ++ more) (numbers_read (Read item ∷ before) after)
numbers_read before (Blank spans ∷ after) = by_stays (is_nearest_solid before && list_any is_solid after) (numbers_read (Blank spans ∷ before) after) where
  space : Item
  space = item_in spans (What-F.Char 0x20)

  behind : List Item
  behind = items_behind (Blank spans ∷ before) after

  by_stays : (b : Bool) → items_numbers behind ≡ raw_numbers after → items_numbers (cond b (space ∷ behind) behind) ≡ raw_numbers after
  by_stays true h = one_more space behind ∙ ap (λ (front : List ℕ). front ++ items_numbers behind) (no_numbers spans (What-F.Char 0x20) refl) ∙ h
  by_stays false h = h
