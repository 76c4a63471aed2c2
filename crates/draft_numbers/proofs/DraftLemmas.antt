-- Drafts whose list places have at most ten levels.
use Rattle.std.proofs.Common.{◌≡◌, ℕ, ◌+◌, ◌==◌, List, [], ◌∷◌, ◌++◌, map, length, refl, sym, ap, ap₂, ◌∙◌, append-nil, arith, Option, Some, None}
use Rattle.std.specs.Prelude.{min}
use Rattle.std.specs.Option.{option_map}
use Rattle.std.specs.List.{flat_map, position_or_len, AllByRecursion as Each}
use Rattle.std.proofs.lemmas.List.{map-append, length-map}
use Rattle.std.proofs.lemmas.List.Concat.{flat_map-append}
use Rattle.doc_model.specs.declared.block.Block.{Block}
use Rattle.doc_model.specs.declared.document.Document.{Document}
use Rattle.doc_model.specs.declared.paragraph.ListPos.{ListPos}
use Rattle.doc_model.specs.declared.paragraph.Par.{Par, out-Par, roll-Par}
use Rattle.doc_model.specs.declared.paragraph.Item.{Item, out-Item, roll-Item}
use Rattle.doc_model.specs.declared.paragraph.What.{What, out-What, roll-What}
use Rattle.doc_model.specs.declared.paragraph.What.TheOpen.{What-F, Par-F, Note-F}
use Rattle.doc_model.specs.declared.paragraph.What.TheViews.{out-roll-Par, out-roll-Note, out-roll-What}
use Rattle.doc_model.specs.declared.paragraph.Note.{Note, out-Note, roll-Note}
use Rattle.doc_model.specs.Alike.{in_note, in_paragraph, in_block, in_document}
use Rattle.doc_model.specs.Reading.{paragraphs, number_of, with_notes, note_of, block_paragraphs}
use Rattle.load_model.specs.Blocks.{with_place}
use Rattle.load_model.specs.Loaded.{at_most_ten, numbered}
use Rattle.draft_numbers.specs.Counts.{count_of}
use Rattle.block_facts.proofs.Blocks.{par_block, section_block, of_block, par_reads, par_changes, section_reads, section_changes}

abbrev at_ten : Par → Par
at_ten = with_place at_most_ten

abbrev Layer : Type 0
Layer = Par-F What Item Note Par

-- a list place of at most ten levels has at most ten
ten_again : (list : Option ListPos) → option_map at_most_ten (option_map at_most_ten list) ≡ option_map at_most_ten list
ten_again None = refl
ten_again (Some place) = let least : min (min place.level 10) 10 ≡ min place.level 10 = omega arith in ap (λ (n : ℕ). Some (record place { level = n })) least

-- a note within a paragraph
abbrev in_what : (Par → Par) → What-F What Item Note Par → What
in_what change (What-F.Note note) = roll-What (What-F.Note (roll-Note (record (out-Note note) { pars = map change (out-Note note).pars })))
in_what change other = roll-What other

abbrev pars_of : Note → List Par
pars_of note = (out-Note note).pars

map_twice : (f g : Par → Par) → ((par : Par) → f (g par) ≡ f par) → (pars : List Par) → map f (map g pars) ≡ map f pars
map_twice f g same [] = refl
map_twice f g same (par ∷ pars) = ap₂ (λ (here : Par) (more : List Par). here ∷ more) (same par) (map_twice f g same pars)

module _ (f g : Par → Par) (same : (par : Par) → f (g par) ≡ f par) where
  what_twice : (what : What-F What Item Note Par) → in_what f (out-What (in_what g what)) ≡ in_what f what
  what_twice (What-F.Note note) =
      ap (in_what f) (out-roll-What _)
      ∙ ap (λ (layer : Note-F What Item Note Par). roll-What (What-F.Note (roll-Note (record layer { pars = map f layer.pars })))) (out-roll-Note _)
      ∙ ap (λ (pars : List Par). roll-What (What-F.Note (roll-Note (record (out-Note note) { pars = pars })))) (map_twice f g same (pars_of note))
  what_twice (What-F.Char c) = ap (in_what f) (out-roll-What _)
  what_twice What-F.Tab = ap (in_what f) (out-roll-What _)
  what_twice What-F.Break = ap (in_what f) (out-roll-What _)
  what_twice (What-F.Field field) = ap (in_what f) (out-roll-What _)
  what_twice (What-F.Mark mark) = ap (in_what f) (out-roll-What _)

  items_twice : (items : List Item) → map (in_note f) (map (in_note g) items) ≡ map (in_note f) items
  items_twice [] = refl
  items_twice (item ∷ items) =
      ap₂ (λ (here : Item) (more : List Item). here ∷ more) (ap (λ (what : What). roll-Item (record (out-Item item) { what = what })) (what_twice (out-What (out-Item item).what))) (items_twice items)

-- the paragraphs of notes, as something is told of each that doesn't change
module _ {X : Type 0} (tell : Par → X) (g : Par → Par) (same : (par : Par) → tell (g par) ≡ tell par) where
  abbrev notes_in : What-F What Item Note Par → List Note
  notes_in (What-F.Note note) = note ∷ []
  notes_in _ = []

  told : (pars : List Par) → map tell (map g pars) ≡ map tell pars
  told [] = refl
  told (par ∷ pars) = ap₂ (λ (here : X) (more : List X). here ∷ more) (same par) (told pars)

  what_told : (what : What-F What Item Note Par) → map tell (flat_map pars_of (notes_in (out-What (in_what g what)))) ≡ map tell (flat_map pars_of (notes_in what))
  what_told (What-F.Note note) =
      ap (λ (w : What-F What Item Note Par). map tell (flat_map pars_of (notes_in w))) (out-roll-What _)
      ∙ ap (λ (layer : Note-F What Item Note Par). map tell (layer.pars ++ [])) (out-roll-Note _)
      ∙ ap (map tell) (append-nil (map g (pars_of note))) ∙ told (pars_of note) ∙ sym (ap (map tell) (append-nil (pars_of note)))
  what_told (What-F.Char c) = ap (λ (w : What-F What Item Note Par). map tell (flat_map pars_of (notes_in w))) (out-roll-What _)
  what_told What-F.Tab = ap (λ (w : What-F What Item Note Par). map tell (flat_map pars_of (notes_in w))) (out-roll-What _)
  what_told What-F.Break = ap (λ (w : What-F What Item Note Par). map tell (flat_map pars_of (notes_in w))) (out-roll-What _)
  what_told (What-F.Field field) = ap (λ (w : What-F What Item Note Par). map tell (flat_map pars_of (notes_in w))) (out-roll-What _)
  what_told (What-F.Mark mark) = ap (λ (w : What-F What Item Note Par). map tell (flat_map pars_of (notes_in w))) (out-roll-What _)

  items_told : (items : List Item) → map tell (flat_map pars_of (flat_map note_of (map (in_note g) items))) ≡ map tell (flat_map pars_of (flat_map note_of items))
  items_told [] = refl
  items_told (item ∷ items) =
      ap (map tell) (flat_map-append pars_of (note_of (in_note g item)) (flat_map note_of (map (in_note g) items))) ∙ map-append tell (flat_map pars_of (note_of (in_note g item))) (flat_map pars_of (flat_map note_of (map (in_note g) items)))
      ∙ ap₂ (λ (here more : List X). here ++ more) (what_told (out-What (out-Item item).what)) (items_told items)
      ∙ sym (ap (map tell) (flat_map-append pars_of (note_of item) (flat_map note_of items)) ∙ map-append tell (flat_map pars_of (note_of item)) (flat_map pars_of (flat_map note_of items)))

-- one layer of a paragraph of at most ten levels
abbrev ten_layer : Layer → Layer
ten_layer x = record x { list = option_map at_most_ten x.list }

abbrev both_layer : Layer → Layer
both_layer x = record x { list = option_map at_most_ten x.list; items = map (in_note at_ten) x.items }

par_layer : (par : Par) → out-Par (in_paragraph at_ten par) ≡ both_layer (out-Par par)
par_layer par = out-roll-Par _ ∙ ap (λ (x : Layer). record x { items = map (in_note at_ten) x.items }) (out-roll-Par (ten_layer (out-Par par)))

abbrev number_layer : List ℕ → Layer → Layer
number_layer numbers x = record x { id = record { 0 = position_or_len (λ number. number == x.id.0) numbers + 1 }; list = option_map at_most_ten x.list }

numbered_twice : (numbers : List ℕ) (par : Par) → numbered numbers (at_ten par) ≡ numbered numbers par
numbered_twice numbers par =
    ap (λ (x : Layer). roll-Par (number_layer numbers x)) (out-roll-Par (ten_layer (out-Par par)))
    ∙ ap (λ (list : Option ListPos). roll-Par (record (number_layer numbers (out-Par par)) { list = list })) (ten_again (out-Par par).list)

changed_layer : (numbers : List ℕ) (par : Par) → in_paragraph (numbered numbers) par ≡ roll-Par (record (number_layer numbers (out-Par par)) { items = map (in_note (numbered numbers)) (out-Par par).items })
changed_layer numbers par = ap (λ (x : Layer). roll-Par (record x { items = map (in_note (numbered numbers)) x.items })) (out-roll-Par (number_layer numbers (out-Par par)))

par_twice : (numbers : List ℕ) (par : Par) → in_paragraph (numbered numbers) (in_paragraph at_ten par) ≡ in_paragraph (numbered numbers) par
par_twice numbers par =
    let x = out-Par par in
    changed_layer numbers (in_paragraph at_ten par)
    ∙ ap (λ (y : Layer). roll-Par (record (number_layer numbers y) { items = map (in_note (numbered numbers)) y.items })) (par_layer par)
    ∙ ap₂ (λ (list : Option ListPos) (items : List Item). roll-Par (record (number_layer numbers x) { list = list; items = items })) (ten_again x.list) (items_twice (numbered numbers) at_ten (numbered_twice numbers) x.items)
    ∙ sym (changed_layer numbers par)

-- blocks
abbrev Twice : List ℕ → Block → Type 0
Twice numbers block = in_block (numbered numbers) (in_block at_ten block) ≡ in_block (numbered numbers) block

each_twice : (numbers : List ℕ) (blocks : List Block) → Each (Twice numbers) blocks → map (in_block (numbered numbers)) (map (in_block at_ten) blocks) ≡ map (in_block (numbered numbers)) blocks
each_twice numbers [] known = refl
each_twice numbers (block ∷ blocks) known = ap₂ (λ (here : Block) (more : List Block). here ∷ more) known.0 (each_twice numbers blocks known.1)

block_twice : (numbers : List ℕ) (block : Block) → Twice numbers block
block_twice numbers = of_block (Twice numbers)
    (λ par. ap (in_block (numbered numbers)) (par_changes at_ten par) ∙ par_changes (numbered numbers) (in_paragraph at_ten par) ∙ ap par_block (par_twice numbers par) ∙ sym (par_changes (numbered numbers) par))
    (λ x known. ap (in_block (numbered numbers)) (section_changes at_ten x) ∙ section_changes (numbered numbers) (record x { blocks = map (in_block at_ten) x.blocks })
    ∙ ap (λ (blocks : List Block). section_block (record x { blocks = blocks })) (each_twice numbers x.blocks known) ∙ sym (section_changes (numbered numbers) x))

pub numbered_alike : (numbers : List ℕ) (draft : Document) → in_document (numbered numbers) (in_document at_ten draft) ≡ in_document (numbered numbers) draft
numbered_alike numbers draft = ap (λ (body : List Block). record draft { body = body }) (all draft.body) where
  all : (blocks : List Block) → map (in_block (numbered numbers)) (map (in_block at_ten) blocks) ≡ map (in_block (numbered numbers)) blocks
  all [] = refl
  all (block ∷ blocks) = ap₂ (λ (here : Block) (more : List Block). here ∷ more) (block_twice numbers block) (all blocks)

-- what is told of paragraphs
module _ {X : Type 0} (tell : Par → X) (of_notes : (par : Par) → tell (at_ten par) ≡ tell par) (of_pars : (par : Par) → tell (in_paragraph at_ten par) ≡ tell par) where
  par_told : (par : Par) → map tell (with_notes (in_paragraph at_ten par)) ≡ map tell (with_notes par)
  par_told par =
      ap₂ (λ (here : X) (more : List X). here ∷ more) (of_pars par)
      (ap (λ (x : Layer). map tell (flat_map pars_of (flat_map note_of x.items))) (par_layer par) ∙ items_told tell at_ten of_notes (out-Par par).items)

  abbrev Told : Block → Type 0
  Told block = map tell (flat_map with_notes (block_paragraphs (in_block at_ten block))) ≡ map tell (flat_map with_notes (block_paragraphs block))

  more_told : (front front' back back' : List Par) → map tell (flat_map with_notes front) ≡ map tell (flat_map with_notes front') → map tell (flat_map with_notes back) ≡ map tell (flat_map with_notes back')
      → map tell (flat_map with_notes (front ++ back)) ≡ map tell (flat_map with_notes (front' ++ back'))
  more_told front front' back back' e f =
      ap (map tell) (flat_map-append with_notes front back) ∙ map-append tell (flat_map with_notes front) (flat_map with_notes back) ∙ ap₂ (λ (here more : List X). here ++ more) e f
      ∙ sym (ap (map tell) (flat_map-append with_notes front' back') ∙ map-append tell (flat_map with_notes front') (flat_map with_notes back'))

  each_told : (blocks : List Block) → Each Told blocks → map tell (flat_map with_notes (flat_map block_paragraphs (map (in_block at_ten) blocks))) ≡ map tell (flat_map with_notes (flat_map block_paragraphs blocks))
  each_told [] known = refl
  each_told (block ∷ blocks) known =
      more_told (block_paragraphs (in_block at_ten block)) (block_paragraphs block) (flat_map block_paragraphs (map (in_block at_ten) blocks)) (flat_map block_paragraphs blocks) known.0 (each_told blocks known.1)

  block_told : (block : Block) → Told block
  block_told = of_block Told
      (λ par. ap (λ (b : Block). map tell (flat_map with_notes (block_paragraphs b))) (par_changes at_ten par) ∙ ap (λ (pars : List Par). map tell (flat_map with_notes pars)) (par_reads (in_paragraph at_ten par))
      ∙ more_told (in_paragraph at_ten par ∷ []) (par ∷ []) [] [] (ap (map tell) (append-nil (with_notes (in_paragraph at_ten par))) ∙ par_told par ∙ sym (ap (map tell) (append-nil (with_notes par)))) refl
      ∙ sym (ap (λ (pars : List Par). map tell (flat_map with_notes pars)) (par_reads par)))
      (λ x known. ap (λ (b : Block). map tell (flat_map with_notes (block_paragraphs b))) (section_changes at_ten x)
      ∙ ap (λ (pars : List Par). map tell (flat_map with_notes pars)) (section_reads (record x { blocks = map (in_block at_ten) x.blocks })) ∙ each_told x.blocks known
      ∙ sym (ap (λ (pars : List Par). map tell (flat_map with_notes pars)) (section_reads x)))

  pub told_alike : (draft : Document) → map tell (paragraphs (in_document at_ten draft)) ≡ map tell (paragraphs draft)
  told_alike draft = all draft.body where
    all : (blocks : List Block) → map tell (flat_map with_notes (flat_map block_paragraphs (map (in_block at_ten) blocks))) ≡ map tell (flat_map with_notes (flat_map block_paragraphs blocks))
    all [] = refl
    all (block ∷ blocks) =
        more_told (block_paragraphs (in_block at_ten block)) (block_paragraphs block) (flat_map block_paragraphs (map (in_block at_ten) blocks)) (flat_map block_paragraphs blocks) (block_told block) (all blocks)

pub numbers_alike : (draft : Document) → map number_of (paragraphs (in_document at_ten draft)) ≡ map number_of (paragraphs draft)
numbers_alike = told_alike number_of
    (λ par. ap (λ (x : Layer). x.id.0) (out-roll-Par (ten_layer (out-Par par))))
    (λ par. ap (λ (x : Layer). x.id.0) (par_layer par))

pub counts_alike : (draft : Document) → map count_of (paragraphs (in_document at_ten draft)) ≡ map count_of (paragraphs draft)
counts_alike = told_alike count_of
    (λ par. ap (λ (x : Layer). record { place = x.id.0; items = length x.items }) (out-roll-Par (ten_layer (out-Par par))))
    (λ par. ap (λ (x : Layer). record { place = x.id.0; items = length x.items }) (par_layer par) ∙ ap (λ (n : ℕ). record { place = number_of par; items = n }) (length-map (out-Par par).items (in_note at_ten)))
