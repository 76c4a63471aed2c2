-- Paragraphs with those of their notes.
use Rattle.std.proofs.Common.{◌≡◌, List, [], ◌∷◌, ◌++◌, map, refl, sym, ap, ap₂, ◌∙◌, append-nil}
use Rattle.std.specs.List.{flat_map}
use Rattle.std.proofs.lemmas.List.{map-append}
use Rattle.std.proofs.lemmas.List.Concat.{flat_map-append}
use Rattle.doc_model.specs.declared.block.Block.{Block, roll-Block}
use Rattle.doc_model.specs.declared.block.Block.TheOpen.{Block-F, Section-F}
use Rattle.doc_model.specs.declared.block.Block.TheFolds.{fold-roll-Block, fold-roll-Section}
use Rattle.doc_model.specs.declared.block.Block.TheViews.{roll-out-Section}
use Rattle.doc_model.specs.declared.block.Section.{Section, out-Section, roll-Section}
use Rattle.doc_model.specs.declared.paragraph.Par.{Par, out-Par}
use Rattle.doc_model.specs.declared.paragraph.Item.{Item, out-Item}
use Rattle.doc_model.specs.declared.paragraph.What.{What, out-What}
use Rattle.doc_model.specs.declared.paragraph.What.TheOpen.{What-F}
use Rattle.doc_model.specs.declared.paragraph.Note.{Note, out-Note}
use Rattle.doc_model.specs.Reading.{with_notes, note_of, block_paragraphs}
use Rattle.load_model.specs.Offences.{Counted}
use Rattle.paragraph_faults.specs.Counts.{count_of, what_counts, note_counts, block_counts}

map_flat : {X Y Z : Type 0} (f : Y → Z) (g : X → List Y) (xs : List X) → map f (flat_map g xs) ≡ flat_map (λ x. map f (g x)) xs
map_flat f g [] = refl
map_flat f g (x ∷ xs) = map-append f (g x) (flat_map g xs) ∙ ap (λ more. map f (g x) ++ more) (map_flat f g xs)

abbrev pars_of : Note → List Par
pars_of note = (out-Note note).pars

abbrev what_notes : What-F What Item Note Par → List Note
what_notes (What-F.Note note) = note ∷ []
what_notes _ = []

what_is : (what : What-F What Item Note Par) → map count_of (flat_map pars_of (what_notes what)) ≡ what_counts what
what_is (What-F.Note note) = ap (map count_of) (append-nil (pars_of note))
what_is (What-F.Char c) = refl
what_is What-F.Tab = refl
what_is What-F.Break = refl
what_is (What-F.Field field) = refl
what_is (What-F.Mark mark) = refl

notes_are : (items : List Item) → map count_of (flat_map pars_of (flat_map note_of items)) ≡ flat_map note_counts items
notes_are [] = refl
notes_are (item ∷ items) =
    ap (map count_of) (flat_map-append pars_of (note_of item) (flat_map note_of items)) ∙ map-append count_of (flat_map pars_of (note_of item)) (flat_map pars_of (flat_map note_of items))
    ∙ ap₂ (λ (here more : List Counted). here ++ more) (what_is (out-What (out-Item item).what)) (notes_are items)

-- a paragraph, and then those of its notes
pub par_counts : (par : Par) → map count_of (with_notes par) ≡ count_of par ∷ flat_map note_counts (out-Par par).items
par_counts par = ap (λ (more : List Counted). count_of par ∷ more) (notes_are (out-Par par).items)

-- blocks
flat_flat : {A B C : Type 0} (f : B → List C) (g : A → List B) (xs : List A) → flat_map f (flat_map g xs) ≡ flat_map (λ x. flat_map f (g x)) xs
flat_flat f g [] = refl
flat_flat f g (x ∷ xs) = flat_map-append f (g x) (flat_map g xs) ∙ ap (λ (behind : List _). flat_map f (g x) ++ behind) (flat_flat f g xs)

pub all_counts : (blocks : List Block) → map count_of (flat_map with_notes (flat_map block_paragraphs blocks)) ≡ flat_map block_counts blocks
all_counts blocks = ap (map count_of) (flat_flat with_notes block_paragraphs blocks) ∙ map_flat count_of (λ block. flat_map with_notes (block_paragraphs block)) blocks

joined : {X Y : Type 0} (f : X → List Y) (xs : List X) → flat_map (λ ys. ys) (map f xs) ≡ flat_map f xs
joined f [] = refl
joined f (x ∷ xs) = ap (λ more. f x ++ more) (joined f xs)

par_reads : (par : Par) → block_paragraphs (roll-Block (Block-F.Par par)) ≡ par ∷ []
par_reads par = simp fold-roll-Block

pub par_block_counts : (par : Par) → block_counts (roll-Block (Block-F.Par par)) ≡ map count_of (with_notes par)
par_block_counts par = ap (λ (pars : List Par). map count_of (flat_map with_notes pars)) (par_reads par) ∙ ap (map count_of) (append-nil (with_notes par))

section_opens : (x : Section-F Block Section) → block_paragraphs (roll-Block (Block-F.Section (roll-Section x))) ≡ flat_map (λ pars. pars) (map block_paragraphs x.blocks)
section_opens x = simp (fold-roll-Block, fold-roll-Section)

pub section_counts : (section : Section) → block_counts (roll-Block (Block-F.Section section)) ≡ flat_map block_counts (out-Section section).blocks
section_counts section =
    ap (λ (pars : List Par). map count_of (flat_map with_notes pars))
    (ap (λ (s : Section). block_paragraphs (roll-Block (Block-F.Section s))) (sym (roll-out-Section section)) ∙ section_opens (out-Section section) ∙ joined block_paragraphs (out-Section section).blocks)
    ∙ all_counts (out-Section section).blocks
