-- Numbers are of no account where documents are alike.
use Rattle.std.proofs.Common.{◌≡◌, ◌≤◌, ℕ, List, [], ◌∷◌, map, min, refl, sym, ap, ap₂, subst, ◌∙◌, arith, Option, Some, None}
use Rattle.std.specs.List.{flat_map, AllByRecursion as Each}
use Rattle.std.specs.Option.{option_map}
use Rattle.doc_model.specs.Alike.{in_block, in_document, in_note, in_paragraph, unnumbered}
use Rattle.doc_model.specs.declared.block.Block.{Block}
use Rattle.doc_model.specs.declared.block.Block.TheOpen.{Section-F}
use Rattle.doc_model.specs.declared.block.Section.{Section}
use Rattle.doc_model.specs.declared.document.Document.{Document}
use Rattle.doc_model.specs.declared.paragraph.Item.{Item, out-Item, roll-Item}
use Rattle.doc_model.specs.declared.paragraph.ListPos.{ListPos}
use Rattle.doc_model.specs.declared.paragraph.Note.{Note, out-Note, roll-Note}
use Rattle.doc_model.specs.declared.paragraph.Par.{Par, out-Par, roll-Par}
use Rattle.doc_model.specs.declared.paragraph.What.{What, out-What}
use Rattle.doc_model.specs.declared.paragraph.What.TheOpen.{What-F}
use Rattle.doc_model.specs.declared.paragraph.What.TheViews.{out-roll-Note, out-roll-Par, out-roll-What, roll-out-Item, roll-out-What}
use Rattle.doc_model.specs.Reading.{block_paragraphs, body_paragraphs, note_of, notes_of, paragraphs, with_notes}
use Rattle.doc_model.specs.Valid.{IsNoneOrGiven, IsParagraph, IsValid}
use Rattle.block_facts.proofs.Blocks.{of_blocks, par_block, par_changes, par_reads, section_block, section_changes, section_reads}
use Rattle.load_model.specs.Blocks.{with_place}
use Rattle.load_model.specs.Content.{item_in}
use Rattle.load_model.specs.Loaded.{at_most_ten, numbered}
use Rattle.back_spans.proofs.Runs.{each_both}
use Rattle.back_text_places.specs.Bare.{unnumbered_par}
use Rattle.back_valid.proofs.Lists.{each_also, each_part}

abbrev at_ten : Par → Par
at_ten = with_place at_most_ten

item_is : (item : Item) → item_in (out-Item item).spans (out-What (out-Item item).what) ≡ item
item_is item = ap (λ (what : What). roll-Item (record (out-Item item) { what = what })) (roll-out-What (out-Item item).what) ∙ roll-out-Item item

-- two changes one after the other that come to two others
module _ (f g h k : Par → Par) (same : (par : Par) → f (g par) ≡ h (k par)) where
  pars_twice : (pars : List Par) → map f (map g pars) ≡ map h (map k pars)
  pars_twice [] = refl
  pars_twice (par ∷ pars) = ap₂ (λ (one : Par) (more : List Par). one ∷ more) (same par) (pars_twice pars)

  what_twice : (spans : List (List ℕ)) (what : What-F What Item Note Par) → in_note f (in_note g (item_in spans what)) ≡ in_note h (in_note k (item_in spans what))
  what_twice spans (What-F.Char c) = simp out-roll-What
  what_twice spans What-F.Tab = simp out-roll-What
  what_twice spans What-F.Break = simp out-roll-What
  what_twice spans (What-F.Field field) = simp out-roll-What
  what_twice spans (What-F.Mark mark) = simp out-roll-What
  what_twice spans (What-F.Note note) =
      simp (out-roll-What, out-roll-Note) (ap (λ (pars : List Par). item_in spans (What-F.Note (roll-Note (record (out-Note note) { pars = pars })))) (pars_twice (out-Note note).pars))

  items_twice : (items : List Item) → map (in_note f) (map (in_note g) items) ≡ map (in_note h) (map (in_note k) items)
  items_twice [] = refl
  items_twice (item ∷ items) =
      ap₂ (λ (one : Item) (more : List Item). one ∷ more)
      (ap (λ (one : Item). in_note f (in_note g one)) (sym (item_is item)) ∙ what_twice (out-Item item).spans (out-What (out-Item item).what) ∙ ap (λ (one : Item). in_note h (in_note k one)) (item_is item)) (items_twice items)

-- a number that is left out again
module _ (numbers : List ℕ) where
  bare_numbered : (par : Par) → unnumbered_par (numbered numbers par) ≡ at_ten (unnumbered_par par)
  bare_numbered par = simp out-roll-Par

  par_numbered : (par : Par) → in_paragraph unnumbered_par (in_paragraph (numbered numbers) par) ≡ in_paragraph at_ten (in_paragraph unnumbered_par par)
  par_numbered par =
      simp out-roll-Par (ap (λ (items : List Item). roll-Par (record (out-Par par) { id = record { 0 = 0 }; list = option_map at_most_ten (out-Par par).list; items = items }))
      (items_twice unnumbered_par (numbered numbers) at_ten unnumbered_par bare_numbered (out-Par par).items))

  abbrev IsNumbered : Block → Type 0
  IsNumbered block = in_block unnumbered_par (in_block (numbered numbers) block) ≡ in_block at_ten (in_block unnumbered_par block)

  each_numbered : (blocks : List Block) → Each IsNumbered blocks → map (in_block unnumbered_par) (map (in_block (numbered numbers)) blocks) ≡ map (in_block at_ten) (map (in_block unnumbered_par) blocks)
  each_numbered [] each = refl
  each_numbered (block ∷ blocks) each = ap₂ (λ (one : Block) (more : List Block). one ∷ more) each.0 (each_numbered blocks each.1)

  par_case : (par : Par) → IsNumbered (par_block par)
  par_case par =
      ap (in_block unnumbered_par) (par_changes (numbered numbers) par) ∙ par_changes unnumbered_par (in_paragraph (numbered numbers) par) ∙ ap par_block (par_numbered par)
      ∙ sym (ap (in_block at_ten) (par_changes unnumbered_par par) ∙ par_changes at_ten (in_paragraph unnumbered_par par))

  section_case : (x : Section-F Block Section) → Each IsNumbered x.blocks → IsNumbered (section_block x)
  section_case x each =
      ap (in_block unnumbered_par) (section_changes (numbered numbers) x) ∙ section_changes unnumbered_par (record x { blocks = map (in_block (numbered numbers)) x.blocks })
      ∙ ap (λ (blocks : List Block). section_block (record x { blocks = blocks })) (each_numbered x.blocks each)
      ∙ sym (ap (in_block at_ten) (section_changes unnumbered_par x) ∙ section_changes at_ten (record x { blocks = map (in_block unnumbered_par) x.blocks }))

  pub numbers_bare : (draft : Document) → unnumbered (in_document (numbered numbers) draft) ≡ in_document at_ten (unnumbered draft)
  numbers_bare draft = ap (λ (body : List Block). record draft { body = body }) (each_numbered draft.body (of_blocks IsNumbered par_case section_case draft.body))

-- list places of at most ten levels stay
abbrev IsAtTen : Option ListPos → Type 0
IsAtTen None = Unit {0}
IsAtTen (Some place) = place.level ≤ 10

list_stays : (list : Option ListPos) → IsAtTen list → option_map at_most_ten list ≡ list
list_stays None h = refl
list_stays (Some place) h = let least : min place.level 10 ≡ place.level = omega (arith, h) in ap (λ (n : ℕ). Some (record place { level = n })) least

abbrev HasTen : Par → Type 0
HasTen par = IsAtTen (out-Par par).list

ten_stays : (par : Par) → HasTen par → at_ten (unnumbered_par par) ≡ unnumbered_par par
ten_stays par h = simp out-roll-Par (ap (λ (list : Option ListPos). roll-Par (record (out-Par par) { id = record { 0 = 0 }; list = list })) (list_stays (out-Par par).list h))

pars_stay : (pars : List Par) → Each HasTen pars → map at_ten (map unnumbered_par pars) ≡ map unnumbered_par pars
pars_stay [] each = refl
pars_stay (par ∷ pars) each = ap₂ (λ (one : Par) (more : List Par). one ∷ more) (ten_stays par each.0) (pars_stay pars each.1)

abbrev pars_of : Note → List Par
pars_of note = (out-Note note).pars

abbrev notes_in : What-F What Item Note Par → List Note
notes_in (What-F.Note note) = note ∷ []
notes_in _ = []

what_stays : (spans : List (List ℕ)) (what : What-F What Item Note Par) → Each (λ note. Each HasTen (pars_of note)) (notes_in what)
    → in_note at_ten (in_note unnumbered_par (item_in spans what)) ≡ in_note unnumbered_par (item_in spans what)
what_stays spans (What-F.Char c) each = simp out-roll-What
what_stays spans What-F.Tab each = simp out-roll-What
what_stays spans What-F.Break each = simp out-roll-What
what_stays spans (What-F.Field field) each = simp out-roll-What
what_stays spans (What-F.Mark mark) each = simp out-roll-What
what_stays spans (What-F.Note note) each =
    simp (out-roll-What, out-roll-Note) (ap (λ (pars : List Par). item_in spans (What-F.Note (roll-Note (record (out-Note note) { pars = pars })))) (pars_stay (pars_of note) each.0))

items_stay : (items : List Item) → Each (λ item. Each (λ note. Each HasTen (pars_of note)) (note_of item)) items → map (in_note at_ten) (map (in_note unnumbered_par) items) ≡ map (in_note unnumbered_par) items
items_stay [] each = refl
items_stay (item ∷ items) each =
    ap₂ (λ (one : Item) (more : List Item). one ∷ more)
    (ap (λ (one : Item). in_note at_ten (in_note unnumbered_par one)) (sym (item_is item)) ∙ what_stays (out-Item item).spans (out-What (out-Item item).what) each.0 ∙ ap (in_note unnumbered_par) (item_is item)) (items_stay items each.1)

-- a paragraph with those of its notes
abbrev HaveTen : Par → Type 0
HaveTen par = Each HasTen (with_notes par)

par_stays : (par : Par) → HaveTen par → in_paragraph at_ten (in_paragraph unnumbered_par par) ≡ in_paragraph unnumbered_par par
par_stays par have =
    let notes = each_part HasTen pars_of (notes_of par) have.1 in
    simp out-roll-Par
    (ap₂ (λ (list : Option ListPos) (items : List Item). roll-Par (record (out-Par par) { id = record { 0 = 0 }; list = list; items = items })) (list_stays (out-Par par).list have.0)
    (items_stay (out-Par par).items (each_part (λ note. Each HasTen (pars_of note)) note_of (out-Par par).items notes)))

abbrev IsStill : Block → Type 0
IsStill block = Each HaveTen (block_paragraphs block) → in_block at_ten (in_block unnumbered_par block) ≡ in_block unnumbered_par block

each_still : (blocks : List Block) → Each IsStill blocks → Each HaveTen (flat_map block_paragraphs blocks) → map (in_block at_ten) (map (in_block unnumbered_par) blocks) ≡ map (in_block unnumbered_par) blocks
each_still [] each have = refl
each_still (block ∷ blocks) each have =
    let parts = each_both HaveTen (block_paragraphs block) (flat_map block_paragraphs blocks) have in
    ap₂ (λ (one : Block) (more : List Block). one ∷ more) (each.0 parts.0) (each_still blocks each.1 parts.1)

still_par : (par : Par) → IsStill (par_block par)
still_par par have =
    ap (in_block at_ten) (par_changes unnumbered_par par) ∙ par_changes at_ten (in_paragraph unnumbered_par par) ∙ ap par_block (par_stays par (subst (Each HaveTen) (par_reads par) have).0) ∙ sym (par_changes unnumbered_par par)

still_section : (x : Section-F Block Section) → Each IsStill x.blocks → IsStill (section_block x)
still_section x each have =
    ap (in_block at_ten) (section_changes unnumbered_par x) ∙ section_changes at_ten (record x { blocks = map (in_block unnumbered_par) x.blocks })
    ∙ ap (λ (blocks : List Block). section_block (record x { blocks = blocks })) (each_still x.blocks each (subst (Each HaveTen) (section_reads x) have)) ∙ sym (section_changes unnumbered_par x)

abbrev IsPlaceOf : Document → Option ListPos → Type 0
IsPlaceOf doc None = Unit {0}
IsPlaceOf doc (Some place) = IsNoneOrGiven (map (λ list. list.name) doc.lists) place.style × (1 ≤ place.level) × (place.level ≤ 10)

place_ten : (doc : Document) (list : Option ListPos) → IsPlaceOf doc list → IsAtTen list
place_ten doc None is = tt
place_ten doc (Some place) is = is.2

valid_ten : (doc : Document) (par : Par) → IsParagraph doc par → HasTen par
valid_ten doc par is = place_ten doc (out-Par par).list is.2

pub tens_stay : (doc : Document) → IsValid doc → in_document at_ten (unnumbered doc) ≡ unnumbered doc
tens_stay doc valid =
    ap (λ (body : List Block). record doc { body = body })
    (each_still doc.body (of_blocks IsStill still_par still_section doc.body)
    (each_part HasTen with_notes (body_paragraphs doc) (each_also (IsParagraph doc) HasTen (valid_ten doc) (paragraphs doc) valid.each_paragraph)))
