-- Edits of plain documents, by the texts of their paragraphs.
use Rattle.std.proofs.Common.{◌≡◌, ◌≢◌, ℕ, ◌+◌, ◌-◌, ◌≤◌, ◌<◌, Bool, true, false, cond, List, [], ◌∷◌, ◌++◌, length, take, drop, refl, ap, sym, ◌∙◌, subst, arith, get_or, inl, inr, zero, suc, Option, Some, None}
use Rattle.std.specs.Prelude.{map, find, if◌then◌else◌, ◌==◌, filter, fold, max, nat_lt, sum_by}
use Rattle.std.specs.List.{AllByRecursion as Each, flat_map, between, splice, remove_range}
use Rattle.std.specs.Option.{option_map, option_map_or}
use Rattle.std.proofs.lemmas.List.{append-nil, map-append}
use Rattle.std.proofs.lemmas.Bool.{eqb-true}
use Rattle.std.proofs.lemmas.Bool.Decides.{eqb_tells}
use Rattle.std.specs.List.{take-map, drop-map}
use Rattle.std.proofs.Common.{append_assoc}
use Rattle.doc_model.specs.declared.paragraph.Item.{out-Item}
use Rattle.doc_model.specs.declared.paragraph.What.TheViews.{out-roll-Item, out-roll-What, out-roll-Par}
use Rattle.doc_model.specs.declared.paragraph.What.TheOpen.{Par-F}
use Rattle.doc_model.specs.declared.paragraph.What.{What}
use Rattle.doc_model.specs.declared.paragraph.Item.{Item}
use Rattle.doc_model.specs.declared.paragraph.Note.{Note}
use Rattle.doc_model.specs.declared.paragraph.Par.{Par, out-Par, roll-Par}
use Rattle.doc_model.specs.declared.paragraph.ParId.{ParId}
use Rattle.doc_model.specs.declared.block.Block.{Block, roll-Block}
use Rattle.doc_model.specs.declared.block.Block.TheOpen.{Block-F}
use Rattle.doc_model.specs.declared.block.Block.TheFolds.{fold-roll-Block}
use Rattle.doc_model.specs.declared.document.Document.{Document}
use Rattle.doc_model.specs.Reading.{paragraphs, number_of}
use Rattle.doc_model.specs.Parts.{items_of, is_mark}
use Rattle.doc_model.specs.Alike.{in_note, in_paragraph, in_block, in_document}
use Rattle.edit_model.specs.Edit.{with_items, live_paragraph, item_count, with_text, without_range, spans_before, typed_item}
use Rattle.doc_model.specs.Chars.{IsPlainChar}
use Rattle.doc_model.specs.Plain.{plain_document, plain_blocks, plain_item, plain_paragraph}
use Rattle.plain_doc.specs.PlainParts.{plain_pars, with_changed, text_numbered}
use Rattle.plain_doc.proofs.Parts.{paragraphs-plain, items_of-plain_paragraph, number_of-plain_paragraph}

-- the change of the items of one paragraph
abbrev pub change_of : ℕ → (List Item → List Item) → Par → Par
change_of number change par = if number_of par == number then roll-Par (record (out-Par par) { items = change (out-Par par).items }) else par

in_note-plain : (change : Par → Par) (text : List ℕ) → map (in_note change) (map plain_item text) ≡ map plain_item text
in_note-plain change [] = refl
in_note-plain change (c ∷ cs) = simp (out-roll-What, in_note-plain change cs)

-- a plain paragraph with the items of another text
pub repar : (number : ℕ) (text new : List ℕ) → roll-Par (record (out-Par (plain_paragraph number text)) { items = map plain_item new }) ≡ plain_paragraph number new
repar number text new = ap (λ (layer : Par-F What Item Note Par). roll-Par (record layer { items = map plain_item new })) (out-roll-Par _)

-- a paragraph that a change leaves plain has no note to change
in_paragraph-becomes : (change : Par → Par) (number : ℕ) (text new : List ℕ) → change (plain_paragraph number text) ≡ plain_paragraph number new
    → in_paragraph change (plain_paragraph number text) ≡ plain_paragraph number new
in_paragraph-becomes change number text new becomes =
    ap (λ (par : Par). roll-Par (record (out-Par par) { items = map (in_note change) (out-Par par).items })) becomes
    ∙ ap (λ (layer : Par-F What Item Note Par). roll-Par (record layer { items = map (in_note change) layer.items })) (out-roll-Par _)
    ∙ ap (λ (items : List Item). roll-Par (record { id = record { 0 = number }; style = []; level = 0; list = None; items = items })) (in_note-plain change new)

either : (b : Bool) (changed : Par) (here : ℕ) (text new : List ℕ) → changed ≡ plain_paragraph here new
    → (if b then changed else plain_paragraph here text) ≡ plain_paragraph here (if b then new else text)
either true changed here text new e = e
either false changed here text new e = refl

change_of-plain : (number : ℕ) (change : List Item → List Item) (new : List ℕ → List ℕ) → ((text : List ℕ) → change (map plain_item text) ≡ map plain_item (new text))
    → (here : ℕ) (text : List ℕ) → change_of number change (plain_paragraph here text) ≡ plain_paragraph here (if here == number then new text else text)
change_of-plain number change new commutes here text =
    let changed : Par = roll-Par (record (out-Par (plain_paragraph here text)) { items = change (out-Par (plain_paragraph here text)).items }) in
    let becomes : changed ≡ plain_paragraph here (new text) =
    ap (λ (layer : Par-F What Item Note Par). roll-Par (record layer { items = change layer.items })) (out-roll-Par _)
    ∙ ap (λ (items : List Item). roll-Par (record { id = record { 0 = here }; style = []; level = 0; list = None; items = items })) (commutes text)
    in ap (λ (n : ℕ). if n == number then changed else plain_paragraph here text) (number_of-plain_paragraph here text)
    ∙ either (here == number) changed here text (new text) becomes

pub in_block-plain : (number : ℕ) (change : List Item → List Item) (new : List ℕ → List ℕ) → ((text : List ℕ) → change (map plain_item text) ≡ map plain_item (new text))
    → (here : ℕ) (text : List ℕ) → in_block (change_of number change) (roll-Block (Block-F.Par (plain_paragraph here text)))
    ≡ roll-Block (Block-F.Par (plain_paragraph here (if here == number then new text else text)))
in_block-plain number change new commutes here text =
    simp fold-roll-Block (ap (λ (par : Par). roll-Block (Block-F.Par par))
    (in_paragraph-becomes (change_of number change) here text (if here == number then new text else text) (change_of-plain number change new commutes here text)))

blocks-plain : (number : ℕ) (change : List Item → List Item) (new : List ℕ → List ℕ) → ((text : List ℕ) → change (map plain_item text) ≡ map plain_item (new text))
    → (here : ℕ) (texts : List (List ℕ)) → map (in_block (change_of number change)) (plain_blocks here texts) ≡ plain_blocks here (with_changed number new here texts)
blocks-plain number change new commutes here [] = refl
blocks-plain number change new commutes here (text ∷ texts) =
    ap (λ (block : Block). block ∷ map (in_block (change_of number change)) (plain_blocks (here + 1) texts)) (in_block-plain number change new commutes here text)
    ∙ ap (λ (blocks : List Block). roll-Block (Block-F.Par (plain_paragraph here (if here == number then new text else text))) ∷ blocks) (blocks-plain number change new commutes (here + 1) texts)

pub with_items-plain : (number : ℕ) (change : List Item → List Item) (new : List ℕ → List ℕ) → ((text : List ℕ) → change (map plain_item text) ≡ map plain_item (new text))
    → (texts : List (List ℕ)) → with_items number change (plain_document texts) ≡ plain_document (with_changed number new 1 texts)
unfolding plain_document
with_items-plain number change new commutes texts = ap (λ (body : List Block). record (plain_document texts) { body = body }) (blocks-plain number change new commutes 1 texts)

live_case : (number here : ℕ) (text : List ℕ) (found : Option Par) (more : Option (List ℕ)) (b : Bool) → (here == number) ≡ b → found ≡ option_map (plain_paragraph number) more
    → cond b (Some (plain_paragraph here text)) found ≡ option_map (plain_paragraph number) (if b then Some text else more)
live_case number here text found more true is e = ap (λ (n : ℕ). Some (plain_paragraph n text)) (eqb-true here number is)
live_case number here text found more false is e = e

-- the live paragraph of a number
live_in : (number here : ℕ) (texts : List (List ℕ)) → find (λ (other : Par). number_of other == number) (plain_pars here texts) ≡ option_map (plain_paragraph number) (text_numbered number here texts)
live_in number here [] = refl
live_in number here (text ∷ texts) =
    ap (λ (n : ℕ). cond (n == number) (Some (plain_paragraph here text)) (find (λ (other : Par). number_of other == number) (plain_pars (here + 1) texts))) (number_of-plain_paragraph here text)
    ∙ live_case number here text (find (λ (other : Par). number_of other == number) (plain_pars (here + 1) texts)) (text_numbered number (here + 1) texts) (here == number) refl (live_in number (here + 1) texts)

pub live_paragraph-plain : (texts : List (List ℕ)) (par : ParId) → live_paragraph (plain_document texts) par ≡ option_map (plain_paragraph par.0) (text_numbered par.0 1 texts)
live_paragraph-plain texts par = ap (λ (pars : List Par). find (λ (other : Par). number_of other == par.0) pars) (paragraphs-plain texts) ∙ live_in par.0 1 texts

no_spans : (text : List ℕ) → flat_map (λ (item : Item). (out-Item item).spans) (map plain_item text) ≡ []
no_spans [] = refl
no_spans (c ∷ cs) = no_spans cs

spans_before-plain : (at : ℕ) (text : List ℕ) → spans_before at (map plain_item text) ≡ []
spans_before-plain zero text = refl
spans_before-plain (suc at) text =
    ap (λ (items : List Item). flat_map (λ (item : Item). (out-Item item).spans) (take (at + 1 - at) items)) (drop-map plain_item at text)
    ∙ ap (λ (items : List Item). flat_map (λ (item : Item). (out-Item item).spans) items) (take-map plain_item (at + 1 - at) (drop at text))
    ∙ no_spans (take (at + 1 - at) (drop at text))

neq-eqb : (a b : ℕ) → (a ≡ b → ⊥) → (a == b) ≡ false
neq-eqb a b apart = elim (eqb_tells a b) [ inl e ↦ absurd (apart e.1) | inr e ↦ e.0 ]

typed-plain_one : (c : ℕ) → IsPlainChar c → typed_item [] c ≡ plain_item c
typed-plain_one c plain =
    let no_tab : (c == 0x9) ≡ false = neq-eqb c 0x9 (λ e. absurd (omega (arith, e, plain.0))) in
    let no_break : (c == 0xa) ≡ false = neq-eqb c 0xa (λ e. absurd (omega (arith, e, plain.0))) in
    rw (no_tab, no_break) refl

typed-plain : (spans : List (List ℕ)) → spans ≡ [] → (new : List ℕ) → Each IsPlainChar new → map (typed_item spans) new ≡ map plain_item new
typed-plain spans none [] plain = refl
typed-plain spans none (c ∷ cs) plain =
    ap (λ (items : List Item). typed_item spans c ∷ items) (typed-plain spans none cs plain.1)
    ∙ ap (λ (item : Item). item ∷ map plain_item cs) (ap (λ (ss : List (List ℕ)). typed_item ss c) none ∙ typed-plain_one c plain.0)

no_marks : (text : List ℕ) → filter is_mark (map plain_item text) ≡ []
no_marks [] = refl
no_marks (c ∷ cs) = simp (out-roll-What, no_marks cs)

-- inserted and deleted text
pub with_text-plain : (at : ℕ) (new text : List ℕ) → Each IsPlainChar new → with_text at new (map plain_item text) ≡ map plain_item (splice text at at new)
with_text-plain at new text plain =
    ap (λ (items : List Item). take at (map plain_item text) ++ items ++ drop at (map plain_item text)) (typed-plain (spans_before at (map plain_item text)) (spans_before-plain at text) new plain)
    ∙ ap (λ (items : List Item). items ++ map plain_item new ++ drop at (map plain_item text)) (take-map plain_item at text)
    ∙ ap (λ (items : List Item). map plain_item (take at text) ++ map plain_item new ++ items) (drop-map plain_item at text)
    ∙ append_assoc (map plain_item (take at text)) (map plain_item new) (map plain_item (drop at text))
    ∙ ap (λ (items : List Item). map plain_item (take at text) ++ items) (sym (map-append plain_item new (drop at text)))
    ∙ sym (map-append plain_item (take at text) (new ++ drop at text))

pub without_range-plain : (from to : ℕ) (text : List ℕ) → without_range from to (map plain_item text) ≡ map plain_item (remove_range text from to)
without_range-plain from to text =
    ap (λ (items : List Item). take from (map plain_item text) ++ filter is_mark items ++ drop to (map plain_item text)) (ap (λ (items : List Item). take (to - from) items) (drop-map plain_item from text) ∙ take-map plain_item (to - from) (drop from text))
    ∙ ap (λ (items : List Item). take from (map plain_item text) ++ items ++ drop to (map plain_item text)) (no_marks (take (to - from) (drop from text)))
    ∙ ap (λ (items : List Item). items ++ drop to (map plain_item text)) (append-nil (take from (map plain_item text)) ∙ take-map plain_item from text)
    ∙ ap (λ (items : List Item). map plain_item (take from text) ++ items) (drop-map plain_item to text)
    ∙ sym (map-append plain_item (take from text) (drop to text))
