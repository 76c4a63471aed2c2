-- The edits that leave names: what they make of a paragraph.
use Rattle.std.proofs.Common.{◌≡◌, ◌≤◌, ℕ, Bool, true, false, List, [], ◌∷◌, ◌++◌, map, take, drop, refl, ap, ap₂, sym, ◌∙◌, append_assoc, append-nil, take-append-drop, Option}
use Rattle.std.specs.Prelude.{◌==◌, if◌then◌else◌}
use Rattle.std.specs.List.{between, flat_map}
use Rattle.std.proofs.lemmas.List.Concat.{flat_map-append}
use Rattle.std.proofs.lemmas.List.Edits.{split_between}
use Rattle.doc_model.specs.declared.field.Field.{Field}
use Rattle.doc_model.specs.declared.paragraph.ListPos.{ListPos}
use Rattle.doc_model.specs.declared.paragraph.Par.{Par, out-Par, roll-Par}
use Rattle.doc_model.specs.declared.paragraph.ParId.{ParId}
use Rattle.doc_model.specs.declared.paragraph.Item.{Item, out-Item, roll-Item}
use Rattle.doc_model.specs.declared.paragraph.What.{What, roll-What}
use Rattle.doc_model.specs.declared.paragraph.Note.{Note}
use Rattle.doc_model.specs.declared.paragraph.What.TheOpen.{What-F, Par-F}
use Rattle.doc_model.specs.declared.paragraph.What.TheViews.{out-roll-Par}
use Rattle.doc_model.specs.declared.document.Document.{Document}
use Rattle.doc_model.specs.Reading.{number_of}
use Rattle.edit_rules.specs.Texts.{typed_item, spans_before, spans_of, with_text, with_spans, with_item, with_items, with_paragraph}
use Rattle.name_index.specs.Scan.{names_of}
use Rattle.names_stay.specs.Blind.{Named, IsNameless, IsBlind, KeepsNames}
use Rattle.names_stay.proofs.Stay.{names_left}

-- a change of items leaves what is told of them
abbrev LeavesTold : (List Item → List Item) → Type 0
LeavesTold change = (tell : Item → Named) (items : List Item) → IsBlind tell → flat_map tell (change items) ≡ flat_map tell items

-- items in the place of others of which the same is told
middle : (tell : Item → Named) (front some others back : List Item) → flat_map tell some ≡ flat_map tell others → flat_map tell (front ++ some ++ back) ≡ flat_map tell (front ++ others ++ back)
middle tell front some others back same =
    flat_map-append tell (front ++ some) back
    ∙ ap (λ (told : Named). told ++ flat_map tell back)
    (flat_map-append tell front some ∙ ap (λ (told : Named). flat_map tell front ++ told) same ∙ sym (flat_map-append tell front others))
    ∙ sym (flat_map-append tell (front ++ others) back)

put_in : (tell : Item → Named) (at : ℕ) (more items : List Item) → flat_map tell more ≡ [] → flat_map tell (take at items ++ more ++ drop at items) ≡ flat_map tell items
put_in tell at more items none =
    middle tell (take at items) more [] (drop at items) none ∙ ap (λ (front : List Item). flat_map tell (front ++ drop at items)) (append-nil (take at items)) ∙ ap (flat_map tell) (take-append-drop at items)

-- typed characters have no name
typed_nameless : (tab feed : Bool) (c : ℕ) → IsNameless (if tab then What-F.Tab else if feed then What-F.Break else What-F.Char c)
typed_nameless true feed c = tt
typed_nameless false true c = tt
typed_nameless false false c = tt

typed_told : (tell : Item → Named) → IsBlind tell → (spans : List (List ℕ)) (text : List ℕ) → flat_map tell (map (typed_item spans) text) ≡ []
typed_told tell blind spans [] = refl
typed_told tell blind spans (c ∷ cs) =
    ap₂ (λ (a b : Named). a ++ b) (blind.nameless spans (if c == 0x9 then What-F.Tab else if c == 0xa then What-F.Break else What-F.Char c) (typed_nameless (c == 0x9) (c == 0xa) c)) (typed_told tell blind spans cs)

text_leaves : (at : ℕ) (text : List ℕ) → LeavesTold (with_text at text)
text_leaves at text tell items blind = put_in tell at (map (typed_item (spans_before at items)) text) items (typed_told tell blind (spans_before at items) text)

field_leaves : (at : ℕ) (field : Field) → IsNameless (What-F.Field field) → LeavesTold (with_item at (What-F.Field field))
field_leaves at field none tell items blind =
    put_in tell at (roll-Item (record { spans = spans_before at items; what = roll-What (What-F.Field field) }) ∷ []) items
    (ap (λ (told : Named). told ++ []) (blind.nameless (spans_before at items) (What-F.Field field) none))

respanned_told : (tell : Item → Named) → IsBlind tell → (spans : List (List ℕ)) (items : List Item) → flat_map tell (map (λ item. roll-Item (record (out-Item item) { spans = spans })) items) ≡ flat_map tell items
respanned_told tell blind spans [] = refl
respanned_told tell blind spans (item ∷ items) = ap₂ (λ (a b : Named). a ++ b) (blind.spans item spans) (respanned_told tell blind spans items)

spans_leave : (from to : ℕ) (spans : List (List ℕ)) → from ≤ to → LeavesTold (with_spans from to spans)
spans_leave from to spans below tell items blind =
    middle tell (take from items) (map (λ item. roll-Item (record (out-Item item) { spans = spans })) (between from to items)) (between from to items) (drop to items) (respanned_told tell blind spans (between from to items))
    ∙ ap (flat_map tell) (append_assoc (take from items) (between from to items) (drop to items) ∙ sym (split_between items from to below))

-- changes of one paragraph
items_keep : (change : List Item → List Item) → LeavesTold change → KeepsNames (λ par. roll-Par (record (out-Par par) { items = change (out-Par par).items }))
items_keep change leaves = record {
  number = λ par. ap (λ (x : Par-F What Item Note Par). x.id) (out-roll-Par (record (out-Par par) { items = change (out-Par par).items }));
  items = λ tell par blind. ap (λ (x : Par-F What Item Note Par). flat_map tell x.items) (out-roll-Par (record (out-Par par) { items = change (out-Par par).items })) ∙ leaves tell (out-Par par).items blind;
}

style_keeps : (style : List ℕ) → KeepsNames (λ par. roll-Par (record (out-Par par) { style = style }))
style_keeps style = record {
  number = λ par. ap (λ (x : Par-F What Item Note Par). x.id) (out-roll-Par (record (out-Par par) { style = style }));
  items = λ tell par blind. ap (λ (x : Par-F What Item Note Par). flat_map tell x.items) (out-roll-Par (record (out-Par par) { style = style }));
}

level_keeps : (level : ℕ) → KeepsNames (λ par. roll-Par (record (out-Par par) { level = level }))
level_keeps level = record {
  number = λ par. ap (λ (x : Par-F What Item Note Par). x.id) (out-roll-Par (record (out-Par par) { level = level }));
  items = λ tell par blind. ap (λ (x : Par-F What Item Note Par). flat_map tell x.items) (out-roll-Par (record (out-Par par) { level = level }));
}

list_keeps : (list : Option ListPos) → KeepsNames (λ par. roll-Par (record (out-Par par) { list = list }))
list_keeps list = record {
  number = λ par. ap (λ (x : Par-F What Item Note Par). x.id) (out-roll-Par (record (out-Par par) { list = list }));
  items = λ tell par blind. ap (λ (x : Par-F What Item Note Par). flat_map tell x.items) (out-roll-Par (record (out-Par par) { list = list }));
}

one_number : (is : Bool) (change : Par → Par) (par : Par) → (out-Par (change par)).id ≡ (out-Par par).id → (out-Par (if is then change par else par)).id ≡ (out-Par par).id
one_number true change par same = same
one_number false change par same = refl

one_items : (is : Bool) (change : Par → Par) (tell : Item → Named) (par : Par) → flat_map tell (out-Par (change par)).items ≡ flat_map tell (out-Par par).items → flat_map tell (out-Par (if is then change par else par)).items ≡ flat_map tell (out-Par par).items
one_items true change tell par same = same
one_items false change tell par same = refl

one_keeps : (number : ℕ) (change : Par → Par) → KeepsNames change → KeepsNames (λ par. if number_of par == number then change par else par)
one_keeps number change keeps = record {
  number = λ par. one_number (number_of par == number) change par (keeps.number par);
  items = λ tell par blind. one_items (number_of par == number) change tell par (keeps.items tell par blind);
}

-- the edits
pub text_stays : (next : ℕ) (doc : Document) (par : ParId) (at : ℕ) (text : List ℕ) → names_of (with_items par.0 (with_text at text) doc) ≡ names_of doc
text_stays next doc par at text = names_left _ (one_keeps par.0 _ (items_keep (with_text at text) (text_leaves at text))) doc

pub span_stays : (next : ℕ) (doc : Document) (par : ParId) (from to : ℕ) (style : List ℕ) → from ≤ to → names_of (with_items par.0 (with_spans from to (spans_of style)) doc) ≡ names_of doc
span_stays next doc par from to style below = names_left _ (one_keeps par.0 _ (items_keep (with_spans from to (spans_of style)) (spans_leave from to (spans_of style) below))) doc

pub field_stays : (next : ℕ) (doc : Document) (par : ParId) (at : ℕ) (field : Field) → IsNameless (What-F.Field field) → names_of (with_items par.0 (with_item at (What-F.Field field)) doc) ≡ names_of doc
field_stays next doc par at field none = names_left _ (one_keeps par.0 _ (items_keep (with_item at (What-F.Field field)) (field_leaves at field none))) doc

pub style_stays : (next : ℕ) (doc : Document) (par : ParId) (style : List ℕ) → names_of (with_paragraph par.0 (λ old. roll-Par (record (out-Par old) { style = style })) doc) ≡ names_of doc
style_stays next doc par style = names_left _ (one_keeps par.0 _ (style_keeps style)) doc

pub heading_stays : (next : ℕ) (doc : Document) (par : ParId) (level : ℕ) → names_of (with_paragraph par.0 (λ old. roll-Par (record (out-Par old) { level = level })) doc) ≡ names_of doc
heading_stays next doc par level = names_left _ (one_keeps par.0 _ (level_keeps level)) doc

pub list_stays : (next : ℕ) (doc : Document) (par : ParId) (list : Option ListPos) → names_of (with_paragraph par.0 (λ old. roll-Par (record (out-Par old) { list = list })) doc) ≡ names_of doc
list_stays next doc par list = names_left _ (one_keeps par.0 _ (list_keeps list)) doc
