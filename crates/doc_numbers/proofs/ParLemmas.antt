-- Paragraphs and their notes.
use Rattle.std.proofs.Common.{◌≡◌, ◌≢◌, ℕ, ◌+◌, ◌<◌, ◌==◌, false, List, [], ◌∷◌, ◌++◌, map, length, get_or, refl, sym, ap, ap₂, ◌∙◌, subst, append-nil, append_assoc, arith}
use Rattle.std.specs.Prelude.{AllPairs}
use Rattle.std.specs.List.{flat_map, list_any, position_or_len}
use Rattle.std.proofs.lemmas.Bool.{eq-eqb, ne_eqb, or_parts}
use Rattle.std.proofs.lemmas.List.{length-append, get_or_at}
use Rattle.std.proofs.lemmas.List.Sums.{position_or_len_is}
use Rattle.doc_model.specs.declared.paragraph.Par.{Par, out-Par, roll-Par}
use Rattle.doc_model.specs.declared.paragraph.Item.{Item, out-Item, roll-Item}
use Rattle.doc_model.specs.declared.paragraph.What.{What, out-What, roll-What}
use Rattle.doc_model.specs.declared.paragraph.What.TheOpen.{What-F, Par-F}
use Rattle.doc_model.specs.declared.paragraph.What.TheViews.{out-roll-Par, roll-out-Item, roll-out-What}
use Rattle.doc_model.specs.declared.paragraph.Note.{Note, out-Note}
use Rattle.doc_model.specs.Alike.{in_note, in_paragraph}
use Rattle.doc_model.specs.Reading.{with_notes, note_of, number_of, upwards}
use Rattle.load_model.specs.Loaded.{numbered}
use Rattle.doc_numbers.specs.Numbering.{Follow, with_number, note_pars, what_pars, in_what, is_note, is_note_what}
use Rattle.doc_numbers.proofs.BlockLemmas.{flat_flat}

-- a paragraph that is given a number
pub given_number : (numbers : List ℕ) (par : Par) → number_of (numbered numbers par) ≡ position_or_len (λ number. number == number_of par) numbers + 1
given_number numbers par = ap (λ (layer : Par-F What Item Note Par). layer.id.0) (out-roll-Par _)

pub numbered_as : (numbers : List ℕ) (par : Par) (number : ℕ) → number_of (numbered numbers par) ≡ number → with_number number par ≡ numbered numbers par
numbered_as numbers par number e = ap (λ (n : ℕ). with_number n par) (sym e ∙ given_number numbers par)

pub same_items : (number : ℕ) (par : Par) → (out-Par (with_number number par)).items ≡ (out-Par par).items
same_items number par = ap (λ (layer : Par-F What Item Note Par). layer.items) (out-roll-Par _)

-- the notes of items, and their paragraphs
abbrev notes_in : What-F What Item Note Par → List Note
notes_in (What-F.Note note) = note ∷ []
notes_in _ = []

pars_in : (what : What-F What Item Note Par) → flat_map (λ note. (out-Note note).pars) (notes_in what) ≡ what_pars what
pars_in (What-F.Note note) = append-nil (out-Note note).pars
pars_in (What-F.Char c) = refl
pars_in What-F.Tab = refl
pars_in What-F.Break = refl
pars_in (What-F.Field field) = refl
pars_in (What-F.Mark mark) = refl

pars_each : (items : List Item) → flat_map (λ item. flat_map (λ note. (out-Note note).pars) (note_of item)) items ≡ flat_map note_pars items
pars_each [] = refl
pars_each (item ∷ items) = ap₂ (λ (here more : List Par). here ++ more) (pars_in (out-What (out-Item item).what)) (pars_each items)

pub note_pars_are : (items : List Item) → flat_map (λ note. (out-Note note).pars) (flat_map note_of items) ≡ flat_map note_pars items
note_pars_are items = flat_flat (λ note. (out-Note note).pars) note_of items ∙ pars_each items

-- items without a note
not_note : (change : Par → Par) (what : What-F What Item Note Par) → is_note_what what ≡ false → (what_pars what ≡ []) × (in_what change what ≡ roll-What what)
not_note change (What-F.Note note) e = absurd (cc)
not_note change (What-F.Char c) e = (refl, refl)
not_note change What-F.Tab e = (refl, refl)
not_note change What-F.Break e = (refl, refl)
not_note change (What-F.Field field) e = (refl, refl)
not_note change (What-F.Mark mark) e = (refl, refl)

pub no_notes : (change : Par → Par) (items : List Item) → list_any is_note items ≡ false → (flat_map note_pars items ≡ []) × (map (in_note change) items ≡ items)
no_notes change [] e = (refl, refl)
no_notes change (item ∷ items) e =
    let parts = or_parts (is_note item) (list_any is_note items) e in
    let rest = no_notes change items parts.1 in
    let here = not_note change (out-What (out-Item item).what) parts.0 in
    let same : in_note change item ≡ item = ap (λ (what : What). roll-Item (record (out-Item item) { what = what })) (here.1 ∙ roll-out-What (out-Item item).what) ∙ roll-out-Item item in
    (ap₂ (λ (some more : List Par). some ++ more) here.0 rest.0, ap₂ (λ (one : Item) (more : List Item). one ∷ more) same rest.1)

-- a paragraph with its notes
pub counted_notes : (number : ℕ) (par : Par) → flat_map note_pars (out-Par (with_number number par)).items ≡ flat_map (λ note. (out-Note note).pars) (flat_map note_of (out-Par par).items)
counted_notes number par = ap (flat_map note_pars) (same_items number par) ∙ sym (note_pars_are (out-Par par).items)

pub par_numbered : (numbers : List ℕ) (last : ℕ) (par one : Par) (items : List Item) → one ≡ with_number (last + 1) par → Follow numbers last (with_notes par)
    → (Follow numbers (last + 1) (flat_map note_pars (out-Par one).items) → items ≡ map (in_note (numbered numbers)) (out-Par one).items)
    → roll-Par (record (out-Par one) { items = items }) ≡ in_paragraph (numbered numbers) par
par_numbered numbers last par one items is follow changed =
    let notes = flat_map (λ note. (out-Note note).pars) (flat_map note_of (out-Par par).items) in
    let head : number_of (numbered numbers par) ≡ last + 1 = cc in
    let tail : Follow numbers (last + 1) notes = cc in
    let same : one ≡ numbered numbers par = is ∙ numbered_as numbers par (last + 1) head in
    let pars : flat_map note_pars (out-Par one).items ≡ notes = ap (λ (p : Par). flat_map note_pars (out-Par p).items) is ∙ counted_notes (last + 1) par in
    let all = changed (subst (Follow numbers (last + 1)) (sym pars) tail) in
    ap (λ (list : List Item). roll-Par (record (out-Par one) { items = list })) all ∙ ap (λ (p : Par). roll-Par (record (out-Par p) { items = map (in_note (numbered numbers)) (out-Par p).items })) same

-- distinct numbers are found where they stand
only_place : (numbers : List ℕ) (at : ℕ) → AllPairs (λ number other. number ≢ other) numbers → at < length numbers → position_or_len (λ number. number == get_or numbers at 0) numbers ≡ at
only_place numbers at distinct l =
    position_or_len_is (λ number. number == get_or numbers at 0) numbers at 0 (omega (arith, l))
    (λ k before. ne_eqb (get_or numbers k 0) (get_or numbers at 0) (distinct k at 0 before l))
    (λ within. eq-eqb (get_or numbers at 0) (get_or numbers at 0) refl)

follow_behind : (before : List ℕ) (pars : List Par) → AllPairs (λ number other. number ≢ other) (before ++ map number_of pars)
    → map (λ par. number_of (numbered (before ++ map number_of pars) par)) pars ≡ upwards (length before + 1) (length pars)
follow_behind before [] distinct = refl
follow_behind before (par ∷ pars) distinct =
    let all = before ++ map number_of (par ∷ pars) in
    let there : get_or all (length before) 0 ≡ number_of par = get_or_at before (number_of par) (map number_of pars) 0 (length before) refl in
    let long : length all ≡ length before + length (map number_of (par ∷ pars)) = length-append before (map number_of (par ∷ pars)) in
    let within : length before < length all = omega (arith, long) in
    let here : number_of (numbered all par) ≡ length before + 1 =
    given_number all par ∙ ap (λ (n : ℕ). position_or_len (λ number. number == n) all + 1) (sym there) ∙ ap (λ (n : ℕ). n + 1) (only_place all (length before) distinct within) in
    let same : (before ++ number_of par ∷ []) ++ map number_of pars ≡ all = append_assoc before (number_of par ∷ []) (map number_of pars) in
    let rest = follow_behind (before ++ number_of par ∷ []) pars (subst (λ (numbers : List ℕ). AllPairs (λ number other. number ≢ other) numbers) (sym same) distinct) in
    let count : length (before ++ number_of par ∷ []) ≡ length before + 1 = length-append before (number_of par ∷ []) ∙ omega arith in
    ap₂ (λ (n : ℕ) (more : List ℕ). n ∷ more) here
    (ap (λ (numbers : List ℕ). map (λ p. number_of (numbered numbers p)) pars) (sym same) ∙ rest ∙ ap (λ (n : ℕ). upwards (n + 1) (length pars)) count)

pub distinct_follow : (pars : List Par) → AllPairs (λ number other. number ≢ other) (map number_of pars) → Follow (map number_of pars) 0 pars
distinct_follow pars distinct = follow_behind [] pars distinct
