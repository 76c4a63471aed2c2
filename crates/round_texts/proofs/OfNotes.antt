-- The notes of a paragraph, one item after another.
use Rattle.std.proofs.Common.{◌≡◌, ℕ, suc, ◌+◌, ◌<◌, Bool, true, false, List, [], ◌∷◌, ◌++◌, drop, length, get_or, map, Option, refl, sym, ap, subst, ◌∙◌, arith, append_assoc, append-nil, add-one, drop-cons}
use Rattle.std.specs.Prelude.{option_to_list}
use Rattle.std.specs.List.{flat_map}
use Rattle.std.proofs.lemmas.List.Concat.{flat_map-append}
use Rattle.doc_model.specs.declared.paragraph.Par.{Par}
use Rattle.doc_model.specs.declared.paragraph.Item.{Item}
use Rattle.doc_model.specs.declared.paragraph.Note.{Note, out-Note}
use Rattle.doc_model.specs.declared.document.Document.{Document}
use Rattle.doc_model.specs.Reading.{note_of}
use Rattle.format_model.specs.Standing.{BodyPar, NoteAt, notes_from}
use Rattle.format_model.specs.Keys.{Standing, in_note, standing_in_note}
use Rattle.round_pars.specs.declared.pars.RoundPar.{RoundPar}
use Rattle.round_pars.specs.Pars.{AreRoundPars, IsRoundPar}
use Rattle.round_texts.specs.declared.notes.NoteText.{NoteText}
use Rattle.round_texts.specs.Texts.{AreNoteTexts, IsNoteText, own_notes}
use Rattle.round_texts.proofs.Parts.{pairs_split, pairs_join}

-- how many paragraphs a note has
note_count : (anchor : BodyPar) (note : NoteAt) (is_first : Bool) (pars : List Par) → length (in_note anchor note is_first pars) ≡ length pars
note_count anchor note is_first [] = refl
note_count anchor note is_first (par ∷ pars) = let rest = note_count anchor note false pars in omega (arith, rest)

-- notes of an item
abbrev notes_here : Bool → ℕ → ℕ → List Note → List NoteAt
notes_here is_shown at number notes = map (λ (note : Note). record { note = note; number = number; item = at; is_shown = is_shown }) notes

-- the note of an item, with its paragraphs
pub some_note : (doc : Document) (placed : BodyPar) (is_shown : Bool) (at number : ℕ) (notes : List Note) (note : Note) (after : List Standing) (pars own rest : List RoundPar) (text : NoteText)
    → note ∷ [] ≡ notes → own ++ rest ≡ pars → length own ≡ length (out-Note note).pars
    → text.class ≡ (out-Note note).class → text.item ≡ at → text.is_shown ≡ is_shown → text.pars.now ≡ own
    → AreRoundPars doc (flat_map (standing_in_note placed) (notes_here is_shown at number notes) ++ after) pars
    → AreNoteTexts doc placed (notes_here is_shown at number notes) (text ∷ []) × AreRoundPars doc after rest
some_note doc placed is_shown at number notes note after pars own rest text e split long class item shown own_is h =
    let here : NoteAt = record { note = note; number = number; item = at; is_shown = is_shown } in
    let ones = standing_in_note placed here in
    let first : AreRoundPars doc (flat_map (standing_in_note placed) (notes_here is_shown at number (note ∷ [])) ++ after) pars =
    subst (λ (notes : List Note). AreRoundPars doc (flat_map (standing_in_note placed) (notes_here is_shown at number notes) ++ after) pars) (sym e) h in
    let alone : AreRoundPars doc (ones ++ after) pars = subst (λ (own : List Standing). AreRoundPars doc (own ++ after) pars) (append-nil ones) first in
    let parts = pairs_split (IsRoundPar doc) ones after own rest (long ∙ sym (note_count placed here true (out-Note note).pars)) (subst (AreRoundPars doc (ones ++ after)) (sym split) alone) in
    let is : IsNoteText doc placed here text = record { class = class; item = item; is_shown = shown; pars = subst (AreRoundPars doc ones) (sym own_is) parts.0 } in
    subst (λ (notes : List Note). AreNoteTexts doc placed (notes_here is_shown at number notes) (text ∷ []) × AreRoundPars doc after rest) e ((is, tt), parts.1)

-- no note
pub no_note : (doc : Document) (placed : BodyPar) (is_shown : Bool) (at number : ℕ) (notes : List Note) (after : List Standing) (pars : List RoundPar) → [] ≡ notes
    → AreRoundPars doc (flat_map (standing_in_note placed) (notes_here is_shown at number notes) ++ after) pars
    → AreNoteTexts doc placed (notes_here is_shown at number notes) [] × AreRoundPars doc after pars
no_note doc placed is_shown at number notes after pars e h = (
  subst (λ (notes : List Note). AreNoteTexts doc placed (notes_here is_shown at number notes) []) e tt,
  subst (λ (notes : List Note). AreRoundPars doc (flat_map (standing_in_note placed) (notes_here is_shown at number notes) ++ after) pars) (sym e) h,
)

-- the notes of the items up to a place were read, and the paragraphs of the others are left
pub record NotesLeft (doc : Document) (placed : BodyPar) (after : List Standing) (items : List Item) (at : ℕ) (rest : List RoundPar) (notes : List NoteText) : Type 0 where
  pub number : ℕ
  pub left : AreRoundPars doc (flat_map (standing_in_note placed) (notes_from doc placed.par at number (drop at items)) ++ after) rest
  pub whole : (more : List NoteText) → AreNoteTexts doc placed (notes_from doc placed.par at number (drop at items)) more → AreNoteTexts doc placed (notes_from doc placed.par 0 1 items) (notes ++ more)

-- at the start
pub none_read : (doc : Document) (placed : BodyPar) (after : List Standing) (items : List Item) (rest : List RoundPar) → AreRoundPars doc (flat_map (standing_in_note placed) (notes_from doc placed.par 0 1 items) ++ after) rest → NotesLeft doc placed after items 0 rest []
none_read doc placed after items rest h = record { number = 1; left = h; whole = λ more are. are }

-- one item more
abbrev behind : Document → BodyPar → ℕ → ℕ → Item → List Item → List NoteAt
behind doc placed at number item back = notes_from doc placed.par (at + 1) (number + length (note_of item)) back

items_left : (items : List Item) (at : ℕ) (item : Item) → item ≡ get_or items at item → at < length items → drop at items ≡ item ∷ drop (at + 1) items
items_left items at item is inside = drop-cons items at item inside ∙ ap (λ (x : Item). x ∷ drop (suc at) items) (sym is) ∙ ap (λ (n : ℕ). item ∷ drop n items) (sym (add-one at))

pub left_behind : (doc : Document) (placed : BodyPar) (after : List Standing) (items : List Item) (at : ℕ) (rest : List RoundPar) (notes : List NoteText) (item : Item)
    → item ≡ get_or items at item → at < length items → (left : NotesLeft doc placed after items at rest notes)
    → AreRoundPars doc (flat_map (standing_in_note placed) (own_notes doc placed.par at left.number item) ++ (flat_map (standing_in_note placed) (behind doc placed at left.number item (drop (at + 1) items)) ++ after)) rest
left_behind doc placed after items at rest notes item is inside left =
    let own = own_notes doc placed.par at left.number item in
    let later = behind doc placed at left.number item (drop (at + 1) items) in
    let f = standing_in_note placed in
    let opened : AreRoundPars doc (flat_map f (own ++ later) ++ after) rest =
    subst (λ (back : List Item). AreRoundPars doc (flat_map f (notes_from doc placed.par at left.number back) ++ after) rest) (items_left items at item is inside) left.left in
    subst (λ (ones : List Standing). AreRoundPars doc ones rest) (ap (λ (ones : List Standing). ones ++ after) (flat_map-append f own later) ∙ append_assoc (flat_map f own) (flat_map f later) after) opened

pub one_read : (doc : Document) (placed : BodyPar) (after : List Standing) (items : List Item) (at : ℕ) (rest more : List RoundPar) (notes : List NoteText) (item : Item) (note : Option NoteText)
    → item ≡ get_or items at item → at < length items → (left : NotesLeft doc placed after items at rest notes)
    → AreNoteTexts doc placed (own_notes doc placed.par at left.number item) (option_to_list note)
    → AreRoundPars doc (flat_map (standing_in_note placed) (behind doc placed at left.number item (drop (at + 1) items)) ++ after) more
    → NotesLeft doc placed after items (at + 1) more (notes ++ option_to_list note)
one_read doc placed after items at rest more notes item note is inside left own_is left_is =
    let own = own_notes doc placed.par at left.number item in
    let later = behind doc placed at left.number item (drop (at + 1) items) in
    record {
      number = left.number + length (note_of item);
      left = left_is;
      whole = λ texts are.
          let both : AreNoteTexts doc placed (notes_from doc placed.par at left.number (drop at items)) (option_to_list note ++ texts) =
          subst (λ (back : List Item). AreNoteTexts doc placed (notes_from doc placed.par at left.number back) (option_to_list note ++ texts)) (sym (items_left items at item is inside))
          (pairs_join (IsNoteText doc placed) own later (option_to_list note) texts own_is are) in
          subst (AreNoteTexts doc placed (notes_from doc placed.par 0 1 items)) (sym (append_assoc notes (option_to_list note) texts)) (left.whole (option_to_list note ++ texts) both);
    }

-- at the end
pub all_read : (doc : Document) (placed : BodyPar) (after : List Standing) (items : List Item) (at : ℕ) (rest : List RoundPar) (notes : List NoteText) → drop at items ≡ [] → NotesLeft doc placed after items at rest notes
    → AreNoteTexts doc placed (notes_from doc placed.par 0 1 items) notes × AreRoundPars doc after rest
all_read doc placed after items at rest notes e left =
    let none : AreNoteTexts doc placed (notes_from doc placed.par at left.number (drop at items)) [] =
    subst (λ (back : List Item). AreNoteTexts doc placed (notes_from doc placed.par at left.number back) []) (sym e) tt in (
      subst (AreNoteTexts doc placed (notes_from doc placed.par 0 1 items)) (append-nil notes) (left.whole [] none),
      subst (λ (back : List Item). AreRoundPars doc (flat_map (standing_in_note placed) (notes_from doc placed.par at left.number back) ++ after) rest) e left.left,
    )
