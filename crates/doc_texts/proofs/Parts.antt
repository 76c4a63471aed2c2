-- Paragraphs in several parts.
use Rattle.std.proofs.Common.{◌≡◌, ℕ, ◌+◌, List, [], ◌∷◌, ◌++◌, length, refl, sym, ap, ◌∙◌, arith, append_assoc}
use Rattle.doc_model.specs.declared.paragraph.Note.{Note}
use Rattle.doc_model.specs.declared.list_style.ListStyle.{ListStyle}
use Rattle.field_model.specs.Gathered.{GatheredPar}
use Rattle.doc_texts.specs.Places.{PlacedPar, in_note, in_notes}
use Rattle.doc_texts.specs.Behind.{all_behind, gathered_behind}

-- paragraphs behind others, in two parts
pub all_behind-append : (lists : List ListStyle) (outline : ListStyle) (before : List GatheredPar) (front back : List PlacedPar) → all_behind lists outline before (front ++ back) ≡ all_behind lists outline (all_behind lists outline before front) back
all_behind-append lists outline before [] back = refl
all_behind-append lists outline before (one ∷ front) back = all_behind-append lists outline (gathered_behind lists outline before one ∷ before) front back

-- notes in two parts
pub in_notes-append : (number : ℕ) (front back : List Note) → in_notes number (front ++ back) ≡ in_notes number front ++ in_notes (number + length front) back
in_notes-append number [] back = let same : number ≡ number + 0 = omega arith in ap (λ n. in_notes n back) same
in_notes-append number (note ∷ front) back =
    let place : number + 1 + length front ≡ number + length (note ∷ front) = omega arith in
    ap (λ more. in_note number note ++ more) (in_notes-append (number + 1) front back)
    ∙ sym (append_assoc (in_note number note) (in_notes (number + 1) front) (in_notes (number + 1 + length front) back))
    ∙ ap (λ n. (in_note number note ++ in_notes (number + 1) front) ++ in_notes n back) place

-- notes behind others are gathered behind them
pub notes_behind : (lists : List ListStyle) (outline : ListStyle) (front own : List Note) (before : List GatheredPar) → all_behind lists outline (all_behind lists outline before (in_notes 1 front)) (in_notes (length front + 1) own) ≡ all_behind lists outline before (in_notes 1 (front ++ own))
notes_behind lists outline front own before =
    let place : length front + 1 ≡ 1 + length front = omega arith in
    ap (λ n. all_behind lists outline (all_behind lists outline before (in_notes 1 front)) (in_notes n own)) place
    ∙ sym (all_behind-append lists outline before (in_notes 1 front) (in_notes (1 + length front) own))
    ∙ ap (all_behind lists outline before) (sym (in_notes-append 1 front own))
