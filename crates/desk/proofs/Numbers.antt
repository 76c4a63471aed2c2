-- The paragraph numbers of a plain document are 1 to the count of its blocks.
use Rattle.std.proofs.Common.{◌≡◌, ℕ, ◌+◌, ◌≤◌, List, [], ◌∷◌, length, refl, ap, sym, ◌∙◌, subst, arith, zero, suc}
use Rattle.std.specs.Prelude.{map, fold, max}
use Rattle.doc_model.specs.declared.paragraph.Par.{Par}
use Rattle.doc_model.specs.declared.document.Document.{Document}
use Rattle.doc_model.specs.Reading.{paragraphs, number_of, upwards}
use Rattle.doc_model.specs.Plain.{IsPlain, plain_document, plain_blocks}
use Rattle.doc_model.specs.Valid.{IsValid}
use Rattle.plain_doc.proofs.Parts.{paragraphs-plain}
use Rattle.plain_doc.proofs.Valid.{numbers-plain, measure-paragraphs, ArePlainTexts-valid}
use Rattle.round_model.specs.Stops.{paragraph_count}

fold_max-upwards : (most first count : ℕ) → most + 1 ≡ first → fold max most (upwards first count) ≡ most + count
fold_max-upwards most first zero e = omega arith
fold_max-upwards most first (suc count) e =
    let greater : max most first ≡ first = omega arith in
    ap (λ (n : ℕ). fold max n (upwards (first + 1) count)) greater ∙ fold_max-upwards first (first + 1) count refl ∙ omega arith

length-blocks : (number : ℕ) (texts : List (List ℕ)) → length (plain_blocks number texts) ≡ length texts
length-blocks number [] = refl
length-blocks number (text ∷ texts) = ap suc (length-blocks (number + 1) texts)

length-body : (texts : List (List ℕ)) → length (plain_document texts).body ≡ length texts
unfolding plain_document
length-body texts = length-blocks 1 texts

greatest_number : (texts : List (List ℕ)) → fold max 0 (map number_of (paragraphs (plain_document texts))) ≡ length texts
greatest_number texts =
    ap (λ (pars : List Par). fold max 0 (map number_of pars)) (paragraphs-plain texts)
    ∙ ap (λ (numbers : List ℕ). fold max 0 numbers) (numbers-plain 1 texts)
    ∙ fold_max-upwards 0 1 (length texts) refl
    ∙ omega arith

-- the greatest number is the count of blocks
pub greatest_number-plain : (doc : Document) → IsPlain doc → fold max 0 (map number_of (paragraphs doc)) ≡ length doc.body
greatest_number-plain doc plain =
    let texts = plain.0 in
    ap (λ (d : Document). fold max 0 (map number_of (paragraphs d))) plain.1.alone
    ∙ greatest_number texts
    ∙ sym (ap (λ (d : Document). length d.body) plain.1.alone ∙ length-body texts)

-- there are few blocks
pub length_body-bound : (doc : Document) → IsPlain doc → length doc.body ≤ 65536
length_body-bound doc plain =
    let texts = plain.0 in
    let few : length texts ≤ 65536 = (ArePlainTexts-valid texts (subst IsValid plain.1.alone plain.1.valid)).paragraphs in
    omega (arith, few, ap (λ (d : Document). length d.body) plain.1.alone, length-body texts)

-- a plain document's paragraphs are numbered by their count
numbers_by_count : (doc : Document) → IsPlain doc → map number_of (paragraphs doc) ≡ upwards 1 (paragraph_count doc)
numbers_by_count doc plain =
    ap (λ (d : Document). map number_of (paragraphs d)) plain.1.alone
    ∙ ap (λ (pars : List Par). map number_of pars) (paragraphs-plain plain.0)
    ∙ numbers-plain 1 plain.0
    ∙ ap (upwards 1) (sym (ap (λ (d : Document). length (paragraphs d)) plain.1.alone ∙ measure-paragraphs plain.0))

-- plain documents of as many paragraphs have the same numbers
pub same_numbers : (old new : Document) → IsPlain old → IsPlain new → paragraph_count new ≡ paragraph_count old → map number_of (paragraphs old) ≡ map number_of (paragraphs new)
same_numbers old new plain plain' count = numbers_by_count old plain ∙ ap (upwards 1) (sym count) ∙ sym (numbers_by_count new plain')
