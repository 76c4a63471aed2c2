-- The styles of a list from one place on.
use Rattle.std.proofs.Common.{◌≡◌, ℕ, ◌+◌, ◌≤◌, Bool, true, false, List, [], ◌∷◌, ◌++◌, length, drop, zero, suc, Some, refl, ap, sym, ◌∙◌, add-one, arith}
use Rattle.std.proofs.Math.Seq.{drop-cons}
use Rattle.std.proofs.lemmas.Option.{slice_get_within, get_or_from_slice_get}
use Rattle.std.specs.List.{slice_get}
use Rattle.doc_model.specs.declared.style.Style.{Style}
use Rattle.element_text.proofs.AddedLemmas.{more}
use Rattle.spelling_model.specs.Spelling.{is_there}
use Rattle.tree_text.specs.Writing.{content_text}
use Rattle.sheet_write.specs.Parts.{is_among, style_nodes}
use Rattle.sheet_write.proofs.PartLemmas.{among-cons}

-- the style at a place, and those behind it
from_place : (styles : List Style) (at : ℕ) (style : Style) → slice_get styles at ≡ Some style → drop at styles ≡ style ∷ drop (at + 1) styles
from_place styles at style e =
    drop-cons styles at style (slice_get_within styles at style e)
    ∙ (ap (λ (first : Style). first ∷ drop (suc at) styles) (get_or_from_slice_get styles at style style e) ∙ ap (λ (n : ℕ). style ∷ drop n styles) (sym (add-one at)))

pub past_end : (styles : List Style) (at : ℕ) → length styles ≤ at → drop at styles ≡ []
past_end [] zero h = refl
past_end [] (suc at) h = refl
past_end (style ∷ styles) zero h = absurd (omega (arith, h))
past_end (style ∷ styles) (suc at) h = past_end styles at (omega (arith, h))

-- one is there
pub found : (automatic : Bool) (styles : List Style) (at : ℕ) (style : Style) → slice_get styles at ≡ Some style → is_among automatic style ≡ true → is_there (style_nodes automatic (drop at styles)) ≡ true
found automatic styles at style e is = rw (from_place styles at style e, is) refl

-- this one isn't
pub passed : (automatic : Bool) (styles : List Style) (at : ℕ) (style : Style) → slice_get styles at ≡ Some style → is_among automatic style ≡ false
    → is_there (style_nodes automatic (drop (at + 1) styles)) ≡ is_there (style_nodes automatic (drop at styles))
passed automatic styles at style e isnt = rw (from_place styles at style e, isnt) refl

-- one more is out
pub written_on : (automatic : Bool) (styles : List Style) (at : ℕ) (style : Style) (new old : List ℕ) → slice_get styles at ≡ Some style → new ≡ old ++ content_text (style_nodes automatic (style ∷ []))
    → new ++ content_text (style_nodes automatic (drop (at + 1) styles)) ≡ old ++ content_text (style_nodes automatic (drop at styles))
written_on automatic styles at style new old e is =
    more new old (content_text (style_nodes automatic (style ∷ []))) is (content_text (style_nodes automatic (drop (at + 1) styles)))
    ∙ ap (λ (t : List ℕ). old ++ t) (among-cons automatic style (drop (at + 1) styles) ∙ ap (λ (left : List Style). content_text (style_nodes automatic left)) (sym (from_place styles at style e)))
