-- What is left out in several places.
use Rattle.std.proofs.Common.{◌≡◌, ℕ, ◌+◌, List, [], ◌∷◌, ◌++◌, map, fold, refl, sym, ap, ap₂, ◌∙◌, arith}
use Rattle.load_model.specs.Left.{Left, both, nothing, all_of}

abbrev of_counts : ℕ → ℕ → Left
of_counts elements attributes = record { elements = elements; attributes = attributes }

pub left_same : (one other : Left) → one.elements ≡ other.elements → one.attributes ≡ other.attributes → one ≡ other
left_same one other e a = ap₂ of_counts e a

pub both_assoc : (one two three : Left) → both (both one two) three ≡ both one (both two three)
both_assoc one two three = left_same (both (both one two) three) (both one (both two three)) (omega arith) (omega arith)

pub both_none : (left : Left) → both left nothing ≡ left
both_none left = left_same (both left nothing) left (omega arith) (omega arith)

pub none_both : (left : Left) → both nothing left ≡ left
none_both left = left_same (both nothing left) left (omega arith) (omega arith)

fold_from : (one two : Left) (lefts : List Left) → fold both (both one two) lefts ≡ both one (fold both two lefts)
fold_from one two [] = refl
fold_from one two (left ∷ lefts) = ap (λ (total : Left). fold both total lefts) (both_assoc one two left) ∙ fold_from one (both two left) lefts

pub all_first : (left : Left) (lefts : List Left) → all_of (left ∷ lefts) ≡ both left (all_of lefts)
all_first left lefts =
    ap (λ (total : Left). fold both total lefts) (none_both left ∙ sym (both_none left)) ∙ fold_from left nothing lefts

pub all_joined : (lefts more : List Left) → all_of (lefts ++ more) ≡ both (all_of lefts) (all_of more)
all_joined [] more = sym (none_both (all_of more))
all_joined (left ∷ lefts) more =
    all_first left (lefts ++ more) ∙ ap (both left) (all_joined lefts more) ∙ sym (both_assoc left (all_of lefts) (all_of more))
    ∙ ap (λ (front : Left). both front (all_of more)) (sym (all_first left lefts))
