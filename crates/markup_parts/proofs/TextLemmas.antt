-- Reading a text that is given.
use Rattle.std.proofs.Common.{◌≡◌, ℕ, List, [], ◌∷◌, ◌++◌, length, refl, ap, sym, ◌∙◌, arith, append_assoc, Option, Some, None}
use Rattle.std.proofs.lemmas.List.{append-nil, append_cancel_left, length-append}
use Rattle.markup_parts.specs.Constructs.{IsText}
use Rattle.markup_parts.specs.Outcomes.{IsRead, IsUnfinished, IsBroken}

-- one more character behind a front
pub one_more : (text front rest behind : List ℕ) (c : ℕ) → text ≡ front ++ rest → rest ≡ c ∷ behind → text ≡ (front ++ c ∷ []) ++ behind
one_more text front rest behind c parts first = parts ∙ (ap (λ (t : List ℕ). front ++ t) first ∙ sym (append_assoc front (c ∷ []) behind))

-- nothing more behind a front
pub no_more : (text front rest : List ℕ) → text ≡ front ++ rest → rest ≡ [] → text ≡ front
no_more text front rest parts ended = parts ∙ (ap (λ (t : List ℕ). front ++ t) ended ∙ append-nil front)

text_only : (wanted text rest : List ℕ) → text ≡ wanted ++ rest → (more : List ℕ) (other : Option (Unit {0})) (behind : List ℕ)
    → IsText wanted (text ++ more) other behind → (other ≡ Some tt) × (behind ≡ rest ++ more)
text_only wanted text rest e more None behind h = absurd h
text_only wanted text rest e more (Some unit) behind h =
    (refl, append_cancel_left wanted behind (rest ++ more) (sym h ∙ (ap (λ (t : List ℕ). t ++ more) e ∙ append_assoc wanted rest more)))

pub text_read : (wanted text rest : List ℕ) → text ≡ wanted ++ rest → IsRead (IsText wanted) text tt rest
text_read wanted text rest e = record {
  is = λ more. ap (λ (t : List ℕ). t ++ more) e ∙ append_assoc wanted rest more;
  only = text_only wanted text rest e;
}

longer : (front tail after : List ℕ) (c : ℕ) → front ≡ (front ++ c ∷ tail) ++ after → ⊥
longer front tail after c e = absurd (omega (arith, ap length e, length-append (front ++ c ∷ tail) after, length-append front (c ∷ tail)))

cut_none : (wanted text front left : List ℕ) (c : ℕ) → text ≡ front → wanted ≡ front ++ c ∷ left → (value : Option (Unit {0})) (after : List ℕ) → IsText wanted text value after → ⊥
cut_none wanted text front left c ended w None after h = h
cut_none wanted text front left c ended w (Some unit) after h = longer front left after c (sym ended ∙ (h ∙ ap (λ (t : List ℕ). t ++ after) w))

pub text_cut : (wanted text front left : List ℕ) (c : ℕ) → text ≡ front → wanted ≡ front ++ c ∷ left → IsUnfinished (IsText wanted) text
text_cut wanted text front left c ended w = record {
  none = cut_none wanted text front left c ended w;
  more = c ∷ left;
  value = Some tt;
  whole = λ after.
      ap (λ (t : List ℕ). t ++ ((c ∷ left) ++ after)) ended
      ∙ (sym (append_assoc front (c ∷ left) after) ∙ ap (λ (t : List ℕ). t ++ after) (sym w));
}

broken_some : (wanted text front left behind : List ℕ) (c d : ℕ) → text ≡ front ++ d ∷ behind → wanted ≡ front ++ c ∷ left → (d ≡ c → ⊥)
    → (more : List ℕ) (other : Option (Unit {0})) (after : List ℕ) → IsText wanted (text ++ more) other after → ⊥
broken_some wanted text front left behind c d t w apart more None after h = h
broken_some wanted text front left behind c d t w apart more (Some unit) after h =
    let e : front ++ (d ∷ (behind ++ more)) ≡ front ++ (c ∷ (left ++ after)) =
    sym (append_assoc front (d ∷ behind) more) ∙ (sym (ap (λ (x : List ℕ). x ++ more) t) ∙ (h ∙ (ap (λ (x : List ℕ). x ++ after) w ∙ append_assoc front (c ∷ left) after))) in
    let tails = append_cancel_left front (d ∷ (behind ++ more)) (c ∷ (left ++ after)) e in
    apart (cc)

pub text_broken : (wanted text front left behind : List ℕ) (c d : ℕ) → text ≡ front ++ d ∷ behind → wanted ≡ front ++ c ∷ left → (d ≡ c → ⊥) → IsBroken (IsText wanted) text
text_broken wanted text front left behind c d t w apart = broken_some wanted text front left behind c d t w apart
