-- What holds of each character at the front of a list.
use Rattle.std.proofs.Common.{◌≡◌, ℕ, ◌+◌, ◌≤◌, ◌<◌, List, [], ◌∷◌, ◌++◌, length, take, drop, get_or, ap, sym, ◌∙◌, subst, arith, zero, suc, add-zero, length-drop}
use Rattle.std.specs.Prelude.{replicate}
use Rattle.std.specs.List.{AllByRecursion as Each}
use Rattle.std.proofs.lemmas.List.{get_or-drop}
use Rattle.doc_model.specs.Chars.{IsPlainChar}
use Rattle.fodt_read.specs.PlainText.{IsUnmarked, IsPlainText}
use Rattle.std.proofs.lemmas.List.Elements.{All-more, All-from_recursion, recursion_from_All}

pub Each-append : {X : Type 0} (P : X → Type 0) (xs ys : List X) → Each P xs → Each P ys → Each P (xs ++ ys)
Each-append P [] ys left right = right
Each-append P (x ∷ xs) ys left right = (left.0, Each-append P xs ys left.1 right)

pub Each-replicate : {X : Type 0} (P : X → Type 0) (n : ℕ) (x : X) → P x → Each P (replicate n x)
Each-replicate P zero x here = tt
Each-replicate P (suc n) x here = (here, Each-replicate P n x here)

pub Each-of : {X : Type 0} (P Q : X → Type 0) → ((x : X) → P x → Q x) → (xs : List X) → Each P xs → Each Q xs
Each-of P Q h [] each = tt
Each-of P Q h (x ∷ xs) each = (h x each.0, Each-of P Q h xs each.1)

-- one more at the front
pub Each-take_more : (P : ℕ → Type 0) (xs : List ℕ) (i : ℕ) → i < length xs → Each P (take i xs) → P (get_or xs i 0) → Each P (take (i + 1) xs)
Each-take_more P xs i within each here =
    recursion_from_All P (take (i + 1) xs) (All-more P xs i 0 within (All-from_recursion P (take i xs) each) here)

-- the first of what is left
pub first_left : (xs : List ℕ) (i c : ℕ) (more : List ℕ) → drop i xs ≡ c ∷ more → get_or xs i 0 ≡ c
first_left xs i c more e = sym (ap (λ (n : ℕ). get_or xs n 0) (add-zero i)) ∙ sym (get_or-drop i xs 0 0) ∙ ap (λ (ys : List ℕ). get_or ys 0 0) e

-- nothing is left at the end
pub none_left : (xs : List ℕ) (c : ℕ) (more : List ℕ) → drop (length xs) xs ≡ c ∷ more → ⊥
none_left xs c more e = absurd (omega (arith, length-drop (length xs) xs, ap (length {A = ℕ}) e))

-- a plain text with more plain characters behind it
pub plain_append : (text more text' : List ℕ) → text' ≡ text ++ more → IsPlainText text → Each IsPlainChar more → length text' ≤ 32768 → IsPlainText text'
plain_append text more text' e plain each most = record {
  characters = subst (λ (xs : List ℕ). Each IsPlainChar xs) (sym e) (Each-append IsPlainChar text more plain.characters each);
  most = most;
}

-- so with characters that stand for themselves
pub plain_run : (text run text' rest : List ℕ) (n : ℕ) → run ≡ take n rest → text' ≡ text ++ run → IsPlainText text → Each IsUnmarked (take n rest) → length text' ≤ 32768 → IsPlainText text'
plain_run text run text' rest n is e plain each most =
    plain_append text run text' e plain (subst (λ (xs : List ℕ). Each IsPlainChar xs) (sym is) (Each-of IsUnmarked IsPlainChar (λ c unmarked. unmarked.0) (take n rest) each)) most
