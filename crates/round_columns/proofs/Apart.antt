-- No number is that of two paragraphs, in another order.
use Rattle.std.proofs.Common.{◌≡◌, ◌≢◌, ℕ, Bool, true, false, cond, eqb, List, [], ◌∷◌, ◌++◌, map, filter, refl, sym, ap, subst, ◌∙◌, eq-eqb}
use Rattle.std.specs.Prelude.{AllPairs, ◌==◌, if◌then◌else◌}
use Rattle.std.specs.List.{IsDistinct, AllByRecursion as Each}
use Rattle.std.proofs.lemmas.Bool.{ne_eqb, eqb-false}
use Rattle.std.proofs.lemmas.Bool.Decides.{Decides-eqb}
use Rattle.std.proofs.lemmas.Map.Made.{IsDistinct-from_AllPairs}
use Rattle.doc_model.specs.declared.paragraph.Par.{Par}
use Rattle.doc_model.specs.declared.field.NoteClass.TheVariants.{Endnote}
use Rattle.doc_model.specs.declared.document.Document.{Document}
use Rattle.doc_model.specs.Reading.{number_of, paragraphs}
use Rattle.format_model.specs.Keys.{Standing, InBody, InNote, body_row_pars, is_in_body, is_in_note_of, par_of, standing, up_to}
use Rattle.round_pars.specs.Pars.{AreNumbersDistinct}
use Rattle.round_pars.proofs.Texts.{all_standing}

-- the number of a paragraph where it stands
abbrev pub number_at : Standing → ℕ
number_at one = number_of (par_of one)

abbrev pub Apart : List Standing → Type 0
Apart ones = IsDistinct eqb (map number_at ones)

-- a number is that of none of these
abbrev IsNew : ℕ → List Standing → Type 0
IsNew number ones = Each (λ other. eqb number other ≡ false) (map number_at ones)

turned : (a b : ℕ) → eqb a b ≡ false → eqb b a ≡ false
turned a b h = ne_eqb b a (λ e. eqb-false a b h (sym e))

new_if : (number : ℕ) (b : Bool) (x : Standing) (xs : List Standing) → eqb number (number_at x) ≡ false → IsNew number xs → IsNew number (cond b (x ∷ xs) xs)
new_if number true x xs h new = (h, new)
new_if number false x xs h new = new

new_filter : (number : ℕ) (p : Standing → Bool) (xs : List Standing) → IsNew number xs → IsNew number (filter p xs)
new_filter number p [] new = tt
new_filter number p (x ∷ xs) new = new_if number (p x) x (filter p xs) new.0 (new_filter number p xs new.1)

new_joined : (number : ℕ) (xs ys : List Standing) → IsNew number xs → IsNew number ys → IsNew number (xs ++ ys)
new_joined number [] ys h k = k
new_joined number (x ∷ xs) ys h k = (h.0, new_joined number xs ys h.1 k)

new_put : (number : ℕ) (x : Standing) (xs ys : List Standing) → eqb number (number_at x) ≡ false → IsNew number (xs ++ ys) → IsNew number (xs ++ x ∷ ys)
new_put number x [] ys h new = (h, new)
new_put number x (y ∷ xs) ys h new = (new.0, new_put number x xs ys h new.1)

-- one more in between
put : (x : Standing) (xs ys : List Standing) → IsNew (number_at x) (xs ++ ys) → Apart (xs ++ ys) → Apart (xs ++ x ∷ ys)
unfolding IsDistinct
put x [] ys new apart = (new, apart)
put x (y ∷ xs) ys new apart = (new_put (number_at y) x xs ys (turned (number_at x) (number_at y) new.0) apart.0, put x xs ys new.1 apart.1)

module _ (p q : Standing → Bool) (other : (x : Standing) → p x ≡ true → q x ≡ false) where
  abbrev both : Bool → Bool → Standing → List Standing → List Standing
  both b c x xs = cond b (x ∷ filter p xs) (filter p xs) ++ cond c (x ∷ filter q xs) (filter q xs)

  one_more : (b c : Bool) (x : Standing) (xs : List Standing) → (b ≡ true → c ≡ false) → IsNew (number_at x) (filter p xs ++ filter q xs) → Apart (filter p xs ++ filter q xs) → Apart (both b c x xs)
  unfolding IsDistinct
  one_more true true x xs alone new apart = absurd (no_truth (alone refl)) where
    no_truth : true ≡ false → ⊥
    no_truth e = cc
  one_more true false x xs alone new apart = (new, apart)
  one_more false true x xs alone new apart = put x (filter p xs) (filter q xs) new apart
  one_more false false x xs alone new apart = apart

  -- those of one test, and then those of another
  two_parts : (xs : List Standing) → Apart xs → Apart (filter p xs ++ filter q xs)
  unfolding IsDistinct
  two_parts [] apart = apart
  two_parts (x ∷ xs) apart =
      one_more (p x) (q x) x xs (other x)
      (new_joined (number_at x) (filter p xs) (filter q xs) (new_filter (number_at x) p xs apart.0) (new_filter (number_at x) q xs apart.0)) (two_parts xs apart.1)

in_body_alone : (x : Standing) → is_in_body x ≡ true → is_in_note_of Endnote x ≡ false
in_body_alone (InBody placed) e = refl
in_body_alone (InNote anchor note is_first par) e = absurd (cc)

numbers : (ones : List Standing) → map number_at ones ≡ map number_of (map par_of ones)
numbers [] = refl
numbers (one ∷ more) = ap (λ (rest : List ℕ). number_at one ∷ rest) (numbers more)

-- the paragraphs of body rows
pub body_rows_apart : (doc : Document) → AreNumbersDistinct doc → Apart (body_row_pars doc)
body_rows_apart doc distinct =
    let all : map number_of (paragraphs doc) ≡ map number_at (standing doc) = ap (map number_of) (sym (all_standing doc)) ∙ sym (numbers (standing doc)) in
    two_parts is_in_body (is_in_note_of Endnote) in_body_alone (standing doc)
    (subst (IsDistinct eqb) all (IsDistinct-from_AllPairs Decides-eqb (map number_of (paragraphs doc)) distinct))

new_there : (number : ℕ) (xs : List Standing) (x : Standing) (ys : List Standing) → IsNew number (xs ++ x ∷ ys) → eqb number (number_at x) ≡ false
new_there number [] x ys new = new.0
new_there number (y ∷ xs) x ys new = new_there number xs x ys new.1

-- those up to one
pub up_to_own : (before : List Standing) (own : Standing) (after : List Standing) → Apart (before ++ own ∷ after) → up_to (par_of own) (before ++ own ∷ after) ≡ before ++ own ∷ []
unfolding IsDistinct
up_to_own [] own after apart = ap (λ (b : Bool). if b then own ∷ [] else own ∷ up_to (par_of own) after) (eq-eqb (number_at own) (number_at own) refl)
up_to_own (one ∷ before) own after apart =
    ap (λ (b : Bool). if b then one ∷ [] else one ∷ up_to (par_of own) (before ++ own ∷ after)) (new_there (number_at one) before own after apart.0)
    ∙ ap (λ (rest : List Standing). one ∷ rest) (up_to_own before own after apart.1)
