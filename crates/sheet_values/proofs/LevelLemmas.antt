-- The levels that are kept.
use Rattle.std.proofs.Common.{◌≡◌, ℕ, Bool, true, false, cond, Bor, ◌&&◌, ◌||◌, List, [], ◌∷◌, ◌++◌, map, refl, sym, ap, ap₂, ◌∙◌, Option, Some, None, eqb, is_some}
use Rattle.std.specs.List.{list_any}
use Rattle.std.specs.Option.{option_map_or}
use Rattle.std.proofs.lemmas.Bool.{false≢true, eqb-true}
use Rattle.std.proofs.Math.Dec.{T, eqb_refl}
use Rattle.load_model.specs.declared.element.Element.{Element}
use Rattle.load_model.specs.Styles.{level_of}
use Rattle.sheet_kept.proofs.Firsts.{first_passes, first_fails}
use Rattle.sheet_values.specs.declared.levels.LevelsOf.{LevelsOf}
use Rattle.sheet_values.specs.LevelKinds.{is_of, has_level, same_level, kept_among}

abbrev among : Option ℕ → Option ℕ → Bool
among one other = option_map_or (λ level. option_map_or (λ given. eqb given level) other false) one false

among_through : (one two three : Option ℕ) → among one two ≡ true → among two three ≡ true → among one three ≡ true
among_through None two three e f = absurd (false≢true e)
among_through (Some m) None three e f = absurd (false≢true e)
among_through (Some m) (Some n) None e f = absurd (false≢true f)
among_through (Some m) (Some n) (Some k) e f = ap (λ one. eqb k one) (sym (eqb-true n m e)) ∙ f

level_through : (one two three : Element) → same_level one two ≡ true → same_level two three ≡ true → same_level one three ≡ true
level_through one two three e f = among_through (level_of one) (level_of two) (level_of three) e f

true_of : (b : Bool) → T b → b ≡ true
true_of true t = refl
true_of false t = absurd t

either_number : (m n : ℕ) → eqb m n ≡ eqb n m
either_number m n = by_test (eqb m n) refl (eqb n m) refl where
  by_test : (one : Bool) → eqb m n ≡ one → (other : Bool) → eqb n m ≡ other → eqb m n ≡ eqb n m
  by_test true e true f = e ∙ sym f
  by_test false e false f = e ∙ sym f
  by_test true e false f = absurd (false≢true (sym f ∙ ap (λ one. eqb n one) (eqb-true m n e) ∙ true_of (eqb n n) (eqb_refl n)))
  by_test false e true f = absurd (false≢true (sym e ∙ ap (λ one. eqb m one) (eqb-true n m f) ∙ true_of (eqb m m) (eqb_refl m)))

-- whether a level's number is that of one of these
any_level : (level : ℕ) (element : Element) (lent : List (Bor Element)) → level_of element ≡ Some level
    → list_any (λ one. has_level level one.now) lent ≡ list_any (λ one. same_level one element) (map (λ one. one.now) lent)
any_level level element [] e = refl
any_level level element (one ∷ lent) e = ap₂ (λ a b. a || b) (by_level (level_of one.now)) (any_level level element lent e) where
  by_level : (own : Option ℕ) → option_map_or (λ given. eqb given level) own false ≡ option_map_or (λ number. option_map_or (λ given. eqb given number) (level_of element) false) own false
  by_level None = refl
  by_level (Some number) = either_number number level ∙ ap (λ other. option_map_or (λ given. eqb given number) other false) (sym e)

abbrev passes : LevelsOf → Element → Bool
passes of element = is_of of element && is_some (level_of element)

module _ (of : LevelsOf) (elements : List Element) (element : Element) where
  pub keeps_other : (kept : List Element) → is_of of element ≡ false → kept ≡ kept_among of elements → kept ≡ kept_among of (elements ++ element ∷ [])
  keeps_other kept e keeps = keeps ∙ sym (first_fails same_level level_through (passes of) elements element (ap (λ b. b && is_some (level_of element)) e))

  pub keeps_numberless : (kept : List Element) → None ≡ level_of element → kept ≡ kept_among of elements → kept ≡ kept_among of (elements ++ element ∷ [])
  keeps_numberless kept e keeps =
      keeps ∙ sym (first_fails same_level level_through (passes of) elements element (ap (λ level. is_of of element && is_some level) (sym e) ∙ neither (is_of of element))) where
        neither : (b : Bool) → (b && false) ≡ false
        neither true = refl
        neither false = refl

  pub keeps_level : (level : ℕ) (lent shown : List (Bor Element)) (told is_there : Bool) → is_of of element ≡ true → Some level ≡ level_of element → map (λ one. one.now) lent ≡ kept_among of elements → shown ≡ lent
      → told ≡ list_any (λ one. has_level level one.now) shown → told ≡ is_there
      → cond is_there (map (λ one. one.now) lent) (map (λ one. one.now) lent ++ element ∷ []) ≡ kept_among of (elements ++ element ∷ [])
  keeps_level level lent shown told is_there e f keeps as_shown tells is =
      let there : list_any (λ one. same_level one element) (map (λ one. one.now) lent) ≡ is_there =
      sym (any_level level element lent (sym f)) ∙ ap (list_any (λ one. has_level level one.now)) (sym as_shown) ∙ sym tells ∙ is in
      ap (λ b. cond b (map (λ one. one.now) lent) (map (λ one. one.now) lent ++ element ∷ [])) (sym there)
      ∙ ap (λ all. cond (list_any (λ one. same_level one element) all) all (all ++ element ∷ [])) keeps
      ∙ sym (first_passes same_level level_through (passes of) elements element (ap₂ (λ a b. a && is_some b) e (sym f)))
