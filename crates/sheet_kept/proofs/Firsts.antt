-- The first ones of things that may be the same, with one more behind.
use Rattle.std.proofs.Common.{◌≡◌, Bool, true, false, cond, not, ◌||◌, List, [], ◌∷◌, ◌++◌, refl, sym, ap, ◌∙◌}
use Rattle.std.specs.List.{list_any, filter}
use Rattle.std.proofs.lemmas.Bool.{false≢true}
use Rattle.std.proofs.lemmas.List.{append-nil}
use Rattle.std.proofs.lemmas.List.Elements.{filter-append}
use Rattle.load_model.specs.Left.{firsts}

module _ {X : Type 0} (same : X → X → Bool) (through : (x y z : X) → same x y ≡ true → same y z ≡ true → same x z ≡ true) where
  -- whether one of these is the same as x
  abbrev any_same : X → List X → Bool
  any_same x ys = list_any (λ y. same y x) ys

  abbrev others : X → List X → List X
  others y zs = filter (λ z. not (same y z)) zs

  any_other : (y x : X) (zs : List X) → same y x ≡ false → any_same x (others y zs) ≡ any_same x zs
  any_other y x [] h = refl
  any_other y x (z ∷ zs) h = by_test (same y z) refl (any_other y x zs h) where
    by_test : (b : Bool) → same y z ≡ b → any_same x (others y zs) ≡ any_same x zs → any_same x (cond (not b) (z ∷ others y zs) (others y zs)) ≡ (same z x || any_same x zs)
    by_test true e more = more ∙ ap (λ b. b || any_same x zs) (sym (by_last (same z x) refl)) where
      by_last : (b : Bool) → same z x ≡ b → same z x ≡ false
      by_last true f = absurd (false≢true (sym h ∙ through y z x e f))
      by_last false f = f
    by_test false e more = ap (λ b. same z x || b) more

  abbrev put : X → List X → List X
  put x ys = cond (any_same x ys) ys (ys ++ x ∷ [])

  pub firsts_behind : (xs : List X) (x : X) → firsts same (xs ++ x ∷ []) ≡ put x (firsts same xs)
  firsts_behind [] x = refl
  firsts_behind (y ∷ xs) x =
      ap (λ all. y ∷ others y all) (firsts_behind xs x) ∙ by_tests (same y x) refl (any_same x (firsts same xs)) refl where
        without : (b : Bool) → same y x ≡ b → others y (x ∷ []) ≡ cond (not b) (x ∷ []) []
        without b e = ap (λ c. cond (not c) (x ∷ []) []) e

        by_tests : (here : Bool) → same y x ≡ here → (more : Bool) → any_same x (firsts same xs) ≡ more
            → (y ∷ others y (cond (any_same x (firsts same xs)) (firsts same xs) (firsts same xs ++ x ∷ [])))
            ≡ cond (same y x || any_same x (others y (firsts same xs))) (y ∷ others y (firsts same xs)) (y ∷ (others y (firsts same xs) ++ x ∷ []))
        by_tests true e true f =
            ap (λ b. y ∷ others y (cond b (firsts same xs) (firsts same xs ++ x ∷ []))) f
            ∙ ap (λ b. cond (b || any_same x (others y (firsts same xs))) (y ∷ others y (firsts same xs)) (y ∷ (others y (firsts same xs) ++ x ∷ []))) (sym e)
        by_tests true e false f =
            ap (λ b. y ∷ others y (cond b (firsts same xs) (firsts same xs ++ x ∷ []))) f
            ∙ ap (λ all. y ∷ all) (filter-append (λ z. not (same y z)) (firsts same xs) (x ∷ []) ∙ ap (λ all. others y (firsts same xs) ++ all) (without true e) ∙ append-nil (others y (firsts same xs)))
            ∙ ap (λ b. cond (b || any_same x (others y (firsts same xs))) (y ∷ others y (firsts same xs)) (y ∷ (others y (firsts same xs) ++ x ∷ []))) (sym e)
        by_tests false e true f =
            ap (λ b. y ∷ others y (cond b (firsts same xs) (firsts same xs ++ x ∷ []))) f
            ∙ ap (λ b. cond b (y ∷ others y (firsts same xs)) (y ∷ (others y (firsts same xs) ++ x ∷ []))) (sym (any_other y x (firsts same xs) e ∙ f))
            ∙ ap (λ b. cond (b || any_same x (others y (firsts same xs))) (y ∷ others y (firsts same xs)) (y ∷ (others y (firsts same xs) ++ x ∷ []))) (sym e)
        by_tests false e false f =
            ap (λ b. y ∷ others y (cond b (firsts same xs) (firsts same xs ++ x ∷ []))) f
            ∙ ap (λ all. y ∷ all) (filter-append (λ z. not (same y z)) (firsts same xs) (x ∷ []) ∙ ap (λ all. others y (firsts same xs) ++ all) (without false e))
            ∙ ap (λ b. cond b (y ∷ others y (firsts same xs)) (y ∷ (others y (firsts same xs) ++ x ∷ []))) (sym (any_other y x (firsts same xs) e ∙ f))
            ∙ ap (λ b. cond (b || any_same x (others y (firsts same xs))) (y ∷ others y (firsts same xs)) (y ∷ (others y (firsts same xs) ++ x ∷ []))) (sym e)

  -- the first ones of those that pass a test, with one more behind
  pub first_passes : (test : X → Bool) (xs : List X) (x : X) → test x ≡ true → firsts same (filter test (xs ++ x ∷ [])) ≡ put x (firsts same (filter test xs))
  first_passes test xs x e =
      ap (firsts same) (filter-append test xs (x ∷ []) ∙ ap (λ b. filter test xs ++ cond b (x ∷ []) []) e) ∙ firsts_behind (filter test xs) x

  pub first_fails : (test : X → Bool) (xs : List X) (x : X) → test x ≡ false → firsts same (filter test (xs ++ x ∷ [])) ≡ firsts same (filter test xs)
  first_fails test xs x e = ap (firsts same) (filter-append test xs (x ∷ []) ∙ ap (λ b. filter test xs ++ cond b (x ∷ []) []) e ∙ append-nil (filter test xs))
