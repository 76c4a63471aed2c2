-- What is met of things one after another.
use Rattle.std.proofs.Common.{◌≡◌, List, [], ◌∷◌, ◌++◌, refl, sym, ap, ◌∙◌, subst, append_assoc}
use Rattle.load_model.specs.Met.{Met}
use Rattle.back_met.specs.Things.{AreMet, Thing}

module _ (P : Thing → List Met → Type 0) where
  pub met_is : (things : List Thing) (met other : List Met) → met ≡ other → AreMet P things other → AreMet P things met
  met_is things met other e are = subst (AreMet P things) (sym e) are

  pub met_both : (things others : List Thing) (met more : List Met) → AreMet P things met → AreMet P others more → AreMet P (things ++ others) (met ++ more)
  met_both [] others met more one other = met_is others (met ++ more) more (ap (λ (all : List Met). all ++ more) one) other
  met_both (thing ∷ things) others met more one other =
      (one.0, one.1 ++ more, ap (λ (all : List Met). all ++ more) one.2 ∙ append_assoc one.0 one.1 more, one.3, met_both things others one.1 more one.4 other)

  pub met_one : (thing : Thing) (met : List Met) → P thing met → AreMet P (thing ∷ []) met
  met_one thing met is = (met, [], no_more met, is, refl) where
    no_more : (met : List Met) → met ≡ met ++ []
    no_more [] = refl
    no_more (one ∷ more) = ap (λ (all : List Met). one ∷ all) (no_more more)
