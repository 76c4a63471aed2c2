-- Named paragraphs that are live.
use Rattle.std.proofs.Common.{◌≡◌, ◌≢◌, Bool, true, false, cond, ◌∷◌, List, refl, ap, sym, ◌∙◌, Option, Some, None}
use Rattle.std.specs.Prelude.{find, is_none, option_map}
use Rattle.std.proofs.lemmas.Option.{none-some}
use Rattle.doc_model.specs.declared.document.Document.{Document}
use Rattle.doc_model.specs.declared.paragraph.Par.{Par}
use Rattle.doc_model.specs.declared.paragraph.ParId.{ParId}
use Rattle.doc_model.specs.declared.refusal.Refusal.TheVariants.{NoPar}
use Rattle.edit_checks.specs.Firsts.{first_absent}
use Rattle.edit_rules.specs.Places.{live_paragraph}

module _ (doc : Document) (par : ParId) (pars : List ParId) where
  told : (test : Bool) → is_none (live_paragraph doc par) ≡ test → first_absent doc (par ∷ pars) ≡ option_map NoPar (cond test (Some par) (find (λ one. is_none (live_paragraph doc one)) pars))
  told test is = ap (λ (b : Bool). option_map NoPar (cond b (Some par) (find (λ one. is_none (live_paragraph doc one)) pars))) is

  -- the first one is live
  pub first_live : first_absent doc (par ∷ pars) ≡ None → live_paragraph doc par ≢ None
  first_live none gone = none-some (NoPar par) (sym none ∙ told true (ap is_none gone))

  -- and so are the others
  pub rest_live : first_absent doc (par ∷ pars) ≡ None → first_absent doc pars ≡ None
  rest_live none = by_live (is_none (live_paragraph doc par)) refl where
    by_live : (test : Bool) → is_none (live_paragraph doc par) ≡ test → first_absent doc pars ≡ None
    by_live true gone = absurd (none-some (NoPar par) (sym none ∙ told true gone))
    by_live false is = sym (told false is) ∙ none

  -- where they are, they are all
  pub both_live : live_paragraph doc par ≢ None → first_absent doc pars ≡ None → first_absent doc (par ∷ pars) ≡ None
  both_live live rest = by_live (is_none (live_paragraph doc par)) refl where
    none_is : (one : Option Par) → is_none one ≡ true → one ≡ None
    none_is None is = refl
    none_is (Some one) is = absurd cc

    by_live : (test : Bool) → is_none (live_paragraph doc par) ≡ test → first_absent doc (par ∷ pars) ≡ None
    by_live true gone = absurd (live (none_is (live_paragraph doc par) gone))
    by_live false is = told false is ∙ rest
