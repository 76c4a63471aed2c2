-- What is named, and not by the empty name.
use Rattle.std.proofs.Common.{◌≡◌, ℕ, true, false, List, [], ◌∷◌, Some, None, refl}
use Rattle.std.specs.Prelude.{find}
use Rattle.std.specs.Str.{bytes_eq}
use Rattle.doc_model.specs.declared.page_layout.Master.{Master}
use Rattle.doc_model.specs.declared.page_layout.PageLayout.{PageLayout}
use Rattle.style_model.specs.Masters.{place_of_master}
use Rattle.page_model.specs.Frames.{layout_named}
use Rattle.page_model.specs.BodyRows.{stated_master}

pub layout_none : (layouts : List PageLayout) (name : List ℕ) → bytes_eq name [] ≡ true → None ≡ layout_named layouts name
layout_none layouts [] e = refl
layout_none layouts (letter ∷ letters) e = absurd (cc)

pub layout_found : (layouts : List PageLayout) (name : List ℕ) → bytes_eq name [] ≡ false → find (λ layout. bytes_eq layout.name name) layouts ≡ layout_named layouts name
layout_found layouts [] e = absurd (cc)
layout_found layouts (letter ∷ letters) e = refl

pub master_none : (masters : List Master) (name : List ℕ) → bytes_eq name [] ≡ true → None ≡ stated_master masters (Some name)
master_none masters [] e = refl
master_none masters (letter ∷ letters) e = absurd (cc)

pub master_found : (masters : List Master) (name : List ℕ) → bytes_eq name [] ≡ false → place_of_master masters name ≡ stated_master masters (Some name)
master_found masters [] e = absurd (cc)
master_found masters (letter ∷ letters) e = refl
