-- The halves of a split paragraph, joined, and the blocks of a section, unwrapped.
use Rattle.std.proofs.Common.{◌≡◌, ℕ, List, ◌++◌, drop, refl, ap, ◌∙◌, Option, None, Some}
use Rattle.std.proofs.lemmas.List.{take-append-drop}
use Rattle.doc_model.specs.declared.paragraph.Item.{Item}
use Rattle.doc_model.specs.declared.paragraph.What.{What}
use Rattle.doc_model.specs.declared.paragraph.Note.{Note}
use Rattle.doc_model.specs.declared.paragraph.Par.{Par, out-Par, roll-Par}
use Rattle.doc_model.specs.declared.paragraph.What.TheOpen.{Par-F}
use Rattle.doc_model.specs.declared.paragraph.What.TheViews.{out-roll-Par, roll-out-Par}
use Rattle.doc_model.specs.declared.style.Style.{Style}
use Rattle.edit_rules.specs.Blocks.{first_half, second_half, with_items_of, with_style_of}

items-styled : (style : Option Style) (par : Par) → (out-Par (with_style_of style par)).items ≡ (out-Par par).items
items-styled None par = refl
items-styled (Some style) par = ap (λ (layer : Par-F What Item Note Par). layer.items) (out-roll-Par _)

items-second : (styles : List Style) (number at : ℕ) (par : Par) → (out-Par (second_half styles number at par)).items ≡ drop at (out-Par par).items
items-second styles number at par = items-styled _ _ ∙ ap (λ (layer : Par-F What Item Note Par). layer.items) (out-roll-Par _)

pub joined_halves : (styles : List Style) (number at : ℕ) (par : Par) → with_items_of (second_half styles number at par) (first_half at par) ≡ par
joined_halves styles number at par =
    ap (λ (items : List Item). roll-Par (record (out-Par (first_half at par)) { items = (out-Par (first_half at par)).items ++ items })) (items-second styles number at par)
    ∙ ap (λ (layer : Par-F What Item Note Par). roll-Par (record layer { items = layer.items ++ drop at (out-Par par).items })) (out-roll-Par _)
    ∙ ap (λ (items : List Item). roll-Par (record (out-Par par) { items = items })) (take-append-drop at (out-Par par).items)
    ∙ roll-out-Par par
