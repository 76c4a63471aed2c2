-- The innermost span that states whether it is shown, for who goes from the outermost one inwards.
use Rattle.std.proofs.Common.{◌≡◌, ℕ, Bool, List, [], ◌∷◌, ◌++◌, refl, ap, sym, ◌∙◌, Option, Some, None}
use Rattle.std.specs.Prelude.{map, reverse, unwrap_or}
use Rattle.std.proofs.lemmas.List.{map-append, reverse-append}
use Rattle.style_model.specs.Effective.{first_stated}
use Rattle.key_parts.specs.declared.parts.SpanDisplay.{SpanDisplay}
use Rattle.key_parts.specs.Shows.{stated_display, is_shown_in}

-- the last of some values counts where none before it is stated
last_counts : (values : List (Option Bool)) (value : Option Bool) (otherwise : Bool)
    → unwrap_or (first_stated (values ++ value ∷ [])) otherwise ≡ unwrap_or (first_stated values) (unwrap_or value otherwise)
last_counts [] None otherwise = refl
last_counts [] (Some stated) otherwise = refl
last_counts (None ∷ values) value otherwise = last_counts values value otherwise
last_counts (Some stated ∷ values) value otherwise = refl

-- the outermost span counts where none within it states whether it is shown
pub outermost : (displays : List SpanDisplay) (otherwise : Bool) (span : List ℕ) (inner : List (List ℕ))
    → is_shown_in displays (unwrap_or (stated_display displays span) otherwise) inner ≡ is_shown_in displays otherwise (span ∷ inner)
outermost displays otherwise span inner =
    sym (ap (λ (spans : List (List ℕ)). unwrap_or (first_stated (map (stated_display displays) spans)) otherwise) (reverse-append (span ∷ []) inner)
    ∙ ap (λ (values : List (Option Bool)). unwrap_or (first_stated values) otherwise) (map-append (stated_display displays) (reverse inner) (span ∷ []))
    ∙ last_counts (map (stated_display displays) (reverse inner)) (stated_display displays span) otherwise)
