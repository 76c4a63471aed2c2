-- The form stop of a paragraph, by its place.
use Rattle.std.specs.Prelude.{ℕ, ◌==◌, ◌&&◌, Bool, false}
use Rattle.round_model.specs.Stops.{Stop}

-- whether a stop is the form stop at this place, and the key is the present one
abbrev pub is_form_at : ℕ → Bool → Stop → Bool
is_form_at place is_present (Stop.Form round formed) = formed == place && is_present
is_form_at place is_present _ = false
