-- The text styles that state whether they are shown.
use Rattle.std.specs.Prelude.{ℕ, Bool, if◌then◌else◌, List, filter_map, Option, None, option_map}
use Rattle.doc_model.specs.declared.style.Family.TheVariants as family
use Rattle.doc_model.specs.declared.style.Style.{Style}
use Rattle.style_model.specs.Lineage.{is_same_family}
use Rattle.style_model.specs.Effective.{stated}
use Rattle.key_parts.specs.declared.parts.SpanDisplay.{SpanDisplay}

-- a style of this name that states whether it is shown
abbrev pub said_by : List ℕ → Bool → SpanDisplay
said_by name is_shown = record { style = name; is_shown = is_shown }

-- whether a style is shown, if it is a text style that states it, itself or by an ancestor
abbrev pub display_of : List Style → Style → Option SpanDisplay
display_of styles style = if is_same_family style.family family.Text then option_map (said_by style.name) (stated styles family.Text style.name).display else None

-- the text styles that state, themselves or by an ancestor, whether they are shown
abbrev pub displays_of : List Style → List SpanDisplay
displays_of styles = filter_map (display_of styles) styles
