-- Readings, and the rules that have them.
use Rattle.std.specs.Prelude.{ℕ, Bool, List, is_some}
use Rattle.load_model.specs.Fields.{own_name}
use Rattle.load_model.specs.Values as value
use Rattle.load_model.specs.Values.{Rule}
use Rattle.load_model.specs.declared.names.Key.{Key}
use Rattle.read_values.specs.declared.readings.Reading.{Reading}
use Rattle.read_values.specs.declared.readings.Reading.TheVariants as reading

-- whether a text has a value by a reading
abbrev pub has_value : Reading → List ℕ → Bool
has_value reading.Truth text = is_some (value.truth text)
has_value reading.Name text = is_some (value.name text)
has_value reading.NameOrNone text = is_some (value.name_or_none text)
has_value (reading.OwnName is_first) text = is_some (own_name is_first text)
has_value reading.AnyText text = is_some (value.any_text text)
has_value reading.OneCharacter text = is_some (value.one_character text)
has_value (reading.Number least greatest) text = is_some (value.number least greatest text)
has_value reading.LineCount text = is_some (value.line_count text)
has_value reading.Level text = is_some (value.level text)
has_value reading.HeadingLevel text = is_some (value.heading_level text)
has_value reading.Length text = is_some (value.length_value text)
has_value reading.Family text = is_some (value.family_of_text text)
has_value reading.Alignment text = is_some (value.alignment text)
has_value reading.Break text = is_some (value.break_at text)
has_value reading.Keep text = is_some (value.keep text)
has_value reading.PageStart text = is_some (value.page_start text)
has_value reading.Display text = is_some (value.display text)
has_value reading.NumberFormat text = is_some (value.number_format text)
has_value reading.ChapterDisplay text = is_some (value.chapter_display text)
has_value reading.PageSelect text = is_some (value.page_select text)
has_value reading.PageAdjust text = is_some (value.page_adjust text)
has_value reading.ReferenceForm text = is_some (value.reference_form text)
has_value reading.SequenceForm text = is_some (value.sequence_form text)
has_value reading.NoteClass text = is_some (value.note_class text)

-- the rule of a key whose values have a reading
abbrev pub rule_of : Key × Reading → Rule
rule_of (key, reading) = record { key = key; is_good = has_value reading }
