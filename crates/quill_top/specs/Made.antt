-- What a task makes.
use Rattle.std.specs.Prelude.{string_bytes}
use Rattle.std.specs.Option.{option_map}
use Rattle.quill_top.specs.Outcome.{Done}
use Rattle.quill_top.specs.declared.tasks.Made.{Made}

-- what is put of it
abbrev pub done_of : Made → Done
done_of made = record { text = made.text; report = option_map string_bytes made.report }
