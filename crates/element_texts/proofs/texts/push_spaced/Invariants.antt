use Rattle.std.proofs.Common.{◌≡◌, ◌++◌, string_bytes, chars}
use Rattle.load_model.specs.Content.{spaced}
use Rattle.element_texts.proofs.texts.push_spaced.Given as goal

abbrev pub invariant-loop-c : goal.invariant-loop-c
invariant-loop-c l = chars (string_bytes l.text) ≡ chars (string_bytes l.fn.text) ++ spaced l.yielded
