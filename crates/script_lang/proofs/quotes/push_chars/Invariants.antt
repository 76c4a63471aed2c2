use Rattle.std.proofs.Common.{◌≡◌, ◌++◌}
use Rattle.std.specs.List.{flat_map}
use Rattle.desk_model.specs.Replies.{quoted_char}
use Rattle.script_lang.proofs.quotes.push_chars.Given as goal

abbrev pub invariant-loop-letter : goal.invariant-loop-letter
invariant-loop-letter l = l.out.items ≡ l.fn.out.items ++ flat_map quoted_char l.yielded
