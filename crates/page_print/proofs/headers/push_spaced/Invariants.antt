use Rattle.std.proofs.Common.{◌≡◌, ◌++◌, string_bytes, map, encode_utf8_all}
use Rattle.page_print.specs.Headers.{spaced}
use Rattle.page_print.proofs.headers.push_spaced.Given as goal

abbrev pub invariant-loop-letter : goal.invariant-loop-letter
invariant-loop-letter l = string_bytes l.out ≡ string_bytes l.fn.out ++ encode_utf8_all (map spaced l.yielded)
