-- What is out and what is left to write is what was out and all.
use denote.Shadow.{shadow}
use denote.Text.{Utf8}
use Rattle.std.proofs.Common.{◌≡◌, ◌++◌, length, chars, string_bytes}
use Rattle.markup_tree.specs.Escapes.{escaped_value}
use Rattle.element_text.proofs.escaped.push_value.Given as goal

abbrev pub decreases-characters : goal.decreases-characters
decreases-characters l = length l.rest

abbrev pub invariant-characters : goal.invariant-characters
invariant-characters l =
    (chars (string_bytes l.out) ++ escaped_value (chars l.rest) ≡ chars (string_bytes l.fn.out) ++ escaped_value (chars l.text))
    × shadow (Utf8 l.rest)
