use Rattle.std.proofs.Common.{length, chars, string_bytes}
use Rattle.script_lang.proofs.SpellLemmas.{HasSpelled}
use Rattle.script_lang.proofs.texts.read_text.Given as goal

-- the text is what the bytes before the rest spell
abbrev pub invariant-chars : goal.invariant-chars
invariant-chars l = HasSpelled l.bytes l.rest (chars (string_bytes l.text))

abbrev pub decreases-chars : goal.decreases-chars
decreases-chars l = length l.rest
