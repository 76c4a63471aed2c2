use Rattle.std.proofs.Common.{◌≡◌, ◌++◌, map, take, chars, string_bytes}
use Rattle.tree_text.specs.Writing.{content_text}
use Rattle.written_model.specs.Blocks.{paragraph}
use Rattle.content_write.specs.Rest.{no_note}
use Rattle.paragraph_write.proofs.notes.push_paragraphs.Given as goal

abbrev pub invariant-loop-par : goal.invariant-loop-par
invariant-loop-par l = chars (string_bytes l.out) ≡ chars (string_bytes l.fn.out) ++ content_text (map (paragraph no_note) (take l.par-index l.pars))
