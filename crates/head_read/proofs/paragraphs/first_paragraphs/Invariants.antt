use Rattle.std.proofs.Common.{◌≡◌, map, take}
use Rattle.std.specs.List.{filter}
use Rattle.load_model.specs.Headers.{is_paragraph}
use Rattle.head_read.proofs.paragraphs.first_paragraphs.Given as goal

abbrev pub invariant-turns : goal.invariant-turns
invariant-turns l = map (λ one. one.now) l.found.items ≡ take 16 (filter is_paragraph (map (λ turn. turn.elem) (take l.turn-index l.turns)))
