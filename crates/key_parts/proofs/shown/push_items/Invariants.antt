use Rattle.std.proofs.Common.{◌++◌, length}
use Rattle.std.specs.Prelude.{string_bytes}
use Rattle.key_parts.specs.Shows.{pieces, text_of, citations, texts_left}
use Rattle.key_parts.proofs.Pieces.{Goes}
use Rattle.key_parts.proofs.shown.push_items.Given as goal

abbrev pub invariant-items : goal.invariant-items
invariant-items l = Goes l.displays l.otherwise
    (string_bytes l.fn.out.text ++ text_of (pieces l.displays l.otherwise l.items l.texts))
    (l.fn.out.notes.items ++ citations (string_bytes l.fn.out.text) (pieces l.displays l.otherwise l.items l.texts))
    (texts_left l.items l.texts)
    (string_bytes l.out.text) l.out.notes.items l.left l.next

abbrev pub decreases-items : goal.decreases-items
decreases-items l = length l.left
