use Rattle.std.proofs.lemmas.List.{drop_all}
use Rattle.round_texts.proofs.OfNotes.{all_read}
use Rattle.round_texts.proofs.notes.note_texts.Goals as goal

pub returns : goal.returns
returns c = λ doc placed after displays otherwise h.
    all_read doc placed after c.args.items.now c.items.at c.items.left.pars.now c.items.notes.items (drop_all c.items.at c.args.items.now c.items-test.false) (c.items.invariant doc placed after displays otherwise h)
