use Rattle.load_model.specs.Left.{both, nothing}
use Rattle.load_model.specs.Loaded.{declarations_left, read_text, text_of}
use Rattle.doc_load.specs.Lefts.{attributes_left_in}
use Rattle.doc_load.proofs.left.text_left.Goals as goal

pub returns : goal.returns
returns c = λ read declarations.
    let root = c.args.root.now in
    let own = attributes_left_in (text_of root) in
    c.both-3.ensures (both (both nothing own) (read_text root).left) (declarations_left root)
    (c.both-2.ensures (both nothing own) (read_text root).left (c.both.ensures nothing own c.nothing.ensures c.text_attributes.ensures) read) declarations
