use Rattle.std.proofs.Common.{[]}
use Rattle.load_model.specs.Blocks.{left_by}
use Rattle.load_model.specs.Left.{all_but, both, children, nothing, attributes_of}
use Rattle.doc_load.proofs.left.left_in.Goals as goal

pub returns-in-Some : goal.returns-in-Some
returns-in-Some c =
    let body = c.in-Some.body.now in
    rw c.in-Some.is (c.both.ensures nothing (both (left_by [] (attributes_of body)) (all_but c.args.read (children body))) c.nothing.ensures
    (c.both-own.ensures (left_by [] (attributes_of body)) (all_but c.args.read (children body)) c.attributes_out.ensures c.children_left.ensures))
