use Rattle.std.proofs.Common.{[], ◌∷◌, ◌<◌, vec_len, refl, arith}
use Rattle.markup_nodes.proofs.NodeLemmas.{last_added}
use Rattle.markup_nodes.proofs.nodes.Nodes.push.Goals as goal

pub returns-in-Some-clause-ok : goal.returns-in-Some-clause-ok
returns-in-Some-clause-ok g c =
    let some : 0 < vec_len c.self.inside.turns = c.in-Some.ensures.variant.0 refl in
    last_added c.push-in-Some.result c.self.inside.first _ c.self.inside.turns.items _ c.in-Some.turn.now (c.args.c ∷ []) (omega (arith, some, c.self.inside.turns.ok.0)) c.in-Some.ensures.value c.self.view_is c.push-in-Some.ensures.ok
