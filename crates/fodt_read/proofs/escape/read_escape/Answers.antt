use Rattle.std.proofs.Common.{ℕ, List, [], ◌∷◌, get_or, sym, ap, ◌∙◌, arith}
use Rattle.std.proofs.lemmas.Bool.Decides.{Decides-eqb}
use Rattle.std.proofs.lemmas.Slice.Eq.{starts_is}
use Rattle.fodt_read.proofs.Pieces.{entity_begins, spaces_front}
use Rattle.fodt_read.proofs.escape.read_escape.Goals as goal

pub returns-then-starts_with-clause-spaces : goal.returns-then-starts_with-clause-spaces
returns-then-starts_with-clause-spaces c = λ count more some most e.
    let front = (starts_is Decides-eqb c.args.bytes.now (38 ∷ []) c.starts_with.result c.starts_with.ensures.value).0 c.if-starts_with.true in
    absurd (omega (arith, spaces_front count more some, ap (λ (xs : List ℕ). get_or xs 0 0) (sym e ∙ front)))

pub returns-else-starts_with-clause-entity : goal.returns-else-starts_with-clause-entity
returns-else-starts_with-clause-entity c = λ c' more entity e.
    let begins = entity_begins c' more entity in
    let holds = (starts_is Decides-eqb c.args.bytes.now (38 ∷ []) c.starts_with.result c.starts_with.ensures.value).1 begins.0 (e ∙ begins.1) in
    absurd (cc (holds, c.if-starts_with.false))
