use Rattle.std.proofs.Common.{◌≡◌, ℕ, List, subst}
use Rattle.std.specs.Bool.{Decides}
use Rattle.std.proofs.lemmas.Slice.Eq.{slice_eq-Decides}
use Rattle.std.proofs.lemmas.Bool.Decides.{Decides-eqb}
use Rattle.spelling_model.specs.Spelling.{tail}
use Rattle.fodt_read.proofs.body.is_tail.Goals as goal

pub returns : goal.returns
unfolding tail
returns c =
    subst (λ (xs : List ℕ). Decides c.eq.result (c.args.bytes.now ≡ xs)) c.as_bytes.ensures.value
    (slice_eq-Decides Decides-eqb c.args.bytes.now c.as_bytes.result.now c.eq.result c.eq.ensures)
