use Rattle.std.proofs.Common.{◌≡◌, ◌∙◌, ℕ, List, subst}
use Rattle.std.specs.Bool.{Decides}
use Rattle.std.proofs.lemmas.Bool.Decides.{Decides-eqb}
use Rattle.std.proofs.lemmas.Slice.Eq.{slice_eq-Decides}
use Rattle.fodt_read.proofs.load.is_spelled.Goals as goal

pub returns : goal.returns
returns c =
    subst (λ (xs : List ℕ). Decides c.eq.result (xs ≡ c.args.bytes.now)) (c.get.ensures ∙ c.in_ok-spelled.ensures)
    (slice_eq-Decides Decides-eqb c.get.result.now c.args.bytes.now c.eq.result c.eq.ensures)
