use Rattle.std.proofs.Common.{Bool, [], ap, sym, ◌∙◌}
use Rattle.std.specs.Prelude.{not}
use Rattle.doc_model.specs.declared.paragraph.ParId.{ParId}
use Rattle.doc_model.specs.declared.refusal.Refusal.TheVariants.{NotTogether}
use Rattle.edit_rules.specs.Refusals.{refused_if}
use Rattle.level_walks.proofs.Live.{first_live}
use Rattle.container_checks.proofs.together.not_followed.Goals as goal

pub returns-then-is_followed : goal.returns-then-is_followed
returns-then-is_followed c = λ doc same apart named.
    ap (λ (b : Bool). refused_if (not b) (NotTogether c.args.par (let none : ParId = record { 0 = 0 } in none)))
    (sym c.if-is_followed.true ∙ c.is_followed.ensures doc same apart (first_live doc c.args.par [] named))

pub returns-else-is_followed : goal.returns-else-is_followed
returns-else-is_followed c = λ doc same apart named.
    ap (λ (b : Bool). refused_if (not b) (NotTogether c.args.par (let none : ParId = record { 0 = 0 } in none)))
    (sym c.if-is_followed.false ∙ c.is_followed.ensures doc same apart (first_live doc c.args.par [] named))
