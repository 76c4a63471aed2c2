use Rattle.std.proofs.Common.{Bool, [], ap, sym, ◌∙◌}
use Rattle.doc_model.specs.declared.refusal.Refusal.TheVariants.{NotTogether}
use Rattle.edit_rules.specs.Refusals.{refused_if}
use Rattle.level_walks.proofs.Live.{first_live}
use Rattle.container_checks.proofs.together.in_note.Goals as goal

pub returns-then-is_in_note : goal.returns-then-is_in_note
returns-then-is_in_note c = λ doc same named.
    ap (λ (b : Bool). refused_if b (NotTogether c.args.par c.args.par)) (sym c.if-is_in_note.true ∙ c.is_in_note.ensures doc same (first_live doc c.args.par [] named))

pub returns-else-is_in_note : goal.returns-else-is_in_note
returns-else-is_in_note c = λ doc same named.
    ap (λ (b : Bool). refused_if b (NotTogether c.args.par c.args.par)) (sym c.if-is_in_note.false ∙ c.is_in_note.ensures doc same (first_live doc c.args.par [] named))
