use Rattle.std.proofs.Common.{Bool, [], ◌∷◌, ap, sym, ◌∙◌}
use Rattle.std.specs.Prelude.{not}
use Rattle.doc_model.specs.declared.refusal.Refusal.TheVariants.{NotTogether}
use Rattle.edit_rules.specs.Refusals.{first_refusal_of, is_bad_target, refused_if}
use Rattle.level_walks.proofs.Live.{first_live}
use Rattle.container_checks.proofs.together.not_movable.Goals as goal

pub returns-then-are_paragraphs_in_order : goal.returns-then-are_paragraphs_in_order
returns-then-are_paragraphs_in_order c = λ doc same apart named.
    c.not_behind.ensures doc same apart named
    (sym (c.are_paragraphs_in_order.ensures doc same apart (first_live doc c.args.first (c.args.last ∷ c.args.after ∷ []) named)) ∙ c.if-are_paragraphs_in_order.true)

pub returns-else-are_paragraphs_in_order : goal.returns-else-are_paragraphs_in_order
returns-else-are_paragraphs_in_order c = λ doc same apart named.
    ap (λ (b : Bool). first_refusal_of (refused_if (not b) (NotTogether c.args.first c.args.last) ∷ refused_if (is_bad_target doc c.args.first c.args.last c.args.after) (NotTogether c.args.first c.args.after) ∷ []))
    (sym c.if-are_paragraphs_in_order.false ∙ c.are_paragraphs_in_order.ensures doc same apart (first_live doc c.args.first (c.args.last ∷ c.args.after ∷ []) named))
