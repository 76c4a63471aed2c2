use Rattle.std.proofs.Common.{Bool, [], ◌∷◌, ap, sym, ◌∙◌}
use Rattle.std.specs.Prelude.{not}
use Rattle.doc_model.specs.declared.refusal.Refusal.TheVariants.{NotTogether}
use Rattle.edit_rules.specs.Refusals.{refused_if}
use Rattle.level_walks.proofs.Live.{first_live, rest_live}
use Rattle.container_checks.proofs.together.in_two_texts.Goals as goal

pub returns-then-are_in_one_text : goal.returns-then-are_in_one_text
returns-then-are_in_one_text c = λ doc same apart named.
    ap (λ (b : Bool). refused_if (not b) (NotTogether c.args.left c.args.right))
    (sym c.if-are_in_one_text.true
    ∙ c.are_in_one_text.ensures doc same apart (first_live doc c.args.left (c.args.right ∷ []) named) (first_live doc c.args.right [] (rest_live doc c.args.left (c.args.right ∷ []) named)))

pub returns-else-are_in_one_text : goal.returns-else-are_in_one_text
returns-else-are_in_one_text c = λ doc same apart named.
    ap (λ (b : Bool). refused_if (not b) (NotTogether c.args.left c.args.right))
    (sym c.if-are_in_one_text.false
    ∙ c.are_in_one_text.ensures doc same apart (first_live doc c.args.left (c.args.right ∷ []) named) (first_live doc c.args.right [] (rest_live doc c.args.left (c.args.right ∷ []) named)))
