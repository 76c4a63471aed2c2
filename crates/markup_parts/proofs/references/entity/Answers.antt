-- The tests of the names.
use Rattle.std.proofs.Common.{true, false, refl, sym, ◌∙◌}
use Rattle.std.specs.Str.{chars}
use Rattle.markup_parts.proofs.ReferenceLemmas.{entity_told}
use Rattle.markup_parts.proofs.references.entity.Goals as goal

pub returns-then-is_word : goal.returns-then-is_word
unfolding chars
returns-then-is_word c = entity_told (chars c.args.name.now) true _ _ _ _ (sym c.is_word.ensures ∙ c.if-is_word.true) refl refl refl refl

pub returns-then-is_word-2 : goal.returns-then-is_word-2
unfolding chars
returns-then-is_word-2 c =
    entity_told (chars c.args.name.now) false true _ _ _ (sym c.is_word.ensures ∙ c.if-is_word.false) (sym c.is_word-else-is_word.ensures ∙ c.if-is_word-2.true) refl refl refl

pub returns-then-is_word-3 : goal.returns-then-is_word-3
unfolding chars
returns-then-is_word-3 c =
    entity_told (chars c.args.name.now) false false true _ _ (sym c.is_word.ensures ∙ c.if-is_word.false) (sym c.is_word-else-is_word.ensures ∙ c.if-is_word-2.false)
    (sym c.is_word-else-is_word-2.ensures ∙ c.if-is_word-3.true) refl refl

pub returns-then-is_word-4 : goal.returns-then-is_word-4
unfolding chars
returns-then-is_word-4 c =
    entity_told (chars c.args.name.now) false false false true _ (sym c.is_word.ensures ∙ c.if-is_word.false) (sym c.is_word-else-is_word.ensures ∙ c.if-is_word-2.false)
    (sym c.is_word-else-is_word-2.ensures ∙ c.if-is_word-3.false) (sym c.is_word-else-is_word-3.ensures ∙ c.if-is_word-4.true) refl

pub returns-then-is_word-5 : goal.returns-then-is_word-5
unfolding chars
returns-then-is_word-5 c =
    entity_told (chars c.args.name.now) false false false false true (sym c.is_word.ensures ∙ c.if-is_word.false) (sym c.is_word-else-is_word.ensures ∙ c.if-is_word-2.false)
    (sym c.is_word-else-is_word-2.ensures ∙ c.if-is_word-3.false) (sym c.is_word-else-is_word-3.ensures ∙ c.if-is_word-4.false) (sym c.is_word-else-is_word-4.ensures ∙ c.if-is_word-5.true)

pub returns-else-is_word-5 : goal.returns-else-is_word-5
unfolding chars
returns-else-is_word-5 c =
    entity_told (chars c.args.name.now) false false false false false (sym c.is_word.ensures ∙ c.if-is_word.false) (sym c.is_word-else-is_word.ensures ∙ c.if-is_word-2.false)
    (sym c.is_word-else-is_word-2.ensures ∙ c.if-is_word-3.false) (sym c.is_word-else-is_word-3.ensures ∙ c.if-is_word-4.false) (sym c.is_word-else-is_word-4.ensures ∙ c.if-is_word-5.false)
