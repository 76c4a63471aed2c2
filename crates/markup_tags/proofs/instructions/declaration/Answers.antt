-- The target xml, or one that isn't reserved, and what stands behind it.
use Rattle.std.proofs.Common.{◌≡◌, List, ℕ, codes, sym, ◌∙◌, subst}
use Rattle.std.proofs.lemmas.Slice.Eq.{bytes_eq-Decides}
use Rattle.std.specs.Str.{chars}
use Rattle.markup_parts.specs.Constructs.{IsName}
use Rattle.markup_parts.specs.Outcomes.{Stopped}
use Rattle.markup_parts.specs.declared.stop.Stop.TheVariants.{Broken}
use Rattle.markup_parts.proofs.LiteralLemmas.{true_false}
use Rattle.markup_parts.proofs.ReadsLemmas.{reads_same, unit_outcome}
use Rattle.markup_tags.proofs.InstructionLemmas.{first_stop, first_instruction, instruction_reserved, instruction_on, declaration_on}
use Rattle.markup_tags.proofs.instructions.declaration.Goals as goal

pub returns-in-Err-clause-read : goal.returns-in-Err-clause-read
returns-in-Err-clause-read c = first_stop (chars c.args.text.now) c.in-Err.stop c.in-Err.ensures.name

pub returns-then-is_word-clause-read : goal.returns-then-is_word-clause-read
unfolding chars
returns-then-is_word-clause-read c =
    let is_xml : chars c.in-Ok.found.0.now ≡ codes "xml" = (bytes_eq-Decides (chars c.in-Ok.found.0.now) (codes "xml")).0 (sym c.is_word.ensures ∙ c.if-is_word.true) in
    reads_same (declaration_on (subst (λ (t : List ℕ). IsName (chars c.args.text.now) t (chars c.in-Ok.found.1.now)) is_xml c.in-Ok.ensures.name))
    (unit_outcome c.instruction_rest.result) c.instruction_rest.ensures.read

pub returns-then-is_reserved-clause-read : goal.returns-then-is_reserved-clause-read
unfolding chars
returns-then-is_reserved-clause-read c =
    reads_same (first_instruction c.in-Ok.ensures.name (λ (e : chars c.in-Ok.found.0.now ≡ codes "xml").
    true_false ((bytes_eq-Decides (chars c.in-Ok.found.0.now) (codes "xml")).1 e) (sym c.is_word.ensures ∙ c.if-is_word.false)))
    (Stopped Broken) (instruction_reserved c.in-Ok.ensures.name (sym c.is_reserved.ensures ∙ c.if-is_reserved.true))

pub returns-clause-read : goal.returns-clause-read
unfolding chars
returns-clause-read c =
    reads_same (first_instruction c.in-Ok.ensures.name (λ (e : chars c.in-Ok.found.0.now ≡ codes "xml").
    true_false ((bytes_eq-Decides (chars c.in-Ok.found.0.now) (codes "xml")).1 e) (sym c.is_word.ensures ∙ c.if-is_word.false)))
    (unit_outcome c.instruction_rest-2.result)
    (reads_same (instruction_on c.in-Ok.ensures.name (sym c.is_reserved.ensures ∙ c.if-is_reserved.false)) (unit_outcome c.instruction_rest-2.result) c.instruction_rest-2.ensures.read)
