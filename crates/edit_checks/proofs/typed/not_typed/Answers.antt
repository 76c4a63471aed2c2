use Rattle.std.proofs.Common.{ap, ◌∙◌}
use Rattle.std.specs.Prelude.{not, position}
use Rattle.doc_model.specs.Chars.{can_be_typed}
use Rattle.edit_checks.specs.Typed.{refused_at}
use Rattle.edit_checks.proofs.Places.{small_place}
use Rattle.edit_checks.proofs.typed.not_typed.Goals as goal

pub refused_at-requires : goal.refused_at-requires
refused_at-requires c = record {
  short = small_place (λ letter. not (can_be_typed letter)) c.args.text.now c.first_untyped.result
      (c.first_untyped.ensures ∙ ap (position (λ letter. not (can_be_typed letter))) c.get.ensures) c.requires.short;
}

pub returns : goal.returns
returns c = c.refused_at.ensures ∙ ap refused_at (c.first_untyped.ensures ∙ ap (position (λ letter. not (can_be_typed letter))) c.get.ensures)
