use Rattle.std.proofs.Common.{ap, ◌∙◌}
use Rattle.std.specs.Prelude.{not, position}
use Rattle.edit_checks.specs.Typed.{is_printed, refused_at}
use Rattle.edit_checks.proofs.Places.{small_place}
use Rattle.edit_checks.proofs.typed.not_printed.Goals as goal

pub refused_at-requires : goal.refused_at-requires
refused_at-requires c = record {
  short = small_place (λ letter. not (is_printed letter)) c.args.text.now c.first_unprinted.result
      (c.first_unprinted.ensures ∙ ap (position (λ letter. not (is_printed letter))) c.get.ensures) c.requires.short;
}

pub returns : goal.returns
returns c = c.refused_at.ensures ∙ ap refused_at (c.first_unprinted.ensures ∙ ap (position (λ letter. not (is_printed letter))) c.get.ensures)
