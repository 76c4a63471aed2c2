use Rattle.std.proofs.Common.{◌∙◌, sym, ap, map}
use Rattle.load_model.specs.Met.{is_at, marks_met}
use Rattle.met_read.specs.Read.{outlined}
use Rattle.kept_names.specs.declared.firsts.Kind.TheVariants as kind
use Rattle.kept_names.specs.Firsts.{named, first_places}
use Rattle.kept_names.specs.Bookmarks.{complete_places}
use Rattle.kept_names.proofs.FirstLemmas.{named_alike, sections_places, notes_named, references_named}
use Rattle.kept_names.proofs.MarkLemmas.{marks_in, marks_alike}
use Rattle.kept_names.proofs.kept.kept_of.Goals as goal

pub returns : goal.returns
returns c = λ all same. record {
  sections = λ place.
      c.in_ok-sections.ensures place
      ∙ ap (λ places. is_at places place) (ap (λ met. first_places (named kind.Sections met)) same ∙ ap first_places (named_alike kind.Sections all) ∙ sym (sections_places all));
  marks = λ place.
      c.in_ok-marks.ensures place
      ∙ ap (λ places. is_at places place) (ap (λ met. complete_places (marks_met met)) same ∙ ap complete_places (marks_in (map outlined all) ∙ marks_alike all ∙ sym (marks_in all)));
  notes = λ place.
      c.in_ok-notes.ensures place
      ∙ ap (λ places. is_at places place) (ap (λ met. first_places (named kind.Notes met)) same ∙ ap first_places (named_alike kind.Notes all ∙ sym (notes_named all)));
  references = λ place.
      c.in_ok-references.ensures place
      ∙ ap (λ places. is_at places place) (ap (λ met. first_places (named kind.References met)) same ∙ ap first_places (named_alike kind.References all ∙ sym (references_named all)));
}
