use Rattle.back_values.proofs.Words.{truth_back, family_back, align_back, break_back, keep_back, display_back, format_back, chapter_back, select_back, reference_back, sequence_back, class_back}
use Rattle.back_values.proofs.laws.words_are_read_back.Goals as goal

pub returns : goal.returns
returns c = record {
  truth = truth_back;
  family = family_back;
  alignment = align_back;
  break_at = break_back;
  keep = keep_back;
  display = display_back;
  format = format_back;
  chapter = chapter_back;
  select = select_back;
  reference = reference_back;
  sequence = sequence_back;
  class = class_back;
}
