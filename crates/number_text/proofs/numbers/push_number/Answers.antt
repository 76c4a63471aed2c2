use Rattle.std.proofs.Common.{[], ap, ◌∙◌, chars, sym}
use Rattle.std.proofs.lemmas.Str.{chars-nil}
use Rattle.doc_model.specs.declared.field.Format.{Format}
use Rattle.field_model.specs.Numbers.{shown_number}
use Rattle.number_text.proofs.CutLemmas.{cut_same}
use Rattle.number_text.proofs.numbers.push_number.Goals as goal

pub returns-in-Empty : goal.returns-in-Empty
returns-in-Empty c = cut_same c.push_str.result c.args.out.now c.push_str.new.self (chars []) (shown_number c.args.format c.args.number) (chars-nil ∙ ap (λ (format : Format). shown_number format c.args.number) (sym c.in-Empty.is)) c.push_str.ensures
