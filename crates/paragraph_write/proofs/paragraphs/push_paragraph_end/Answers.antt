use Rattle.std.proofs.Common.{◌++◌, ℕ, List, refl, ap, ◌∙◌}
use Rattle.std.specs.Str.{chars}
use Rattle.std.specs.String.{string_bytes}
use Rattle.value_write.proofs.ChainLemmas.{two}
use Rattle.paragraph_write.specs.Around.{element_close, behind_paragraph, paragraph_name}
use Rattle.paragraph_write.proofs.paragraphs.push_paragraph_end.Goals as goal

pub returns : goal.returns
returns c =
    two c.push_behind.result (chars (string_bytes c.push_behind.new.out)) (chars (string_bytes c.push_close.new.out)) (chars (string_bytes c.args.out.now))
    (element_close (paragraph_name c.args.level) c.args.holds) (behind_paragraph c.args.list.now)
    (c.in_ok-push_close.ensures ∙ ap (λ (name : List ℕ). chars (string_bytes c.args.out.now) ++ element_close name c.args.holds) c.paragraph_name.ensures)
    c.push_behind.ensures refl
