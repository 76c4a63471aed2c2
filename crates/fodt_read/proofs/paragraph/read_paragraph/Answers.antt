use Rattle.std.proofs.Common.{◌∙◌, sym}
use Rattle.std.proofs.lemmas.List.{append_cancel_left}
use Rattle.spelling_model.specs.declared.pieces.TheConstants.{PARAGRAPH}
use Rattle.fodt_read.proofs.Content.{paragraph_spelled, paragraph_empty}
use Rattle.fodt_read.proofs.paragraph.read_paragraph.Goals as goal

pub returns-in-Some-clause-read : goal.returns-in-Some-clause-read
returns-in-Some-clause-read c = λ chars more plain e.
    let is = paragraph_empty chars _ more _ e c.in-Some.ensures in
    (is.0, c.clear.ensures.items ∙ sym is.1)

pub returns-in-Some-after-clause-read : goal.returns-in-Some-after-clause-read
returns-in-Some-after-clause-read c = λ chars more plain e.
    c.read_content.ensures.read chars more plain
    (append_cancel_left PARAGRAPH.now _ _ (sym c.in-Some-after.ensures ∙ paragraph_spelled chars _ more e c.in_default.ensures))

pub returns-in-None-clause-read : goal.returns-in-None-clause-read
returns-in-None-clause-read c = λ chars more plain e. absurd (c.in-None.ensures _ (paragraph_spelled chars _ more e c.in_default.ensures))
