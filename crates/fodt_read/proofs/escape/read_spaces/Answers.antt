use Rattle.std.proofs.Common.{◌∙◌, sym, refl}
use Rattle.std.proofs.lemmas.List.{append_cancel_left}
use Rattle.spelling_model.specs.declared.pieces.TheConstants.{SPACES, SPACES_END}
use Rattle.fodt_read.proofs.Escapes.{spaces_one, spaces_many}
use Rattle.fodt_read.proofs.escape.read_spaces.Goals as goal

pub returns-in-Some-clause-read : goal.returns-in-Some-clause-read
returns-in-Some-clause-read c = λ count more some most e.
    let is = spaces_one count _ more _ some e c.in-Some.ensures in
    (c.one.ensures.character, c.one.ensures.count ∙ is.0, c.one.ensures.rest ∙ is.1)

pub returns-in_err-rest-clause-read : goal.returns-in_err-rest-clause-read
returns-in_err-rest-clause-read c = λ count more some most e.
    absurd (c.in_err-rest.ensures _ (spaces_many count _ more some e c.in_default.ensures))

pub returns-in_err-count-clause-read : goal.returns-in_err-count-clause-read
returns-in_err-count-clause-read c = λ count more some most e.
    let digits = append_cancel_left SPACES.now _ _ (sym c.in_ok-rest.ensures ∙ spaces_many count _ more some e c.in_default.ensures) in
    absurd (c.in_err-count.ensures.read count _ most digits)

pub returns-in_err-rest-2-clause-read : goal.returns-in_err-rest-2-clause-read
returns-in_err-rest-2-clause-read c = λ count more some most e.
    let digits = append_cancel_left SPACES.now _ _ (sym c.in_ok-rest.ensures ∙ spaces_many count _ more some e c.in_default.ensures) in
    absurd (c.in_err-rest-2.ensures more (c.in_ok-count.ensures.read count _ most digits).1)

pub returns-clause-read : goal.returns-clause-read
returns-clause-read c = λ count more some most e.
    let digits = append_cancel_left SPACES.now _ _ (sym c.in_ok-rest.ensures ∙ spaces_many count _ more some e c.in_default.ensures) in
    let found = c.in_ok-count.ensures.read count _ most digits in
    (refl, found.0, append_cancel_left SPACES_END.now _ _ (sym c.in_ok-rest-2.ensures ∙ found.1))
