use Rattle.std.proofs.Common.{ap, ◌∙◌, encode_utf8_all}
use Rattle.std.specs.List.{flat_map}
use Rattle.std.proofs.lemmas.List.{take_all}
use Rattle.doc_model.specs.declared.paragraph.What.{What}
use Rattle.paginate.specs.Placed.{bodies}
use Rattle.page_print.specs.Headers.{header_what}
use Rattle.page_print.proofs.Joined.{bytes_of_all}
use Rattle.page_print.proofs.headers.header_text.Goals as goal

pub returns : goal.returns
returns c =
    let text = λ (what : What). header_what (bodies c.args.plan.now) c.args.index c.args.page.now what in
    c.loop-what.invariant
    ∙ ap (flat_map (λ (what : What). encode_utf8_all (text what))) (take_all c.loop-what.what-index c.get-what-items.result.now c.loop-what-test.false ∙ c.get-what-items.ensures)
    ∙ bytes_of_all text c.args.par.now.items
