use Rattle.std.proofs.Common.{◌+◌, length, List, ap, ◌∙◌, arith}
use Rattle.std.specs.List.{flat_map}
use Rattle.doc_model.specs.declared.paragraph.Par.{Par, out-Par}
use Rattle.doc_numbers.specs.Numbering.{note_pars}
use Rattle.doc_numbers.proofs.ParLemmas.{counted_notes, par_numbered}
use Rattle.doc_numbers.proofs.paragraphs.number_par.Goals as goal

pub number_items-requires : goal.number_items-requires
number_items-requires c =
    let size = ap (λ (pars : List Par). length pars) (ap (λ (par : Par). flat_map note_pars (out-Par par).items) c.with_number-style.ensures ∙ counted_notes (c.args.last.now + 1) c.args.par) in
    let few = c.requires in
    omega (arith, size, few)

pub returns-clause-counted : goal.returns-clause-counted
returns-clause-counted c =
    let size = ap (λ (pars : List Par). length pars) (ap (λ (par : Par). flat_map note_pars (out-Par par).items) c.with_number-style.ensures ∙ counted_notes (c.args.last.now + 1) c.args.par) in
    let count = c.in_ok-items.ensures.counted in
    omega (arith, size, count)

pub returns-clause-numbered : goal.returns-clause-numbered
returns-clause-numbered c = λ numbers follow.
    par_numbered numbers c.args.last.now c.args.par c.with_number-style.result c.in_ok-items.items c.with_number-style.ensures follow (c.in_ok-items.ensures.numbered numbers)
