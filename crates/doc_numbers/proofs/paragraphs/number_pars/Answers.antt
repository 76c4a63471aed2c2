use Rattle.std.proofs.Common.{◌+◌, ◌<◌, length, List, ap, sym, ◌∙◌, subst, arith}
use Rattle.std.specs.List.{flat_map}
use Rattle.doc_model.specs.declared.paragraph.Par.{Par}
use Rattle.load_model.specs.Loaded.{numbered}
use Rattle.doc_numbers.specs.Numbering.{Follow}
use Rattle.doc_numbers.proofs.NumberLemmas.{alone, all_alone, goes_more, goes_all, goes_fits}
use Rattle.doc_numbers.proofs.ParLemmas.{numbered_as}
use Rattle.doc_numbers.proofs.paragraphs.number_pars.Goals as goal

pub overflow_add-last : goal.overflow_add-last
overflow_add-last c =
    let size = ap (λ (pars : List Par). length pars) (all_alone c.args.pars) in
    let few = c.requires in
    let all : c.args.last.now + length (flat_map alone c.args.pars) < 4294967296 = omega (arith, size, few) in
    let fits = goes_fits alone (λ numbers. numbered numbers) c.args.pars c.args.last.now c.left.done.items c.left.left c.pop.new.self c.in-Some.par c.left.last 4294967296 c.in-Some.ensures c.left.invariant all in
    omega (arith, fits)

pub left-preserved : goal.left-preserved
left-preserved c =
    goes_more alone (λ numbers. numbered numbers) c.args.pars c.args.last.now c.left.done.items c.push.new.self.items c.left.left c.pop.new.self c.in-Some.par c.with_number.result c.left.last (c.left.last + 1)
    c.in-Some.ensures c.left.invariant c.in_ok-push.ensures.items (omega arith) (λ numbers follow. c.with_number.ensures ∙ numbered_as numbers c.in-Some.par (c.left.last + 1) (cc))

pub returns-clause-counted : goal.returns-clause-counted
returns-clause-counted c =
    let size = ap (λ (pars : List Par). length pars) (all_alone c.args.pars) in
    let count = (goes_all alone (λ numbers. numbered numbers) c.args.pars c.args.last.now c.left.done.items c.left.left c.left.last c.in_default.ensures.0 c.left.invariant).0 in
    omega (arith, size, count)

pub returns-clause-numbered : goal.returns-clause-numbered
returns-clause-numbered c = λ numbers follow.
    c.from_vec.ensures
    ∙ (goes_all alone (λ numbers. numbered numbers) c.args.pars c.args.last.now c.left.done.items c.left.left c.left.last c.in_default.ensures.0 c.left.invariant).1 numbers
    (subst (Follow numbers c.args.last.now) (sym (all_alone c.args.pars)) follow)
