-- What is right is the only answer.
use Rattle.std.proofs.Common.{Err, subst, sym, refl, inl}
use Rattle.std.specs.Str.{IsValidUpTo}
use Rattle.markup_tree.specs.Documents.{IsFaultIn}
use Rattle.markup_tree.proofs.ReaderLemmas.{text_read, text_fault}
use Rattle.markup_tree.proofs.TreeLemmas.{answer_only, answer_told}
use Rattle.markup_tree.proofs.reader.read_tree.Goals as goal

pub returns-in-Err-clause-told : goal.returns-in-Err-clause-told
returns-in-Err-clause-told c =
    answer_told c.args.bytes.now (Err c.offence_at.result) tt
    (subst (IsFaultIn c.args.bytes.now) (sym c.offence_at.ensures) (inl (refl, subst (IsValidUpTo c.args.bytes.now) (sym c.valid_up_to.ensures) c.in-Err.ensures.cases.1)))

pub returns-in-Ok-clause-only : goal.returns-in-Ok-clause-only
returns-in-Ok-clause-only c =
    let utf8 = c.in-Ok.ensures.cases in
    answer_only c.args.bytes.now c.read_text.result (text_read c.read_text.result utf8.0 utf8.1 c.read_text.ensures.read) (text_fault c.read_text.result utf8.0 utf8.1 c.read_text.ensures.fault)

pub returns-in-Ok-clause-told : goal.returns-in-Ok-clause-told
returns-in-Ok-clause-told c =
    let utf8 = c.in-Ok.ensures.cases in
    answer_told c.args.bytes.now c.read_text.result (text_read c.read_text.result utf8.0 utf8.1 c.read_text.ensures.read) (text_fault c.read_text.result utf8.0 utf8.1 c.read_text.ensures.fault)
