use Rattle.std.proofs.Common.{sym, ap, ◌∙◌}
use Rattle.std.proofs.lemmas.Bool.Decides.{not_from_Decides}
use Rattle.spelling_model.specs.Spelling.{canonical}
use Rattle.fodt_read.proofs.Loaded.{are_plain, plain_of, spelled}
use Rattle.plain_doc.proofs.Spelled.{written_texts}
use Rattle.fodt_read.proofs.Faults.{not_plain}
use Rattle.fodt_read.proofs.load.load_plain.Goals as goal

pub is_spelled-requires : goal.is_spelled-requires
is_spelled-requires c =
    let read = c.in_ok-blocks.ensures.plain in
    written_texts read.0 _ (c.document_of-doc.ensures read.0 read.2)

pub returns-in_err-blocks-clause-only : goal.returns-in_err-blocks-clause-only
returns-in_err-blocks-clause-only c =
    not_plain _ _ c.args.bytes.now c.from_residual.ensures.1
    (λ doc plain e. c.in_err-blocks.ensures.read plain.0 (are_plain plain.0 doc plain.1) (c.in-Some.ensures _ (spelled plain.0 doc _ plain.1 e)))

pub returns-then-branch-clause-found : goal.returns-then-branch-clause-found
returns-then-branch-clause-found c =
    let read = c.in_ok-blocks.ensures.plain in
    ((read.0, plain_of read.0 _ read.1 (c.document_of-doc.ensures read.0 read.2)), c.in_ok-is_spelled.ensures.0 c.if-branch.true)

-- a plain document that has these bytes is the one that is read
pub returns-then-branch-clause-one : goal.returns-then-branch-clause-one
returns-then-branch-clause-one c = λ other plain e.
    let blocks = c.in_ok-blocks.ensures.read plain.0 (are_plain plain.0 other plain.1) (c.in-Some.ensures _ (spelled plain.0 other _ plain.1 e)) in
    plain.1.alone ∙ sym (c.document_of-doc.ensures plain.0 blocks)

pub returns-else-branch-clause-only : goal.returns-else-branch-clause-only
returns-else-branch-clause-only c = λ _ doc plain e.
    let blocks = c.in_ok-blocks.ensures.read plain.0 (are_plain plain.0 doc plain.1) (c.in-Some.ensures _ (spelled plain.0 doc _ plain.1 e)) in
    let same = c.document_of-doc.ensures plain.0 blocks ∙ sym plain.1.alone in
    not_from_Decides c.in_ok-is_spelled.field-0 c.in_ok-is_spelled.ensures c.if-branch.false (ap canonical same ∙ e)
