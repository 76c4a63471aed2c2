use Rattle.std.proofs.Common.{◌++◌, ℕ, List, sym, ap, ◌∙◌, subst, arith, chars, IsUtf8}
use Rattle.doc_model.specs.declared.edit.EditOp.TheVariants.{InsertText}
use Rattle.desk_model.specs.Script.{IsEditLine}
use Rattle.script_lang.specs.Operations.{insertion_words}
use Rattle.script_lang.proofs.OperationLemmas.{insertion_utf8, insertion_read}
use Rattle.script_lang.proofs.operations.print_insertion.Goals as goal

pub text_of-requires : goal.text_of-requires
text_of-requires c =
    let words = insertion_words c.args.par c.args.at (chars c.args.text.now) in
    subst IsUtf8 (sym (c.in_ok-push_insertion.ensures ∙ ap (λ (front : List ℕ). front ++ words) c.new-line.ensures.items))
    (insertion_utf8 c.args.par c.args.at c.args.text.now (omega arith) (omega arith) c.utf8.text)

pub returns : goal.returns
returns c =
    let words = insertion_words c.args.par c.args.at (chars c.args.text.now) in
    let printed = c.text_of.ensures ∙ c.in_ok-push_insertion.ensures ∙ ap (λ (front : List ℕ). front ++ words) c.new-line.ensures.items in
    record {
      printed = printed;
      read_back = λ fits. subst (λ (line : List ℕ). IsEditLine line (InsertText (record { 0 = c.args.par }) c.args.at (chars c.args.text.now))) (sym printed)
          (insertion_read c.args.par c.args.at (chars c.args.text.now) (omega arith) (omega arith) fits);
    }
