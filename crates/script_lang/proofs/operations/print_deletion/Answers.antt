use Rattle.std.proofs.Common.{◌++◌, ℕ, List, sym, ap, ◌∙◌, subst, arith, IsUtf8}
use Rattle.doc_model.specs.declared.edit.EditOp.TheVariants.{DeleteRange}
use Rattle.desk_model.specs.Script.{IsEditLine}
use Rattle.script_lang.specs.Operations.{deletion_words}
use Rattle.script_lang.proofs.OperationLemmas.{deletion_utf8, deletion_read}
use Rattle.script_lang.proofs.operations.print_deletion.Goals as goal

pub text_of-requires : goal.text_of-requires
text_of-requires c =
    let words = deletion_words c.args.par c.args.from c.args.to in
    subst IsUtf8 (sym (c.in_ok-push_deletion.ensures ∙ ap (λ (front : List ℕ). front ++ words) c.new-line.ensures.items))
    (deletion_utf8 c.args.par c.args.from c.args.to (omega arith) (omega arith) (omega arith))

pub returns : goal.returns
returns c =
    let words = deletion_words c.args.par c.args.from c.args.to in
    let printed = c.text_of.ensures ∙ c.in_ok-push_deletion.ensures ∙ ap (λ (front : List ℕ). front ++ words) c.new-line.ensures.items in
    record {
      printed = printed;
      read_back = subst (λ (line : List ℕ). IsEditLine line (DeleteRange (record { 0 = c.args.par }) c.args.from c.args.to)) (sym printed)
          (deletion_read c.args.par c.args.from c.args.to (omega arith) (omega arith) (omega arith));
    }
