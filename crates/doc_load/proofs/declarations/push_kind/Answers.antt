use Rattle.std.proofs.Common.{◌≡◌, ◌∙◌, ◌++◌, true, arith, List, ap, map, sym}
use Rattle.std.proofs.lemmas.Result.{on_ok_weaker}
use Rattle.declared_names.specs.Kept.{Shown, stated_of}
use Rattle.doc_load.proofs.KindLemmas.{kind_alone}
use Rattle.doc_load.specs.Parts.{is_of_kind, told}
use Rattle.doc_load.proofs.declarations.push_kind.Goals as goal

pub returns : goal.returns
returns c =
    let yes : is_of_kind c.args.sequences c.args.part.now ≡ true = grind (arith, c.is_of_kind.ensures, c.if-not-is_of_kind.false) in
    on_ok_weaker c.push_stated.result (λ pushed.
    pushed ∙ ap (λ (more : List Shown). map stated_of c.args.stated.now.items ++ more) (ap (map told) c.get.ensures ∙ sym (kind_alone c.args.sequences c.args.part.now yes))) c.push_stated.ensures
