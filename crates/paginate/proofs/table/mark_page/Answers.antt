use Rattle.std.proofs.Common.{◌∙◌, ◌∷◌, [], List, ℕ, take, get_or, ap, sym}
use Rattle.std.proofs.lemmas.List.{take_more}
use Rattle.paginate.specs.Marks.{marked}
use Rattle.paginate.proofs.TableLemmas.{marked-none, marked-snoc}
use Rattle.paginate.proofs.table.mark_page.Goals as goal

pub firsts-init : goal.firsts-init
firsts-init c = sym (marked-none c.args.page 0 c.args.found.now.items)

pub firsts-preserved : goal.firsts-preserved
firsts-preserved c =
    let firsts = c.args.firsts.now in
    let index = c.firsts.place-index in
    c.mark.ensures
    ∙ ap (marked (get_or firsts index 0 ∷ []) c.args.page 0) c.firsts.invariant
    ∙ sym (marked-snoc (take index firsts) (get_or firsts index 0) c.args.page 0 c.args.found.now.items)
    ∙ ap (λ (l : List ℕ). marked l c.args.page 0 c.args.found.now.items) (sym (take_more firsts index 0 c.firsts-test.true))
