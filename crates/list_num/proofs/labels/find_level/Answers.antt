use Rattle.std.proofs.Common.{◌≡◌, ◌==◌, true, false, Some, sym, ap, ◌∙◌, arith, add-one}
use Rattle.std.proofs.lemmas.Bool.Decides.{nat_tests}
use Rattle.doc_model.specs.declared.list_style.ListLevel.{ListLevel}
use Rattle.list_num.proofs.Finding.{find_more, find_here}
use Rattle.list_num.proofs.labels.find_level.Goals as goal

pub returns-then-get-own : goal.returns-then-get-own
returns-then-get-own c =
    let test : c.level-item.result.level == c.args.own ≡ true = grind (arith, nat_tests) in
    ap (λ (level : ListLevel). Some level) c.level-item.is
    ∙ sym (find_here (λ (level : ListLevel). level.level == c.args.own) c.args.levels.now c.levels.level-index c.level-item.result c.levels-test.true c.levels.invariant
    (ap (λ (level : ListLevel). level.level == c.args.own) (sym c.level-item.is) ∙ test))

pub levels-preserved : goal.levels-preserved
levels-preserved c =
    let test : c.level-item.result.level == c.args.own ≡ false = grind (arith, nat_tests) in
    rw add-one (find_more (λ (level : ListLevel). level.level == c.args.own) c.args.levels.now c.levels.level-index c.level-item.result c.levels-test.true c.levels.invariant
    (ap (λ (level : ListLevel). level.level == c.args.own) (sym c.level-item.is) ∙ test))
