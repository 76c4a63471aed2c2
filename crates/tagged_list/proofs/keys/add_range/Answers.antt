use Rattle.std.proofs.Common.{[], ◌∷◌, ◌++◌, sym, ap, ◌∙◌, arith, append_assoc}
use Rattle.tagged_list.proofs.Parts.{tagged_more}
use Rattle.tagged_list.proofs.keys.add_range.Goals as goal

pub loop-at-preserved : goal.loop-at-preserved
loop-at-preserved g c =
    let more = tagged_more c.args.items.now c.args.from c.loop-at.at c.get.result.now (omega arith) c.get.ensures in
    c.in_ok-push.ensures.items
    ∙ (ap (λ xs. c.loop-at.all.items ++ xs ∷ []) c.in_ok-clone.ensures.cases
    ∙ (ap (λ xs. xs ++ c.get.result.now.tagged ∷ []) c.loop-at.invariant
    ∙ (append_assoc c.args.all.now.items _ (c.get.result.now.tagged ∷ []) ∙ ap (λ xs. c.args.all.now.items ++ xs) (sym more))))
