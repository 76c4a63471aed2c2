use Rattle.std.proofs.Common.{ℕ, List, [], ◌∷◌, ◌++◌, replicate, ap, ◌∙◌, rules}
use Rattle.std.proofs.lemmas.List.{replicate-append-replicate}
use Rattle.field_model.specs.Cut.{cut}
use Rattle.number_text.proofs.CutLemmas.{cut_none, cut_full, cut_then}
use Rattle.number_text.proofs.numbers.push_copies.Goals as goal

pub returns-then-is_full : goal.returns-then-is_full
returns-then-is_full c = cut_full c.args.out.now (replicate c.args.count c.args.letter) (search rules)

pub loop-init : goal.loop-init
loop-init c = cut_none c.args.out.now c.is_full.ensures.short

pub loop-preserved : goal.loop-preserved
loop-preserved c =
    cut_then c.args.out.now c.loop.out c.push.new.self (replicate c.loop.counter c.args.letter) (c.args.letter ∷ []) c.loop.invariant c.in_ok-push.ensures.ok
    ∙ ap (λ (letters : List ℕ). cut (c.args.out.now ++ letters)) (replicate-append-replicate c.loop.counter 1 c.args.letter)
