use Rattle.std.proofs.Common.{ℕ, ◌-◌, ◌/◌, [], ◌∷◌, ◌++◌, reverse, ap, sym, ◌∙◌, arith, rules}
use Rattle.field_model.specs.Numbers.{word_of}
use Rattle.field_model.specs.Cut.{cut}
use Rattle.number_text.proofs.CutLemmas.{cut_none, cut_full, cut_last}
use Rattle.number_text.proofs.Words.{word_of-letter}
use Rattle.number_text.proofs.numbers.+push_word.Goals as goal

pub returns-then-is_full : goal.returns-then-is_full
returns-then-is_full t c = cut_full c.args.out.now (reverse (word_of c.args.first c.args.number)) (search rules)

pub returns-then-number-eq0 : goal.returns-then-number-eq0
unfolding word_of
returns-then-number-eq0 t c = cut_none c.args.out.now c.is_full.ensures.short ∙ ap (λ (n : ℕ). cut (c.args.out.now ++ reverse (word_of c.args.first n))) (sym c.if-number-eq0.true)

pub returns : goal.returns
returns t c =
    let front = reverse (word_of c.args.first ((c.args.number - 1) / 26)) in
    cut_last c.push.result c.args.out.now c.push_word.new.out c.push.new.self front (c.from.result ∷ []) (reverse (word_of c.args.first c.args.number))
    c.in_ok-push_word.ensures
    (ap (λ (letter : ℕ). front ++ letter ∷ []) c.from.ensures ∙ sym (word_of-letter c.args.first c.args.number (omega arith)))
    c.push.ensures.ok
