use Rattle.std.proofs.Common.{◌≡◌, map, sym, subst, ◌∙◌}
use Rattle.std.proofs.lemmas.List.{take_all}
use Rattle.format_model.specs.Keys.{standing}
use Rattle.round_pars.specs.Pairs.{Pairwise}
use Rattle.round_pars.specs.Pars.{IsTextOf}
use Rattle.round_pars.proofs.Stated.{all_stated, text_of}
use Rattle.round_pars.proofs.Texts.{all_stand}
use Rattle.round_pars.proofs.pars.round_pars.Goals as goal

pub returns : goal.returns
returns c = λ doc are of distinct.
    let texts = c.args.texts.now in
    let pars = c.loop-text.pars.items in
    let all : map text_of pars ≡ texts = c.loop-text.invariant.0 ∙ take_all c.loop-text.text-index texts c.loop-text-test.false in
    all_stated doc c.args.styles.now (standing doc) pars of (subst (Pairwise (IsTextOf doc) (standing doc)) (sym all) (all_stand doc texts are distinct)) c.loop-text.invariant.1
