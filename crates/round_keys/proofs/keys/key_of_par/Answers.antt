use Rattle.std.proofs.Common.{◌≤◌, ◌++◌, Option, length, sym, subst, ap, ◌∙◌, arith, ℕ}
use Rattle.std.specs.Prelude.{◌≡◌, IfOk, unwrap_or}
use Rattle.std.proofs.lemmas.List.{take_all}
use Rattle.std.proofs.lemmas.Slice.{between_from_start}
use Rattle.line_model.specs.declared.key.Key.{Key}
use Rattle.round_keys.proofs.Made.{key_is}
use Rattle.round_keys.proofs.keys.key_of_par.Goals as goal

pub returns : goal.returns
returns c = λ doc one displays is at shown.
    let par = c.args.par.now in
    let text = par.text.now in
    let count = c.len.result in
    let long : length text.items ≤ count = omega (arith, c.len.ensures) in
    let all : c.slice.result.0.now ++ c.slice.result.1.now ≡ text.items = c.slice.ensures ∙ between_from_start text.items count ∙ take_all count text.items long in
    subst (λ (made : Key). IfOk c.key_of.result (λ key. key ≡ made))
    (key_is doc c.args.round.table.now one par c.args.place c.args.round.displays.now c.slice.result.0.now c.slice.result.1.now c.args.shown.now c.unwrap_or-columns.result is at displays all shown
    (c.unwrap_or-columns.ensures ∙ ap (λ (found : Option ℕ). unwrap_or found c.args.place.columns) c.columns_on_page.ensures))
    c.key_of.ensures
