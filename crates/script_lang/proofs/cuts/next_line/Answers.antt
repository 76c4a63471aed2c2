use Rattle.std.proofs.Common.{ℕ, List, ◌∷◌, ◌-◌, length, take, drop, sym, ap, ◌∙◌, arith, length-drop}
use Rattle.std.specs.Str.Lines.{lines}
use Rattle.std.proofs.lemmas.Bool.Decides.{nat_tests}
use Rattle.std.proofs.lemmas.List.{length-take}
use Rattle.script_lang.proofs.CutLemmas.{lines_cut, lines_last}
use Rattle.script_lang.proofs.cuts.next_line.Goals as goal

pub returns-in-Some-clause-line : goal.returns-in-Some-clause-line
returns-in-Some-clause-line c =
    lines_cut c.args.bytes.now c.in-Some.line.now c.in-Some.rest.now c.in-Some.ensures.0 c.in-Some.ensures.1
    ∙ ap (λ (line : List ℕ). line ∷ lines c.in-Some.rest.now) (sym c.without_carriage_return.ensures)

pub returns-in-None-clause-line : goal.returns-in-None-clause-line
returns-in-None-clause-line c =
    let bytes = c.args.bytes.now in
    lines_last bytes (take (length bytes - length bytes) (drop (length bytes) bytes)) (grind (arith, nat_tests)) c.in-None.ensures
    (omega (arith, length-take {A = ℕ}, length-drop {A = ℕ}))
