use Rattle.std.proofs.Common.{ℕ, List, Option, subst}
use Rattle.script_lang.specs.Parts.{Finds, SpellsLineText}
use Rattle.script_lang.proofs.LineLemmas.{no_insertion, no_spelled}
use Rattle.script_lang.proofs.edits.read_insertion.Goals as goal

pub returns-in-None : goal.returns-in-None
returns-in-None c = no_insertion c.args.bytes.now (λ par at inside text h spells. c.in-None.ensures par at inside h)

pub returns-in-None-2 : goal.returns-in-None-2
returns-in-None-2 c =
    let found = c.in-Some in
    no_spelled c.args.bytes.now found.inside.now found.par found.at found.ensures
    (subst (λ (text : Option (List ℕ)). Finds (SpellsLineText found.inside.now) text) c.in-None-2.is c.in_ok-text-in-Some.ensures)
